use Rattle.std.proofs.Common.{◌∙◌}
use Rattle.js_values.proofs.ReadingLaws.{IsReading-earlier}
use Rattle.run_state.specs.declared.outcome.Place.TheVariants.{Global}
use Rattle.property_access.proofs.PutLaws.{put_globally}
use Rattle.property_access.proofs.assigning.put_global.Goals as goal

pub returns-clause-acts : goal.returns-clause-acts
returns-clause-acts g c =
    λ walk.
    put_globally g.L.Labels.made g.L.Labels.meaning c.put_on_object.new.labels c.args.world.now c.put_on_object.new.world Global c.args.name.now walk c.args.value c.put_on_object.result c.bottom-none.result
    (λ reading read. (IsReading-earlier g.L.Labels.made g.L.Labels.meaning g.L.Labels.room g.L.Labels.firm c.args.labels.now c.put_on_object.new.labels reading c.put_on_object.ensures.kept read).agrees c.bottom-none.result c.bottom-none.ensures.made ∙ c.bottom-none.ensures.meaning)
    c.put_on_object.ensures.acts
