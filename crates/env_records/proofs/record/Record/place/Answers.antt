use Rattle.std.proofs.Common.{ap, ◌∙◌}
use Rattle.js_values.specs.declared.value.Labelled.{Labelled}
use Rattle.js_values.specs.Records.{Record}
use Rattle.env_records.specs.Layouts.{first_place}
use Rattle.env_records.proofs.LayoutLaws.{kept_place}
use Rattle.env_records.proofs.record.Record.place.Goals as goal

pub returns : goal.returns
returns g c =
    kept_place c.self.inside.layout.value c.self.inside.values.items c.self.invariant c.args.self.now.bindings (ap (λ (r : Record (Labelled g.row.T.Denot)). r.bindings) c.self.view_is) c.args.name.now c.place.result
    (c.place.ensures ∙ ap (first_place c.args.name.now) c.deref.ensures)
