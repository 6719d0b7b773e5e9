use Rattle.std.proofs.Common.{refl}
use Rattle.std.specs.List.{slice_get}
use Rattle.js_values.specs.Readings.{read_value}
use Rattle.es_meaning.specs.Operations.{Value}
use Rattle.flow_meaning.specs.Tracked.{act, extensible_in}
use Rattle.run_state.proofs.ActLaws.{Belongs-later}
use Rattle.property_requests.proofs.FindingLaws.{base_throws, base_finds}
use Rattle.property_requests.proofs.extending.is_extensible.Goals as goal

pub returns-in_default-clause-acts : goal.returns-in_default-clause-acts
unfolding act
returns-in_default-clause-acts g c = λ tables inputs.
    base_throws g.L.Labels.made g.L.Labels.meaning c.throw_error.new.labels c.args.world.now c.args.base.now (λ reading. read_value reading) (λ reading o s. extensible_in (reading c.args.base.now.label) (slice_get s.heap o) s)
    c.throw_error.new.world c.throw_error.result c.in_default.field-0 c.in_default.is (c.throw_error.ensures.acts Value (λ reading. read_value reading))

pub returns-in_err-extensible-clause-belongs : goal.returns-in_err-extensible-clause-belongs
returns-in_err-extensible-clause-belongs g c = Belongs-later g.L.Labels.made g.L.Labels.meaning g.L.Labels.room g.L.Labels.firm c.args.labels.now c.extensible_in.new.labels c.extensible_in.ensures.kept g.met.L.Labels.rising c.args.world.now c.requires.belongs

pub returns-clause-acts : goal.returns-clause-acts
unfolding act
returns-clause-acts g c = λ tables inputs.
    base_finds g.L.Labels.made g.L.Labels.meaning c.extensible_in.new.labels c.args.world.now c.args.base.now (λ reading. read_value reading) c.in-Object.o c.in-Object.is c.in_ok-extensible.extensible c.in_ok-extensible.extensible
    (λ reading p s. extensible_in (reading c.args.base.now.label) p s) (λ reading. refl) c.in_ok-extensible.ensures.finds

pub returns-clause-belongs : goal.returns-clause-belongs
returns-clause-belongs g c = Belongs-later g.L.Labels.made g.L.Labels.meaning g.L.Labels.room g.L.Labels.firm c.args.labels.now c.extensible_in.new.labels c.in_ok-extensible.ensures.kept g.met.L.Labels.rising c.args.world.now c.requires.belongs
