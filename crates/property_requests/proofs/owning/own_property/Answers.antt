use Rattle.std.proofs.Common.{refl}
use Rattle.js_values.specs.Readings.{read_value}
use Rattle.es_meaning.specs.Operations.{Value}
use Rattle.flow_meaning.specs.Tracked.{act, own_property_in}
use Rattle.run_state.proofs.ActLaws.{Belongs-later}
use Rattle.std.specs.List.{slice_get}
use Rattle.property_requests.specs.Owning.{part_in}
use Rattle.property_requests.proofs.FindingLaws.{base_throws, base_finds}
use Rattle.property_requests.proofs.owning.own_property.Goals as goal

pub returns-in_default-clause-acts : goal.returns-in_default-clause-acts
unfolding act
returns-in_default-clause-acts g c = λ tables inputs part.
    base_throws g.L.Labels.made g.L.Labels.meaning c.throw_error.new.labels c.args.world.now c.args.base.now (λ reading p. read_value reading (part_in part p)) (λ reading o s. own_property_in part c.args.key.now (reading c.args.base.now.label) (slice_get s.heap o) s)
    c.throw_error.new.world c.throw_error.result c.in_default.field-0 c.in_default.is (c.throw_error.ensures.acts Value (λ reading p. read_value reading (part_in part p)))

pub returns-in_err-known-clause-belongs : goal.returns-in_err-known-clause-belongs
returns-in_err-known-clause-belongs g c = Belongs-later g.L.Labels.made g.L.Labels.meaning g.L.Labels.room g.L.Labels.firm c.args.labels.now c.known_of.new.labels c.known_of.ensures.kept g.met.L.Labels.rising c.args.world.now c.requires.belongs

pub returns-clause-acts : goal.returns-clause-acts
unfolding act
returns-clause-acts g c = λ tables inputs part.
    base_finds g.L.Labels.made g.L.Labels.meaning c.known_of.new.labels c.args.world.now c.args.base.now (λ reading p. read_value reading (part_in part p)) c.in-Object.o c.in-Object.is c.in_ok-known.known (part_in part c.in_ok-known.known)
    (λ reading p s. own_property_in part c.args.key.now (reading c.args.base.now.label) p s) (λ reading. refl) (c.in_ok-known.ensures.known part)

pub returns-clause-belongs : goal.returns-clause-belongs
returns-clause-belongs g c = Belongs-later g.L.Labels.made g.L.Labels.meaning g.L.Labels.room g.L.Labels.firm c.args.labels.now c.known_of.new.labels c.in_ok-known.ensures.kept g.met.L.Labels.rising c.args.world.now c.requires.belongs
