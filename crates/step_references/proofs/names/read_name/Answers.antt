use Rattle.es_meaning.specs.Operations.{Value}
use Rattle.es_meaning.specs.Evaluation as evaluation
use Rattle.flow_meaning.specs.Planned.{asking, planned}
use Rattle.std.proofs.Common.{refl}
use Rattle.run_state.proofs.ActLaws.{Belongs-later}
use Rattle.run_state.specs.Names.{reference_of}
use Rattle.continuations.specs.Settings.{entrance}
use Rattle.step_references.proofs.Begun.{begun_as, begun_at}
use Rattle.step_references.proofs.UseLaws.{named_as}
use Rattle.step_references.proofs.names.read_name.Goals as goal

pub returns-in_err-named-clause-belongs : goal.returns-in_err-named-clause-belongs
returns-in_err-named-clause-belongs g c = Belongs-later g.L.Labels.made g.L.Labels.meaning g.L.Labels.room g.L.Labels.firm c.args.labels.now c.resolve.new.labels c.resolve.ensures.kept g.met.L.Labels.rising c.args.world.now c.requires.belongs

pub read-requires-clause-belongs : goal.read-requires-clause-belongs
read-requires-clause-belongs g c = Belongs-later g.L.Labels.made g.L.Labels.meaning g.L.Labels.room g.L.Labels.firm c.args.labels.now c.resolve.new.labels c.in_ok-named.ensures.kept g.met.L.Labels.rising c.args.world.now c.requires.belongs

pub returns-clause-goes_on : goal.returns-clause-goes_on
returns-clause-goes_on g c = begun_at Value (λ tables inputs set functions reading i. evaluation.read_value (planned tables inputs set functions) (entrance tables inputs set functions) (asking tables inputs set functions)) c.args.name.now c.args.at.0 c.in_ok-named.named c.read.ensures.kept c.in_ok-named.ensures.resolved (begun_as c.read.ensures.goes_on refl (λ tables inputs set functions reading f s is. named_as tables inputs set functions (reference_of reading c.in_ok-named.named) s))
