use Rattle.std.proofs.Common.{map}
use Rattle.es_meaning.specs.Operations.{Value}
use Rattle.es_meaning.specs.Evaluation.{used}
use Rattle.flow_meaning.specs.Planned.{asking, planned}
use Rattle.js_values.specs.Readings.{read_value}
use Rattle.run_state.proofs.ActLaws.{Belongs-later}
use Rattle.continuations.specs.Settings.{entrance}
use Rattle.continuations.specs.declared.continuation.Use.TheVariants as use_as
use Rattle.continuations.specs.Shapes.{use_of}
use Rattle.step_references.proofs.Begun.{begun_at}
use Rattle.step_references.proofs.variables.give_variable.Goals as goal

pub returns-in_err-named-clause-belongs : goal.returns-in_err-named-clause-belongs
returns-in_err-named-clause-belongs g c = Belongs-later g.L.Labels.made g.L.Labels.meaning g.L.Labels.room g.L.Labels.firm c.args.labels.now c.resolve.new.labels c.resolve.ensures.kept g.met.L.Labels.rising c.args.world.now c.requires.belongs

pub give_text-requires-clause-belongs : goal.give_text-requires-clause-belongs
give_text-requires-clause-belongs g c = Belongs-later g.L.Labels.made g.L.Labels.meaning g.L.Labels.room g.L.Labels.firm c.args.labels.now c.resolve.new.labels c.in_ok-named.ensures.kept g.met.L.Labels.rising c.args.world.now c.requires.belongs

pub returns-clause-goes_on : goal.returns-clause-goes_on
returns-clause-goes_on g c = begun_at Value (λ tables inputs set functions reading i. used (planned tables inputs set functions) (entrance tables inputs set functions) (asking tables inputs set functions) (use_of use_as.GivenText (map (read_value reading) c.args.stack.now.loose)) i) c.args.variable.now.text c.args.at.0 c.in_ok-named.named c.give_text.ensures.kept c.in_ok-named.ensures.resolved c.give_text.ensures.goes_on
