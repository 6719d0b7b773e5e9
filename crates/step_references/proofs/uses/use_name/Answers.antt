use Rattle.std.proofs.Common.{map}
use Rattle.js_values.specs.Readings.{read_value}
use Rattle.es_meaning.specs.Operations.{Value}
use Rattle.es_meaning.specs.Evaluation.{used}
use Rattle.flow_meaning.specs.Planned.{asking, planned}
use Rattle.run_state.proofs.ActLaws.{Belongs-later}
use Rattle.continuations.specs.Settings.{entrance}
use Rattle.continuations.specs.Shapes.{use_of}
use Rattle.step_references.proofs.Begun.{begun_at}
use Rattle.step_references.proofs.Loose.{made_later}
use Rattle.step_references.proofs.uses.use_name.Goals as goal

pub returns-in-Called-clause-goes_on : goal.returns-in-Called-clause-goes_on
returns-in-Called-clause-goes_on g c = rw c.in-Called.is c.use_callee.ensures.goes_on

pub use_named-requires-clause-made : goal.use_named-requires-clause-made
use_named-requires-clause-made g c = made_later g.L.Labels.made g.L.Labels.meaning g.L.Labels.room g.L.Labels.firm c.args.labels.now c.resolve.new.labels c.in_ok-named.ensures.kept c.args.stack.now.loose c.requires.made

pub use_named-requires-clause-belongs : goal.use_named-requires-clause-belongs
use_named-requires-clause-belongs g c = Belongs-later g.L.Labels.made g.L.Labels.meaning g.L.Labels.room g.L.Labels.firm c.args.labels.now c.resolve.new.labels c.in_ok-named.ensures.kept g.met.L.Labels.rising c.args.world.now c.requires.belongs

pub returns-in_err-named-clause-belongs : goal.returns-in_err-named-clause-belongs
returns-in_err-named-clause-belongs g c = Belongs-later g.L.Labels.made g.L.Labels.meaning g.L.Labels.room g.L.Labels.firm c.args.labels.now c.resolve.new.labels c.resolve.ensures.kept g.met.L.Labels.rising c.args.world.now c.requires.belongs

pub returns-clause-goes_on : goal.returns-clause-goes_on
returns-clause-goes_on g c = begun_at Value (λ tables inputs set functions reading i. used (planned tables inputs set functions) (entrance tables inputs set functions) (asking tables inputs set functions) (use_of c.args.how (map (read_value reading) c.args.stack.now.loose)) i) c.args.name.now c.args.at.0 c.in_ok-named.named c.use_named.ensures.kept c.in_ok-named.ensures.resolved c.use_named.ensures.goes_on
