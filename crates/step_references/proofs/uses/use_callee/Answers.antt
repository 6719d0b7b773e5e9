use Rattle.js_ast.specs.Views.{view_exprs}
use Rattle.es_meaning.specs.Operations.{Value, called}
use Rattle.es_meaning.specs.Evaluation.{used}
use Rattle.flow_meaning.specs.Planned.{asking, planned}
use Rattle.run_state.proofs.ActLaws.{Belongs-later}
use Rattle.continuations.specs.Settings.{entrance}
use Rattle.step_references.proofs.Begun.{begun_at}
use Rattle.step_references.proofs.uses.use_callee.Goals as goal

pub returns-in-Some-clause-belongs : goal.returns-in-Some-clause-belongs
returns-in-Some-clause-belongs g c = Belongs-later g.L.Labels.made g.L.Labels.meaning g.L.Labels.room g.L.Labels.firm c.args.labels.now c.name_value.new.labels c.name_value.ensures.kept g.met.L.Labels.rising c.args.world.now c.requires.belongs

pub resolve-requires-clause-belongs : goal.resolve-requires-clause-belongs
resolve-requires-clause-belongs g c = Belongs-later g.L.Labels.made g.L.Labels.meaning g.L.Labels.room g.L.Labels.firm c.args.labels.now c.name_value.new.labels c.name_value.ensures.kept g.met.L.Labels.rising c.args.world.now c.requires.belongs

pub returns-in_err-named-clause-belongs : goal.returns-in_err-named-clause-belongs
returns-in_err-named-clause-belongs g c =
    Belongs-later g.L.Labels.made g.L.Labels.meaning g.L.Labels.room g.L.Labels.firm c.name_value.new.labels c.resolve.new.labels c.resolve.ensures.kept g.met.L.Labels.rising c.args.world.now
    (Belongs-later g.L.Labels.made g.L.Labels.meaning g.L.Labels.room g.L.Labels.firm c.args.labels.now c.name_value.new.labels c.name_value.ensures.kept g.met.L.Labels.rising c.args.world.now c.requires.belongs)

pub begin_call-requires-clause-belongs : goal.begin_call-requires-clause-belongs
begin_call-requires-clause-belongs g c =
    Belongs-later g.L.Labels.made g.L.Labels.meaning g.L.Labels.room g.L.Labels.firm c.name_value.new.labels c.resolve.new.labels c.in_ok-named.ensures.kept g.met.L.Labels.rising c.args.world.now
    (Belongs-later g.L.Labels.made g.L.Labels.meaning g.L.Labels.room g.L.Labels.firm c.args.labels.now c.name_value.new.labels c.name_value.ensures.kept g.met.L.Labels.rising c.args.world.now c.requires.belongs)

pub returns-clause-goes_on : goal.returns-clause-goes_on
returns-clause-goes_on g c = begun_at Value (λ tables inputs set functions reading i. used (planned tables inputs set functions) (entrance tables inputs set functions) (asking tables inputs set functions) (called (view_exprs c.args.list.now)) i) c.args.name.now c.args.at.0 c.in_ok-named.named c.begin_call.ensures.kept c.in_ok-named.ensures.resolved c.begin_call.ensures.goes_on
