use Rattle.std.proofs.Common.{[], subst, sym, ap, length, ◌≡◌, ◌∙◌}
use Rattle.js_ast.specs.Functions.{functions_of}
use Rattle.js_ast.specs.Views.{view_program, view_stmts}
use Rattle.es_meaning.specs.BuiltIns.{built_ins_of}
use Rattle.es_meaning.specs.Evaluation.{statements}
use Rattle.flow_meaning.specs.Laws.{performed_run}
use Rattle.flow_meaning.specs.Planned.{planned, asking, perform, meaning}
use Rattle.flow_meaning.specs.Tracked.{tracked_run}
use Rattle.run_state.specs.Worlds.{state_of}
use Rattle.continuations.specs.Going.{here}
use Rattle.continuations.specs.Kept.{scopes_of}
use Rattle.continuations.specs.Pending.{values_of}
use Rattle.continuations.specs.Resuming.{Begins, coming}
use Rattle.continuations.specs.Settings.{setting_of}
use Rattle.step_natives.specs.Framed.{steps_at}
use Rattle.continuations.specs.Invariant.{Invariant}
use Rattle.step_core.proofs.StepLaws.{begun_statements, runs_none, starts}
use Rattle.step_core.proofs.StartLaws.{begun_alone, none_waits, not_false, standing_begun}
use Rattle.step_core.proofs.beginning.begin.Goals as goal

pub returns-clause-starts : goal.returns-clause-starts
returns-clause-starts g c inputs reading read =
    let N = g.N.Natives in
    let natives = c.args.natives.now in
    let set = (built_ins_of (N.entries natives) (N.begin natives) (N.after natives) (N.asks natives)) in
    let program = view_program c.args.program.now in
    let tables = c.args.policy.now in
    let turns = c.args.turns in
    let stack = c.begin_statements.new.stack in
    let move = c.in_ok-next.next in
    let s = state_of reading c.in_ok-started.started.world [] turns in
    let declares = sym c.in_ok-started.ensures.may_declare ∙ not_false _ c.if-not-started.false in
    let still = runs_none move (sym c.if-runs.ensures) in
    subst (λ functions. performed_run (perform (meaning tables inputs set functions) (coming tables inputs set functions reading stack move (setting_of (steps_at (N.after natives) (N.asks natives) c.new-states.result move) here) s)) ≡ tracked_run set tables inputs program turns) (sym c.requires.functions)
    (ap (λ ns. performed_run (perform (meaning tables inputs set (functions_of program)) (coming tables inputs set (functions_of program) reading stack move (setting_of ns here) s))) (none_waits (N.after natives) (N.asks natives) c.new-states.result move c.new-states.ensures still)
    ∙ starts tables inputs set reading program stack move s s turns
    (begun_alone c.new-stack.result stack move c.new-stack.ensures tables inputs set (functions_of program) reading program s
    (subst (λ nodes. Begins (λ tables given set functions e. statements (planned tables given set functions) (asking tables given set functions) (view_stmts nodes) e.env) c.new-stack.result stack move) c.items.ensures c.in_ok-next.ensures.goes_on)
    ∙ begun_statements tables inputs set reading program s declares)
    (c.in_ok-started.ensures.starts inputs reading read turns))

pub returns-clause-standing : goal.returns-clause-standing
returns-clause-standing g c =
    let move = c.in_ok-next.next in
    let stack = c.begin_statements.new.stack in
    subst (λ n. Invariant g.L.Labels.made g.L.Labels.meaning c.args.labels.now stack c.in_ok-started.started.world (values_of move) (scopes_of stack.tasks) n move) (sym (ap length c.new-states.ensures))
    (standing_begun c.new-stack.result stack move c.new-stack.ensures g.L.Labels.made g.L.Labels.meaning c.args.labels.now c.in_ok-started.started.world c.in_ok-next.ensures.keeps c.in_ok-started.ensures.belongs c.in_ok-started.ensures.alone c.in_ok-started.ensures.records (runs_none move (sym c.if-runs.ensures)))
