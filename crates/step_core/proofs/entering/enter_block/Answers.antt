use Rattle.std.proofs.Common.{refl, Ok}
use Rattle.js_ast.specs.Trees.{block}
use Rattle.js_ast.specs.Views.{view_block}
use Rattle.es_meaning.specs.Evaluation.{stmt_step}
use Rattle.flow_meaning.specs.Planned.{a_stmt, asking, plan, planned}
use Rattle.continuations.specs.declared.continuation.Control.TheVariants as control
use Rattle.continuations.specs.Kept.{scopes_of}
use Rattle.continuations.specs.Pending.{setting_above}
use Rattle.continuations.specs.Going.{here}
use Rattle.continuations.specs.Settings.{entrance, setting_of}
use Rattle.step_core.proofs.Begun.{comes_begun, entered_by}
use Rattle.step_core.proofs.Stood.{standing_keeps, standing_whole}
use Rattle.step_core.proofs.entering.enter_block.Goals as goal

pub returns-clause-enters : goal.returns-clause-enters
unfolding plan
returns-clause-enters g c tables inputs set functions natives part is =
    entered_by g.L.Labels.made g.L.Labels.meaning c.args._labels.now tables inputs set functions natives c.args.stack.now c.begin_block.new.stack c.args._world.now c.args._world.now (control.Block c.args.block) (λ reading. a_stmt (block (view_block c.args.block.now)) (setting_above c.args.stack.now.tasks (setting_of natives here)).env) part (Ok c.in_ok-next.next) (λ reading. refl) is
    (comes_begun g.L.Labels.made g.L.Labels.meaning c.args._labels.now tables inputs set functions natives (λ tables inputs set functions e. stmt_step (planned tables inputs set functions) (entrance tables inputs set functions) (asking tables inputs set functions) (block (view_block c.args.block.now)) e.env)
    (λ reading s. plan tables inputs set functions (a_stmt (block (view_block c.args.block.now)) (setting_above c.args.stack.now.tasks (setting_of natives here)).env) s) c.args.stack.now c.begin_block.new.stack c.args._world.now c.in_ok-next.next (λ reading s. refl) c.requires.standing.values c.in_ok-next.ensures.goes_on)

pub returns-clause-standing : goal.returns-clause-standing
returns-clause-standing g c = standing_keeps g.L.Labels.made g.L.Labels.meaning c.args._labels.now c.args.stack.now c.begin_block.new.stack c.args._world.now c.in_ok-next.next (standing_whole g.L.Labels.made g.L.Labels.meaning c.args._labels.now c.args.stack.now c.args._world.now (scopes_of c.args.stack.now.tasks) (control.Block c.args.block) (λ frames scopes whole. whole) refl c.requires.standing) c.in_ok-next.ensures.keeps
