use Rattle.std.proofs.Common.{ap, sym, ◌∙◌, subst, IfOk}
use Rattle.js_ast.specs.declared.trees.Block.{out-Block}
use Rattle.js_ast.specs.Trees.{block, block_of}
use Rattle.js_ast.specs.Views.{view_stmts}
use Rattle.js_ast.proofs.ViewLaws.{parts_block}
use Rattle.es_meaning.specs.Evaluation.{stmt_step}
use Rattle.flow_meaning.specs.Planned.{asking, planned}
use Rattle.continuations.specs.Resuming.{Begins}
use Rattle.continuations.specs.Settings.{entrance}
use Rattle.step_control.proofs.enter.begin_block.Goals as goal

pub returns-clause-goes_on : goal.returns-clause-goes_on
unfolding stmt_step
returns-clause-goes_on g c =
    subst (λ b. IfOk c.begin_statements.result (Begins (λ tables inputs set functions f. stmt_step (planned tables inputs set functions) (entrance tables inputs set functions) (asking tables inputs set functions) (block b) f.env) c.args.stack.now c.begin_statements.new.stack))
    (ap (block_of (out-Block c.args.block.now).at) (ap view_stmts c.items.ensures) ∙ sym (parts_block c.args.block.now)) c.begin_statements.ensures.goes_on
