use Rattle.std.proofs.Common.{Ok}
use Rattle.js_ast.specs.Views.{view_block, view_stmt}
use Rattle.flow_meaning.specs.Planned.{and_plan, end_block}
use Rattle.continuations.specs.declared.continuation.Control.TheVariants as control
use Rattle.continuations.specs.declared.continuation.Continuation.TheVariants as continuation
use Rattle.continuations.specs.Pending.{handler_of, last_of}
use Rattle.continuations.specs.Shapes.{handles, finishes}
use Rattle.step_jumps.specs.Trying.{block_plan}
use Rattle.step_jumps.proofs.Comings.{block_begins, pushed_beside}
use Rattle.step_jumps.proofs.tries.begin_block.Goals as goal

pub returns-clause-goes_on : goal.returns-clause-goes_on
returns-clause-goes_on g c =
    let s = view_stmt c.args.s.now in
    pushed_beside
    (λ tables inputs set functions vs e t. and_plan (block_plan tables inputs set functions (view_block c.args.block.now) e.env t) (end_block (handles s) (finishes s) (handler_of tables inputs set functions s e.env) (last_of tables inputs set functions s e.env) c.args.depth))
    (continuation.EndTry c.args.depth) c.args.stack.now c.push.new.self c.push-2.new.self (Ok (control.Block c.args.block)) c.in_ok-push.ensures.ok
    (block_begins c.args.block (continuation.EndBlock c.args.s c.args.depth) c.push.new.self c.push-2.new.self c.in_ok-push-2.ensures.ok)
