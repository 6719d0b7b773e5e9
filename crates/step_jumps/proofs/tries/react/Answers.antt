use Rattle.std.proofs.Common.{sym}
use Rattle.js_ast.specs.Views.{view_block, view_ident, view_stmt}
use Rattle.step_jumps.proofs.CatchLaws.{reacts_catching, reacts_last}
use Rattle.std.proofs.Common.{Ok}
use Rattle.step_jumps.proofs.tries.react.Goals as goal

pub returns-in_ok-next-in-Some-clause-begins : goal.returns-in_ok-next-in-Some-clause-begins
returns-in_ok-next-in-Some-clause-begins g c =
    reacts_catching g.L.Labels.made g.L.Labels.meaning c.catch_value.new.labels c.args.place.0 (view_stmt c.args.s.now) c.args.depth c.args.jump c.args.stack.now c.catch_value.new.stack c.args.world.now c.catch_value.new.world (Ok c.in_ok-next-in-Some.next)
    (view_ident c.in-Some.ident.now) (view_block c.in-Some.block.now) c.quiet_unless.new.frames c.finishes.result c.finishes.ensures (sym c.in-Some.ensures) c.quiet_unless.ensures.quiets c.in_ok-next-in-Some.ensures.begins

pub returns-in-None-clause-begins : goal.returns-in-None-clause-begins
returns-in-None-clause-begins g c =
    reacts_last g.L.Labels.made g.L.Labels.meaning c.finish.new.labels c.args.place.0 (view_stmt c.args.s.now) c.args.depth c.args.jump c.args.stack.now c.finish.new.stack c.args.world.now c.finish.new.world c.finish.result
    (sym c.in-None.ensures) c.finish.ensures.begins
