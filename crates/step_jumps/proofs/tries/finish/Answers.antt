use Rattle.std.proofs.Common.{ap, sym, ◌∙◌, option_map}
use Rattle.js_ast.specs.Views.{view_block, view_stmt}
use Rattle.step_jumps.proofs.FinishLaws.{finishes_last, finishes_bare}
use Rattle.step_jumps.proofs.tries.finish.Goals as goal

pub returns-in_ok-next-in-Some-clause-begins : goal.returns-in_ok-next-in-Some-clause-begins
returns-in_ok-next-in-Some-clause-begins g c =
    finishes_last g.L.Labels.made g.L.Labels.meaning c.args.labels.now (view_stmt c.args.s.now) c.args.waiting c.args.stack.now c.begin_last.new.stack c.args.world.now c.quiet_last.new.frames c.quiet_last.ensures.quieted (view_block c.in-Some.block.now) c.in_ok-next-in-Some.next
    (sym c.last.ensures ∙ ap (option_map (λ b. view_block b.now)) c.in-Some.is) c.in_ok-next-in-Some.ensures.goes_on

pub returns-in-None-clause-begins : goal.returns-in-None-clause-begins
returns-in-None-clause-begins g c =
    finishes_bare g.L.Labels.made g.L.Labels.meaning c.leave.new.labels (view_stmt c.args.s.now) c.args.waiting c.args.stack.now c.leave.new.stack c.args.world.now c.quiet_last.new.frames c.quiet_last.ensures.quieted c.leave.new.world c.leave.result
    (sym c.last.ensures ∙ ap (option_map (λ b. view_block b.now)) c.in-None.is) c.leave.ensures.begins
