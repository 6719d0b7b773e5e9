use Rattle.std.proofs.Common.{refl}
use Rattle.function_table.specs.Callees.{callee_of}
use Rattle.function_table.specs.Tables.{table}
use Rattle.js_values.proofs.ReadingLaws.{IsReading-earlier}
use Rattle.step_calling.proofs.CalleeLaws.{frame_called}
use Rattle.step_calling.proofs.calls.call_function.Goals as goal

pub returns-clause-calls : goal.returns-clause-calls
returns-clause-calls g c tables inputs set ns =
    frame_called g.L.Labels.made g.L.Labels.meaning c.go_in.new.labels tables inputs set (table c.args.functions.now) ns ns c.args.stack.now c.go_in.new.stack c.args.world.now c.go_in.new.world c.go_in.result c.enter_frame.new.world (callee_of c.args.what) c.args.label c.args._o.0 c.in_ok-depth.depth c.requires.other c.in_ok-depth.ensures.depth
    (λ reading read told turns. c.in_ok-depth.ensures.entered reading (IsReading-earlier g.L.Labels.made g.L.Labels.meaning g.L.Labels.room g.L.Labels.firm c.enter_frame.new.labels c.go_in.new.labels reading c.go_in.ensures.kept read) told turns)
    refl (c.go_in.ensures.calls tables inputs set ns)
