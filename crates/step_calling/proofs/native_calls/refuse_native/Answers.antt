use Rattle.std.proofs.Common.{refl}
use Rattle.flow_frames.specs.declared.kind.Kind.TheVariants as kind
use Rattle.js_values.proofs.ReadingLaws.{IsReading-earlier}
use Rattle.step_calling.proofs.CallLaws.{refused_native}
use Rattle.step_calling.proofs.native_calls.refuse_native.Goals as goal

pub returns-clause-constructs : goal.returns-clause-constructs
returns-clause-constructs g c tables inputs set functions ns none =
    refused_native g.L.Labels.made g.L.Labels.meaning c.refuse.new.labels tables inputs set functions ns c.enter_frame.new.labels
    (λ reading read. IsReading-earlier g.L.Labels.made g.L.Labels.meaning g.L.Labels.room g.L.Labels.firm c.enter_frame.new.labels c.refuse.new.labels reading c.refuse.ensures.kept read)
    kind.Native refl c.args.stack.now c.enter_frame.new.world c.args.count c.in_ok-depth.depth c.args.label c.in_ok-depth.ensures.begun c.args._which c.args._o.0 c.args.world.now c.refuse.new.stack c.refuse.new.world c.refuse.result refl none c.in_ok-depth.ensures.depth
    (λ reading read told turns. c.in_ok-depth.ensures.entered reading (IsReading-earlier g.L.Labels.made g.L.Labels.meaning g.L.Labels.room g.L.Labels.firm c.enter_frame.new.labels c.refuse.new.labels reading c.refuse.ensures.kept read) told turns)
    (c.refuse.ensures.refuses tables inputs set functions ns)
