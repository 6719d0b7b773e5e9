use Rattle.std.proofs.Common.{arith, ap, ◌≡◌, length}
use Rattle.flow_frames.specs.Held.{Kept}
use Rattle.flow_frames.specs.Views.{held}
use Rattle.flow_frames.proofs.CallLaws.{last_read, last_total}
use Rattle.flow_frames.proofs.frames.Frames.context.Goals as goal

pub returns : goal.returns
returns g c =
    let len : c.len.result ≡ length c.self.inside.frames.items = omega (arith, c.self.inside.frames.ok.0) in
    let total = last_total g.L.Labels.made g.L.Labels.meaning c.args._labels.now c.args.self.now.frames (held c.index.result.now) c.requires
    (last_read c.self.inside.frames.items c.args.self.now.frames c.len.result c.index.result.now (ap (λ (v : Kept g.row.T.Denot). v.frames) c.self.view_is) c.self.invariant.0 len c.index.ensures) in
    record { made = total.0; meaning = total.1 }
