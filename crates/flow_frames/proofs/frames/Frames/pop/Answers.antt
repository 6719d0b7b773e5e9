use Rattle.std.proofs.Common.{arith, ap, ◌≡◌, ◌<◌, ◌-◌, length}
use Rattle.std.specs.Option.{option_map}
use Rattle.std.proofs.lemmas.List.{length-map}
use Rattle.flow_frames.specs.Held.{Held, Kept}
use Rattle.flow_frames.specs.Views.{held}
use Rattle.flow_frames.proofs.CallLaws.{last_read, AreFormed-taken}
use Rattle.flow_frames.proofs.frames.Frames.pop.Goals as goal

pub invariant_of-self : goal.invariant_of-self
invariant_of-self g c =
    let len : c.len-last.result ≡ length c.self.inside.frames.items = omega (arith, c.self.inside.frames.ok.0) in
    let view = ap (λ (v : Kept g.row.T.Denot). v.frames) c.self.view_is in
    let some : 0 < c.len-last.result - 1 = omega (arith, c.requires, len, ap length view, length-map c.self.inside.frames.items held) in
    AreFormed-taken c.self.inside.frames.items _ (c.len-last.result - 1) some c.truncate.ensures.items c.self.invariant

pub returns-clause-label : goal.returns-clause-label
returns-clause-label g c =
    let len : c.len-last.result ≡ length c.self.inside.frames.items = omega (arith, c.self.inside.frames.ok.0) in
    ap (option_map (λ (h : Held g.row.T.Denot). h.label))
    (last_read c.self.inside.frames.items c.args.self.now.frames c.len-last.result c.index.result.now (ap (λ (v : Kept g.row.T.Denot). v.frames) c.self.view_is) c.self.invariant.0 len c.index.ensures)
