use Rattle.std.proofs.Common.{arith, ap, ◌∙◌, sym, subst, ◌≤◌, ◌<◌, ◌-◌, ◌+◌, List, length, map}
use Rattle.flow_frames.specs.Frames.{IsTargetAbove}
use Rattle.flow_frames.specs.Held.{Held, Kept, seen_frame}
use Rattle.flow_frames.proofs.TargetLaws.{above-caught, above-none}
use Rattle.flow_frames.proofs.frames.Frames.target_above.Goals as goal

pub returns-then-catches : goal.returns-then-catches
returns-then-catches g c = λ meaning.
    let some : c.args.to + 1 < c.loop-depth.depth = omega arith in
    let within : c.loop-depth.depth ≤ length c.self.inside.frames.items = omega (arith, c.self.inside.frames.ok.0) in
    subst (λ (hs : List (Held g.row.T.Denot)). IsTargetAbove (map (seen_frame meaning) hs) c.args.to (c.loop-depth.depth - 1)) (ap (λ (v : Kept g.row.T.Denot). v.frames) c.self.view_is)
    (above-caught meaning c.self.inside.frames.items c.args.to c.loop-depth.depth c.index.result.now some within c.index.ensures (sym c.catches.ensures ∙ c.if-catches.true) c.loop-depth.invariant)

pub returns : goal.returns
returns g c = λ meaning.
    let ended : c.loop-depth.depth ≤ c.args.to + 1 = omega arith in
    subst (λ (hs : List (Held g.row.T.Denot)). IsTargetAbove (map (seen_frame meaning) hs) c.args.to c.args.to) (ap (λ (v : Kept g.row.T.Denot). v.frames) c.self.view_is)
    (above-none meaning c.self.inside.frames.items c.args.to c.loop-depth.depth ended c.loop-depth.invariant)
