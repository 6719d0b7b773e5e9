use Rattle.std.proofs.Common.{arith, ap, ◌∙◌, sym, subst, ◌≤◌, ◌<◌, ◌-◌, List, length, map}
use Rattle.flow_frames.specs.Frames.{IsTarget}
use Rattle.flow_frames.specs.Held.{Held, Kept, seen_frame}
use Rattle.flow_frames.proofs.TargetLaws.{target-catching, target-root}
use Rattle.flow_frames.proofs.frames.Frames.target.Goals as goal

pub returns-then-catches-clause-target : goal.returns-then-catches-clause-target
returns-then-catches-clause-target g c = λ meaning.
    let some : 0 < c.loop-depth.depth = omega arith in
    let within : c.loop-depth.depth ≤ length c.self.inside.frames.items = omega (arith, c.self.inside.frames.ok.0) in
    subst (λ (hs : List (Held g.row.T.Denot)). IsTarget (map (seen_frame meaning) hs) (c.loop-depth.depth - 1)) (ap (λ (v : Kept g.row.T.Denot). v.frames) c.self.view_is)
    (target-catching meaning c.self.inside.frames.items c.loop-depth.depth c.index.result.now some within c.index.ensures (sym c.catches.ensures ∙ c.if-catches.true) c.loop-depth.invariant)

pub returns-clause-target : goal.returns-clause-target
returns-clause-target g c = λ meaning.
    let ended : c.loop-depth.depth ≤ 0 = omega arith in
    subst (λ (hs : List (Held g.row.T.Denot)). IsTarget (map (seen_frame meaning) hs) 0) (ap (λ (v : Kept g.row.T.Denot). v.frames) c.self.view_is)
    (target-root meaning c.self.inside.frames.items c.loop-depth.depth ended c.loop-depth.invariant)
