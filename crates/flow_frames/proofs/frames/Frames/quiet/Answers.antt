use Rattle.std.proofs.Common.{arith, ap, ◌∙◌, sym, subst, ◌<◌, length, map}
use Rattle.std.proofs.lemmas.List.{length-map}
use Rattle.flow_frames.specs.Held.{Kept, AreFormed}
use Rattle.flow_frames.specs.Changes.{quieted}
use Rattle.flow_frames.specs.Views.{held}
use Rattle.flow_frames.proofs.CallLaws.{kind_within, quieted-set, AreFormed-quieted}
use Rattle.flow_frames.proofs.frames.Frames.quiet.Goals as goal

pub returns-clause-frames : goal.returns-clause-frames
returns-clause-frames g c =
    let view = ap (λ (v : Kept g.row.T.Denot). v.frames) c.self.view_is in
    let there = kind_within c.args.self.now.frames c.args.depth _ c.requires in
    let within : c.args.depth < length c.self.inside.frames.items = omega (arith, there, ap length view, length-map c.self.inside.frames.items held) in
    quieted-set c.self.inside.frames.items c.args.depth c.index_mut.result.now within c.index_mut.ensures.value
    ∙ ap (λ (v : Kept g.row.T.Denot). quieted v.frames c.args.depth) c.self.view_is

pub invariant_of-self : goal.invariant_of-self
invariant_of-self g c =
    let view = ap (λ (v : Kept g.row.T.Denot). v.frames) c.self.view_is in
    let there = kind_within c.args.self.now.frames c.args.depth _ c.requires in
    let within : c.args.depth < length c.self.inside.frames.items = omega (arith, there, ap length view, length-map c.self.inside.frames.items held) in
    subst AreFormed (sym (quieted-set c.self.inside.frames.items c.args.depth c.index_mut.result.now within c.index_mut.ensures.value))
    (AreFormed-quieted (map held c.self.inside.frames.items) c.args.depth c.self.invariant)
