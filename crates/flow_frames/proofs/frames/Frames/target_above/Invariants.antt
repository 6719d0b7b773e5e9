use Rattle.std.proofs.Common.{◌≡◌, ◌<◌, ◌≤◌, ◌&&◌, ℕ, false, length, get_or}
use Rattle.flow_frames.specs.Kinds.{is_try}
use Rattle.flow_frames.specs.declared.frame.Frame.{Frame}
use Rattle.flow_frames.proofs.frames.Frames.target_above.Given as goal

-- no frame from the depth on catches
abbrev pub invariant-loop-depth : goal.invariant-loop-depth
invariant-loop-depth g l = (deeper : ℕ) (x : Frame g.row.T.Denot) → l.depth ≤ deeper → deeper < length l.self-inside.frames.items → (is_try (get_or l.self-inside.frames.items deeper x).kind && (get_or l.self-inside.frames.items deeper x).active) ≡ false
