use Rattle.std.proofs.Common.{◌≡◌, ◌++◌, map, take, drop}
use Rattle.flow_frames.specs.Views.{moved_on}
use Rattle.flow_frames.proofs.frame.take_next_totals.Given as goal

-- the frames so far have moved on, and the others are as they were
abbrev pub invariant-loop-frame : goal.invariant-loop-frame
invariant-loop-frame g l = l.frames ≡ map moved_on (take l.frame-index l.fn.frames) ++ drop l.frame-index l.fn.frames
