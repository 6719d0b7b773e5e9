use Rattle.std.proofs.Common.{◌≡◌, ◌≤◌, ◌+◌, length}
use Rattle.continuations.specs.JumpTargets.{env_in}
use Rattle.continuations.specs.Going.{here}
use Rattle.continuations.proofs.jump_targets.rounds.Given as goal

-- what was counted, and what stands round a part above the works that are left
abbrev pub invariant-loop-rest : goal.invariant-loop-rest
invariant-loop-rest l = record {
  same : l.count + length (env_in l.rest here).around ≡ length (env_in l.works here).around;
  few : l.count + length l.rest ≤ length l.works;
}

abbrev pub decreases-loop-rest : goal.decreases-loop-rest
decreases-loop-rest l = length l.rest
