use Rattle.std.proofs.Common.{◌≡◌, ◌≤◌, length}
use Rattle.continuations.specs.JumpTargets.{env_in}
use Rattle.continuations.specs.Going.{here}
use Rattle.continuations.proofs.jump_targets.innermost_call.Given as goal

-- the call is that above the works that are left
abbrev pub invariant-loop-rest : goal.invariant-loop-rest
invariant-loop-rest l = record {
  same : (env_in l.rest here).call ≡ (env_in l.works here).call;
  few : length l.rest ≤ length l.works;
}

abbrev pub decreases-loop-rest : goal.decreases-loop-rest
decreases-loop-rest l = length l.rest
