use Rattle.std.proofs.Common.{◌≡◌, ◌≤◌, length}
use Rattle.es_meaning.specs.Environments.{find_around}
use Rattle.std.specs.Option.{option_map}
use Rattle.continuations.specs.JumpTargets.{env_in}
use Rattle.continuations.specs.Going.{here}
use Rattle.continuations.proofs.jump_targets.reached.Given as goal

-- what is ended is that above the works that are left
abbrev pub invariant-loop-rest : goal.invariant-loop-rest
invariant-loop-rest l = record {
  same : find_around l.turn (option_map (λ text. text.now) l.label) (env_in l.rest here).around ≡ find_around l.turn (option_map (λ text. text.now) l.label) (env_in l.works here).around;
  few : length l.rest ≤ length l.works;
}

abbrev pub decreases-loop-rest : goal.decreases-loop-rest
decreases-loop-rest l = length l.rest
