use Rattle.std.proofs.Common.{◌<◌}
use Rattle.std.specs.List.{All}
use Rattle.base_tests.proofs.interned.thousand.Given as goal

-- the origins so far are below the next one
abbrev pub invariant-loop-origin : goal.invariant-loop-origin
invariant-loop-origin = λ l. All (λ k. k < l.origin) l.list
