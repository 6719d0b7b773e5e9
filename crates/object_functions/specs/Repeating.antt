-- Steps that are repeated until they end by themselves.
use Rattle.std.specs.Prelude.{ℕ, zero, suc, length}
use Rattle.native_protocol.specs.Steps.{Steps, throws_type_error}

-- the steps again and again, so many times at most
unfoldable pub times : (Steps → Steps) → ℕ → Steps
times steps zero = throws_type_error
times steps (suc n) = steps (times steps n)

-- the steps with themselves behind them: each time they ask for something, so that the answers are as many as the times, or more
unfoldable pub repeats : (Steps → Steps) → Steps
repeats steps answers = times steps (suc (length answers)) answers
