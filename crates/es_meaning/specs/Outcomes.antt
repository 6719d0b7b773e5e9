-- How computations follow each other, and how a run ends.
use Rattle.std.specs.Prelude.{ℕ, List}

-- where a jump goes (ECMA-262 8.9): to what catches a throw, to the caller, or behind one of the loops, turns, switches and labelled statements
-- round it in its function, which is known by the number of those round it
pub data Exit : Type 0 where
  throws : Exit
  returns : Exit
  leaves : ℕ → Exit

-- why a run ends in its middle: it leaves the language by a name, or its turns are spent
pub data Halt : Type 0 where
  left : List ℕ → Halt
  out_of_turns : Halt

-- how a run ends: it reaches its end, an exception leaves it with what is shown of its value, or it ends in its middle
pub data Ending (H : Type 0) : Type 0 where
  done : Ending H
  threw : List ℕ → Ending H
  halted : H → Ending H

-- a computation goes on with a result, jumps, or ends the run, each in a state
pub data Outcome (H J X S : Type 0) : Type 0 where
  Goes : X → S → Outcome H J X S
  Jumps : J → S → Outcome H J X S
  Ends : H → S → Outcome H J X S

-- a computation from a state
abbrev pub From : Type 0 → Type 0 → Type 0 → Type 0 → Type 0
From H J S X = S → Outcome H J X S

abbrev pub ret : {H J S X : Type 0} → X → From H J S X
ret x s = Goes x s

abbrev pub and_then : {H J S X Y : Type 0} → Outcome H J X S → (X → From H J S Y) → Outcome H J Y S
and_then (Goes x s) next = next x s
and_then (Jumps j s) next = Jumps j s
and_then (Ends halt s) next = Ends halt s

-- one computation, and then the next
infixl 10 ◌>>=◌
abbrev pub ◌>>=◌ : {H J S X Y : Type 0} → From H J S X → (X → From H J S Y) → From H J S Y
◌>>=◌ step next s = and_then (step s) next
