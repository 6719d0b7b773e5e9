-- What a sink of bytes tells of itself.
use Rattle.std.specs.Prelude.{◌≡◌, ℕ, List, ◌++◌, Option, IfSome, IsSomeAnd}
use Rattle.std.specs.Io.KnownBytes as held

-- the bytes begin with the front
abbrev pub IsFrontOf : List ℕ → List ℕ → Type 0
IsFrontOf front bytes = (rest : List ℕ) × (bytes ≡ front ++ rest)

-- where the bytes taken are told afterwards, they were told before, and these bytes came behind them
abbrev pub Appends : Option (List ℕ) → Option (List ℕ) → List ℕ → Type 0
Appends old new bytes = IfSome new (λ after. IsSomeAnd old (λ before. after ≡ before ++ bytes))

-- the same, of a front of these bytes
abbrev pub AppendsFront : Option (List ℕ) → Option (List ℕ) → List ℕ → Type 0
AppendsFront old new bytes = IfSome new (λ after. IsSomeAnd old (λ before. (front : List ℕ) × IsFrontOf front bytes × (after ≡ before ++ front)))

-- where a writer's bytes are known before, a front of these bytes came behind them
abbrev pub WritesFront : Option (List ℕ) → Option (List ℕ) → List ℕ → Type 0
WritesFront old new bytes = (front : List ℕ) × IsFrontOf front bytes × held.Appends old new front
