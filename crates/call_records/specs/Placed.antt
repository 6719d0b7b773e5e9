-- The values of the record of a call, each in its place.
use Rattle.std.specs.Prelude.{ℕ, List, [], ◌∷◌, Option, Some, None, set, ◌-◌}
use Rattle.std.proofs.Math.ListN.{replicate}
use Rattle.es_meaning.specs.Functions.{Entry}

-- values in places in turn, and `missing` where there are no more values
abbrev pub placed : {V : Type 0} → V → List ℕ → List V → List V → List V
placed missing [] vs all = all
placed missing (p ∷ ps) [] all = placed missing ps [] (set all p missing)
placed missing (p ∷ ps) (v ∷ vs) all = placed missing ps vs (set all p v)

-- a value in a place that there may be
abbrev pub placed_if : {V : Type 0} → Option ℕ → V → List V → List V
placed_if None v all = all
placed_if (Some p) v all = set all p v

-- so many values: `this`, the function, and `missing` for all others
abbrev pub first_values : {V : Type 0} → ℕ → V → V → V → List V
first_values count this function missing = this ∷ function ∷ replicate (count - 2) missing

-- the values of a call under so many names, of which these are the places of parameters, of functions and of `arguments`
abbrev pub values_of : {V : Type 0} → ℕ → List ℕ → List ℕ → Option ℕ → Entry V → List V
values_of count parameters functions arguments entry =
    placed entry.missing functions entry.functions
    (placed entry.missing parameters entry.args
    (placed_if arguments entry.arguments
    (first_values count entry.this entry.function entry.missing)))
