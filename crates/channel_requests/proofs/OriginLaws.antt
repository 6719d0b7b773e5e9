-- Origins by their numbers.
use Rattle.std.proofs.Common.{arith, ◌≡◌, ◌≤◌, ◌<◌, ℕ, zero, suc, Bool, true, false, ◌&&◌, List, [], ◌∷◌, nat_lt, refl}
use Rattle.std.specs.List.{All, list_all}
use Rattle.std.proofs.lemmas.Bool.{ltb-true}
use Rattle.es_meaning.specs.Requested.{are_origins}

and_first : (a b : Bool) → (a && b) ≡ true → a ≡ true
and_first true b e = refl
and_first false b e = cc

and_second : (a b : Bool) → (a && b) ≡ true → b ≡ true
and_second true b e = e
and_second false b e = cc

-- those that are declared are below the room of a store that has room for all
pub origins_below : (count room : ℕ) → count ≤ room → (origins : List ℕ) → are_origins count origins ≡ true → All (λ o. o < room) origins
origins_below count room fits [] e k d lt = absurd (omega (arith, lt))
origins_below count room fits (o ∷ origins) e zero d lt = let below = ltb-true o count (and_first (nat_lt o count) (list_all (λ x. nat_lt x count) origins) e) in omega (arith, below, fits)
origins_below count room fits (o ∷ origins) e (suc k) d lt = origins_below count room fits origins (and_second (nat_lt o count) (list_all (λ x. nat_lt x count) origins) e) k d (omega (arith, lt))
