-- Values that lie loose.
use Rattle.std.proofs.Common.{refl, sym, ap, subst, ◌∙◌, ◌≡◌, ◌+◌, ℕ, Bool, zero, suc, List, [], ◌∷◌, ◌++◌, map, length, arith}
use Rattle.std.specs.List.{All}
use Rattle.std.proofs.lemmas.List.{length-append}
use Rattle.origin_labels.specs.Label.{Label}
use Rattle.origin_labels.specs.Stores.{IsKept}
use Rattle.js_values.specs.declared.value.Labelled.{Labelled}
use Rattle.js_values.specs.Readings.{HasValue, read_value}
use Rattle.js_values.proofs.ReadingLaws.{All-weaker}
use Rattle.continuations.specs.Pending.{first_or_undefined}
use Rattle.continuations.proofs.BranchLaws.{none_in_front}
use Rattle.continuations.proofs.EndLaws.{last_has}

-- ---- values on a stack

-- so many lie below the uppermost one
pub size_below : {X : Type 0} (front whole : List X) (v : X) (n : ℕ) → whole ≡ front ++ v ∷ [] → length whole ≡ n + 1 → length front ≡ n
size_below front whole v n e size =
    let all : length (front ++ v ∷ []) ≡ n + 1 = ap length (sym e) ∙ size in
    let more = length-append front (v ∷ []) in
    omega (arith, all, more)

pub more_below : {X : Type 0} (front whole : List X) (v : X) (n : ℕ) → whole ≡ front ++ v ∷ [] → length whole ≡ n + 2 → length front ≡ n + 1
more_below front whole v n e size =
    let all : length (front ++ v ∷ []) ≡ n + 2 = ap length (sym e) ∙ size in
    let more = length-append front (v ∷ []) in
    omega (arith, all, more)

-- the only one
pub lone : {X : Type 0} (front whole : List X) (v : X) → whole ≡ front ++ v ∷ [] → length whole ≡ 1 → whole ≡ v ∷ []
lone front whole v e size = e ∙ ap (λ vs. vs ++ v ∷ []) (none_in_front front whole v e size)

-- the only two
pub two_lie : {X : Type 0} (front middle whole : List X) (p q : X) → whole ≡ middle ++ q ∷ [] → middle ≡ front ++ p ∷ [] → length whole ≡ 2 → whole ≡ p ∷ q ∷ []
two_lie front middle whole p q outer inner size = outer ∙ ap (λ vs. vs ++ q ∷ []) (lone front middle p inner (size_below middle whole q 1 outer size))

pub first_alone : {T : Type 0} (reading : T → Label) (front whole : List (Labelled T)) (v : Labelled T) → whole ≡ front ++ v ∷ [] → length whole ≡ 1 → first_or_undefined (map (read_value reading) whole) ≡ read_value reading v
first_alone reading front whole v e size = ap (λ vs. first_or_undefined (map (read_value reading) vs)) (lone front whole v e size)

in_front : {X : Type 0} (P : X → Type 0) (front : List X) (v : X) → All P (front ++ v ∷ []) → All P front
in_front P [] v all k d lt = absurd (omega (arith, lt))
in_front P (x ∷ front) v all zero d lt = all 0 d (omega arith)
in_front P (x ∷ front) v all (suc k) d lt = in_front P front v (λ n e l. all (suc n) e (omega (arith, l))) k d (omega (arith, lt))

-- what holds of all values holds of those below the uppermost one
pub front_has : {X : Type 0} (P : X → Type 0) (front whole : List X) (v : X) → whole ≡ front ++ v ∷ [] → All P whole → All P front
front_has P front whole v e all = in_front P front v (subst (All P) e all)

-- and of the one below it
pub second_has : {X : Type 0} (P : X → Type 0) (front middle whole : List X) (p q : X) → whole ≡ middle ++ q ∷ [] → middle ≡ front ++ p ∷ [] → All P whole → P p
second_has P front middle whole p q outer inner all = last_has P front middle p inner (front_has P middle whole q outer all)

pub none_has : {X : Type 0} (P : X → Type 0) → All P []
none_has P k d lt = absurd (omega (arith, lt))

pub only : {X : Type 0} (P : X → Type 0) (v : X) → P v → All P (v ∷ [])
only P v has zero d lt = has
only P v has (suc k) d lt = absurd (omega (arith, lt))

-- labels of a store are labels of a later one
pub made_later : {S T : Type 0} (made : S → T → Type 0) (meaning : S → T → Label) (room : S → ℕ) (firm : S → Bool) (earlier later : S) → IsKept made meaning room firm earlier later → (vs : List (Labelled T)) → All (HasValue (made earlier)) vs → All (HasValue (made later)) vs
made_later made meaning room firm earlier later kept vs all = All-weaker (HasValue (made earlier)) (HasValue (made later)) vs (λ v m. (kept.labels v.label m).0) all

-- three values
pub three : {X : Type 0} (P : X → Type 0) (p q r : X) → P p → P q → P r → All P (p ∷ q ∷ r ∷ [])
three P p q r a b c zero d lt = a
three P p q r a b c (suc zero) d lt = b
three P p q r a b c (suc (suc zero)) d lt = c
three P p q r a b c (suc (suc (suc k))) d lt = absurd (omega (arith, lt))

-- one value is the last of none and itself
pub lone_last : {X : Type 0} (xs : List X) → length xs ≡ 1 → (x : X) × (xs ≡ [] ++ x ∷ [])
lone_last [] size = absurd (omega (arith, size))
lone_last (x ∷ []) size = (x, refl)
lone_last (x ∷ y ∷ xs) size = absurd (omega (arith, size))

pub both : {X : Type 0} (P : X → Type 0) (p q : X) → P p → P q → All P (p ∷ q ∷ [])
both P p q a b zero d lt = a
both P p q a b (suc zero) d lt = b
both P p q a b (suc (suc k)) d lt = absurd (omega (arith, lt))
