-- Values that lie loose, and what holds of all of them.
use Rattle.std.proofs.Common.{arith, refl, sym, ap, subst, ◌∙◌, ◌≡◌, ◌-◌, ℕ, zero, suc, List, [], ◌∷◌, ◌++◌, length, take, drop}
use Rattle.std.specs.List.{All}
use Rattle.std.proofs.lemmas.List.{length-append, length-drop, nil_from_length, take_all, take_at}
use Rattle.std.proofs.lemmas.List.Elements.{All-drop, All-head, All-rest, All-take}
use Rattle.js_values.specs.declared.value.Labelled.{Labelled}
use Rattle.step_natives.specs.Framed.{Leads}

module _ {X : Type 0} (P : X → Type 0) where
  pub one_has : (x : X) → P x → All P (x ∷ [])
  one_has x holds zero d lt = holds
  one_has x holds (suc k) d lt = absurd (omega (arith, lt))

  pub none_has : All P []
  none_has k d lt = absurd (omega (arith, lt))

  pub front_has : (front behind : List X) → All P (front ++ behind) → All P front
  front_has front behind all = subst (All P) (take_at front behind (length front) refl) (All-take P (length front) (front ++ behind) all)

  pub behind_has : (front behind : List X) → All P (front ++ behind) → All P behind
  behind_has [] behind all = all
  behind_has (x ∷ front) behind all = behind_has front behind (All-rest P x (front ++ behind) (x ∷ (front ++ behind)) refl all)

-- what stands behind some elements of a list is the rest of it
pub rest_whole : {X : Type 0} (n : ℕ) (xs ys : List X) → xs ≡ ys → take (length xs - n) (drop n xs) ≡ drop n ys
rest_whole n xs ys e = take_all (length xs - n) (drop n xs) (omega (arith, length-drop n xs)) ∙ ap (drop n) e

pub rest_has : {X : Type 0} (P : X → Type 0) (n : ℕ) (front xs ys : List X) → xs ≡ ys → All P (front ++ ys) → All P (take (length xs - n) (drop n xs))
rest_has P n front xs ys e all = subst (All P) (sym (rest_whole n xs ys e)) (All-drop P n ys (behind_has P front ys all))

-- the value that stands in front of some of a list
pub leading_has : {T : Type 0} (P : Labelled T → Type 0) (n : ℕ) (front loose : List (Labelled T)) (v : Labelled T) → Leads (drop n loose) v → All P (front ++ loose) → P v
leading_has P n front loose v is all = All-head P v (drop 1 (drop n loose)) (subst (All P) is (All-drop P n loose (behind_has P front loose all)))

-- one value that lies loose, and two of which both are taken
pub one_lies : {T : Type 0} (loose : List (Labelled T)) (v : Labelled T) → length loose ≡ 1 → Leads loose v → loose ≡ v ∷ []
one_lies loose v one leads = leads ∙ ap (λ vs. v ∷ vs) (nil_from_length (drop 1 loose) (omega (arith, one, length-drop 1 loose)))

pub both_lie : {T : Type 0} (old middle last : List (Labelled T)) (v u : Labelled T) → length old ≡ 2 → old ≡ middle ++ u ∷ [] → middle ≡ last ++ v ∷ [] → (old ≡ v ∷ u ∷ []) × (last ≡ [])
both_lie old middle last v u two top below =
    let first : length middle ≡ 1 = omega (arith, two, ap length top, length-append middle (u ∷ [])) in
    let none : length last ≡ 0 = omega (arith, first, ap length below, length-append last (v ∷ [])) in
    let empty : last ≡ [] = nil_from_length last none in
    (top ∙ ap (λ vs. vs ++ u ∷ []) (below ∙ ap (λ vs. vs ++ v ∷ []) empty), empty)

pub both_have : {T : Type 0} (P : Labelled T → Type 0) (front loose : List (Labelled T)) (v u : Labelled T) → loose ≡ v ∷ u ∷ [] → All P (front ++ loose) → P v × P u
both_have P front loose v u is all =
    let lie : All P (v ∷ u ∷ []) = subst (All P) is (behind_has P front loose all) in
    (All-head P v (u ∷ []) lie, All-head P u [] (All-rest P v (u ∷ []) (v ∷ u ∷ []) refl lie))
