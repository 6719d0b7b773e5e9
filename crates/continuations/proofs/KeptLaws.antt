-- Pending work beside the list of operands.
use Rattle.std.proofs.Common.{refl, sym, ap, ◌∙◌, ◌≡◌, ◌≤◌, ◌<◌, ◌+◌, ◌-◌, ℕ, zero, suc, set, List, [], ◌∷◌, ◌++◌, length, take, drop, length-drop, append-nil, Option, Some, None, IfSome, arith}
use Rattle.std.specs.Option.{option_to_list}
use Rattle.std.proofs.lemmas.List.{take-append-le, drop-append-le, drop-drop, drop-take, take-take, drop_all, take_all, length-take-le}
use Rattle.js_values.specs.declared.value.Labelled.{Labelled}
use Rattle.continuations.specs.declared.continuation.Continuation.{Continuation}
use Rattle.continuations.specs.Pending.{owns}
use Rattle.continuations.specs.Kept.{Taken, owned, tasks_of, loose_of, kept}

pub owned_more : (works : List Continuation) (w : Continuation) → owned (works ++ w ∷ []) ≡ owned works + owns w
owned_more [] w = omega arith
owned_more (v ∷ works) w = omega (arith, owned_more works w)

-- without the last
pub owned_front : (before behind : List Continuation) (result : Option Continuation) (n : ℕ) → before ≡ behind ++ option_to_list result → owned before ≤ n → owned behind ≤ n
owned_front before behind None n e le = omega (arith, ap owned (e ∙ append-nil behind), le)
owned_front before behind (Some w) n e le = omega (arith, ap owned e, owned_more behind w, le)

-- an element is set, behind so many
take_set : {X : Type 0} (n m : ℕ) (xs : List X) (v : X) → n ≤ m → take n (set xs m v) ≡ take n xs
take_set zero m xs v le = refl
take_set (suc n) m [] v le = refl
take_set (suc n) zero (x ∷ xs) v le = absurd (omega (arith, le))
take_set (suc n) (suc m) (x ∷ xs) v le = ap (λ ys. x ∷ ys) (take_set n m xs v (omega (arith, le)))

drop_set : {X : Type 0} (n k m : ℕ) (xs : List X) (v : X) → m ≡ n + k → drop n (set xs m v) ≡ set (drop n xs) k v
drop_set zero k m xs v e = let same : m ≡ k = omega (arith, e) in ap (λ i. set xs i v) same
drop_set (suc n) k m [] v e = refl
drop_set (suc n) k zero (x ∷ xs) v e = absurd (omega (arith, e))
drop_set (suc n) k (suc m) (x ∷ xs) v e = drop_set n k m xs v (omega (arith, e))

length_set : {X : Type 0} (xs : List X) (m : ℕ) (v : X) → length (set xs m v) ≡ length xs
length_set [] m v = refl
length_set (x ∷ xs) zero v = refl
length_set (x ∷ xs) (suc m) v = ap suc (length_set xs m v)

module _ {T : Type 0} where
  -- a further value is kept by no work
  pub tasks_stay : (works : List Continuation) (operands : List (Labelled T)) (v : Labelled T) → owned works ≤ length operands → tasks_of works (operands ++ v ∷ []) ≡ tasks_of works operands
  tasks_stay [] operands v le = refl
  tasks_stay (w ∷ works) operands v le =
      let fits : owns w ≤ length operands = omega (arith, le) in
      let rest : owned works ≤ length (drop (owns w) operands) = omega (arith, le, length-drop (owns w) operands) in
      ap (λ kept. (w, kept) ∷ tasks_of works (drop (owns w) (operands ++ v ∷ []))) (take-append-le (owns w) operands (v ∷ []) fits)
      ∙ ap (λ others. (w, take (owns w) operands) ∷ tasks_of works others) (drop-append-le (owns w) operands (v ∷ []) fits)
      ∙ ap (λ tasks. (w, take (owns w) operands) ∷ tasks) (tasks_stay works (drop (owns w) operands) v rest)

  pub loose_more : (works : List Continuation) (operands : List (Labelled T)) (v : Labelled T) → owned works ≤ length operands → loose_of works (operands ++ v ∷ []) ≡ loose_of works operands ++ v ∷ []
  loose_more works operands v le = drop-append-le (owned works) operands (v ∷ []) le

  -- work takes all values that no work kept
  pub tasks_more : (works : List Continuation) (operands : List (Labelled T)) (w : Continuation) → owns w ≡ length (loose_of works operands) → tasks_of (works ++ w ∷ []) operands ≡ tasks_of works operands ++ (w, loose_of works operands) ∷ []
  tasks_more [] operands w e = ap (λ kept. (w, kept) ∷ []) (take_all (owns w) operands (omega (arith, e)))
  tasks_more (v ∷ works) operands w e = let same = drop-drop (owned works) (owns v) operands in
      ap (λ tasks. (v, take (owns v) operands) ∷ tasks) (tasks_more works (drop (owns v) operands) w (e ∙ sym (ap length same))
      ∙ ap (λ kept. tasks_of works (drop (owns v) operands) ++ (w, kept) ∷ []) same)

  pub none_loose : (works : List Continuation) (operands : List (Labelled T)) (w : Continuation) → owns w ≡ length (loose_of works operands) → loose_of (works ++ w ∷ []) operands ≡ []
  none_loose works operands w e = rw (owned_more works w) (drop_all (owned works + owns w) operands (omega (arith, e, length-drop (owned works) operands)))

  pub still_enough : (works : List Continuation) (operands : List (Labelled T)) (w : Continuation) → owned works ≤ length operands → owns w ≡ length (loose_of works operands) → owned (works ++ w ∷ []) ≤ length operands
  still_enough works operands w le e = omega (arith, owned_more works w, le, e, length-drop (owned works) operands)

  -- values that no work keeps may be taken away
  tasks_in_front : (works : List Continuation) (operands : List (Labelled T)) (n : ℕ) → owned works ≤ n → tasks_of works (take n operands) ≡ tasks_of works operands
  tasks_in_front [] operands n le = refl
  tasks_in_front (w ∷ works) operands n le =
      let m = n - owns w in
      let whole : owns w + m ≡ n = omega (arith, le) in
      let rest : drop (owns w) (take n operands) ≡ take m (drop (owns w) operands) = ap (λ k. drop (owns w) (take k operands)) (sym whole) ∙ drop-take (owns w) m operands in
      ap (λ kept. (w, kept) ∷ tasks_of works (drop (owns w) (take n operands))) (take-take (owns w) n operands (omega (arith, le)))
      ∙ ap (λ others. (w, take (owns w) operands) ∷ tasks_of works others) rest
      ∙ ap (λ tasks. (w, take (owns w) operands) ∷ tasks) (tasks_in_front works (drop (owns w) operands) m (omega (arith, le)))

  pub tasks_without_last : (works : List Continuation) (operands : List (Labelled T)) → owned works ≤ length operands → 0 < length (loose_of works operands) → tasks_of works (take (length operands - 1) operands) ≡ tasks_of works operands
  tasks_without_last works operands le lt = tasks_in_front works operands (length operands - 1) (omega (arith, le, lt, length-drop (owned works) operands))

  pub loose_without_last : (works : List Continuation) (operands : List (Labelled T)) → owned works ≤ length operands → 0 < length (loose_of works operands) → loose_of works (take (length operands - 1) operands) ≡ take (length (loose_of works operands) - 1) (loose_of works operands)
  loose_without_last works operands le lt =
      let size = length-drop (owned works) operands in
      let n = length (loose_of works operands) - 1 in
      let whole : owned works + n ≡ length operands - 1 = omega (arith, le, lt, size) in
      ap (λ k. drop (owned works) (take k operands)) (sym whole) ∙ drop-take (owned works) n operands

  -- the uppermost value stands behind the others
  pub loose_from_last : (works : List Continuation) (operands front : List (Labelled T)) (v : Labelled T) → operands ≡ front ++ v ∷ [] → owned works ≤ length front → loose_of works operands ≡ loose_of works front ++ v ∷ []
  loose_from_last works operands front v e le = ap (loose_of works) e ∙ loose_more works front v le

  -- the work that is done first, with its operands
  pub tasks_last : (works : List Continuation) (operands : List (Labelled T)) (w : Continuation) → tasks_of (works ++ w ∷ []) operands ≡ tasks_of works operands ++ (w, take (owns w) (loose_of works operands)) ∷ []
  tasks_last [] operands w = refl
  tasks_last (v ∷ works) operands w = let same = drop-drop (owned works) (owns v) operands in
      ap (λ tasks. (v, take (owns v) operands) ∷ tasks) (tasks_last works (drop (owns v) operands) w
      ∙ ap (λ kept. tasks_of works (drop (owns v) operands) ++ (w, take (owns w) kept) ∷ []) same)

  pub loose_last : (works : List Continuation) (operands : List (Labelled T)) (w : Continuation) → loose_of (works ++ w ∷ []) operands ≡ drop (owns w) (loose_of works operands)
  loose_last works operands w = rw (owned_more works w) (sym (drop-drop (owns w) (owned works) operands))

  pub enough_without_last : (works : List Continuation) (operands : List (Labelled T)) → owned works ≤ length operands → 0 < length (loose_of works operands) → owned works ≤ length (take (length operands - 1) operands)
  enough_without_last works operands le lt = omega (arith, le, lt, length-drop (owned works) operands, length-take-le (length operands - 1) operands (omega arith))

  -- the work that is done first is taken
  pub taken_last : (before behind : List Continuation) (operands : List (Labelled T)) (result : Option Continuation) → before ≡ behind ++ option_to_list result → owned before ≤ length operands → IfSome result (Taken (kept before operands) (kept behind operands))
  taken_last before behind operands None e le = tt
  taken_last before behind operands (Some w) e le = record {
    tasks = ap (λ ws. tasks_of ws operands) e ∙ tasks_last behind operands w;
    rest = sym (ap (λ ws. loose_of ws operands) e ∙ loose_last behind operands w);
    enough = omega (arith, ap owned e, owned_more behind w, le, length-drop (owned behind) operands);
  }

  -- all values may be taken away that no work keeps
  pub loose_fit : (works : List Continuation) (operands : List (Labelled T)) (count : ℕ) → count ≡ length (loose_of works operands) → count ≤ length operands
  loose_fit works operands count e = omega (arith, e, length-drop (owned works) operands)

  behind_loose : (works : List Continuation) (operands : List (Labelled T)) (count : ℕ) → owned works ≤ length operands → count ≡ length (loose_of works operands) → length operands - count ≡ owned works
  behind_loose works operands count le e = omega (arith, le, e, length-drop (owned works) operands)

  pub tasks_alone : (works : List Continuation) (operands : List (Labelled T)) (count : ℕ) → owned works ≤ length operands → count ≡ length (loose_of works operands) → tasks_of works (take (length operands - count) operands) ≡ tasks_of works operands
  tasks_alone works operands count le e = let place = behind_loose works operands count le e in tasks_in_front works operands (length operands - count) (omega (arith, place))

  pub enough_alone : (works : List Continuation) (operands : List (Labelled T)) (count : ℕ) → owned works ≤ length operands → count ≡ length (loose_of works operands) → owned works ≤ length (take (length operands - count) operands)
  enough_alone works operands count le e = let place = behind_loose works operands count le e in omega (arith, place, length-take-le (length operands - count) operands (omega arith))

  pub none_left : (works : List Continuation) (operands : List (Labelled T)) (count : ℕ) → owned works ≤ length operands → count ≡ length (loose_of works operands) → loose_of works (take (length operands - count) operands) ≡ []
  none_left works operands count le e = let place = behind_loose works operands count le e in drop_all (owned works) (take (length operands - count) operands) (omega (arith, place, length-take-le (length operands - count) operands (omega arith)))

  pub loose_alone : (works : List Continuation) (operands : List (Labelled T)) (count : ℕ) → owned works ≤ length operands → count ≡ length (loose_of works operands) → drop (length operands - count) operands ≡ loose_of works operands
  loose_alone works operands count le e = ap (λ n. drop n operands) (behind_loose works operands count le e)

  -- a value that no work keeps is set
  tasks_above : (works : List Continuation) (operands : List (Labelled T)) (m : ℕ) (v : Labelled T) → owned works ≤ m → tasks_of works (set operands m v) ≡ tasks_of works operands
  tasks_above [] operands m v le = refl
  tasks_above (w ∷ works) operands m v le =
      let k = m - owns w in
      let whole : m ≡ owns w + k = omega (arith, le) in
      ap (λ kept. (w, kept) ∷ tasks_of works (drop (owns w) (set operands m v))) (take_set (owns w) m operands v (omega (arith, le)))
      ∙ ap (λ others. (w, take (owns w) operands) ∷ tasks_of works others) (drop_set (owns w) k m operands v whole)
      ∙ ap (λ tasks. (w, take (owns w) operands) ∷ tasks) (tasks_above works (drop (owns w) operands) k v (omega (arith, le)))

  module _ (works : List Continuation) (operands : List (Labelled T)) (count at place : ℕ) (v : Labelled T)
      (le : owned works ≤ length operands) (size : count ≡ length (loose_of works operands)) (is : place ≡ length operands - count + at) where
    set_place : place ≡ owned works + at
    set_place = let front = behind_loose works operands count le size in omega (arith, front, is)

    pub tasks_set : tasks_of works (set operands place v) ≡ tasks_of works operands
    tasks_set = tasks_above works operands place v (omega (arith, set_place))

    pub loose_set : loose_of works (set operands place v) ≡ set (loose_of works operands) at v
    loose_set = drop_set (owned works) at place operands v set_place

    pub enough_set : owned works ≤ length (set operands place v)
    enough_set = omega (arith, le, length_set operands place v)

    pub place_fits : at < count → place < length operands
    place_fits lt = omega (arith, lt, is, size, le, length-drop (owned works) operands)

  -- work that keeps nothing stands below the values that no work keeps
  module _ (works : List Continuation) (operands : List (Labelled T)) (w : Continuation) (none : owns w ≡ 0) where
    pub tasks_under : tasks_of (works ++ w ∷ []) operands ≡ tasks_of works operands ++ (w, []) ∷ []
    tasks_under = tasks_last works operands w ∙ ap (λ n. tasks_of works operands ++ (w, take n (loose_of works operands)) ∷ []) none

    pub loose_under : loose_of (works ++ w ∷ []) operands ≡ loose_of works operands
    loose_under = loose_last works operands w ∙ ap (λ n. drop n (loose_of works operands)) none

    pub enough_under : owned works ≤ length operands → owned (works ++ w ∷ []) ≤ length operands
    enough_under le = omega (arith, owned_more works w, none, le)
