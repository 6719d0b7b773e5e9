-- What the slots of a marked program hold once its functions have taken them.
use Rattle.std.proofs.Common.{refl, ap, sym, ◌∙◌, ◌≡◌, ◌<◌, ◌≤◌, ◌+◌, ◌-◌, ℕ, zero, suc, List, [], ◌∷◌, ◌++◌, length, map, option_map, replicate, leb, set, get_or, take, is_some, true, Option, Some, None, arith, append_assoc, length-append}
use Rattle.std.proofs.Math.Seq.{set-append_seam}
use Rattle.std.proofs.lemmas.Bool.{le-leb, lt-leb}
use Rattle.std.proofs.lemmas.List.{map-append, length-map, take_more}
use Rattle.std.specs.List.{slice_get}
use Rattle.js_ast.specs.Functions.{FunctionCode, numbered}
use Rattle.js_ast.specs.Lent.{put, filled, taken}

-- ---- one slot

-- a function with its number
abbrev with_number : ℕ → FunctionCode → ℕ × FunctionCode
with_number n f = (n, f)

-- nothing stands behind it
beside : (slot other : Option (ℕ × FunctionCode)) (k : ℕ) → 0 < k → set (slot ∷ []) k other ≡ slot ∷ []
beside slot other zero lt = absurd (omega arith)
beside slot other (suc k) lt = refl

-- functions behind it leave it
behind : (n first : ℕ) (slot : Option (ℕ × FunctionCode)) (fs : List FunctionCode) → n < first → filled n (slot ∷ []) (numbered first fs) ≡ slot ∷ []
unfolding filled
behind n first slot [] lt = refl
behind n first slot (f ∷ fs) lt = ap (λ s. filled n s (numbered (first + 1) fs)) left ∙ behind n (first + 1) slot fs (omega arith)
  where
    left : put n (slot ∷ []) (first, f) ≡ slot ∷ []
    left = rw (le-leb n first (omega arith)) (beside slot (Some (first, f)) (first - n) (omega arith))

-- it is taken by the function that has its number
pub one_taken : (n first k : ℕ) (slot : Option (ℕ × FunctionCode)) (fs : List FunctionCode) → n ≡ first + k → k < length fs → filled n (slot ∷ []) (numbered first fs) ≡ option_map (with_number n) (slice_get fs k) ∷ []
unfolding filled
one_taken n first k slot [] e lt = absurd (omega arith)
one_taken n first zero slot (f ∷ fs) e lt = ap (λ s. filled n s (numbered (first + 1) fs)) here ∙ behind n (first + 1) (Some (n, f)) fs (omega (arith, e))
  where
    same : first ≡ n
    same = omega (arith, e)

    here : put n (slot ∷ []) (first, f) ≡ Some (n, f) ∷ []
    here = let none : n - n ≡ 0 = omega arith in rw (same, le-leb n n (omega arith), none) refl
one_taken n first (suc k) slot (f ∷ fs) e lt = ap (λ s. filled n s (numbered (first + 1) fs)) left ∙ one_taken n (first + 1) k slot fs (omega (arith, e)) (omega (arith, lt))
  where
    left : put n (slot ∷ []) (first, f) ≡ slot ∷ []
    left = rw (lt-leb n first (omega (arith, e))) refl

-- what the slot shows once the functions of a program have taken theirs
shows : {X : Type 0} (seen : X → ℕ × FunctionCode) (slots : List (Option X)) (d : Option X) (n : ℕ) (whole : List (ℕ × FunctionCode)) (fs : List FunctionCode)
    → whole ≡ numbered 0 fs → n < length fs → map (option_map seen) slots ≡ filled n (None ∷ []) whole → option_map seen (get_or slots 0 d) ≡ option_map (with_number n) (slice_get fs n)
shows seen [] d n whole fs is lt e = let h = e ∙ ap (filled n (None ∷ [])) is ∙ one_taken n 0 n None fs (omega arith) lt in absurd cc
shows seen (slot ∷ slots) d n whole fs is lt e = let h = e ∙ ap (filled n (None ∷ [])) is ∙ one_taken n 0 n None fs (omega arith) lt in cc

-- a number below the length has a function
numbered_one : (fs : List FunctionCode) (k : ℕ) → k < length fs → is_some (slice_get fs k) ≡ true
numbered_one [] k lt = absurd (omega arith)
numbered_one (f ∷ fs) zero lt = refl
numbered_one (f ∷ fs) (suc k) lt = numbered_one fs k (omega (arith, lt))

-- so it is taken
pub one_there : {X : Type 0} (seen : X → ℕ × FunctionCode) (slots : List (Option X)) (d : Option X) (n : ℕ) (whole : List (ℕ × FunctionCode)) (fs : List FunctionCode)
    → whole ≡ numbered 0 fs → n < length fs → map (option_map seen) slots ≡ filled n (None ∷ []) whole → is_some (get_or slots 0 d) ≡ true
one_there {X = X} seen slots d n whole fs is lt e = go (get_or slots 0 d) (slice_get fs n) (shows seen slots d n whole fs is lt e) (numbered_one fs n lt)
  where
    go : (o : Option X) (f : Option FunctionCode) → option_map seen o ≡ option_map (with_number n) f → is_some f ≡ true → is_some o ≡ true
    go (Some x) f e h = refl
    go None (Some f) e h = absurd cc
    go None None e h = absurd cc

-- by the function that has its number
pub the_one : {X : Type 0} (seen : X → ℕ × FunctionCode) (slots : List (Option X)) (d : Option X) (x : X) (n : ℕ) (whole : List (ℕ × FunctionCode)) (fs : List FunctionCode)
    → whole ≡ numbered 0 fs → n < length fs → map (option_map seen) slots ≡ filled n (None ∷ []) whole → get_or slots 0 d ≡ Some x → ((seen x).0 ≡ n) × (slice_get fs n ≡ Some (seen x).1)
the_one seen slots d x n whole fs is lt e one = go (slice_get fs n) (sym (ap (option_map seen) one) ∙ shows seen slots d n whole fs is lt e)
  where
    go : (o : Option FunctionCode) → Some (seen x) ≡ option_map (with_number n) o → ((seen x).0 ≡ n) × (o ≡ Some (seen x).1)
    go None e = absurd cc
    go (Some f) e = let same : seen x ≡ with_number n f = cc in (ap (λ p. p.0) same, ap (λ p. Some p.1) (sym same))

-- ---- all slots

-- the functions in front have taken theirs, and the others take them in turn
all_taken : (xs : List (ℕ × FunctionCode)) (n : ℕ) (fs : List FunctionCode) → length xs ≡ n → filled 0 (map (λ f. Some f) xs ++ replicate (length fs) None) (numbered n fs) ≡ map (λ f. Some f) (xs ++ numbered n fs)
unfolding filled
all_taken xs n [] size = sym (map-append (λ f. Some f) xs [])
all_taken xs n (f ∷ fs) size = ap (λ s. filled 0 s (numbered (n + 1) fs)) here ∙ all_taken (xs ++ (n, f) ∷ []) (n + 1) fs (length-append xs ((n, f) ∷ []) ∙ omega (arith, size)) ∙ ap (map (λ f. Some f)) (append_assoc xs ((n, f) ∷ []) (numbered (n + 1) fs))
  where
    front : List (Option (ℕ × FunctionCode))
    front = map (λ f. Some f) xs

    rest : List (Option (ℕ × FunctionCode))
    rest = replicate (length fs) None

    place : n - 0 ≡ length front
    place = omega (arith, size, length-map xs (λ f. Some f))

    here : put 0 (front ++ None ∷ rest) (n, f) ≡ map (λ f. Some f) (xs ++ (n, f) ∷ []) ++ rest
    here = rw (le-leb 0 n (omega arith), place, set-append_seam front None rest (Some (n, f))) (sym (append_assoc front (Some (n, f) ∷ []) rest) ∙ ap (λ s. s ++ rest) (sym (map-append (λ f. Some f) xs ((n, f) ∷ []))))

-- slots that are taken
taken_all : (xs : List (ℕ × FunctionCode)) → taken (map (λ f. Some f) xs) ≡ xs
taken_all [] = refl
taken_all (x ∷ xs) = ap (λ ys. x ∷ ys) (taken_all xs)

pub each_taken : (fs : List FunctionCode) → taken (filled 0 (replicate (length fs) None) (numbered 0 fs)) ≡ numbered 0 fs
each_taken fs = ap taken (all_taken [] 0 fs refl) ∙ taken_all (numbered 0 fs)

-- all are taken once the functions of a program have taken theirs
pub all_there : (slots : List (Option (ℕ × FunctionCode))) (count : ℕ) (whole : List (ℕ × FunctionCode)) (fs : List FunctionCode) → whole ≡ numbered 0 fs → count ≡ length fs → slots ≡ replicate count None → taken (filled 0 slots whole) ≡ numbered 0 fs
all_there slots count whole fs is size none = ap (λ s. taken (filled 0 s whole)) (none ∙ ap (λ k. replicate k None) size) ∙ ap (λ w. taken (filled 0 (replicate (length fs) None) w)) is ∙ each_taken fs

-- a further slot
pub taken_more : {X : Type 0} (seen : X → ℕ × FunctionCode) (slots : List (Option X)) (i : ℕ) (slot : Option X) → i < length slots → slot ≡ get_or slots i slot
    → (list more : List X) → map seen list ≡ taken (map (option_map seen) (take i slots)) → map seen more ≡ map seen list ++ taken (option_map seen slot ∷ []) → map seen more ≡ taken (map (option_map seen) (take (i + 1) slots))
taken_more seen slots i slot lt is list more so_far one = one ∙ ap (λ fs. fs ++ taken (option_map seen slot ∷ [])) so_far ∙ sym (ap (λ xs. taken (map (option_map seen) xs)) (take_more slots i slot lt ∙ ap (λ x. take i slots ++ x ∷ []) (sym is))
    ∙ ap taken (map-append (option_map seen) (take i slots) (slot ∷ [])) ∙ taken_append (map (option_map seen) (take i slots)) (option_map seen slot ∷ []))
  where
    taken_append : (xs ys : List (Option (ℕ × FunctionCode))) → taken (xs ++ ys) ≡ taken xs ++ taken ys
    taken_append [] ys = refl
    taken_append (None ∷ xs) ys = taken_append xs ys
    taken_append (Some x ∷ xs) ys = ap (λ zs. x ∷ zs) (taken_append xs ys)
