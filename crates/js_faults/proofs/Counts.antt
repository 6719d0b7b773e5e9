-- How many numbers below a limit pass a test.
use Rattle.std.proofs.Common.{refl, ap, ◌∙◌, ◌≡◌, ◌<◌, zero, suc, ℕ, Bool, true, false, cond, List, [], ◌∷◌, length, get_or, arith}
use Rattle.std.specs.List.{filter}

abbrev pub count : (ℕ → Bool) → ℕ → ℕ
count test zero = 0
count test (suc n) = cond (test 0) (suc (count (λ i. test (suc i)) n)) (count (λ i. test (suc i)) n)

-- those of a list that pass
pub count_filter : {X : Type 0} (test : X → Bool) (xs : List X) (d : X) → length (filter test xs) ≡ count (λ i. test (get_or xs i d)) (length xs)
count_filter {X} test [] d = refl
count_filter {X} test (x ∷ xs) d = both (test x) (filter test xs) (count (λ i. test (get_or xs i d)) (length xs)) (count_filter test xs d)
  where
    both : (b : Bool) (ys : List X) (n : ℕ) → length ys ≡ n → length (cond b (x ∷ ys) ys) ≡ cond b (suc n) n
    both true ys n e = ap suc e
    both false ys n e = e

-- the test, where one number fails it
abbrev without : ℕ → (ℕ → Bool) → ℕ → Bool
without zero test zero = false
without zero test (suc i) = test (suc i)
without (suc a) test zero = test zero
without (suc a) test (suc i) = without a (λ i. test (suc i)) i

count_without : (a n : ℕ) (test : ℕ → Bool) → a < n → test a ≡ true → count test n ≡ suc (count (without a test) n)
count_without a zero test lt e = absurd (omega arith)
count_without zero (suc n) test lt e = rw e refl
count_without (suc a) (suc n) test lt e = both (test 0) (count (λ i. test (suc i)) n) (count (without a (λ i. test (suc i))) n) (count_without a n (λ i. test (suc i)) (omega arith) e)
  where
    both : (b : Bool) (c d : ℕ) → c ≡ suc d → cond b (suc c) c ≡ suc (cond b (suc d) d)
    both true c d e = ap suc e
    both false c d e = e

other_stays : (a i : ℕ) (test : ℕ → Bool) → (a ≡ i → ⊥) → test i ≡ true → without a test i ≡ true
other_stays zero zero test ne e = absurd (ne refl)
other_stays zero (suc i) test ne e = e
other_stays (suc a) zero test ne e = e
other_stays (suc a) (suc i) test ne e = other_stays a i (λ i. test (suc i)) (λ q. ne (ap suc q)) e

others_fail : (a i : ℕ) (test : ℕ → Bool) → ((a ≡ i → ⊥) → test i ≡ false) → without a test i ≡ false
others_fail zero zero test h = refl
others_fail zero (suc i) test h = h (λ q. omega arith)
others_fail (suc a) zero test h = h (λ q. omega arith)
others_fail (suc a) (suc i) test h = others_fail a i (λ i. test (suc i)) (λ ne. h (λ q. let r : a ≡ i = omega arith in ne r))

none_pass : (n : ℕ) (test : ℕ → Bool) → ((i : ℕ) → i < n → test i ≡ false) → count test n ≡ 0
none_pass zero test h = refl
none_pass (suc n) test h = rw (h 0 (omega arith)) (none_pass n (λ i. test (suc i)) (λ i lt. h (suc i) (omega arith)))

-- two pass, and no other
pub two_pass : (test : ℕ → Bool) (n a b : ℕ) → a < n → b < n → (a ≡ b → ⊥) → test a ≡ true → test b ≡ true
    → ((i : ℕ) → i < n → (a ≡ i → ⊥) → (b ≡ i → ⊥) → test i ≡ false) → count test n ≡ 2
two_pass test n a b la lb ne at_a at_b others = count_without a n test la at_a ∙ ap suc (count_without b n (without a test) lb (other_stays a b test ne at_b)
    ∙ ap suc (none_pass n (without b (without a test)) (λ i lt. others_fail b i (without a test) (λ not_b. others_fail a i test (λ not_a. others i lt not_a not_b)))))

-- three pass
pub three_pass : (test : ℕ → Bool) (n a b c : ℕ) → a < n → b < n → c < n → (a ≡ b → ⊥) → (a ≡ c → ⊥) → (b ≡ c → ⊥)
    → test a ≡ true → test b ≡ true → test c ≡ true → count test n ≡ 2 → ⊥
three_pass test n a b c la lb lc ab ac bc at_a at_b at_c two =
    let one = count_without a n test la at_a in
    let other = count_without b n (without a test) lb (other_stays a b test ab at_b) in
    let third = count_without c n (without b (without a test)) lc (other_stays b c (without a test) bc (other_stays a c test ac at_c)) in
    omega arith
