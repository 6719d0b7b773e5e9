-- Values of digits, as they are read from left to right.
use Rattle.std.proofs.Common.{◌≡◌, ℕ, ◌+◌, ◌-◌, ◌*◌, ◌^◌, ◌<◌, ◌≤◌, List, [], ◌∷◌, ◌++◌, length, take, drop, get_or, take_all, min, le-ltb, refl, sym, ap, ◌∙◌, arith, Some, None, suc, true, subst, length-drop, add-one}
use Rattle.std.specs.Char.{digit_value, is_digit}
use Rattle.std.specs.Str.Parse.{digits_value_after}
use Rattle.std.proofs.lemmas.Nat.{mul-le}
use Rattle.std.proofs.lemmas.List.Sums.{prefix_len_is}
use Rattle.std.proofs.Math.Nat.{le_refl, pow-le-pow_right, pow-suc, one-le-pow, mul-le-mul_left}
use Rattle.js_number.specs.NumericText.{digit_count}
use Rattle.js_number.specs.Bounded.{bounded, capped}

-- a value is no larger with a digit behind it
grows_once : (radix n d : ℕ) → 0 < radix → n ≤ n * radix + d
grows_once radix n d h = omega (arith, mul-le n 1 n radix (le_refl n) h)

-- what follows makes no value smaller
pub value_grows : (radix n : ℕ) (ds : List ℕ) → 0 < radix → n ≤ digits_value_after radix n ds
value_grows radix n [] h = omega arith
value_grows radix n (d ∷ ds) h =
    let step : n ≤ n * radix + digit_value d = grows_once radix n (digit_value d) h in
    let later : n * radix + digit_value d ≤ digits_value_after radix (n * radix + digit_value d) ds = value_grows radix (n * radix + digit_value d) ds h in
    omega (arith, step, later)

-- so a value that is too large stays so
pub too_large : (radix n : ℕ) (ds : List ℕ) → 0 < radix → 2 ^ 53 ≤ n → bounded (Some (digits_value_after radix n ds)) ≡ None
too_large radix n ds h b =
    let g : n ≤ digits_value_after radix n ds = value_grows radix n ds h in
    let c : 2 ^ 53 ≤ digits_value_after radix n ds = omega (arith, g) in
    grind arith

-- a value that was cut to the cap on the way is cut to it at the end
pub cut_after : (m n : ℕ) (ds : List ℕ) → capped m ≡ capped n → capped (digits_value_after 10 m ds) ≡ capped (digits_value_after 10 n ds)
cut_after m n [] e = e
cut_after m n (d ∷ ds) e = cut_after (m * 10 + digit_value d) (n * 10 + digit_value d) ds (omega arith)

-- the digits from one on give what the digit in front of them makes of the value
digit_first : (radix v : ℕ) (xs : List ℕ) → 1 ≤ length xs → digits_value_after radix v xs ≡ digits_value_after radix (v * radix + digit_value (get_or xs 0 0)) (drop 1 xs)
digit_first radix v [] h = absurd (omega arith)
digit_first radix v (x ∷ xs) h = refl

-- all of a list but its first
rest_whole : (xs : List ℕ) → take (length xs - 1) (drop 1 xs) ≡ drop 1 xs
rest_whole xs = take_all (length xs - 1) (drop 1 xs) (omega (arith, length-drop 1 xs))

-- a turn of the reader that cuts
pub cut_step : (v s d : ℕ) (xs : List ℕ) (m : ℕ) → 1 ≤ length xs → s ≡ min (min (v * 10) (2 ^ 64 - 1) + d) (2 ^ 64 - 1) → d ≡ digit_value (get_or xs 0 0) → capped (digits_value_after 10 v xs) ≡ m → capped (digits_value_after 10 s (take (length xs - 1) (drop 1 xs))) ≡ m
cut_step v s d xs m long e f g =
    let first = digit_first 10 v xs long in
    let same : capped s ≡ capped (v * 10 + d) = omega arith in
    let same_digit : capped s ≡ capped (v * 10 + digit_value (get_or xs 0 0)) = subst (λ x. capped s ≡ capped (v * 10 + x)) f same in
    rw rest_whole (cut_after s (v * 10 + digit_value (get_or xs 0 0)) (drop 1 xs) same_digit ∙ sym (ap capped first) ∙ g)

-- its end
pub cut_end : (v : ℕ) (xs : List ℕ) (m : ℕ) → length xs < 1 → v < 2 ^ 64 → capped (digits_value_after 10 v xs) ≡ m → v ≡ m
cut_end v [] m short h e = omega arith
cut_end v (x ∷ xs) m short h e = absurd (omega arith)

-- a value that is too large at one digit
pub too_large_at : (radix v : ℕ) (d : ℕ) (xs : List ℕ) → 0 < radix → 1 ≤ length xs → d ≡ digit_value (get_or xs 0 0) → 2 ^ 53 ≤ v * radix + d → bounded (Some (digits_value_after radix v xs)) ≡ None
too_large_at radix v d xs pos_radix long e large =
    let at : 2 ^ 53 ≤ v * radix + digit_value (get_or xs 0 0) = subst (λ x. 2 ^ 53 ≤ v * radix + x) e large in
    ap (λ n. bounded (Some n)) (digit_first radix v xs long) ∙ too_large radix (v * radix + digit_value (get_or xs 0 0)) (drop 1 xs) pos_radix at

-- where a digit isn't in the base, the count of digits ends
pub counted : (radix : ℕ) (units : List ℕ) (i d : ℕ) → i ≤ length units → ((k : ℕ) → k < i → is_digit (get_or units k 0) radix ≡ true) → d ≡ digit_value (get_or units i 0) → radix ≤ d → i ≡ digit_count radix units
counted radix units i d within before e h =
    let at : radix ≤ digit_value (get_or units i 0) = subst (λ x. radix ≤ x) e h in
    sym (prefix_len_is (λ u. is_digit u radix) units i 0 within before (λ _. le-ltb (digit_value (get_or units i 0)) radix at))

-- the count of digits of a list that has only digits
pub counted_all : (radix : ℕ) (units : List ℕ) (i : ℕ) → length units ≤ i → ((k : ℕ) → k < i → is_digit (get_or units k 0) radix ≡ true) → length units ≡ digit_count radix units
counted_all radix units i past before =
    sym (prefix_len_is (λ u. is_digit u radix) units (length units) 0 (omega arith) (λ k h. before k (omega arith)) (λ h. absurd (omega arith)))

-- one more power of ten
pub power_step : (v p k : ℕ) → p ≡ v * 10 ^ k → p * 10 ≡ v * 10 ^ (k + 1)
power_step v p k e = rw (add-one, pow-suc) (omega arith)

-- a product that is too large on the way to a power of ten
pub power_too_large : (v p k n : ℕ) → p ≡ v * 10 ^ k → 2 ^ 53 ≤ p * 10 → k < n → bounded (Some (v * 10 ^ n)) ≡ None
power_too_large v p k n e large h =
    let higher : 10 ^ suc k ≤ 10 ^ n = pow-le-pow_right (omega arith) (omega arith) in
    let step : v * 10 ^ suc k ≡ p * 10 = rw (pow-suc) (omega arith) in
    let more : v * 10 ^ suc k ≤ v * 10 ^ n = grind arith in
    let all : 2 ^ 53 ≤ v * 10 ^ n = omega arith in
    grind arith

-- the digits of two lists, one after the other
pub after_append : (radix n : ℕ) (xs ys : List ℕ) → digits_value_after radix n (xs ++ ys) ≡ digits_value_after radix (digits_value_after radix n xs) ys
after_append radix n [] ys = refl
after_append radix n (x ∷ xs) ys = after_append radix (n * radix + digit_value x) xs ys

-- a value that isn't held is too large
not_held : (n : ℕ) → bounded (Some n) ≡ None → 2 ^ 53 ≤ n
not_held n e = grind arith

-- a value that is held is that value
held : (n m : ℕ) → bounded (Some n) ≡ Some m → m ≡ n
held n m e = grind arith

-- a product with what isn't zero is too large where a factor is
pub product_too_large : (v n : ℕ) → bounded (Some v) ≡ None → bounded (Some (v * 10 ^ n)) ≡ None
product_too_large v n e =
    let large : 2 ^ 53 ≤ v = not_held v e in
    let some : 1 ≤ 10 ^ n = one-le-pow n 10 (omega arith) in
    let more : v * 1 ≤ v * 10 ^ n = mul-le-mul_left v some in
    let all : 2 ^ 53 ≤ v * 10 ^ n = omega (arith, more, large) in
    grind arith

-- the front of two lists is too large where what it begins with is
pub joined_too_large : (xs ys : List ℕ) → bounded (Some (digits_value_after 10 0 xs)) ≡ None → bounded (Some (digits_value_after 10 0 (xs ++ ys))) ≡ None
joined_too_large xs ys e = ap (λ n. bounded (Some n)) (after_append 10 0 xs ys) ∙ too_large 10 (digits_value_after 10 0 xs) ys (omega arith) (not_held (digits_value_after 10 0 xs) e)

-- the value of a front that is held goes on into what follows
pub joined_held : (xs ys : List ℕ) (m : ℕ) → bounded (Some (digits_value_after 10 0 xs)) ≡ Some m → bounded (Some (digits_value_after 10 0 (xs ++ ys))) ≡ bounded (Some (digits_value_after 10 m ys))
joined_held xs ys m e = ap (λ n. bounded (Some n)) (after_append 10 0 xs ys ∙ ap (λ n. digits_value_after 10 n ys) (sym (held (digits_value_after 10 0 xs) m e)))

pub ruleset joined = (joined_too_large, joined_held)
