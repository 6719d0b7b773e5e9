-- The quotient of two integers is the number whose product with the divisor is the dividend.
use Rattle.std.proofs.Common.{◌≡◌, ◌≢◌, Bool, true, false, ◌&&◌, ap₂, ℕ, zero, suc, ◌*◌, ◌/◌, ◌%◌, ◌==◌, ◌<◌, refl, sym, ap, ◌∙◌, arith, ℤ, pos, negsuc, neg_ℤ, ◌*ℤ◌, unsigned_abs, Some, None, if◌then◌else◌, Result, Ok, ◌↔◌}
use Rattle.std.proofs.lemmas.Bool.{and_parts, eqb-true, eqb-false, eq-eqb, ne_eqb, cond-true, cond-false}
use Rattle.std.proofs.lemmas.Int.{unsigned_abs-mul}
use Rattle.std.proofs.lemmas.Nat.{div-add-mod'}
use Rattle.std.proofs.Math.Nat.{mul-mod_right, mul-div_cancel, mul_comm}
use Rattle.js_number.specs.declared.int.LeftNumbers.{LeftNumbers}
use Rattle.js_number.specs.declared.num.Num.{Num}
use Rattle.js_number.specs.declared.num.Num.TheVariants.{Nan, Int}
use Rattle.js_number.specs.Profile.{IsProfile}
use Rattle.js_number.specs.Number.{some_number}
use Rattle.js_number.specs.Arithmetic.{signed_like, quotient, IsQuotient, quotient_of, divided}
use Rattle.js_number.proofs.Answered.{through, some_of, answered, answers}

-- a product by its size and sign
times_is : (n b : ℤ) → n *ℤ b ≡ signed_like n b (unsigned_abs n * unsigned_abs b)
times_is (pos a) (pos b) = refl
times_is (pos a) (negsuc b) = refl
times_is (negsuc a) (pos b) = refl
times_is (negsuc a) (negsuc b) = refl

-- the size of a negative
neg_size : (n : ℕ) → unsigned_abs (neg_ℤ (pos n)) ≡ n
neg_size zero = refl
neg_size (suc n) = refl

-- the size of a number with a sign
like_size : (a b : ℤ) (n : ℕ) → unsigned_abs (signed_like a b n) ≡ n
like_size (pos a) (pos b) n = refl
like_size (pos a) (negsuc b) n = neg_size n
like_size (negsuc a) (pos b) n = neg_size n
like_size (negsuc a) (negsuc b) n = refl

-- the signs of a quotient and its divisor give that of the dividend
sign_back : (a b : ℤ) (q : ℕ) → q * unsigned_abs b ≡ unsigned_abs a → signed_like (signed_like a b q) b (unsigned_abs a) ≡ a
sign_back (pos zero) (pos b) zero e = refl
sign_back (pos zero) (negsuc b) zero e = refl
sign_back (pos (suc a)) b zero e = absurd (omega arith)
sign_back (negsuc a) b zero e = absurd (omega arith)
sign_back (pos a) (pos b) (suc q) e = refl
sign_back (pos a) (negsuc b) (suc q) e = refl
sign_back (negsuc a) (pos b) (suc q) e = refl
sign_back (negsuc a) (negsuc b) (suc q) e = refl

-- an exact quotient times the divisor is the dividend
exact_times : (a b : ℤ) (q : ℕ) → q * unsigned_abs b ≡ unsigned_abs a → signed_like a b q *ℤ b ≡ a
exact_times a b q e =
    times_is (signed_like a b q) b ∙ ap (λ n. signed_like (signed_like a b q) b (n * unsigned_abs b)) (like_size a b q) ∙ ap (signed_like (signed_like a b q) b) e ∙ sign_back a b q e

-- the signs of a product and its second factor give that of the first
sign_of_factor : (n b : ℤ) (p : ℕ) → 0 < unsigned_abs b → p ≡ unsigned_abs n * unsigned_abs b → signed_like (signed_like n b p) b (unsigned_abs n) ≡ n
sign_of_factor (pos zero) (pos b) zero h e = refl
sign_of_factor (pos zero) (negsuc b) zero h e = refl
sign_of_factor (pos zero) b (suc p) h e = absurd (omega arith)
sign_of_factor (pos (suc k)) b zero h e = absurd (grind arith)
sign_of_factor (negsuc k) b zero h e = absurd (grind arith)
sign_of_factor (pos (suc k)) (pos b) (suc p) h e = refl
sign_of_factor (pos (suc k)) (negsuc b) (suc p) h e = refl
sign_of_factor (negsuc k) (pos b) (suc p) h e = refl
sign_of_factor (negsuc k) (negsuc b) (suc p) h e = refl

-- only 0 has the size 0
size_zero : (b : ℤ) → unsigned_abs b ≡ 0 → b ≡ pos 0
size_zero (pos b) e = ap pos e
size_zero (negsuc b) e = absurd (omega arith)

-- what is answered is a quotient
quotient_found : (a b n : ℤ) → quotient a b ≡ Some n → IsQuotient a b n
quotient_found a b n e =
    let t = through (unsigned_abs b == 0) (if unsigned_abs a % unsigned_abs b == 0 then Some (signed_like a b (unsigned_abs a / unsigned_abs b)) else None) n e in
    let s = some_of (unsigned_abs a % unsigned_abs b == 0) (signed_like a b (unsigned_abs a / unsigned_abs b)) n t.1 in
    let rest : unsigned_abs a % unsigned_abs b ≡ 0 = eqb-true (unsigned_abs a % unsigned_abs b) 0 s.0 in
    let whole : unsigned_abs a / unsigned_abs b * unsigned_abs b ≡ unsigned_abs a = omega (arith, div-add-mod' (unsigned_abs a) (unsigned_abs b), rest) in
    (λ z. eqb-false (unsigned_abs b) 0 t.0 (ap unsigned_abs z), ap (λ m. m *ℤ b) (sym s.1) ∙ exact_times a b (unsigned_abs a / unsigned_abs b) whole)

-- a quotient is answered
quotient_read : (a b n : ℤ) → IsQuotient a b n → quotient a b ≡ Some n
quotient_read a b n q =
    let some : unsigned_abs b ≢ 0 = λ z. q.0 (size_zero b z) in
    let above : 0 < unsigned_abs b = omega arith in
    let sizes : unsigned_abs a ≡ unsigned_abs n * unsigned_abs b = ap unsigned_abs (sym q.1) ∙ unsigned_abs-mul n b in
    let rest : unsigned_abs a % unsigned_abs b ≡ 0 = ap (λ m. m % unsigned_abs b) (sizes ∙ mul_comm (unsigned_abs n) (unsigned_abs b)) ∙ mul-mod_right (unsigned_abs b) (unsigned_abs n) in
    let part : unsigned_abs a / unsigned_abs b ≡ unsigned_abs n = ap (λ m. m / unsigned_abs b) sizes ∙ mul-div_cancel (unsigned_abs n) above in
    let sign : signed_like a b (unsigned_abs n) ≡ n = ap (λ x. signed_like x b (unsigned_abs n)) (sym q.1 ∙ times_is n b) ∙ sign_of_factor n b (unsigned_abs n * unsigned_abs b) above refl in
    cond-false (unsigned_abs b == 0) None (if unsigned_abs a % unsigned_abs b == 0 then Some (signed_like a b (unsigned_abs a / unsigned_abs b)) else None) (ne_eqb (unsigned_abs b) 0 some) ∙ cond-true (unsigned_abs a % unsigned_abs b == 0) (Some (signed_like a b (unsigned_abs a / unsigned_abs b))) None (eq-eqb (unsigned_abs a % unsigned_abs b) 0 rest) ∙ ap (λ m. Some (signed_like a b m)) part ∙ ap Some sign

-- the number that is answered is the quotient, where it is of the profile
pub division_exact : (a b : ℤ) (r : Result Num LeftNumbers) (n : ℤ) → r ≡ some_number (quotient a b) → (r ≡ Ok (Int n)) ↔ (IsProfile n × IsQuotient a b n)
division_exact a b r n e =
    (λ h. let p = answered (quotient a b) n (sym e ∙ h) in (p.0, quotient_found a b n p.1), λ p. e ∙ answers (quotient a b) n p.0 (quotient_read a b n p.1))

-- 0 by 0 has no quotient
division_by : (t : Bool) (a b : ℤ) (r : Result Num LeftNumbers) (n : ℤ) → (unsigned_abs a == 0 && unsigned_abs b == 0) ≡ t → r ≡ (if t then Ok Nan else some_number (quotient a b)) → (r ≡ Ok (Int n)) ↔ (IsProfile n × IsQuotient a b n)
division_by true a b r n t e =
    let z : unsigned_abs b ≡ 0 = eqb-true (unsigned_abs b) 0 (and_parts (unsigned_abs a == 0) (unsigned_abs b == 0) t).1 in
    (λ h. let clash : Ok Nan ≡ Ok (Int n) = sym e ∙ h in cc clash, λ p. absurd (p.1.0 (size_zero b z)))
division_by false a b r n t e = division_exact a b r n e

-- the quotient of two numbers that are integers
pub division_of : (a b : Num) (r : Result Num LeftNumbers) (m k n : ℤ) → r ≡ divided a b → a ≡ Int m → b ≡ Int k → (r ≡ Ok (Int n)) ↔ (IsProfile n × IsQuotient m k n)
division_of a b r m k n e f g = division_by (unsigned_abs m == 0 && unsigned_abs k == 0) m k r n refl (e ∙ ap₂ divided f g)
