-- What an answer of a number says.
use Rattle.std.proofs.Common.{◌≡◌, ◌^◌, Bool, true, false, refl, ap, subst, ◌∙◌, Option, Some, None, if◌then◌else◌, ℤ, unsigned_abs, Result, Ok, Err, lt-ltb, ltb-true}
use Rattle.std.proofs.lemmas.Bool.{cond-true}
use Rattle.js_number.specs.declared.int.LeftNumbers.{LeftNumbers}
use Rattle.js_number.specs.declared.num.Num.{Num}
use Rattle.js_number.specs.declared.num.Num.TheVariants.{Int}
use Rattle.js_number.specs.Profile.{IsProfile, in_profile}
use Rattle.js_number.specs.Number.{some_number}

-- what a test that refuses lets through
pub through : {X : Type 0} (b : Bool) (o : Option X) (x : X) → (if b then None else o) ≡ Some x → (b ≡ false) × (o ≡ Some x)
through true o x e = cc
through false o x e = (refl, e)

-- what a test that lets through gives
pub some_of : {X : Type 0} (b : Bool) (x n : X) → (if b then Some x else None) ≡ Some n → (b ≡ true) × (x ≡ n)
some_of true x n e = (refl, let f : x ≡ n = cc in f)
some_of false x n e = cc

-- the answer where there is no number
abbrev pub left : Result Num LeftNumbers
left = Err (record {})

-- what the test of the profile lets through
profile_number : (b : Bool) (m z : ℤ) → in_profile m ≡ b → (if b then Ok (Int m) else left) ≡ Ok (Int z) → IsProfile z × (m ≡ z)
profile_number true m z t e =
    let f : m ≡ z = cc e in
    (subst IsProfile f (ltb-true (unsigned_abs m) (2 ^ 53) t), f)
profile_number false m z t e = cc e

-- the number that was answered, and that it is of the profile
pub answered : (o : Option ℤ) (z : ℤ) → some_number o ≡ Ok (Int z) → IsProfile z × (o ≡ Some z)
answered None z e = cc e
answered (Some m) z e =
    let p = profile_number (in_profile m) m z refl e in
    (p.0, ap Some p.1)

-- a number of the profile is answered
pub answers : (o : Option ℤ) (z : ℤ) → IsProfile z → o ≡ Some z → some_number o ≡ Ok (Int z)
answers o z p e = ap some_number e ∙ cond-true (in_profile z) (Ok (Int z)) left (lt-ltb (unsigned_abs z) (2 ^ 53) p)
