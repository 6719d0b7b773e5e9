-- The smallest and the largest number that passes a test, one number after the other.
use Rattle.std.proofs.Common.{◌≡◌, ℕ, suc, ◌+◌, Bool, true, false, Some, None, if◌then◌else◌, ap, ◌∙◌}
use Rattle.native_programs.specs.Searching.{smallest_from, largest_below}

pub smallest_here : (test : ℕ → Bool) (k n m : ℕ) → test k ≡ true → n ≡ suc m → smallest_from test k n ≡ Some k
smallest_here test k n m e s = ap (λ (x : ℕ). smallest_from test k x) s ∙ ap (λ (b : Bool). if b then Some k else smallest_from test (k + 1) m) e

pub smallest_later : (test : ℕ → Bool) (k n m : ℕ) → test k ≡ false → n ≡ suc m → smallest_from test k n ≡ smallest_from test (k + 1) m
smallest_later test k n m e s = ap (λ (x : ℕ). smallest_from test k x) s ∙ ap (λ (b : Bool). if b then Some k else smallest_from test (k + 1) m) e

pub smallest_nowhere : (test : ℕ → Bool) (k n : ℕ) → n ≡ 0 → smallest_from test k n ≡ None
smallest_nowhere test k n s = ap (λ (x : ℕ). smallest_from test k x) s

pub largest_here : (test : ℕ → Bool) (n m : ℕ) → test m ≡ true → n ≡ suc m → largest_below test n ≡ Some m
largest_here test n m e s = ap (λ (x : ℕ). largest_below test x) s ∙ ap (λ (b : Bool). if b then Some m else largest_below test m) e

pub largest_before : (test : ℕ → Bool) (n m : ℕ) → test m ≡ false → n ≡ suc m → largest_below test n ≡ largest_below test m
largest_before test n m e s = ap (λ (x : ℕ). largest_below test x) s ∙ ap (λ (b : Bool). if b then Some m else largest_below test m) e

pub largest_nowhere : (test : ℕ → Bool) (n : ℕ) → n ≡ 0 → largest_below test n ≡ None
largest_nowhere test n s = ap (λ (x : ℕ). largest_below test x) s
