-- Numbers of functions that stand in two parts.
use Rattle.std.proofs.Common.{sym, ap, ◌∙◌, ◌≡◌, ◌+◌, ℕ, Bool, List, [], ◌∷◌, ◌++◌, length, length-append, append-nil, arith}
use Rattle.js_ast.specs.Functions.{FunctionCode, numbered, after}

pub after_none : (n : ℕ) → after n [] ≡ n
unfolding after
after_none n = omega arith

pub after_first : (n : ℕ) (x : FunctionCode) (xs : List FunctionCode) → after n (x ∷ xs) ≡ after (n + 1) xs
unfolding after
after_first n x xs = omega arith

pub after_append : (n : ℕ) (xs ys : List FunctionCode) → after n (xs ++ ys) ≡ after (after n xs) ys
unfolding after
after_append n xs ys = omega (arith, length-append xs ys)

pub numbered_append : (n : ℕ) (xs ys : List FunctionCode) → numbered n (xs ++ ys) ≡ numbered n xs ++ numbered (after n xs) ys
numbered_append n [] ys = ap (λ m. numbered m ys) (sym (after_none n))
numbered_append n (x ∷ xs) ys = ap (λ ms. (n, x) ∷ ms) (numbered_append (n + 1) xs ys ∙ ap (λ m. numbered (n + 1) xs ++ numbered m ys) (sym (after_first n x xs)))

-- nothing behind
pub append_nil : (fs : List FunctionCode) → fs ++ [] ≡ fs
append_nil fs = append-nil fs

pub ruleset parts = (after_none, after_first, after_append, numbered_append, append_nil)

-- numbers from 0 on
pub after_zero : (xs : List FunctionCode) → after 0 xs ≡ length xs
unfolding after
after_zero xs = omega arith
