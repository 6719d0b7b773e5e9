-- What is left of a list behind its front.
use Rattle.std.proofs.Common.{◌≡◌, ℕ, ◌+◌, ◌-◌, ◌≤◌, List, ◌++◌, length, take, drop, sym, ap, ◌∙◌, arith}
use Rattle.std.proofs.lemmas.List.{take-append-drop, length-take-le, length-append}
use Rattle.std.proofs.Math.Seq.{take-length}

rest_length : (n : ℕ) (us : List ℕ) → n ≤ length us → length (drop n us) ≡ length us - n
rest_length n us h =
    let whole : length (take n us) + length (drop n us) ≡ length us = sym (length-append (take n us) (drop n us)) ∙ ap length (take-append-drop n us) in
    let front : length (take n us) ≡ n = length-take-le n us h in
    omega arith

-- a slice from a place to the end
pub rest_is : (n : ℕ) (us : List ℕ) → n ≤ length us → take (length us - n) (drop n us) ≡ drop n us
rest_is n us h = ap (λ k. take k (drop n us)) (sym (rest_length n us h)) ∙ take-length (drop n us)

-- what is in front of a rest is no longer than the whole
pub within : (n : ℕ) (us w : List ℕ) → us ≡ w ++ drop n us → length w ≡ n → n ≤ length us
within n us w h l = let e : length us ≡ length w + length (drop n us) = ap length h ∙ length-append w (drop n us) in omega arith
