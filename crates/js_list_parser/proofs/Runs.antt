-- Loops end by their fuel: each turn takes a token.
use Rattle.std.proofs.Common.{◌≡◌, ℕ, zero, suc, ◌<◌, List, length, Ok, refl, arith}
use Rattle.js_ast.specs.declared.token.Token.{Token}
use Rattle.js_list_parser.specs.Reading.{Read, Turn, again, done, turns, loop}

-- the turns of a loop, of which each but the last takes a token
pub data Runs {S A : Type 0} (step : S → List Token → Read (Turn S A)) (a : A) (z : List Token) : S → List Token → Type 0 where
  ends : {s : S} {ts : List Token} → step s ts ≡ Ok (done a, z) → Runs step a z s ts
  goes : {s t : S} {ts m : List Token} → step s ts ≡ Ok (again t, m) → length m < length ts → Runs step a z t m → Runs step a z s ts

-- with more fuel than there are tokens the turns come to their end
runs-turns : {S A : Type 0} {step : S → List Token → Read (Turn S A)} {a : A} {z : List Token} {s : S} {ts : List Token} → Runs step a z s ts → (n : ℕ) → length ts < n → turns step n s ts ≡ Ok (a, z)
runs-turns (ends e) zero lt = absurd (omega arith)
runs-turns (ends e) (suc n) lt = rw e refl
runs-turns (goes e less r) zero lt = absurd (omega arith)
runs-turns (goes e less r) (suc n) lt = rw e (runs-turns r n (omega arith))

-- so does the loop
pub runs-loop : {S A : Type 0} {step : S → List Token → Read (Turn S A)} {a : A} {z : List Token} {s : S} {ts : List Token} → Runs step a z s ts → loop step s ts ≡ Ok (a, z)
unfolding loop
runs-loop {ts = ts} r = runs-turns r (suc (length ts)) (omega arith)
