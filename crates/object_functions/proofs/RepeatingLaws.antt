-- Steps that are repeated are taken once and then repeated.
use Rattle.std.proofs.Common.{◌≡◌, ℕ, zero, suc, ◌<◌, List, length, arith}
use Rattle.native_protocol.specs.Steps.{Steps}
use Rattle.native_protocol.specs.declared.request.Answer.{Answer}
use Rattle.object_functions.specs.Repeating.{times, repeats}

-- what the steps do with these answers rests on what follows them at shorter lists alone: they ask for something before
pub record Asks (steps : Steps → Steps) : Type 0 where
  pub before : (f g : Steps) (answers : List Answer) → ((shorter : List Answer) → length shorter < length answers → f shorter ≡ g shorter) → steps f answers ≡ steps g answers

-- times enough are all alike
times_alike : {steps : Steps → Steps} → Asks steps → (m n : ℕ) (answers : List Answer) → length answers < m → length answers < n → times steps m answers ≡ times steps n answers
unfolding times
times_alike asks zero n answers h k = absurd (omega arith)
times_alike asks (suc m) zero answers h k = absurd (omega arith)
times_alike {steps = steps} asks (suc m) (suc n) answers h k = asks.before (times steps m) (times steps n) answers (λ shorter less. times_alike asks m n shorter (omega arith) (omega arith))

pub repeats_is : {steps : Steps → Steps} → Asks steps → (answers : List Answer) → repeats steps answers ≡ steps (repeats steps) answers
unfolding times repeats
repeats_is {steps = steps} asks answers = asks.before (times steps (length answers)) (repeats steps) answers (λ shorter less. times_alike asks (length answers) (suc (length shorter)) shorter less (omega arith))
