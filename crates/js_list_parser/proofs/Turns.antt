-- Readers that leave no more tokens than they are given, and the equation of a loop: its fuel is enough where each turn takes a token.
use Rattle.std.proofs.Common.{◌≡◌, ℕ, zero, suc, ◌<◌, ◌≤◌, Bool, true, false, cond, List, [], ◌∷◌, length, Result, Ok, Err, refl, arith}
use Rattle.js_ast.specs.declared.token.Token.{Token}
use Rattle.js_list_parser.specs.Reading.{Refusal, refused, nesting, Read, ◌>>=◌, behind, Turn, again, done, turned, turns, loop, room}

-- at most so many tokens are left
abbrev pub Within : {A : Type 0} → ℕ → Read A → Type 0
Within n (Ok x) = length x.1 ≤ n
Within n (Err e) = Unit {0}

-- the same of a reader with no value
abbrev pub RestWithin : ℕ → Result (List Token) Refusal → Type 0
RestWithin n (Ok ts) = length ts ≤ n
RestWithin n (Err e) = Unit {0}

-- fewer are left where the loop goes on
abbrev pub turn_within : {S A : Type 0} → ℕ → Turn S A → List Token → Type 0
turn_within n (again s) ts = length ts < n
turn_within n (done a) ts = length ts ≤ n

-- the same of a turn that may fail
abbrev pub TurnWithin : {S A : Type 0} → ℕ → Read (Turn S A) → Type 0
TurnWithin n (Ok x) = turn_within n x.0 x.1
TurnWithin n (Err e) = Unit {0}

-- and so at most more
pub within-more : {A : Type 0} (n m : ℕ) (r : Read A) → n ≤ m → Within n r → Within m r
within-more n m (Ok x) le h = omega arith
within-more n m (Err e) le h = tt

-- a reader and another
pub within-bind : {A B : Type 0} (n : ℕ) (r : Read A) (f : A × List Token → Read B) → Within n r → ((a : A) (ts : List Token) → length ts ≤ n → Within n (f (a, ts))) → Within n (r >>= f)
within-bind n (Ok x) f h g = g x.0 x.1 h
within-bind n (Err e) f h g = tt

-- a reader with no value and another
pub rest-bind : {B : Type 0} (n : ℕ) (r : Result (List Token) Refusal) (f : List Token → Read B) → RestWithin n r → ((ts : List Token) → length ts ≤ n → Within n (f ts)) → Within n (r >>= f)
rest-bind n (Ok ts) f h g = g ts h
rest-bind n (Err e) f h g = tt

-- a reader and a turn
pub turn-bind : {A S B : Type 0} (n l : ℕ) (r : Read A) (f : A × List Token → Read (Turn S B)) → Within n r → ((a : A) (ts : List Token) → length ts ≤ n → TurnWithin l (f (a, ts))) → TurnWithin l (r >>= f)
turn-bind n l (Ok x) f h g = g x.0 x.1 h
turn-bind n l (Err e) f h g = tt

-- a reader with room
pub within-room : {A : Type 0} (n limit parts : ℕ) (ts : List Token) (r : Read A) → Within n r → Within n (room limit parts ts r)
within-room n limit parts ts r h = go _
  where
    go : (b : Bool) → Within n (cond b (Err (refused nesting ts)) r)
    go true = tt
    go false = h

-- a turn with room
pub turn-room : {S A : Type 0} (n limit parts : ℕ) (ts : List Token) (r : Read (Turn S A)) → TurnWithin n r → TurnWithin n (room limit parts ts r)
turn-room n limit parts ts r h = go _
  where
    go : (b : Bool) → TurnWithin n (cond b (Err (refused nesting ts)) r)
    go true = tt
    go false = h

-- behind a token are no more tokens
pub behind_within : (ts : List Token) → length (behind ts) ≤ length ts
behind_within [] = omega arith
behind_within (t ∷ ts) = omega arith

-- ---- loops

-- turns with other fuel, behind one
turned_same : {S A : Type 0} (step : S → List Token → Read (Turn S A)) (n m l : ℕ) (r : Read (Turn S A)) → TurnWithin l r → ((s : S) (ts : List Token) → length ts < l → turns step n s ts ≡ turns step m s ts)
    → (r >>= λ x. turned (turns step n) x.0 x.1) ≡ (r >>= λ x. turned (turns step m) x.0 x.1)
turned_same step n m l (Err e) h same = refl
turned_same step n m l (Ok x) h same = go x.0 x.1 h
  where
    go : (t : Turn _ _) (ts : List Token) → turn_within l t ts → turned (turns step n) t ts ≡ turned (turns step m) t ts
    go (done a) ts h = refl
    go (again s) ts h = same s ts h

-- turns with other fuel
turns_same : {S A : Type 0} (step : S → List Token → Read (Turn S A)) → ((s : S) (ts : List Token) → TurnWithin (length ts) (step s ts)) → (n m : ℕ) (s : S) (ts : List Token) → length ts < n → length ts < m → turns step n s ts ≡ turns step m s ts
turns_same step each zero m s ts a b = absurd (omega arith)
turns_same step each (suc n) zero s ts a b = absurd (omega arith)
turns_same step each (suc n) (suc m) s ts a b = turned_same step n m (length ts) (step s ts) (each s ts) (λ t z h. turns_same step each n m t z (omega arith) (omega arith))

-- turns with just the fuel that is needed
turned_loop : {S A : Type 0} (step : S → List Token → Read (Turn S A)) → ((s : S) (ts : List Token) → TurnWithin (length ts) (step s ts)) → (l : ℕ) (r : Read (Turn S A)) → TurnWithin l r
    → (r >>= λ x. turned (turns step l) x.0 x.1) ≡ (r >>= λ x. turned (loop step) x.0 x.1)
unfolding loop
turned_loop step each l (Err e) h = refl
turned_loop step each l (Ok x) h = go x.0 x.1 h
  where
    go : (t : Turn _ _) (ts : List Token) → turn_within l t ts → turned (turns step l) t ts ≡ turned (loop step) t ts
    go (done a) ts h = refl
    go (again s) ts h = turns_same step each l (suc (length ts)) s ts h (omega arith)

-- the fuel is gone
pub loop-step : {S A : Type 0} (step : S → List Token → Read (Turn S A)) → ((s : S) (ts : List Token) → TurnWithin (length ts) (step s ts)) → (s : S) (ts : List Token) → loop step s ts ≡ (step s ts >>= λ x. turned (loop step) x.0 x.1)
unfolding loop
loop-step step each s ts = turned_loop step each (length ts) (step s ts) (each s ts)

-- turns leave no more, behind one
turned_within : {S A : Type 0} (step : S → List Token → Read (Turn S A)) (n l : ℕ) (r : Read (Turn S A)) → TurnWithin l r → ((s : S) (ts : List Token) → length ts < l → Within (length ts) (turns step n s ts))
    → Within l (r >>= λ x. turned (turns step n) x.0 x.1)
turned_within step n l (Err e) h ih = tt
turned_within step n l (Ok x) h ih = go x.0 x.1 h
  where
    go : (t : Turn _ _) (ts : List Token) → turn_within l t ts → Within l (turned (turns step n) t ts)
    go (done a) ts h = h
    go (again s) ts h = within-more (length ts) l (turns step n s ts) (omega arith) (ih s ts h)

-- turns leave no more
turns_within : {S A : Type 0} (step : S → List Token → Read (Turn S A)) → ((s : S) (ts : List Token) → TurnWithin (length ts) (step s ts)) → (n : ℕ) (s : S) (ts : List Token) → Within (length ts) (turns step n s ts)
turns_within step each zero s ts = tt
turns_within step each (suc n) s ts = turned_within step n (length ts) (step s ts) (each s ts) (λ t z h. turns_within step each n t z)

-- a loop leaves no more
pub loop_within : {S A : Type 0} (step : S → List Token → Read (Turn S A)) → ((s : S) (ts : List Token) → TurnWithin (length ts) (step s ts)) → (s : S) (ts : List Token) → Within (length ts) (loop step s ts)
unfolding loop
loop_within step each s ts = turns_within step each (suc (length ts)) s ts
