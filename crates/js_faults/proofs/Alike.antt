-- What is told of the numbers below a limit: two limits under which the same is said tell the same fault, in whatever order.
use Rattle.std.proofs.Common.{refl, sym, ap, ◌∙◌, ◌≡◌, ◌<◌, zero, suc, ℕ, Bool, true, false, cond, List, [], ◌++◌, ◌==◌, ◌&&◌, ◌||◌, ◌*◌, ◌+◌, nat_lt, Option, Some, None, inl, inr, ◌⊎◌, arith}
use Rattle.std.proofs.lemmas.Bool.{ltb-true, ltb-false, cases_eq}
use Rattle.js_faults.specs.declared.fault.EarlyError.{EarlyError}
use Rattle.js_faults.specs.declared.fault.EarlyErrorKind.{EarlyErrorKind}
use Rattle.js_faults.specs.declared.fault.EarlyErrorKind.TheVariants as kind
use Rattle.js_faults.specs.Faults.{row, is_before, earlier, first_of}
use Rattle.js_faults.proofs.Told.{earlier_assoc, first_of_append}

-- there are seven kinds
row_below : (k : EarlyErrorKind) → row k < 7
row_below kind.EvalArguments = omega arith
row_below kind.RepeatedParameter = omega arith
row_below kind.RepeatedProperty = omega arith
row_below kind.DeleteName = omega arith
row_below kind.Jump = omega arith
row_below kind.RepeatedLabel = omega arith
row_below kind.StrictWord = omega arith

-- of two numbers in turn the first decides, and where they are equal the second
by_parts : (a b m n : ℕ) → m < 7 → n < 7 → (nat_lt a b || (a == b && nat_lt m n)) ≡ nat_lt (7 * a + m) (7 * b + n)
by_parts a b m n lm ln = grind (arith)

-- a number for a fault's place in the order
abbrev key : EarlyError → ℕ
key f = 7 * f.at + row f.kind

before_key : (f g : EarlyError) → is_before f g ≡ nat_lt (key f) (key g)
before_key f g = by_parts f.at g.at (row f.kind) (row g.kind) (row_below f.kind) (row_below g.kind)

-- the kind of a row
abbrev kind_at : ℕ → EarlyErrorKind
kind_at n = cond (n == 0) kind.EvalArguments (cond (n == 1) kind.RepeatedParameter (cond (n == 2) kind.RepeatedProperty
    (cond (n == 3) kind.DeleteName (cond (n == 4) kind.Jump (cond (n == 5) kind.RepeatedLabel kind.StrictWord)))))

kind_of_row : (k : EarlyErrorKind) → kind_at (row k) ≡ k
kind_of_row kind.EvalArguments = refl
kind_of_row kind.RepeatedParameter = refl
kind_of_row kind.RepeatedProperty = refl
kind_of_row kind.DeleteName = refl
kind_of_row kind.Jump = refl
kind_of_row kind.RepeatedLabel = refl
kind_of_row kind.StrictWord = refl

abbrev fault_at : ℕ → EarlyErrorKind → EarlyError
fault_at n k = record { at = n; kind = k }

-- of two different faults one is told before the other
same_fault : (f g : EarlyError) → is_before g f ≡ false → is_before f g ≡ false → f ≡ g
same_fault f g x y =
    let a = ltb-false (key g) (key f) (sym (before_key g f) ∙ x) in let b = ltb-false (key f) (key g) (sym (before_key f g) ∙ y) in
    let m = row_below f.kind in let n = row_below g.kind in
    let place : f.at ≡ g.at = omega arith in let rows : row f.kind ≡ row g.kind = omega arith in
    ap (λ n. fault_at n f.kind) place ∙ ap (fault_at g.at) (sym (kind_of_row f.kind) ∙ ap kind_at rows ∙ kind_of_row g.kind)

not_both : (f g : EarlyError) → is_before g f ≡ true → is_before f g ≡ true → ⊥
not_both f g x y = let a = ltb-true (key g) (key f) (sym (before_key g f) ∙ x) in let b = ltb-true (key f) (key g) (sym (before_key f g) ∙ y) in omega arith

pub earlier_comm : (f g : Option EarlyError) → earlier f g ≡ earlier g f
earlier_comm None None = refl
earlier_comm None (Some g) = refl
earlier_comm (Some f) None = refl
earlier_comm (Some f) (Some g) = both (is_before g f) (is_before f g) refl refl
  where
    both : (a b : Bool) → is_before g f ≡ a → is_before f g ≡ b → cond (is_before g f) (Some g) (Some f) ≡ cond (is_before f g) (Some f) (Some g)
    both true true x y = absurd (not_both f g x y)
    both true false x y = rw (x, y) refl
    both false true x y = rw (x, y) refl
    both false false x y = rw (x, y) (ap Some (same_fault f g x y))

earlier_same : (f : Option EarlyError) → earlier f f ≡ f
earlier_same None = refl
earlier_same (Some f) = both (is_before f f)
  where
    both : (b : Bool) → cond b (Some f) (Some f) ≡ Some f
    both true = refl
    both false = refl

-- what is told of each number in turn
abbrev pub told : (ℕ → List EarlyError) → ℕ → List EarlyError
told F zero = []
told F (suc n) = told F n ++ F n

-- what is told of one is told of all
one_of_all : (F : ℕ → List EarlyError) (n i : ℕ) → i < n → earlier (first_of (F i)) (first_of (told F n)) ≡ first_of (told F n)
one_of_all F zero i lt = absurd (omega arith)
one_of_all F (suc n) i lt = rw (first_of_append (told F n) (F n)) (by (cases_eq i n) (λ less. one_of_all F n i less))
  where
    by : (i ≡ n) ⊎ (i ≡ n → ⊥) → (i < n → earlier (first_of (F i)) (first_of (told F n)) ≡ first_of (told F n))
        → earlier (first_of (F i)) (earlier (first_of (told F n)) (first_of (F n))) ≡ earlier (first_of (told F n)) (first_of (F n))
    by (inl e) h = rw e (ap (earlier (first_of (F n))) (earlier_comm (first_of (told F n)) (first_of (F n))) ∙ earlier_assoc (first_of (F n)) (first_of (F n)) (first_of (told F n))
        ∙ ap (λ f. earlier f (first_of (told F n))) (earlier_same (first_of (F n))) ∙ earlier_comm (first_of (F n)) (first_of (told F n)))
    by (inr ne) h = earlier_assoc (first_of (F i)) (first_of (told F n)) (first_of (F n)) ∙ ap (λ f. earlier f (first_of (F n))) (h (omega arith))

all_within : (F : ℕ → List EarlyError) (whole : Option EarlyError) (m : ℕ) → ((i : ℕ) → i < m → earlier (first_of (F i)) whole ≡ whole) → earlier (first_of (told F m)) whole ≡ whole
all_within F whole zero h = refl
all_within F whole (suc m) h = rw (first_of_append (told F m) (F m))
    (sym (earlier_assoc (first_of (told F m)) (first_of (F m)) whole) ∙ ap (earlier (first_of (told F m))) (h m (omega arith)) ∙ all_within F whole m (λ i lt. h i (omega arith)))

half_alike : (F G : ℕ → List EarlyError) (m n : ℕ) → ((i : ℕ) → i < m → (j : ℕ) × (j < n) × (F i ≡ G j)) → earlier (first_of (told F m)) (first_of (told G n)) ≡ first_of (told G n)
half_alike F G m n f = all_within F (first_of (told G n)) m (λ i lt. let w = f i lt in ap (λ fs. earlier (first_of fs) (first_of (told G n))) w.2 ∙ one_of_all G n w.0 w.1)

-- each list tells what the other does
pub told_alike : (F G : ℕ → List EarlyError) (m n : ℕ) → ((i : ℕ) → i < m → (j : ℕ) × (j < n) × (F i ≡ G j)) → ((j : ℕ) → j < n → (i : ℕ) × (i < m) × (G j ≡ F i))
    → first_of (told F m) ≡ first_of (told G n)
told_alike F G m n f g = sym (half_alike G F n m g) ∙ earlier_comm (first_of (told G n)) (first_of (told F m)) ∙ half_alike F G m n f
