-- Each function is given the accessors of `caller` and `arguments`, one object after the other.
use Rattle.std.proofs.Common.{arith, refl, sym, ap, ◌∙◌, ◌≡◌, ◌≤◌, ◌+◌, ℕ, zero, suc, Bool, true, false, List, [], ◌∷◌, length, subst, codes, Option, Some, None}
use Rattle.std.specs.List.{slice_get}
use Rattle.std.proofs.lemmas.List.{length-set}
use Rattle.js_values.specs.Objects.{PlainObject}
use Rattle.es_meaning.specs.Objects.{defined, replaced, with_rows}
use Rattle.es_meaning.specs.Holders.{with_accessors, with_accessors_if, with_property_of}
use Rattle.es_meaning.specs.Requested.{is_function_in}
use Rattle.es_meaning.specs.Start.{arguments_accessor, caller_accessor, fixed_accessor}
use Rattle.plain_heap.specs.Functions.{with_function_rows}
use Rattle.plain_heap.specs.PlainObjects.{PlainObjects, changed}
use Rattle.plain_heap.specs.Started.{IsStarted}
use Rattle.plain_heap.proofs.StartedLaws.{given_started}
use Rattle.step_start.specs.Given.{accessors_from, rows_if, rows_if_function}

-- ---- an object behind the first is changed

module _ (p : PlainObject) (objects : List PlainObject) (n : ℕ) (f : PlainObject → PlainObject) where
  replaced_behind : (q : Option PlainObject) → replaced q (suc n) f (p ∷ objects) ≡ p ∷ replaced q n f objects
  replaced_behind None = refl
  replaced_behind (Some q) = refl

rows_behind : (p : PlainObject) (objects : List PlainObject) (n : ℕ) → with_function_rows (suc n) (p ∷ objects) ≡ p ∷ with_function_rows n objects
rows_behind p objects n =
    let caller = λ (q : PlainObject). with_rows q (defined (codes "caller") (fixed_accessor caller_accessor) q.rows) in
    let arguments = λ (q : PlainObject). with_rows q (defined (codes "arguments") (fixed_accessor arguments_accessor) q.rows) in
    ap (with_property_of (suc n) (codes "arguments") (fixed_accessor arguments_accessor)) (replaced_behind p objects n caller (slice_get objects n))
    ∙ replaced_behind p (with_property_of n (codes "caller") (fixed_accessor caller_accessor) objects) n arguments (slice_get (with_property_of n (codes "caller") (fixed_accessor caller_accessor) objects) n)

replaced_length : (q : Option PlainObject) (n : ℕ) (f : PlainObject → PlainObject) (objects : List PlainObject) → length (replaced q n f objects) ≡ length objects
replaced_length None n f objects = refl
replaced_length (Some q) n f objects = length-set objects n (f q)

-- ---- one object

if_function : (b : Bool) (n : ℕ) (objects : List PlainObject) → is_function_in (slice_get objects n) ≡ b → accessors_from (suc n) (rows_if b n objects) ≡ accessors_from n objects
if_function true zero [] is = refl
if_function true (suc n) [] is = refl
if_function true zero (p ∷ objects) is = ap (λ b. with_accessors_if b p ∷ with_accessors objects) (sym is)
if_function true (suc n) (p ∷ objects) is = ap (accessors_from (suc (suc n))) (rows_behind p objects n) ∙ ap (λ more. p ∷ more) (if_function true n objects is)
if_function false zero [] is = refl
if_function false (suc n) [] is = refl
if_function false zero (p ∷ objects) is = ap (λ b. with_accessors_if b p ∷ with_accessors objects) (sym is)
if_function false (suc n) (p ∷ objects) is = ap (λ more. p ∷ more) (if_function false n objects is)

if_length : (b : Bool) (n : ℕ) (objects : List PlainObject) → length (rows_if b n objects) ≡ length objects
if_length false n objects = refl
if_length true n objects =
    let caller = with_property_of n (codes "caller") (fixed_accessor caller_accessor) objects in
    replaced_length (slice_get caller n) n (λ q. with_rows q (defined (codes "arguments") (fixed_accessor arguments_accessor) q.rows)) caller
    ∙ replaced_length (slice_get objects n) n (λ q. with_rows q (defined (codes "caller") (fixed_accessor caller_accessor) q.rows)) objects

if_started : (b : Bool) (n : ℕ) (objects : List PlainObject) → IsStarted objects → IsStarted (rows_if b n objects)
if_started false n objects started = started
if_started true n objects started = given_started _ _ n _ (λ is. refl) (given_started _ _ n _ (λ is. refl) started)

none_from : (n : ℕ) (objects : List PlainObject) → length objects ≤ n → accessors_from n objects ≡ objects
none_from zero [] past = refl
none_from zero (p ∷ objects) past = absurd (omega (arith, past))
none_from (suc n) [] past = refl
none_from (suc n) (p ∷ objects) past = ap (λ more. p ∷ more) (none_from n objects (omega (arith, past)))

-- ---- one after the other

-- the functions in front of an object have the accessors
pub record Accessing {T : Type 0} (initial : PlainObjects T) (n : ℕ) (heap : PlainObjects T) : Type 0 where
  pub label_is : heap.label ≡ initial.label
  pub made : accessors_from n heap.objects ≡ with_accessors initial.objects
  pub many : length heap.objects ≡ length initial.objects
  pub started : IsStarted heap.objects

module _ {T : Type 0} (initial : PlainObjects T) where
  pub begins : IsStarted initial.objects → Accessing initial 0 initial
  begins started = record { label_is = refl; made = refl; many = refl; started = started }

  pub goes_on : (n : ℕ) (heap more : PlainObjects T) → more ≡ changed (rows_if_function n) heap → Accessing initial n heap → Accessing initial (n + 1) more
  goes_on n heap more gives so_far =
      let next : suc n ≡ n + 1 = omega arith in
      let is = is_function_in (slice_get heap.objects n) in
      subst (λ (h : PlainObjects T). Accessing initial (n + 1) h) (sym gives)
      (record {
        label_is = so_far.label_is;
        made = ap (λ k. accessors_from k (rows_if is n heap.objects)) (sym next) ∙ if_function is n heap.objects refl ∙ so_far.made;
        many = if_length is n heap.objects ∙ so_far.many;
        started = if_started is n heap.objects so_far.started;
      })

  pub ends : (n : ℕ) (heap : PlainObjects T) → length initial.objects ≤ n → Accessing initial n heap → heap ≡ changed with_accessors initial
  ends n heap past so_far =
      let many = so_far.many in
      ap (λ l. record { label = l; objects = heap.objects }) so_far.label_is
      ∙ ap (λ os. record { label = initial.label; objects = os }) (sym (none_from n heap.objects (omega (arith, past, many))) ∙ so_far.made)
