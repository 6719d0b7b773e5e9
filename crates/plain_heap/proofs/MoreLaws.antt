-- Further objects, and what the last one is given.
use Rattle.std.proofs.Common.{refl, sym, ap, ◌∙◌, ◌≡◌, ◌+◌, ℕ, suc, List, [], ◌∷◌, ◌++◌, length, set, codes, Option, Some}
use Rattle.std.specs.List.{slice_get}
use Rattle.std.proofs.lemmas.List.{append_assoc, length-append}
use Rattle.js_values.specs.Objects.{PlainObject, Property}
use Rattle.es_meaning.specs.Objects.{defined, replaced, with_rows}
use Rattle.es_meaning.specs.Holders.{with_property_of}
use Rattle.es_meaning.specs.Start.{caller_accessor, arguments_accessor, fixed_accessor}
use Rattle.plain_heap.specs.Functions.{with_function_rows}
use Rattle.plain_heap.specs.PlainObjects.{PlainObjects, changed, with_more}

module _ {T : Type 0} where
  -- one change and then another
  pub change_then : (first middle last : PlainObjects T) (f g : List PlainObject → List PlainObject) → middle ≡ changed f first → last ≡ changed g middle → last ≡ changed (λ objects. g (f objects)) first
  change_then first middle last f g one more = more ∙ ap (changed g) one

  pub change_is : (first last : PlainObjects T) (f : List PlainObject → List PlainObject) (objects : List PlainObject) → last ≡ changed f first → f first.objects ≡ objects → last ≡ record { label = first.label; objects = objects }
  change_is first last f objects change is = change ∙ ap (λ os. record { label = first.label; objects = os }) is

  -- some objects and then others
  pub more_then : (first middle last : PlainObjects T) (some others : List PlainObject) → middle ≡ with_more some first → last ≡ with_more others middle → last ≡ with_more (some ++ others) first
  more_then first middle last some others one more =
      more ∙ ap (with_more others) one ∙ ap (λ os. record { label = first.label; objects = os }) (append_assoc first.objects some others)

  pub more_length : (first last : PlainObjects T) (p : PlainObject) → last ≡ with_more (p ∷ []) first → length last.objects ≡ length first.objects + 1
  more_length first last p is = ap (λ (h : PlainObjects T). length h.objects) is ∙ length-append first.objects (p ∷ [])

-- ---- the last object

last_there : (objects : List PlainObject) (q : PlainObject) → slice_get (objects ++ q ∷ []) (length objects) ≡ Some q
last_there [] q = refl
last_there (p ∷ objects) q = last_there objects q

last_set : (objects : List PlainObject) (q r : PlainObject) → set (objects ++ q ∷ []) (length objects) r ≡ objects ++ r ∷ []
last_set [] q r = refl
last_set (p ∷ objects) q r = ap (λ more. p ∷ more) (last_set objects q r)

-- it is given a property
pub last_given : (objects : List PlainObject) (q : PlainObject) (o : ℕ) (key : List ℕ) (p : Property) → o ≡ length objects → with_property_of o key p (objects ++ q ∷ []) ≡ objects ++ with_rows q (defined key p q.rows) ∷ []
last_given objects q o key p place =
    ap (λ n. with_property_of n key p (objects ++ q ∷ [])) place
    ∙ ap (λ (x : Option PlainObject). replaced x (length objects) (λ y. with_rows y (defined key p y.rows)) (objects ++ q ∷ [])) (last_there objects q)
    ∙ last_set objects q (with_rows q (defined key p q.rows))

-- ---- an object that was made, as it is given its properties in turn

-- with a property that it is given
abbrev pub given : List ℕ → Property → PlainObject → PlainObject
given key p q = with_rows q (defined key p q.rows)

module _ {T : Type 0} (first middle last : PlainObjects T) (q : PlainObject) (o : ℕ) (place : o ≡ length first.objects) (made : middle ≡ with_more (q ∷ []) first) where
  pub then_given : (key : List ℕ) (p : Property) → last ≡ changed (with_property_of o key p) middle → last ≡ with_more (given key p q ∷ []) first
  then_given key p gives =
      gives ∙ ap (changed (with_property_of o key p)) made ∙ ap (λ os. record { label = first.label; objects = os }) (last_given first.objects q o key p place)

  -- and those that each function has
  pub then_function_rows : last ≡ changed (with_function_rows o) middle → last ≡ with_more (given (codes "arguments") (fixed_accessor arguments_accessor) (given (codes "caller") (fixed_accessor caller_accessor) q) ∷ []) first
  then_function_rows gives =
      let caller = fixed_accessor caller_accessor in
      let arguments = fixed_accessor arguments_accessor in
      gives ∙ ap (changed (with_function_rows o)) made
      ∙ ap (λ os. record { label = first.label; objects = with_property_of o (codes "arguments") arguments os }) (last_given first.objects q o (codes "caller") caller place)
      ∙ ap (λ os. record { label = first.label; objects = os }) (last_given first.objects (given (codes "caller") caller q) o (codes "arguments") arguments place)
