-- What a heap has at a number, as its calls tell it.
use Rattle.std.proofs.Common.{◌≡◌, ◌<◌, ℕ, zero, suc, true, false, List, [], ◌∷◌, length, get_or, Option, Some, None, IsSome, is_some, sym, ap, subst, ◌∙◌, arith, refl}
use Rattle.std.specs.List.{slice_get}
use Rattle.std.specs.Option.{option_map}
use Rattle.std.proofs.lemmas.Option.{none-some, same_Some, slice_get-get_or, slice_get_within}
use Rattle.origin_labels.specs.Label.{Label, bottom}
use Rattle.js_values.specs.declared.property.Slot.{Slot}
use Rattle.js_values.specs.Objects.{Object, own}
use Rattle.js_values.specs.Readings.{HasObject, HasHeap, read_slot, read_object}
use Rattle.object_heap.specs.declared.shape.Shape.{Shape}
use Rattle.object_heap.specs.Formed.{own_in, IsShape}
use Rattle.object_heap.proofs.ReadLaws.{read_own}
use Rattle.flow_meaning.specs.Requested.{own_test, own_walk, value_label}
use Rattle.prototype_walk.specs.Answers.{Means}
use Rattle.property_access.proofs.HeldLaws.{own_has}
use Rattle.property_requests.specs.Finding.{tested, IsTest}

-- an element stands at each number below the length
pub stands : {X : Type 0} (xs : List X) (i : ℕ) → i < length xs → slice_get xs i ≡ None → ⊥
stands [] i lt none = omega (arith, lt)
stands (x ∷ xs) zero lt none = none-some x (sym none)
stands (x ∷ xs) (suc i) lt none = stands xs i (omega (arith, lt)) none

module _ {T : Type 0} where
  -- ---- objects and properties with labels of a store

  module _ (made : T → Type 0) where
    pub object_has : (heap : List (Object T)) (i : ℕ) (p : Object T) → HasHeap made heap → slice_get heap i ≡ Some p → HasObject made p
    object_has heap i p has here =
        let lt = slice_get_within heap i p here in
        subst (HasObject made) (same_Some (get_or heap i p) p (sym (slice_get-get_or heap i p lt) ∙ here)) (has i p lt)

  -- ---- the shape of an object

  -- an object that stands there, with its shape
  pub record HasShape (heap : List (Object T)) (i : ℕ) (shape : Shape T) : Type 0 where
    pub object : Object T
    pub here : slice_get heap i ≡ Some object
    pub is : shape ≡ record { class = object.class; proto = object.proto; link = object.link; structure = object.structure; extensible = object.extensible }

  pub shape_there : (heap : List (Object T)) (i : ℕ) (shape : Shape T) → IsShape (slice_get heap i) shape → HasShape heap i shape
  shape_there heap i shape is = at (slice_get heap i) refl is
    where
      at : (o : Option (Object T)) → slice_get heap i ≡ o → IsShape o shape → HasShape heap i shape
      at None here is = absurd is
      at (Some p) here is = record { object = p; here = here; is = is }

  module _ (made : T → Type 0) (heap : List (Object T)) (i : ℕ) (shape : Shape T) (has : HasHeap made heap) (is : IsShape (slice_get heap i) shape) where
    pub link_has : made shape.link
    link_has =
        let there = shape_there heap i shape is in
        subst made (sym (ap (λ (q : Shape T). q.link) there.is)) (object_has made heap i there.object has there.here).link

  -- ---- the own test

  pub test_absent : (key : List ℕ) (o : Option (Object T)) (shape : Shape T) → IsShape o shape → own_in key o ≡ None → IsTest key o shape.structure
  test_absent key None shape is none = absurd is
  test_absent key (Some p) shape is none = ap (λ (q : Shape T). q.structure) is ∙ sym (ap (λ (s : Option (Slot T)). tested s p.structure) none)

  pub test_present : (key : List ℕ) (o : Option (Object T)) (s : Slot T) → own_in key o ≡ Some s → IsTest key o s.existence
  test_present key None s is = absurd (none-some s is)
  test_present key (Some p) s is = sym (ap (λ (q : Option (Slot T)). tested q p.structure) is)

  pub test_has : (made : T → Type 0) (heap : List (Object T)) (i : ℕ) (key : List ℕ) (test : T) → HasHeap made heap → IsTest key (slice_get heap i) test → made test
  test_has made heap i key test has is = at (slice_get heap i) refl is
    where
      made_by : (p : Object T) → slice_get heap i ≡ Some p → (s : Option (Slot T)) → own key p.rows ≡ s → made (tested s p.structure)
      made_by p here None e = (object_has made heap i p has here).structure
      made_by p here (Some s) e = (own_has heap i made key s has (ap (own_in key) here ∙ e)).1

      at : (o : Option (Object T)) → slice_get heap i ≡ o → IsTest key o test → made test
      at None here is = absurd is
      at (Some p) here is = subst made (sym is) (made_by p here (own key p.rows) refl)

  -- ---- in a reading

  module _ (reading : T → Label) where
    read_tested : (s : Option (Slot T)) (structure : T) → reading (tested s structure) ≡ own_test (option_map (read_slot reading) s) (reading structure)
    read_tested None structure = refl
    read_tested (Some s) structure = refl

    pub read_test : (key : List ℕ) (o : Option (Object T)) (test : T) → IsTest key o test → reading test ≡ own_walk key (option_map (read_object reading) o)
    read_test key None test is = absurd is
    read_test key (Some p) test is = ap reading is ∙ read_tested (own key p.rows) p.structure ∙ sym (ap (λ s. own_test s (reading p.structure)) (read_own reading key p.rows))

    pub read_own_in : (key : List ℕ) (o : Option (Object T)) → own_in key (option_map (read_object reading) o) ≡ option_map (read_slot reading) (own_in key o)
    read_own_in key None = refl
    read_own_in key (Some p) = read_own reading key p.rows

-- ---- what a call tells of an option

pub some_mapped : {A B : Type 0} (f : A → B) (o : Option A) (p : Option B) → option_map f o ≡ p → is_some o ≡ true → IsSome p
some_mapped f (Some a) p e some = subst IsSome e refl
some_mapped f None p e some = cc

pub none_mapped : {A B : Type 0} (f : A → B) (o : Option A) (p : Option B) → option_map f o ≡ p → is_some o ≡ false → p ≡ None
none_mapped f (Some a) p e none = cc
none_mapped f None p e none = sym e

pub never_some : {A : Type 0} (o : Option A) → o ≡ None → IsSome o → ⊥
never_some None e some = cc
never_some (Some a) e some = none-some a (sym e)

-- what was taken out of one
pub unwrapped : {A B : Type 0} (f : A → B) (o : Option A) (p : Option B) (a : A) → option_map f o ≡ p → o ≡ Some a → p ≡ Some (f a)
unwrapped f o p a e is = sym e ∙ ap (option_map f) is

-- ---- the value label of a property that there may be

module _ {S T : Type 0} (made : S → T → Type 0) (meaning : S → T → Label) (store : S) where
  pub held_none : (s : Option (Slot T)) → s ≡ None → (label : T) → made store label → meaning store label ≡ bottom → Means made meaning store label (λ reading. value_label (option_map (read_slot reading) s))
  held_none s none label m is = record { belongs = m; is = λ reading agrees. agrees.agrees label m ∙ is ∙ sym (ap (λ x. value_label (option_map (read_slot reading) x)) none) }

  pub held_some : (heap : List (Object T)) (i : ℕ) (key : List ℕ) → HasHeap (made store) heap → (s : Slot T) → own_in key (slice_get heap i) ≡ Some s → Means made meaning store s.label (λ reading. value_label (option_map (read_slot reading) (own_in key (slice_get heap i))))
  held_some heap i key has s is = record { belongs = (own_has heap i (made store) key s has is).0; is = λ reading agrees. sym (ap (λ x. value_label (option_map (read_slot reading) x)) is) }
