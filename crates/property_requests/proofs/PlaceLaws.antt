-- The place of a definition, in a reading of the labels.
use Rattle.std.proofs.Common.{◌≡◌, ℕ, Bool, true, false, ◌&&◌, List, Option, Some, None, IsSome, refl, sym, ap, ap₂, subst, ◌∙◌}
use Rattle.std.specs.List.{slice_get}
use Rattle.std.specs.Option.{option_map}
use Rattle.origin_labels.specs.Label.{Label, IsLabel, union}
use Rattle.origin_labels.proofs.LabelLaws.{union-assoc, union-bottom}
use Rattle.js_values.specs.declared.property.Slot.{Slot}
use Rattle.js_values.specs.Arrays.{element_of, element_label, length_key}
use Rattle.js_values.specs.Objects.{Object, own}
use Rattle.js_values.specs.Readings.{HasHeap, read_object, read_slot}
use Rattle.object_heap.specs.declared.shape.Shape.{Shape}
use Rattle.object_heap.specs.Formed.{own_in, IsShape}
use Rattle.object_heap.proofs.ReadLaws.{read_own}
use Rattle.prototype_walk.specs.Answers.{Means}
use Rattle.prototype_walk.specs.Plans.{gets_element}
use Rattle.flow_meaning.specs.Requested.{definition_test, own_test, own_walk}
use Rattle.property_requests.specs.Defining.{may_add_in, may_hold, test_of_definition}
use Rattle.property_requests.proofs.HeldLaws.{object_has, shape_there}

and_true : (x : Bool) → (x && true) ≡ x
and_true true = refl
and_true false = refl

-- a property that is there
present_test : (x : Option (Slot Label)) (key : List ℕ) (p : Object Label) → IsSome x → own_test x p.structure ≡ definition_test key x p
present_test None key p some = cc
present_test (Some s) key p some = refl

some_read : {T : Type 0} (reading : T → Label) (x : Option (Slot T)) → IsSome x → IsSome (option_map (read_slot reading) x)
some_read reading None some = cc
some_read reading (Some s) some = refl

walk_present : {T : Type 0} (reading : T → Label) (key : List ℕ) (q : Option (Object T)) → IsSome (own_in key q) → own_walk key (option_map (read_object reading) q) ≡ test_of_definition reading key q
walk_present reading key None some = cc
walk_present reading key (Some p) some =
    let q = read_object reading p in
    present_test (own key q.rows) key q (subst (λ (x : Option (Slot Label)). IsSome x) (sym (read_own reading key p.rows)) (some_read reading (own key p.rows) some))

-- one that isn't
absent_read : {T : Type 0} (reading : T → Label) (key : List ℕ) (p : Object T) → own key p.rows ≡ None → own key (read_object reading p).rows ≡ None
absent_read reading key p none = read_own reading key p.rows ∙ ap (option_map (read_slot reading)) none

walk_absent : {T : Type 0} (reading : T → Label) (key : List ℕ) (p : Object T) → own key p.rows ≡ None → own_walk key (Some (read_object reading p)) ≡ reading p.structure
walk_absent reading key p none = ap (λ (x : Option (Slot Label)). own_test x (reading p.structure)) (absent_read reading key p none)

test_absent : {T : Type 0} (reading : T → Label) (key : List ℕ) (p : Object T) → own key p.rows ≡ None → test_of_definition reading key (Some p) ≡ union (reading p.structure) (element_label (element_of p.class key) (option_map (read_slot reading) (own length_key p.rows)))
test_absent reading key p none =
    ap (λ (x : Option (Slot Label)). definition_test key x (read_object reading p)) (absent_read reading key p none)
    ∙ ap (λ (x : Option (Slot Label)). union (reading p.structure) (element_label (element_of p.class key) x)) (read_own reading length_key p.rows)

module _ {S T : Type 0} (made : S → T → Type 0) (meaning : S → T → Label) (store : S) (heap : List (Object T)) (o : ℕ) (key : List ℕ) (label : T) where
  abbrev walks : (T → Label) → Label
  walks reading = union (reading label) (own_walk key (option_map (read_object reading) (slice_get heap o)))

  abbrev tests : (T → Label) → Label
  tests reading = union (reading label) (test_of_definition reading key (slice_get heap o))

  pub place_present : (place : T) → IsSome (own_in key (slice_get heap o)) → Means made meaning store place walks → Means made meaning store place tests
  place_present place some means = record { belongs = means.belongs; is = λ reading agrees. means.is reading agrees ∙ ap (union (reading label)) (walk_present reading key (slice_get heap o) some) }

  module _ (shape : Shape T) (is : IsShape (slice_get heap o) shape) (none : own_in key (slice_get heap o) ≡ None) where
    pub place_absent : (rising : (store : S) (label : T) → made store label → IsLabel (meaning store label)) → HasHeap (made store) heap → (place : T) → element_of shape.class key ≡ None → Means made meaning store place walks → Means made meaning store place tests
    place_absent rising has place element means =
        let there = shape_there heap o shape is in
        let p = there.object in
        let absent : own key p.rows ≡ None = sym (ap (own_in key) there.here) ∙ none in
        let no_element : element_of p.class key ≡ None = sym (ap (λ (x : Shape T). element_of x.class key) there.is) ∙ element in
        let structured = (object_has (made store) heap o p has there.here).structure in
        record {
          belongs = means.belongs;
          is = λ reading agrees.
              means.is reading agrees
              ∙ ap (λ x. union (reading label) (own_walk key (option_map (read_object reading) x))) there.here
              ∙ ap (union (reading label))
              (walk_absent reading key p absent
              ∙ sym (union-bottom (reading p.structure) (subst IsLabel (sym (agrees.agrees p.structure structured)) (rising store p.structure structured)))
              ∙ sym (test_absent reading key p absent ∙ ap (λ e. union (reading p.structure) (element_label e (option_map (read_slot reading) (own length_key p.rows)))) no_element))
              ∙ ap (λ x. union (reading label) (test_of_definition reading key x)) (sym there.here);
        }

    pub allowed_absent : element_of shape.class key ≡ None → shape.extensible ≡ may_add_in key (slice_get heap o)
    allowed_absent element =
        let there = shape_there heap o shape is in
        let p = there.object in
        let no_element : element_of p.class key ≡ None = sym (ap (λ (x : Shape T). element_of x.class key) there.is) ∙ element in
        ap (λ (x : Shape T). x.extensible) there.is ∙ sym (and_true p.extensible) ∙ ap (λ e. p.extensible && may_hold e (own length_key p.rows)) (sym no_element) ∙ ap (may_add_in key) (sym there.here)

    module _ (i : ℕ) (element : element_of shape.class key ≡ Some i) where
      pub place_element : (rising : (store : S) (label : T) → made store label → IsLabel (meaning store label)) → (place room joined : T) → Means made meaning store place walks → Means made meaning store room (λ reading. element_label (Some i) (option_map (read_slot reading) (own_in length_key (slice_get heap o))))
          → Means made meaning store joined (λ reading. union (reading place) (reading room)) → Means made meaning store joined tests
      place_element rising place room joined means roomy joins =
          let there = shape_there heap o shape is in
          let p = there.object in
          let absent : own key p.rows ≡ None = sym (ap (own_in key) there.here) ∙ none in
          let the_element : element_of p.class key ≡ Some i = sym (ap (λ (x : Shape T). element_of x.class key) there.is) ∙ element in
          record {
            belongs = joins.belongs;
            is = λ reading agrees.
                let beside = element_label (Some i) (option_map (read_slot reading) (own length_key p.rows)) in
                let roomed : reading room ≡ beside = roomy.is reading agrees ∙ ap (λ x. element_label (Some i) (option_map (read_slot reading) (own_in length_key x))) there.here in
                joins.is reading agrees
                ∙ ap₂ union (means.is reading agrees ∙ ap (λ x. union (reading label) (own_walk key (option_map (read_object reading) x))) there.here ∙ ap (union (reading label)) (walk_absent reading key p absent)) roomed
                ∙ union-assoc (reading label) (reading p.structure) beside (subst IsLabel (sym (agrees.agrees room roomy.belongs) ∙ roomed) (rising store room roomy.belongs))
                ∙ ap (union (reading label)) (sym (test_absent reading key p absent ∙ ap (λ e. union (reading p.structure) (element_label e (option_map (read_slot reading) (own length_key p.rows)))) the_element))
                ∙ ap (λ x. union (reading label) (test_of_definition reading key x)) (sym there.here);
          }

      pub allowed_element : (room both : Bool) → room ≡ gets_element (Some i) (own_in length_key (slice_get heap o)) → both ≡ (shape.extensible && room) → both ≡ may_add_in key (slice_get heap o)
      allowed_element room both allows is_both =
          let there = shape_there heap o shape is in
          let p = there.object in
          let the_element : element_of p.class key ≡ Some i = sym (ap (λ (x : Shape T). element_of x.class key) there.is) ∙ element in
          is_both
          ∙ ap₂ (λ (x : Shape T) (y : Bool). x.extensible && y) there.is (allows ∙ ap (λ x. gets_element (Some i) (own_in length_key x)) there.here ∙ holds i (own length_key p.rows))
          ∙ ap (λ e. p.extensible && may_hold e (own length_key p.rows)) (sym the_element) ∙ ap (may_add_in key) (sym there.here)
        where
          holds : (i : ℕ) (x : Option (Slot T)) → gets_element (Some i) x ≡ may_hold (Some i) x
          holds i None = refl
          holds i (Some x) = refl
