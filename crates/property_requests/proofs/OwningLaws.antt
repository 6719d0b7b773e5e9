-- What is known of an own property, in a reading of the labels.
use Rattle.std.proofs.Common.{◌≡◌, ◌≤◌, ◌<◌, ℕ, List, length, Option, Some, None, sym, ap, subst, ◌∙◌, refl}
use Rattle.std.specs.List.{slice_get}
use Rattle.std.specs.Option.{option_map}
use Rattle.std.proofs.lemmas.Option.{none-some, slice_get_past}
use Rattle.origin_labels.specs.Label.{Label, IsLabel, union}
use Rattle.origin_labels.proofs.LabelLaws.{union-bottom}
use Rattle.js_values.specs.declared.property.Slot.{Slot}
use Rattle.js_values.specs.declared.value.Labelled.{Labelled}
use Rattle.js_values.specs.Objects.{Object, own}
use Rattle.js_values.specs.Readings.{read_slot, read_object, read_value}
use Rattle.object_heap.specs.Formed.{own_in}
use Rattle.object_heap.proofs.ReadLaws.{read_own}
use Rattle.prototype_walk.specs.Answers.{Means}
use Rattle.es_meaning.specs.Operations.{OwnPart, own_marks, own_value, own_getter, own_setter}
use Rattle.es_meaning.specs.Outcomes.{Goes}
use Rattle.es_meaning.specs.Requested.{part_of_property}
use Rattle.flow_meaning.specs.Erased.{erased_slot}
use Rattle.flow_meaning.specs.Requested.{known_of, own_test, own_walk, part_label}
use Rattle.flow_meaning.specs.Scopes.{State, Val}
use Rattle.flow_meaning.specs.Tracked.{own_property_in}
use Rattle.property_requests.specs.Finding.{Finds, nothing}
use Rattle.property_requests.specs.declared.owning.OwnProperty.{OwnProperty}
use Rattle.property_requests.specs.Owning.{own_label, part_in, HasParts}
use Rattle.property_requests.proofs.HeldLaws.{stands}

pub nothing_of : {T : Type 0} (p : OwnProperty T) (v : Labelled T) → p.marks ≡ v → p.value ≡ v → p.get ≡ v → p.set ≡ v → (part : OwnPart) → part_in part p ≡ v
nothing_of p v marks value get set own_marks = marks
nothing_of p v marks value get set own_value = value
nothing_of p v marks value get set own_getter = get
nothing_of p v marks value get set own_setter = set

-- ---- labels of the parts

module _ {T : Type 0} (made : T → Type 0) (p : OwnProperty T) where
  parts_have : ((part : OwnPart) → made (part_in part p).label) → HasParts made p
  parts_have has = record { marks = has own_marks; value = has own_value; get = has own_getter; set = has own_setter }

  pub nothing_has : (label : T) → made label → ((part : OwnPart) → part_in part p ≡ nothing label) → HasParts made p
  nothing_has label m is = parts_have (λ part. subst made (sym (ap (λ (v : Labelled T). v.label) (is part))) m)

  label_made : (place depends : T) → made place → made depends → (part : OwnPart) → made (own_label part place depends)
  label_made place depends m n own_marks = m
  label_made place depends m n own_value = n
  label_made place depends m n own_getter = n
  label_made place depends m n own_setter = n

  pub parts_has : (slot : Slot T) (place depends : T) → made place → made depends → ((part : OwnPart) → part_in part p ≡ record { value = part_of_property part (erased_slot slot); label = own_label part place depends }) → HasParts made p
  parts_has slot place depends m n is = parts_have (λ part. subst made (sym (ap (λ (v : Labelled T). v.label) (is part))) (label_made place depends m n part))

-- ---- each part

module _ {S T : Type 0} (made : S → T → Type 0) (meaning : S → T → Label) (store : S) (heap : List (Object T)) (o : ℕ) (key : List ℕ) (part : OwnPart) (label : T) where
  abbrev pub Known : Labelled T → Type 0
  Known v = Finds made meaning store (λ reading. own_property_in part key (reading label) (option_map (read_object reading) (slice_get heap o))) v

  pub known_nowhere : (v : Labelled T) → v ≡ nothing label → length heap ≤ o → Known v
  unfolding own_property_in
  known_nowhere v is past = record {
    says = λ reading agrees s.
        ap (λ p. own_property_in part key (reading label) (option_map (read_object reading) p) s) (slice_get_past heap o past)
        ∙ ap (λ (x : Labelled T). Goes (read_value reading x) s) (sym is);
  }

  abbrev pub Placed : T → Type 0
  Placed place = Means made meaning store place (λ reading. union (reading label) (own_walk key (option_map (read_object reading) (slice_get heap o))))

  pub known_absent : (place : T) (v : Labelled T) → v ≡ nothing place → o < length heap → own_in key (slice_get heap o) ≡ None → Placed place → Known v
  unfolding own_property_in
  known_absent place v is lt none means = record {
    says = λ reading agrees s.
        at reading s (slice_get heap o) (stands heap o lt) none
        ∙ ap (λ (l : Label). Goes (nothing l) s) (sym (means.is reading agrees))
        ∙ ap (λ (x : Labelled T). Goes (read_value reading x) s) (sym is);
  }
    where
      by : (l structure : Label) (q : Option (Slot Label)) → q ≡ None → known_of part l structure q ≡ nothing (union l (own_test q structure))
      by l structure None none = refl
      by l structure (Some x) none = absurd (none-some x (sym none))

      at : (reading : T → Label) (s : State) (p : Option (Object T)) → (p ≡ None → ⊥) → own_in key p ≡ None → own_property_in part key (reading label) (option_map (read_object reading) p) s ≡ Goes (nothing (union (reading label) (own_walk key (option_map (read_object reading) p)))) s
      at reading s None there none = absurd (there refl)
      at reading s (Some p) there none = ap (λ (x : Val). Goes x s) (by (reading label) (reading p.structure) (own key (read_object reading p).rows) (read_own reading key p.rows ∙ ap (option_map (read_slot reading)) none))

  -- a part of the property, where this tells that it is there
  abbrev present : (T → Label) → Slot T → Label → Val
  present reading slot place = record { value = part_of_property part (erased_slot slot); label = union place (part_label part (reading slot.label)) }

  pub known_present : (rising : (store : S) (label : T) → made store label → IsLabel (meaning store label)) (slot : Slot T) (place depends : T) (v : Labelled T) → v ≡ record { value = part_of_property part (erased_slot slot); label = own_label part place depends }
      → own_in key (slice_get heap o) ≡ Some slot → Placed place → Means made meaning store depends (λ reading. union (reading place) (reading slot.label)) → Known v
  unfolding own_property_in
  known_present rising slot place depends v is here means joined = record {
    says = λ reading agrees s.
        at reading s (slice_get heap o) here
        ∙ ap (λ (l : Label). Goes (present reading slot l) s) (sym (means.is reading agrees))
        ∙ ap (λ (l : Label). Goes (record { value = part_of_property part (erased_slot slot); label = l }) s) (labelled reading (subst IsLabel (sym (agrees.agrees place means.belongs)) (rising store place means.belongs)) (joined.is reading agrees) part)
        ∙ ap (λ (x : Labelled T). Goes (read_value reading x) s) (sym is);
  }
    where
      labelled : (reading : T → Label) → IsLabel (reading place) → reading depends ≡ union (reading place) (reading slot.label) → (p : OwnPart) → union (reading place) (part_label p (reading slot.label)) ≡ reading (own_label p place depends)
      labelled reading rises both own_marks = union-bottom (reading place) rises
      labelled reading rises both own_value = sym both
      labelled reading rises both own_getter = sym both
      labelled reading rises both own_setter = sym both

      by : (reading : T → Label) (l structure : Label) (q : Option (Slot Label)) → q ≡ Some (read_slot reading slot) → known_of part l structure q ≡ present reading slot (union l (own_test q structure))
      by reading l structure q there = ap (known_of part l structure) there ∙ ap (λ (x : Option (Slot Label)). present reading slot (union l (own_test x structure))) (sym there)

      at : (reading : T → Label) (s : State) (p : Option (Object T)) → own_in key p ≡ Some slot → own_property_in part key (reading label) (option_map (read_object reading) p) s ≡ Goes (present reading slot (union (reading label) (own_walk key (option_map (read_object reading) p)))) s
      at reading s None there = absurd (none-some slot there)
      at reading s (Some p) there = ap (λ (x : Val). Goes x s) (by reading (reading label) (reading p.structure) (own key (read_object reading p).rows) (read_own reading key p.rows ∙ ap (option_map (read_slot reading)) there))
