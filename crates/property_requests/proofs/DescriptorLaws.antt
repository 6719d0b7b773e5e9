-- What is given, in a later store, and objects that can be called.
use Rattle.std.proofs.Common.{◌≡◌, ◌<◌, ℕ, Bool, true, List, length, Option, Some, None, refl, sym, ap, subst, ◌∙◌}
use Rattle.std.specs.List.{slice_get}
use Rattle.std.specs.Option.{option_map}
use Rattle.std.proofs.lemmas.Option.{slice_get_within}
use Rattle.std.proofs.lemmas.Bool.{false≢true}
use Rattle.js_values.specs.Objects.{Object}
use Rattle.es_meaning.specs.Requested.{is_function_in}
use Rattle.flow_meaning.specs.Erased.{erased_heap, erased_object}
use Rattle.property_requests.proofs.ErasedLaws.{erased_at}
use Rattle.origin_labels.specs.Label.{Label, bottom}
use Rattle.origin_labels.specs.Stores.{IsKept}
use Rattle.js_values.specs.declared.value.Labelled.{Labelled}
use Rattle.prototype_walk.specs.Answers.{Means}
use Rattle.property_requests.specs.declared.descriptor.Descriptor.{Descriptor}
use Rattle.property_requests.specs.declared.defining.NewBody.{NewBody}
use Rattle.property_requests.specs.Defining.{HasDescriptor, HasGiven, HasNewBody, given_in}

module _ {S T : Type 0} (made : S → T → Type 0) (meaning : S → T → Label) (room : S → ℕ) (firm : S → Bool) (old new : S) (kept : IsKept made meaning room firm old new) where
  given_later : (v : Option (Labelled T)) → HasGiven (made old) v → HasGiven (made new) v
  given_later None has = tt
  given_later (Some v) has = (kept.labels v.label has).0

  pub descriptor_later : (d : Descriptor T) → HasDescriptor (made old) d → HasDescriptor (made new) d
  descriptor_later d has = record { value = given_later d.value has.value; get = given_later d.get has.get; set = given_later d.set has.set }

  pub body_later : (b : Option (NewBody T)) → HasNewBody (made old) b → HasNewBody (made new) b
  body_later None has = tt
  body_later (Some b) has = (kept.labels b.label has).0

-- what can be called is there
pub function_there : {T : Type 0} (heap : List (Object T)) (o : ℕ) → is_function_in (slice_get (erased_heap heap) o) ≡ true → o < length heap
function_there heap o test = at (slice_get heap o) refl
  where
    at : (p : Option (Object _)) → slice_get heap o ≡ p → o < length heap
    at (Some p) here = slice_get_within heap o p here
    at None here = absurd (false≢true (sym (ap is_function_in (erased_at heap o ∙ ap (option_map erased_object) here)) ∙ test))

-- ---- the label of a value that may be given

module _ {S T : Type 0} (made : S → T → Type 0) (meaning : S → T → Label) (store : S) (v : Option (Labelled T)) where
  abbrev Labels : T → Type 0
  Labels label = Means made meaning store label (λ reading. (given_in reading v).label)

  pub given_none : v ≡ None → (label : T) → made store label → meaning store label ≡ bottom → Labels label
  given_none none label m empty = record { belongs = m; is = λ reading agrees. agrees.agrees label m ∙ empty ∙ sym (ap (λ (x : Option (Labelled T)). (given_in reading x).label) none) }

  pub given_some : (u : Labelled T) → v ≡ Some u → HasGiven (made store) v → Labels u.label
  given_some u is has = record { belongs = subst (HasGiven (made store)) is has; is = λ reading agrees. sym (ap (λ (x : Option (Labelled T)). (given_in reading x).label) is) }
