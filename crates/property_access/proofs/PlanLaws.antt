-- What the plan of a put says of the object.
use Rattle.std.proofs.Common.{◌≡◌, ◌<◌, ℕ, Bool, true, false, ◌&&◌, List, length, Option, Some, None, IsSome, refl, sym, ap, subst, ◌∙◌}
use Rattle.std.specs.List.{slice_get}
use Rattle.std.specs.Option.{option_map}
use Rattle.std.proofs.lemmas.Bool.{false≢true}
use Rattle.std.proofs.lemmas.Option.{none-some, slice_get-map, slice_get_within}
use Rattle.origin_labels.specs.Label.{Label, union}
use Rattle.js_values.specs.declared.ids.ObjId.{ObjId}
use Rattle.js_values.specs.declared.property.Body.{Body}
use Rattle.js_values.specs.declared.property.Body.TheVariants.{Data, Accessor}
use Rattle.js_values.specs.declared.property.Slot.{Slot}
use Rattle.js_values.specs.Chains.{beginning, onwards, chain_within}
use Rattle.js_values.specs.Objects.{Object, number_of, own}
use Rattle.js_values.specs.Readings.{read_slot, read_object, read_heap}
use Rattle.js_values.specs.Walks.{Found, find, object_chain}
use Rattle.object_heap.specs.Formed.{own_in}
use Rattle.object_heap.proofs.ReadLaws.{read_own}
use Rattle.prototype_walk.specs.declared.plan.PutPlan.{PutPlan}
use Rattle.prototype_walk.specs.declared.plan.PutPlan.TheVariants.{Write, Add, Setter, Refused}
use Rattle.prototype_walk.specs.Answers.{IsPlan, read_plan}
use Rattle.prototype_walk.specs.Plans.{if_allowed, setter_plan, own_plan, inherited_plan, beyond_plan, may_add, absence_label, plan_at, can_put}
use Rattle.flow_meaning.specs.Tracked.{is_length_in}
use Rattle.property_access.specs.Elements.{length_in}

-- ---- which plan it is

abbrev pub writes : {T : Type 0} → PutPlan T → Bool
writes (Write walk) = true
writes (Add walk) = false
writes (Setter at walk) = false
writes (Refused walk) = false

abbrev pub adds : {T : Type 0} → PutPlan T → Bool
adds (Write walk) = false
adds (Add walk) = true
adds (Setter at walk) = false
adds (Refused walk) = false

allowed_or_not : (test : PutPlan Label → Bool) (b : Bool) (plan : PutPlan Label) (walk : Label) → test plan ≡ false → test (Refused walk) ≡ false → test (if_allowed b plan walk) ≡ false
allowed_or_not test true plan walk that refused = that
allowed_or_not test false plan walk that refused = refused

-- no setter is called by a write or an addition
setter_writes : (at : ℕ) (set : Option ObjId) (label walk : Label) → writes (setter_plan at set label walk) ≡ false
setter_writes at None label walk = refl
setter_writes at (Some f) label walk = refl

setter_adds : (at : ℕ) (set : Option ObjId) (label walk : Label) → adds (setter_plan at set label walk) ≡ false
setter_adds at None label walk = refl
setter_adds at (Some f) label walk = refl

-- what prototypes allow is no write
inherited_writes : (extensible : Bool) (at : ℕ) (s : Slot Label) (body : Body) (walk : Label) → writes (inherited_plan extensible at s body walk) ≡ false
inherited_writes extensible at s (Data v) walk = allowed_or_not writes (extensible && s.marks.writable) (Add walk) walk refl refl
inherited_writes extensible at s (Accessor get set) walk = setter_writes at set s.label walk

beyond_writes : (extensible : Bool) (f : Option (ℕ × Slot Label)) (walk : Label) → writes (beyond_plan extensible f walk) ≡ false
beyond_writes extensible None walk = allowed_or_not writes extensible (Add walk) walk refl refl
beyond_writes extensible (Some f) walk = inherited_writes extensible f.0 f.1 f.1.body walk

-- what the object's own property allows is no addition
own_adds : (o : ℕ) (s : Slot Label) (body : Body) (walk : Label) → adds (own_plan o s body walk) ≡ false
own_adds o s (Data v) walk = allowed_or_not adds s.marks.writable (Write walk) walk refl refl
own_adds o s (Accessor get set) walk = setter_adds o set s.label walk

-- ---- an object whose property is written has it, and one that gets a property is there, and hasn't it

plan_own : (key : List ℕ) (o : ℕ) (p : Object Label) (s : Option (Slot Label)) (rest : Found) → writes (plan_at key o p s rest) ≡ true → IsSome s
plan_own key o p (Some s) rest holds = refl
plan_own key o p None rest holds = absurd (false≢true (sym (beyond_writes (may_add key p) rest.at (union (absence_label key p) (union p.link rest.walk))) ∙ holds))

plan_none : (key : List ℕ) (o : ℕ) (p : Object Label) (s : Option (Slot Label)) (rest : Found) → adds (plan_at key o p s rest) ≡ true → s ≡ None
plan_none key o p (Some s) rest holds = absurd (false≢true (sym (own_adds o s s.body s.existence) ∙ holds))
plan_none key o p None rest holds = refl

module _ (key : List ℕ) (o : ℕ) (behind : Object Label → List (ℕ × Object Label)) where
  writes_own : (p : Option (Object Label)) → writes (can_put key (beginning o p behind)) ≡ true → IsSome (own_in key p)
  writes_own None holds = absurd (false≢true holds)
  writes_own (Some p) holds = plan_own key o p (own key p.rows) (find key (behind p)) holds

  adds_none : (p : Option (Object Label)) → adds (can_put key (beginning o p behind)) ≡ true → IsSome p × (own_in key p ≡ None)
  adds_none None holds = absurd (false≢true holds)
  adds_none (Some p) holds = (refl, plan_none key o p (own key p.rows) (find key (behind p)) holds)

module _ {T : Type 0} (reading : T → Label) (key : List ℕ) where
  own_alike : (p : Option (Object T)) → own_in key (option_map (read_object reading) p) ≡ option_map (read_slot reading) (own_in key p)
  own_alike None = refl
  own_alike (Some p) = read_own reading key p.rows

  some_mapped : {A B : Type 0} (f : A → B) (o : Option A) → IsSome (option_map f o) → IsSome o
  some_mapped f None holds = holds
  some_mapped f (Some a) holds = refl

  none_mapped : {A B : Type 0} (f : A → B) (o : Option A) → option_map f o ≡ None → o ≡ None
  none_mapped f None e = refl
  none_mapped f (Some a) e = absurd (none-some (f a) (sym e))

module _ {S T : Type 0} (made : S → T → Type 0) (meaning : S → T → Label) (store : S) (heap : List (Object T)) (o : ℕ) (key : List ℕ) (plan : PutPlan T) (walk : T) (is : IsPlan made meaning store (λ reading. can_put key (object_chain (read_heap reading heap) o)) plan) where
  -- as the store itself reads
  abbrev here : T → Label
  here = meaning store

  planned : read_plan here plan ≡ can_put key (object_chain (read_heap here heap) o)
  planned = is.is here (record { agrees = λ label m. refl })

  abbrev behind : Object Label → List (ℕ × Object Label)
  behind a = onwards (number_of a.proto) (chain_within (λ p. number_of p.proto) (read_heap here heap) o)

  pub written_has : plan ≡ Write walk → IsSome (own_in key (slice_get heap o))
  written_has this =
      let holds : writes (can_put key (object_chain (read_heap here heap) o)) ≡ true = ap writes (sym planned ∙ ap (read_plan here) this) in
      let has = writes_own key o behind (slice_get (read_heap here heap) o) holds in
      some_mapped here key (read_slot here) (own_in key (slice_get heap o)) (subst IsSome (ap (own_in key) (slice_get-map (read_object here) heap o) ∙ own_alike here key (slice_get heap o)) has)

  pub added_hasnt : plan ≡ Add walk → (o < length heap) × (own_in key (slice_get heap o) ≡ None)
  added_hasnt this =
      let holds : adds (can_put key (object_chain (read_heap here heap) o)) ≡ true = ap adds (sym planned ∙ ap (read_plan here) this) in
      let hasnt = adds_none key o behind (slice_get (read_heap here heap) o) holds in (
        within (slice_get heap o) refl (some_mapped here key (read_object here) (slice_get heap o) (subst IsSome (slice_get-map (read_object here) heap o) hasnt.0)),
        none_mapped here key (read_slot here) (own_in key (slice_get heap o)) (sym (ap (own_in key) (slice_get-map (read_object here) heap o) ∙ own_alike here key (slice_get heap o)) ∙ hasnt.1),
      )
    where
      within : (p : Option (Object T)) → slice_get heap o ≡ p → IsSome p → o < length heap
      within None there holds = absurd (false≢true holds)
      within (Some p) there holds = slice_get_within heap o p there

-- ---- the `length` of an array

pub read_length : {T : Type 0} (reading : T → Label) (key : List ℕ) (heap : List (Object T)) (o : ℕ) → is_length_in key (slice_get (read_heap reading heap) o) ≡ length_in key (slice_get heap o)
read_length reading key heap o = ap (is_length_in key) (slice_get-map (read_object reading) heap o) ∙ there (slice_get heap o)
  where
    there : (p : Option (Object _)) → is_length_in key (option_map (read_object reading) p) ≡ length_in key p
    there None = refl
    there (Some p) = refl
