-- New objects, in a reading of the labels.
use Rattle.std.proofs.Common.{arith, ◌≡◌, ◌≤◌, ℕ, zero, suc, Bool, List, [], ◌∷◌, ◌++◌, length, map, Option, Some, None, Ok, Err, Result, refl, sym, ap, ap₂, subst, ◌∙◌}
use Rattle.std.specs.Prelude.{IfOk, OnOk, OnErr}
use Rattle.std.specs.List.{All, slice_get}
use Rattle.std.specs.Option.{is_some, option_map}
use Rattle.std.proofs.lemmas.List.{length-map, map-append}
use Rattle.std.proofs.lemmas.List.Elements.{All-append}
use Rattle.std.proofs.lemmas.Option.{slice_get-map}
use Rattle.origin_labels.specs.Label.{Label, IsLabel, bottom, union}
use Rattle.origin_labels.specs.Stores.{IsKept}
use Rattle.flow_policy.specs.Policies.{Tables}
use Rattle.flow_policy.specs.Inputs.{Given}
use Rattle.flow_frames.specs.declared.faults.FlowFault.{FlowFault}
use Rattle.flow_frames.specs.Frames.{context}
use Rattle.flow_frames.specs.Held.{seen_frame}
use Rattle.js_values.specs.declared.ids.ObjId.{ObjId}
use Rattle.js_values.specs.declared.inner.Class.{Class}
use Rattle.js_values.specs.declared.inner.Class.TheVariants as class
use Rattle.js_values.specs.declared.inner.Inner.{Inner}
use Rattle.js_values.specs.declared.inner.Inner.TheVariants.{Plain}
use Rattle.js_values.specs.declared.value.Labelled.{Labelled}
use Rattle.js_values.specs.declared.value.Value.TheVariants as value
use Rattle.js_values.specs.Objects.{Object, fresh_object}
use Rattle.js_values.specs.Readings.{HasHeap, HasInner, HasObject, read_heap, read_object, read_value}
use Rattle.js_values.proofs.ReadingLaws.{IsReading-earlier}
use Rattle.object_heap.specs.Acts.{new_object}
use Rattle.prototype_walk.specs.Answers.{Means}
use Rattle.es_meaning.specs.Outcomes.{Goes}
use Rattle.es_meaning.specs.Operations as operations
use Rattle.es_meaning.specs.Requested.{class_prototype, made_of, prototype_given, standing_or_default}
use Rattle.es_meaning.specs.Start.{id}
use Rattle.flow_meaning.specs.Scopes.{Val, L}
use Rattle.flow_meaning.specs.Erased.{made_object}
use Rattle.flow_meaning.specs.Requested.{erased_in}
use Rattle.flow_meaning.specs.Tracked as tracked
use Rattle.flow_meaning.specs.Tracked.{act, make_new, make_new_by, with_link}
use Rattle.run_state.specs.declared.outcome.Outcome.{Outcome}
use Rattle.run_state.specs.declared.outcome.Outcome.TheVariants as outcome
use Rattle.run_state.specs.declared.world.World.{World}
use Rattle.run_state.specs.Acts.{Acts}
use Rattle.run_state.specs.Worlds.{state_of, Belongs}
use Rattle.run_state.proofs.ActLaws.{Acts-as, Belongs-later}
use Rattle.property_access.proofs.ObjectLaws.{with_heap}
use Rattle.property_requests.specs.Arrays.{MakesEmpty}
use Rattle.property_requests.specs.Making.{MakesOf, arguments_of, new_of, standing_in, standing_over}

-- ---- prototypes

-- a prototype that stands, in a reading
standing_read : {T : Type 0} (reading : T → Label) (heap : List (Object T)) (o : ObjId) → tracked.standing (read_heap reading heap) o ≡ standing_in heap o
standing_read reading heap o = ap (λ (p : Option (Object Label)). standing_or_default o (erased_in p)) (slice_get-map (read_object reading) heap o.0) ∙ by (slice_get heap o.0)
  where
    by : (p : Option (Object _)) → standing_or_default o (erased_in (option_map (read_object reading) p)) ≡ standing_over o p
    by None = refl
    by (Some p) = refl

standing_option : {T : Type 0} (reading : T → Label) (heap : List (Object T)) (o : Option ObjId) → option_map (tracked.standing (read_heap reading heap)) o ≡ option_map (standing_in heap) o
standing_option reading heap None = refl
standing_option reading heap (Some o) = ap (λ (p : ObjId). Some p) (standing_read reading heap o)

-- ---- a new object

made_is : (c : Class) (proto : Option ObjId) (label context : Label) → with_link label (made_object context (made_of c proto)) ≡ new_of c proto (union context label) context
made_is class.Array proto label context = refl
made_is class.Object proto label context = refl
made_is class.Function proto label context = refl
made_is class.Arguments proto label context = refl
made_is class.Error proto label context = refl
made_is class.Math proto label context = refl
made_is class.Json proto label context = refl
made_is class.String proto label context = refl
made_is class.Number proto label context = refl
made_is class.Boolean proto label context = refl

module _ {S T : Type 0} (made : S → T → Type 0) (meaning : S → T → Label) (store : S) (w : World T) (class : Class) (proto : Option ObjId) where
  -- the object, whose structure label is the context
  pub object_made : (heap : List (Object T)) (label here link none : T) (o : ObjId) → o.0 ≡ length w.heap → MakesOf made meaning store here link class proto w.heap heap
      → Means made meaning store here (λ reading. context (map (seen_frame reading) w.frames.frames)) → Means made meaning store link (λ reading. union (context (map (seen_frame reading) w.frames.frames)) (reading label)) → Means made meaning store none (λ reading. bottom)
      → Acts made meaning store (λ reading. read_value reading) (λ reading. make_new class proto (reading label)) w (with_heap heap w) (Ok (outcome.Goes (record { value = value.Object o; label = none })))
  unfolding make_new
  object_made heap label here link none o number makes context_is link_is empty = record {
    says = λ reading agrees told turns.
        let s = state_of reading w told turns in
        ap (λ k. Goes (record { value = value.Object (id k); label = bottom }) (record s { heap = s.heap ++ with_link (reading label) (made_object (context s.frames) (made_of class proto)) ∷ [] })) (length-map w.heap (read_object reading) ∙ sym number)
        ∙ ap (λ (p : Object Label). Goes (record { value = value.Object o; label = bottom }) (record s { heap = s.heap ++ p ∷ [] })) (made_is class proto (reading label) (context s.frames))
        ∙ ap₂ (λ (l c : Label). Goes (record { value = value.Object o; label = bottom }) (record s { heap = s.heap ++ new_of class proto l c ∷ [] })) (sym (link_is.is reading agrees)) (sym (context_is.is reading agrees))
        ∙ ap₂ (λ (l : Label) (h : List (Object Label)). Goes (record { value = value.Object o; label = l }) (record s { heap = h })) (sym (empty.is reading agrees)) (sym (makes.is reading agrees));
  }

-- an array in the same class, and an object of another
pub array_of_class : {S T : Type 0} (made : S → T → Type 0) (meaning : S → T → Label) (store : S) (here link : T) (c : Class) (proto : Option ObjId) (old new : List (Object T)) → c ≡ class.Array → MakesEmpty made meaning store here link proto 0 old new → MakesOf made meaning store here link c proto old new
array_of_class made meaning store here link c proto old new is makes = record { is = λ reading agrees. makes.is reading agrees ∙ ap (λ k. read_heap reading old ++ new_of k proto (reading link) (reading here) ∷ []) (sym is) }

fresh_of : (c : Class) → (c ≡ class.Array → ⊥) → (proto : Option ObjId) (link here : Label) → fresh_object c Plain proto link here ≡ new_of c proto link here
fresh_of class.Array isnt proto link here = absurd (isnt refl)
fresh_of class.Object isnt proto link here = refl
fresh_of class.Function isnt proto link here = refl
fresh_of class.Arguments isnt proto link here = refl
fresh_of class.Error isnt proto link here = refl
fresh_of class.Math isnt proto link here = refl
fresh_of class.Json isnt proto link here = refl
fresh_of class.String isnt proto link here = refl
fresh_of class.Number isnt proto link here = refl
fresh_of class.Boolean isnt proto link here = refl

pub object_of_class : {S T : Type 0} (made : S → T → Type 0) (meaning : S → T → Label) (store : S) (here link : T) (c : Class) (proto : Option ObjId) (old new : List (Object T)) → (c ≡ class.Array → ⊥) → new ≡ new_object c proto link here Plain old → MakesOf made meaning store here link c proto old new
object_of_class made meaning store here link c proto old new isnt more = record {
  is = λ reading agrees.
      ap (read_heap reading) more ∙ map-append (read_object reading) old (fresh_object c Plain proto link here ∷ [])
      ∙ ap (λ (p : Object Label). read_heap reading old ++ p ∷ []) (fresh_of c isnt proto (reading link) (reading here));
}

-- ---- the request

module _ {S T : Type 0} (made : S → T → Type 0) (meaning : S → T → Label) where
  abbrev asked : Tables → Given → Class → Option (Labelled T) → (T → Label) → L Val
  asked tables inputs class proto reading = act tables inputs (operations.new_object class (is_some proto)) (arguments_of reading proto)

  pub new_by_value : (store : S) (tables : Tables) (inputs : Given) (w : World T) (class : Class) (proto : Option (Labelled T)) (v : Labelled T) → proto ≡ Some v → (o q : Option ObjId) → o ≡ prototype_given v.value → q ≡ option_map (standing_in w.heap) o
      → (after : World T) (result : Result (Outcome (Labelled T) T) (FlowFault T))
      → Acts made meaning store (λ reading. read_value reading) (λ reading. make_new class q (reading v.label)) w after result → Acts made meaning store (λ reading. read_value reading) (asked tables inputs class proto) w after result
  unfolding act make_new_by
  new_by_value store tables inputs w class proto v is o q given stands after result acts =
      Acts-as made meaning store (λ reading. read_value reading) (λ reading. make_new class q (reading v.label)) (asked tables inputs class proto) w after result
      (λ reading agrees told turns.
      let s = state_of reading w told turns in
      ap (λ p. asked tables inputs class p reading s) is
      ∙ ap (λ (p : Option ObjId). make_new class (option_map (tracked.standing s.heap) p) (reading v.label) s) (sym given)
      ∙ ap (λ (p : Option ObjId). make_new class p (reading v.label) s) (standing_option reading w.heap o ∙ sym stands))
      acts

  pub new_by_class : (room : S → ℕ) (firm : S → Bool) (old new : S) → IsKept made meaning room firm old new → (tables : Tables) (inputs : Given) (w : World T) (class : Class) (proto : Option (Labelled T)) → proto ≡ None
      → (o : ObjId) → o ≡ class_prototype class → (none : T) → made old none → meaning old none ≡ bottom → (after : World T) (result : Result (Outcome (Labelled T) T) (FlowFault T))
      → Acts made meaning new (λ reading. read_value reading) (λ reading. make_new class (Some o) (reading none)) w after result → Acts made meaning new (λ reading. read_value reading) (asked tables inputs class proto) w after result
  unfolding act
  new_by_class room firm old new kept tables inputs w class proto is o given none m empty after result acts =
      Acts-as made meaning new (λ reading. read_value reading) (λ reading. make_new class (Some o) (reading none)) (asked tables inputs class proto) w after result
      (λ reading agrees told turns.
      let s = state_of reading w told turns in
      let earlier = IsReading-earlier made meaning room firm old new reading kept agrees in
      ap (λ p. asked tables inputs class p reading s) is ∙ ap₂ (λ (q : ObjId) (l : Label). make_new class (Some q) l s) (sym given) (sym (earlier.agrees none m ∙ empty)))
      acts

all_one : {X : Type 0} (P : X → Type 0) (x : X) → P x → All P (x ∷ [])
all_one P x holds zero d lt = holds
all_one P x holds (suc k) d lt = absurd (omega (arith, lt))

-- labels of a heap with one object more
pub has_new : {T : Type 0} (made : T → Type 0) (before heap : List (Object T)) (class : Class) (proto : Option ObjId) (link here : T) (inner : Inner T) → heap ≡ new_object class proto link here inner before → made link → made here → HasInner made inner → HasHeap made before → HasHeap made heap
has_new made before heap class proto link here inner more linked structured inside has =
    subst (HasHeap made) (sym more)
    (All-append (HasObject made) before (fresh_object class inner proto link here ∷ []) has (all_one (HasObject made) (fresh_object class inner proto link here) (record { inner = inside; link = linked; structure = structured; rows = λ k d lt. absurd (omega (arith, lt)) })))

-- a world with more objects belongs to a later store, if its heap does
pub belongs_grown : {S T : Type 0} (made : S → T → Type 0) (meaning : S → T → Label) (room : S → ℕ) (firm : S → Bool) (old new : S) (kept : IsKept made meaning room firm old new) (rising : (store : S) (label : T) → made store label → IsLabel (meaning store label)) (w : World T) → Belongs made meaning old w
    → (heap : List (Object T)) → HasHeap (made new) heap → length w.heap ≤ length heap → Belongs made meaning new (with_heap heap w)
belongs_grown made meaning room firm old new kept rising w belongs heap has more =
    let later = Belongs-later made meaning room firm old new kept rising w belongs in
    record { frames = later.frames; catch = later.catch; heap = has; records = later.records; started = let started = belongs.started in omega (arith, started, more) }

-- ---- what holds of a result

pub if_ok : {A E : Type 0} {P Q : Type 0} (r : Result A E) → (P → Q) → IfOk r (λ a. P) → IfOk r (λ a. Q)
if_ok (Ok a) f p = f p
if_ok (Err e) f p = tt

pub on_ok : {A E : Type 0} {P Q : Type 0} (r : Result A E) → (P → Q) → OnOk r P → IfOk r (λ a. Q)
on_ok (Ok a) f p = f p
on_ok (Err e) f p = tt

pub either : {A E : Type 0} {P Q R : Type 0} (r : Result A E) → (P → R) → (Q → R) → OnOk r P → OnErr r Q → R
either (Ok a) f g p q = f p
either (Err e) f g p q = g q
