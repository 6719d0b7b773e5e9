-- Properties as they are put, in a reading of the labels.
use Rattle.std.proofs.Common.{arith, ◌≡◌, ℕ, Bool, true, false, List, length, map, Option, Some, None, is_some, IfSome, if◌then◌else◌, Result, Ok, Err, refl, sym, ap, ap₂, subst, ◌∙◌}
use Rattle.std.specs.List.{slice_get}
use Rattle.std.specs.Option.{option_map}
use Rattle.std.proofs.lemmas.Bool.{false≢true}
use Rattle.std.proofs.lemmas.Option.{none-some, same_Some, slice_get-map}
use Rattle.std.specs.Result.{IsErrAnd}
use Rattle.origin_labels.specs.Label.{Label, IsLabel, union}
use Rattle.origin_labels.specs.Stores.{IsKept}
use Rattle.flow_frames.specs.declared.faults.FlowFault.{FlowFault}
use Rattle.flow_frames.specs.declared.faults.FlowFault.TheVariants as fault
use Rattle.flow_frames.specs.declared.faults.Rule.{Rule}
use Rattle.flow_frames.specs.declared.faults.Rule.TheVariants.{W2}
use Rattle.flow_frames.specs.Frames.{context}
use Rattle.flow_frames.specs.Held.{seen_frame}
use Rattle.js_number.specs.declared.primitive.Primitive.{Primitive}
use Rattle.js_values.specs.declared.ids.ObjId.{ObjId}
use Rattle.js_values.specs.declared.property.Body.TheVariants.{Data}
use Rattle.js_values.specs.declared.value.Labelled.{Labelled}
use Rattle.js_values.specs.declared.value.Value.{Value}
use Rattle.js_values.specs.declared.value.Value.TheVariants as value
use Rattle.js_values.specs.Objects.{Object}
use Rattle.js_values.specs.declared.property.Slot.{Slot}
use Rattle.js_values.specs.Readings.{IsReading, HasSlot, HasHeap, read_value, read_slot, read_object, read_heap}
use Rattle.js_values.specs.Walks.{Found, find, object_chain}
use Rattle.object_heap.specs.Acts as heap_acts
use Rattle.object_heap.specs.Acts.{Acted}
use Rattle.object_heap.specs.Answers as answers
use Rattle.object_heap.specs.Formed.{own_in}
use Rattle.object_heap.proofs.ReadLaws.{read_own}
use Rattle.prototype_walk.specs.declared.plan.PutPlan.{PutPlan}
use Rattle.prototype_walk.specs.declared.plan.PutPlan.TheVariants.{Write, Add, Setter, Refused}
use Rattle.prototype_walk.specs.Answers.{Means, IsFoundFor, IsPlan, read_plan}
use Rattle.prototype_walk.specs.Plans.{can_put}
use Rattle.es_meaning.specs.Definitions.{is_accessor}
use Rattle.es_meaning.specs.Objects.{made_by_script}
use Rattle.es_meaning.specs.Outcomes.{Goes}
use Rattle.es_meaning.specs.Plain as plain
use Rattle.es_meaning.specs.Primitives.{own_value_of}
use Rattle.native_protocol.specs.declared.request.ErrorKind.TheVariants as kinds
use Rattle.flow_meaning.specs.Scopes.{Val, State, L, LabelledLine}
use Rattle.flow_meaning.specs.Tracked as tracked
use Rattle.flow_meaning.specs.Tracked.{Reference, property_of, found_by, primitive_chain, primitive_access, called_value, acted, is_put, has_length, setter_found, setter_at, overwritten, setter_if, put_beyond, put, put_by, put_on_primitive, put_property, put_value, accessed, throw_error}
use Rattle.run_state.specs.declared.outcome.Access.{Access}
use Rattle.run_state.specs.declared.outcome.Putting.{Putting}
use Rattle.run_state.specs.declared.outcome.Putting.TheVariants as putting
use Rattle.run_state.specs.declared.outcome.Outcome.{Outcome}
use Rattle.run_state.specs.declared.outcome.Outcome.TheVariants as outcome
use Rattle.run_state.specs.declared.world.World.{World}
use Rattle.run_state.specs.Accesses.{IsAccess, read_access, read_putting}
use Rattle.run_state.specs.Acts.{Acts}
use Rattle.run_state.specs.Names.{property_of as member_of}
use Rattle.run_state.specs.Worlds.{state_of, Belongs}
use Rattle.run_state.proofs.ActLaws.{Acts-as, Belongs-later}
use Rattle.property_access.specs.declared.putting.FoundSetter.{FoundSetter}
use Rattle.property_access.specs.Accessors.{accessor_in, setter_with}
use Rattle.property_access.specs.Elements.{length_in}
use Rattle.property_access.proofs.HeldLaws.{own_has}
use Rattle.property_access.proofs.PlanLaws.{read_length}

-- a world with another heap
abbrev pub with_heap : {T : Type 0} → List (Object T) → World T → World T
with_heap heap w = record w { heap = heap }

-- it belongs to a later store, if its heap does
pub Belongs-heap : {S T : Type 0} (made : S → T → Type 0) (meaning : S → T → Label) (room : S → ℕ) (firm : S → _) (old new : S) → IsKept made meaning room firm old new → ((store : S) (label : T) → made store label → IsLabel (meaning store label)) → (w : World T) → Belongs made meaning old w
    → (heap : List (Object T)) → HasHeap (made new) heap → length heap ≡ length w.heap → Belongs made meaning new (with_heap heap w)
Belongs-heap made meaning room firm old new kept rising w belongs heap has same =
    let later = Belongs-later made meaning room firm old new kept rising w belongs in
    record { frames = later.frames; catch = later.catch; heap = has; records = later.records; started = let before = belongs.started in omega (arith, before, same) }

-- ---- an act on the heap, as an act of the meaning

module _ {S T X Y : Type 0} (made : S → T → Type 0) (meaning : S → T → Label) (store : S) (w : World T) (read : (T → Label) → X → Y) (x : X) (act : (T → Label) → List (Object Label) → Acted (List (Object Label))) (heap : List (Object T)) where
  abbrev on_heap : World T → Result (Outcome X T) (FlowFault T) → Type 0
  on_heap after result = Acts made meaning store read (λ reading s. acted (read reading x) (act reading s.heap) s) w after result

  abbrev Heap : Result (Unit {0}) (FlowFault T) → Type 0
  Heap r = answers.Acts made meaning store read_heap act w.heap heap r

  heap_does : Heap (Ok tt) → on_heap (with_heap heap w) (Ok (outcome.Goes x))
  unfolding acted
  heap_does acts = record { says = λ reading is told turns. ap (λ a. acted (read reading x) a (state_of reading w told turns)) (acts.does reading is) }

  heap_stops : (f : FlowFault T) → Heap (Err f) → on_heap w (Err f)
  unfolding acted
  heap_stops (fault.Stop stop) acts = record { says = λ reading is told turns. ap (λ a. acted (read reading x) a (state_of reading w told turns)) (acts.stops.2 reading is) }
  heap_stops fault.OutOfMemory acts = record { says = λ reading is told turns. tt }

  pub heap_done : (r : Result (Unit {0}) (FlowFault T)) → r ≡ Ok tt → Heap r → on_heap (with_heap heap w) (Ok (outcome.Goes x))
  heap_done r ok acts = heap_does (subst Heap ok acts)

  -- a refusal is handed on, and the heap is the same
  pub heap_refused : (r : Result (Unit {0}) (FlowFault T)) (f : FlowFault T) (result : Result (Outcome X T) (FlowFault T)) → r ≡ Err f → IsErrAnd result (λ e. e ≡ f) → Heap r → on_heap (with_heap heap w) result
  heap_refused r f (Ok y) err is acts = absurd is
  heap_refused r f (Err e) err is acts =
      let told = subst Heap (err ∙ ap Err (sym is)) acts in
      subst (λ (h : List (Object T)). on_heap (with_heap h w) (Err e)) (sym told.unchanged) (heap_stops e told)

-- ---- puts, by their plans

module _ {S T : Type 0} (made : S → T → Type 0) (meaning : S → T → Label) (store : S) (w after : World T) (o : ObjId) (key : List ℕ) (label walk need : T) (base v : Labelled T) (result : Result (Outcome (Putting T) T) (FlowFault T)) where
  abbrev puts : ((T → Label) → PutPlan Label) → Rule → Type 0
  puts plan rule = Acts made meaning store (λ reading. read_putting reading) (λ reading. put_by (plan reading) rule o.0 key (reading label) (read_value reading base) (read_value reading v)) w after result

  module _ (means : Means made meaning store need (λ reading. union (context (map (seen_frame reading) w.frames.frames)) (union (reading label) (reading walk)))) where
    pub put_writes : (rule : Rule) → length_in key (slice_get w.heap o.0) ≡ false → Acts made meaning store (λ reading. read_putting reading) (λ reading s. acted is_put (heap_acts.write rule o.0 key (reading need) (read_value reading v) s.heap) s) w after result → puts (λ reading. Write (reading walk)) rule
    unfolding put_by overwritten
    put_writes rule other acts =
        Acts-as made meaning store (λ reading. read_putting reading) (λ reading s. acted is_put (heap_acts.write rule o.0 key (reading need) (read_value reading v) s.heap) s) (λ reading. put_by (Write (reading walk)) rule o.0 key (reading label) (read_value reading base) (read_value reading v)) w after result
        (λ reading is told turns. let s = state_of reading w told turns in
        ap (λ b. overwritten b rule o.0 key (union (reading label) (reading walk)) (read_value reading v) s) (read_length reading key w.heap o.0 ∙ other)
        ∙ ap (λ n. acted is_put (heap_acts.write rule o.0 key n (read_value reading v) s.heap) s) (sym (means.is reading is)))
        acts

    pub put_adds : (rule : Rule) → Acts made meaning store (λ reading. read_putting reading) (λ reading s. acted is_put (heap_acts.add o.0 key (reading need) (Data v.value) (reading v.label) made_by_script s.heap) s) w after result → puts (λ reading. Add (reading walk)) rule
    unfolding put_by
    put_adds rule acts =
        Acts-as made meaning store (λ reading. read_putting reading) (λ reading s. acted is_put (heap_acts.add o.0 key (reading need) (Data v.value) (reading v.label) made_by_script s.heap) s) (λ reading. put_by (Add (reading walk)) rule o.0 key (reading label) (read_value reading base) (read_value reading v)) w after result
        (λ reading is told turns. let s = state_of reading w told turns in ap (λ n. acted is_put (heap_acts.add o.0 key n (Data v.value) (reading v.label) made_by_script s.heap) s) (sym (means.is reading is)))
        acts

  -- what is done by the plan is the put
  module _ (rule : Rule) where
    pub put_planned : (plan this : PutPlan T) → plan ≡ this → IsPlan made meaning store (λ reading. can_put key (object_chain (read_heap reading w.heap) o.0)) plan
        → puts (λ reading. read_plan reading this) rule → Acts made meaning store (λ reading. read_putting reading) (λ reading. put rule o.0 key (reading label) (read_value reading base) (read_value reading v)) w after result
    unfolding put
    put_planned plan this same planned acts =
        Acts-as made meaning store (λ reading. read_putting reading) (λ reading. put_by (read_plan reading this) rule o.0 key (reading label) (read_value reading base) (read_value reading v)) (λ reading. put rule o.0 key (reading label) (read_value reading base) (read_value reading v)) w after result
        (λ reading is told turns.
        let s = state_of reading w told turns in
        ap (λ p. put_by p rule o.0 key (reading label) (read_value reading base) (read_value reading v) s) (sym (ap (read_plan reading) (sym same) ∙ planned.is reading is)))
        acts

module _ {S T : Type 0} (made : S → T → Type 0) (meaning : S → T → Label) (store : S) (w : World T) (rule : Rule) (key : List ℕ) where
  -- the `length` of an array
  pub put_counts : (o : ObjId) (label walk joined : T) (base v : Labelled T) → length_in key (slice_get w.heap o.0) ≡ true → Means made meaning store joined (λ reading. union (reading label) (reading walk))
      → Acts made meaning store (λ reading. read_putting reading) (λ reading. put_by (Write (reading walk)) rule o.0 key (reading label) (read_value reading base) (read_value reading v)) w w (Ok (outcome.Goes (putting.Length joined o)))
  unfolding put_by overwritten
  put_counts o label walk joined base v there means = record {
    says = λ reading is told turns. let s = state_of reading w told turns in
        ap (λ b. overwritten b rule o.0 key (union (reading label) (reading walk)) (read_value reading v) s) (read_length reading key w.heap o.0 ∙ there)
        ∙ ap (λ l. Goes (has_length l o.0) s) (sym (means.is reading is));
  }

  pub put_refused : (o : ℕ) (label walk cause : T) (base v : Labelled T) (after : World T) (result : Result (Outcome (Putting T) T) (FlowFault T)) → Means made meaning store cause (λ reading. union (reading label) (reading walk))
      → Acts made meaning store (λ reading. read_putting reading) (λ reading. throw_error {X = tracked.Putting} kinds.TypeError (reading cause)) w after result
      → Acts made meaning store (λ reading. read_putting reading) (λ reading. put_by (Refused (reading walk)) rule o key (reading label) (read_value reading base) (read_value reading v)) w after result
  unfolding put_by
  put_refused o label walk cause base v after result means acts =
      Acts-as made meaning store (λ reading. read_putting reading) (λ reading. throw_error kinds.TypeError (reading cause)) (λ reading. put_by (Refused (reading walk)) rule o key (reading label) (read_value reading base) (read_value reading v)) w after result
      (λ reading is told turns. ap (λ l. throw_error kinds.TypeError l (state_of reading w told turns)) (sym (means.is reading is)))
      acts

-- ---- a setter

-- what was found of the property that has it
abbrev setter_by : {T : Type 0} → (T → Label) → Label → Val → Option (FoundSetter T) → L tracked.Putting
setter_by reading label base None s = throw_error kinds.TypeError label s
setter_by reading label base (Some f) s = setter_found (union label (reading f.label)) base f.set s

setter_read : {T : Type 0} (reading : T → Label) (label : Label) (base : Val) (p : Option (Slot T)) (s : State) → setter_at label base (option_map (read_slot reading) p) s ≡ setter_by reading label base (option_map setter_with p) s
unfolding setter_at
setter_read reading label base None s = refl
setter_read reading label base (Some p) s = refl

own_read : {T : Type 0} (reading : T → Label) (key : List ℕ) (p : Option (Object T)) → tracked.own_in key (option_map (read_object reading) p) ≡ option_map (read_slot reading) (own_in key p)
own_read reading key None = refl
own_read reading key (Some p) = read_own reading key p.rows

module _ {S T : Type 0} (made : S → T → Type 0) (meaning : S → T → Label) (store : S) (w after : World T) (at : ObjId) (key : List ℕ) (label walk place : T) (this : Labelled T) (found : Option (FoundSetter T)) (result : Result (Outcome (Putting T) T) (FlowFault T))
    (is : found ≡ option_map setter_with (own_in key (slice_get w.heap at.0))) (means : Means made meaning store place (λ reading. union (reading label) (reading walk))) (rule : Rule) (o : ℕ) (v : Labelled T) where
  abbrev sets : Type 0
  sets = Acts made meaning store (λ reading. read_putting reading) (λ reading. put_by (Setter at (reading walk)) rule o key (reading label) (read_value reading this) (read_value reading v)) w after result

  setter_there : (reading : T → Label) → IsReading made meaning store reading → (told : List LabelledLine) (turns : ℕ) → put_by (Setter at (reading walk)) rule o key (reading label) (read_value reading this) (read_value reading v) (state_of reading w told turns) ≡ setter_by reading (reading place) (read_value reading this) found (state_of reading w told turns)
  unfolding put_by
  setter_there reading read told turns =
      let s = state_of reading w told turns in
      ap (λ p. setter_at (union (reading label) (reading walk)) (read_value reading this) p s) (ap (tracked.own_in key) (slice_get-map (read_object reading) w.heap at.0) ∙ own_read reading key (slice_get w.heap at.0))
      ∙ setter_read reading (union (reading label) (reading walk)) (read_value reading this) (own_in key (slice_get w.heap at.0)) s
      ∙ ap₂ (λ l f. setter_by reading l (read_value reading this) f s) (sym (means.is reading read)) (sym is)

  pub setter_entered : (f : FoundSetter T) (depends : T) → found ≡ Some f → Means made meaning store depends (λ reading. union (reading place) (reading f.label))
      → Acts made meaning store (λ reading. read_putting reading) (λ reading. setter_found (reading depends) (read_value reading this) f.set) w after result → sets
  setter_entered f depends here joins acts =
      Acts-as made meaning store (λ reading. read_putting reading) (λ reading. setter_found (reading depends) (read_value reading this) f.set) (λ reading. put_by (Setter at (reading walk)) rule o key (reading label) (read_value reading this) (read_value reading v)) w after result
      (λ reading read told turns.
      let s = state_of reading w told turns in
      setter_there reading read told turns
      ∙ ap (λ x. setter_by reading (reading place) (read_value reading this) x s) here
      ∙ ap (λ l. setter_found l (read_value reading this) f.set s) (sym (joins.is reading read)))
      acts

  pub setter_gone : found ≡ None → Acts made meaning store (λ reading. read_putting reading) (λ reading. throw_error {X = tracked.Putting} kinds.TypeError (reading place)) w after result → sets
  setter_gone here acts =
      Acts-as made meaning store (λ reading. read_putting reading) (λ reading. throw_error {X = tracked.Putting} kinds.TypeError (reading place)) (λ reading. put_by (Setter at (reading walk)) rule o key (reading label) (read_value reading this) (read_value reading v)) w after result
      (λ reading read told turns.
      setter_there reading read told turns ∙ ap (λ f. setter_by reading (reading place) (read_value reading this) f (state_of reading w told turns)) here)
      acts

-- the label of the property was made
pub setter_has : {T : Type 0} (made : T → Type 0) (heap : List (Object T)) → HasHeap made heap → (at : ℕ) (key : List ℕ) (f : FoundSetter T) → Some f ≡ option_map setter_with (own_in key (slice_get heap at)) → made f.label
setter_has made heap has at key f is = from (own_in key (slice_get heap at)) refl is
  where
    from : (p : Option (Slot _)) → own_in key (slice_get heap at) ≡ p → Some f ≡ option_map setter_with p → made f.label
    from None there same = absurd (none-some f (sym same))
    from (Some p) there same = subst made (ap (λ (x : FoundSetter _). x.label) (sym (same_Some f (setter_with p) same))) (own_has heap at made key p has there).0

-- ---- a put on a primitive value

module _ {T : Type 0} (reading : T → Label) (label : Label) (base : Val) (s : State) where
  beyond_if : (slot : Slot T) (t : Bool) → setter_if t label base (read_slot reading slot) s ≡ setter_by reading label base (if t then Some (setter_with slot) else None) s
  unfolding setter_if
  beyond_if slot true = refl
  beyond_if slot false = refl

  beyond_by : (at : Option (ObjId × Slot T)) → put_beyond label base (option_map (λ f. (f.0.0, read_slot reading f.1)) at) s ≡ setter_by reading label base (accessor_in (option_map (λ f. f.1) at)) s
  unfolding put_beyond
  beyond_by None = refl
  beyond_by (Some f) = beyond_if f.1 (is_accessor f.1.body)

owned_throws : (o : Option Primitive) → is_some o ≡ true → (label : Label) (base : Val) (p : Primitive) (key : List ℕ) (s : State) → put_on_primitive o label base p key s ≡ throw_error kinds.TypeError label s
unfolding put_on_primitive
owned_throws (Some v) is label base p key s = refl
owned_throws None is label base p key s = absurd (false≢true is)

unowned : (o : Option Primitive) → is_some o ≡ false → o ≡ None
unowned None is = refl
unowned (Some v) is = absurd (false≢true (sym is))

module _ {S T : Type 0} (made : S → T → Type 0) (meaning : S → T → Label) (store : S) (w after : World T) (p : Primitive) (key : List ℕ) (label of_this : T) (result : Result (Outcome (Putting T) T) (FlowFault T)) where
  -- the base
  abbrev boxed : (T → Label) → Val
  boxed reading = record { value = value.Primitive p; label = reading of_this }

  abbrev puts_on : Option Primitive → Type 0
  puts_on own = Acts made meaning store (λ reading. read_putting reading) (λ reading. put_on_primitive own (reading label) (boxed reading) p key) w after result

  pub put_owned : is_some (own_value_of p key) ≡ true → Acts made meaning store (λ reading. read_putting reading) (λ reading. throw_error {X = tracked.Putting} kinds.TypeError (reading label)) w after result → puts_on (own_value_of p key)
  put_owned is acts =
      Acts-as made meaning store (λ reading. read_putting reading) (λ reading. throw_error {X = tracked.Putting} kinds.TypeError (reading label)) (λ reading. put_on_primitive (own_value_of p key) (reading label) (boxed reading) p key) w after result
      (λ reading read told turns. owned_throws (own_value_of p key) is (reading label) (boxed reading) p key (state_of reading w told turns))
      acts

  pub put_unowned : is_some (own_value_of p key) ≡ false → puts_on None → puts_on (own_value_of p key)
  put_unowned is acts = subst puts_on (sym (unowned (own_value_of p key) is)) acts

  module _ (at : Option (ObjId × Slot T)) (walk depends : T) (place : IsFoundFor made meaning store (λ reading. find key (primitive_chain (read_heap reading w.heap) p)) at walk) (means : Means made meaning store depends (λ reading. union (reading label) (reading walk))) where
    put_found : (reading : T → Label) → IsReading made meaning store reading → (told : List LabelledLine) (turns : ℕ) → put_on_primitive None (reading label) (boxed reading) p key (state_of reading w told turns) ≡ setter_by reading (reading depends) (boxed reading) (accessor_in (option_map (λ f. f.1) at)) (state_of reading w told turns)
    unfolding put_on_primitive
    put_found reading read told turns =
        let s = state_of reading w told turns in
        ap (λ (x : Found). put_beyond (union (reading label) x.walk) (boxed reading) x.at s) (sym (place.is reading read))
        ∙ beyond_by reading (union (reading label) (reading walk)) (boxed reading) s at
        ∙ ap (λ l. setter_by reading l (boxed reading) (accessor_in (option_map (λ f. f.1) at)) s) (sym (means.is reading read))

    pub put_entered : (f : FoundSetter T) (whole : T) (this : Labelled T) → Some f ≡ accessor_in (option_map (λ f. f.1) at) → ((reading : T → Label) → read_value reading this ≡ boxed reading) → Means made meaning store whole (λ reading. union (reading depends) (reading f.label))
        → Acts made meaning store (λ reading. read_putting reading) (λ reading. setter_found (reading whole) (read_value reading this) f.set) w after result → puts_on None
    put_entered f whole this here is joins acts =
        Acts-as made meaning store (λ reading. read_putting reading) (λ reading. setter_found (reading whole) (read_value reading this) f.set) (λ reading. put_on_primitive None (reading label) (boxed reading) p key) w after result
        (λ reading read told turns.
        let s = state_of reading w told turns in
        put_found reading read told turns
        ∙ ap (λ x. setter_by reading (reading depends) (boxed reading) x s) (sym here)
        ∙ ap₂ (λ l b. setter_found l b f.set s) (sym (joins.is reading read)) (sym (is reading)))
        acts

    pub put_nowhere : None ≡ accessor_in (option_map (λ f. f.1) at) → Acts made meaning store (λ reading. read_putting reading) (λ reading. throw_error {X = tracked.Putting} kinds.TypeError (reading depends)) w after result → puts_on None
    put_nowhere here acts =
        Acts-as made meaning store (λ reading. read_putting reading) (λ reading. throw_error {X = tracked.Putting} kinds.TypeError (reading depends)) (λ reading. put_on_primitive None (reading label) (boxed reading) p key) w after result
        (λ reading read told turns. put_found reading read told turns ∙ ap (λ x. setter_by reading (reading depends) (boxed reading) x (state_of reading w told turns)) (sym here))
        acts

-- the label of the accessor was made
pub accessor_has : {T : Type 0} (made : T → Type 0) (at : Option (ObjId × Slot T)) (f : FoundSetter T) → IfSome at (λ g. HasSlot made g.1) → Some f ≡ accessor_in (option_map (λ g. g.1) at) → made f.label
accessor_has made None f has is = absurd (none-some f (sym is))
accessor_has made (Some g) f has is = from (is_accessor g.1.body) is
  where
    from : (t : Bool) → Some f ≡ (if t then Some (setter_with g.1) else None) → made f.label
    from true same = subst made (ap (λ (x : FoundSetter _). x.label) (sym (same_Some f (setter_with g.1) same))) has.0
    from false same = absurd (none-some f (sym same))

-- what an accessor has
module _ {S T : Type 0} (made : S → T → Type 0) (meaning : S → T → Label) (store : S) (w : World T) (label : T) (this : Labelled T) (set : Option ObjId) where
  pub setter_is : (f : ObjId) → set ≡ Some f → Acts made meaning store (λ reading. read_putting reading) (λ reading. setter_found (reading label) (read_value reading this) set) w w (Ok (outcome.Goes (putting.Setter label f this)))
  unfolding setter_found
  setter_is f is = record { says = λ reading read told turns. ap (λ g. setter_found (reading label) (read_value reading this) g (state_of reading w told turns)) is }

  pub no_setter : (after : World T) (result : Result (Outcome (Putting T) T) (FlowFault T)) → set ≡ None → Acts made meaning store (λ reading. read_putting reading) (λ reading. throw_error {X = tracked.Putting} kinds.TypeError (reading label)) w after result
      → Acts made meaning store (λ reading. read_putting reading) (λ reading. setter_found (reading label) (read_value reading this) set) w after result
  unfolding setter_found
  no_setter after result is acts =
      Acts-as made meaning store (λ reading. read_putting reading) (λ reading. throw_error {X = tracked.Putting} kinds.TypeError (reading label)) (λ reading. setter_found (reading label) (read_value reading this) set) w after result
      (λ reading read told turns. ap (λ g. setter_found (reading label) (read_value reading this) g (state_of reading w told turns)) is)
      acts

-- ---- properties of values, by keys that are values

module _ {S T : Type 0} (made : S → T → Type 0) (meaning : S → T → Label) (store : S) (w : World T) (base key : Labelled T) where
  abbrev member : (T → Label) → Reference
  member reading = member_of (read_value reading base) (read_value reading key)

  -- the base with another value
  abbrev based : (T → Label) → Value → Val
  based reading v = record { value = v; label = reading base.label }

  module _ (p : Primitive) (primitive : base.value ≡ value.Primitive p) (name : List ℕ) (named : name ≡ plain.key_text key.value) (label : T) (means : Means made meaning store label (λ reading. union (reading base.label) (reading key.label))) where
    -- the base as a value
    abbrev primitive_base : (T → Label) → Val
    primitive_base reading = record { value = value.Primitive p; label = reading base.label }

    pub get_primitive : (a : Access T) → IsAccess made meaning store (λ reading. primitive_access (reading label) (own_value_of p name) (found_by (reading label) (primitive_base reading) (find name (primitive_chain (read_heap reading w.heap) p)))) a
        → Acts made meaning store (λ reading. read_access reading) (λ reading. accessed (member reading)) w w (Ok (outcome.Goes a))
    unfolding accessed property_of
    get_primitive a gives = record {
      says = λ reading is told turns.
          let s = state_of reading w told turns in
          ap (λ b. property_of (union (reading base.label) (reading key.label)) (based reading b) b (plain.key_text key.value) s) primitive
          ∙ ap₂ (λ l k. Goes (primitive_access l (own_value_of p k) (found_by l (primitive_base reading) (find k (primitive_chain s.heap p)))) s) (sym (means.is reading is)) (sym named)
          ∙ ap (λ (x : tracked.Access). Goes x s) (sym (gives.is reading is));
    }

    pub put_primitive : (v : Labelled T) (after : World T) (result : Result (Outcome (Putting T) T) (FlowFault T)) → Acts made meaning store (λ reading. read_putting reading) (λ reading. put_on_primitive (own_value_of p name) (reading label) (primitive_base reading) p name) w after result
        → Acts made meaning store (λ reading. read_putting reading) (λ reading. put_value (member reading) (read_value reading v)) w after result
    unfolding put_value put_property
    put_primitive v after result acts =
        Acts-as made meaning store (λ reading. read_putting reading) (λ reading. put_on_primitive (own_value_of p name) (reading label) (primitive_base reading) p name) (λ reading. put_value (member reading) (read_value reading v)) w after result
        (λ reading is told turns.
        let s = state_of reading w told turns in
        ap (λ b. put_property (union (reading base.label) (reading key.label)) (based reading b) b (plain.key_text key.value) (read_value reading v) s) primitive
        ∙ ap₂ (λ l k. put_on_primitive (own_value_of p k) l (primitive_base reading) p k s) (sym (means.is reading is)) (sym named))
        acts

  module _ (o : ObjId) (object : base.value ≡ value.Object o) (name : List ℕ) (named : name ≡ plain.key_text key.value) (label : T) (means : Means made meaning store label (λ reading. union (reading base.label) (reading key.label))) where
    pub get_member : (a : Access T) → IsAccess made meaning store (λ reading. found_by (reading label) (called_value (reading base.label) o.0) (find name (object_chain (read_heap reading w.heap) o.0))) a
        → Acts made meaning store (λ reading. read_access reading) (λ reading. accessed (member reading)) w w (Ok (outcome.Goes a))
    unfolding accessed property_of
    get_member a gives = record {
      says = λ reading is told turns.
          let s = state_of reading w told turns in
          ap (λ b. property_of (union (reading base.label) (reading key.label)) (based reading b) b (plain.key_text key.value) s) object
          ∙ ap₂ (λ l k. Goes (found_by l (called_value (reading base.label) o.0) (find k (object_chain s.heap o.0))) s) (sym (means.is reading is)) (sym named)
          ∙ ap (λ (x : tracked.Access). Goes x s) (sym (gives.is reading is));
    }

    pub put_member : (v : Labelled T) (after : World T) (result : Result (Outcome (Putting T) T) (FlowFault T)) → Acts made meaning store (λ reading. read_putting reading) (λ reading. put W2 o.0 name (reading label) (called_value (reading base.label) o.0) (read_value reading v)) w after result
        → Acts made meaning store (λ reading. read_putting reading) (λ reading. put_value (member reading) (read_value reading v)) w after result
    unfolding put_value put_property
    put_member v after result acts =
        Acts-as made meaning store (λ reading. read_putting reading) (λ reading. put W2 o.0 name (reading label) (called_value (reading base.label) o.0) (read_value reading v)) (λ reading. put_value (member reading) (read_value reading v)) w after result
        (λ reading is told turns.
        let s = state_of reading w told turns in
        ap (λ b. put_property (union (reading base.label) (reading key.label)) (based reading b) b (plain.key_text key.value) (read_value reading v) s) object
        ∙ ap₂ (λ l k. put W2 o.0 k l (called_value (reading base.label) o.0) (read_value reading v) s) (sym (means.is reading is)) (sym named))
        acts
