-- Bound functions, in a reading of the labels.
use Rattle.std.proofs.Common.{arith, if◌then◌else◌, ◌≡◌, ◌-◌, ℕ, ℤ, pos, Bool, true, false, List, [], ◌∷◌, ◌++◌, codes, length, map, Option, Some, None, Ok, Err, Result, IfOk, refl, sym, ap, ap₂, subst, ◌∙◌}
use Rattle.std.specs.List.{All, slice_get}
use Rattle.std.specs.Option.{option_map}
use Rattle.std.proofs.lemmas.List.{length-map}
use Rattle.std.proofs.lemmas.Option.{none-some, slice_get-map}
use Rattle.origin_labels.specs.Label.{Label, bottom, union}
use Rattle.origin_labels.specs.Names.{same_name}
use Rattle.origin_labels.specs.Stores.{IsKept}
use Rattle.flow_frames.specs.declared.faults.FlowFault.{FlowFault}
use Rattle.flow_frames.specs.Frames.{context}
use Rattle.flow_frames.specs.Held.{seen_frame}
use Rattle.js_number.specs.declared.num.Num.TheVariants.{Int}
use Rattle.js_number.specs.declared.primitive.Primitive.{Primitive}
use Rattle.js_number.specs.declared.primitive.Primitive.TheVariants.{Num}
use Rattle.js_values.specs.declared.ids.ObjId.{ObjId}
use Rattle.js_values.specs.declared.inner.Inner.{Inner}
use Rattle.js_values.specs.declared.inner.Inner.TheVariants.{Bound}
use Rattle.js_values.specs.declared.property.Body.TheVariants.{Data}
use Rattle.js_values.specs.declared.property.Slot.{Slot}
use Rattle.js_values.specs.declared.value.Labelled.{Labelled}
use Rattle.js_values.specs.declared.value.Value.TheVariants as value
use Rattle.js_values.specs.Objects.{Rows, Object, own}
use Rattle.js_values.specs.Readings.{HasHeap, HasInner, HasValue, read_heap, read_inner, read_object, read_slot, read_value}
use Rattle.js_values.proofs.ReadingLaws.{All-weaker}
use Rattle.native_protocol.specs.declared.request.ErrorKind.TheVariants as kinds
use Rattle.object_heap.specs.declared.shape.Shape.{Shape}
use Rattle.object_heap.specs.Acts.{added}
use Rattle.object_heap.specs.Formed.{own_in, IsShape}
use Rattle.object_heap.proofs.ReadLaws.{read_own}
use Rattle.prototype_walk.specs.Answers.{Means}
use Rattle.es_meaning.specs.Operations.{bind}
use Rattle.es_meaning.specs.Outcomes.{Outcome, Goes}
use Rattle.es_meaning.specs.Requested.{bound_count, count_in, is_function_in as is_plain_function}
use Rattle.es_meaning.specs.Start.{caller_accessor, arguments_accessor, fixed, fixed_accessor, id}
use Rattle.flow_meaning.specs.Erased.{erased_heap, erased_object, erased_rows, erased_slot}
use Rattle.flow_meaning.specs.Requested.{erased_in, is_function_at, is_function_in, length_label, length_name, own_label}
use Rattle.flow_meaning.specs.Scopes.{Halt, Jump, Val, L, State}
use Rattle.flow_meaning.specs.Tracked.{act, bind_object, bind_to, bind_value, throw_error}
use Rattle.flow_policy.specs.Policies.{Tables}
use Rattle.flow_policy.specs.Inputs.{Given}
use Rattle.run_state.specs.declared.outcome.Outcome as machine
use Rattle.run_state.specs.declared.outcome.Outcome.TheVariants as outcome
use Rattle.run_state.specs.declared.world.World.{World}
use Rattle.run_state.specs.Acts.{Acts}
use Rattle.run_state.specs.Worlds.{state_of}
use Rattle.run_state.proofs.ActLaws.{Acts-as}
use Rattle.property_access.proofs.ObjectLaws.{with_heap}
use Rattle.property_requests.specs.Binding.{function_with}
use Rattle.property_requests.specs.Building.{Adds, AddsAlone, IsLast}
use Rattle.property_requests.proofs.BuildingLaws.{Built, built_more, built_alone, made_with}
use Rattle.property_requests.proofs.ErasedLaws.{object_erased, erased_at}
use Rattle.property_access.proofs.HeldLaws.{structure_has}
use Rattle.property_requests.proofs.HeldLaws.{shape_there}

-- ---- a function that is made with its rows

module _ {S T : Type 0} (made : S → T → Type 0) (meaning : S → T → Label) (room : S → ℕ) (firm : S → Bool) (before : List (Object T)) (here depends : T) (inner : Inner T) (count : ℤ) (o : ℕ) (number : o ≡ length before) where
  abbrev pub one : (T → Label) → Rows (Slot Label)
  one reading = (length_name, added (reading here) (Data (value.Primitive (Num (Int count)))) (reading depends) fixed (reading here)) ∷ []

  abbrev pub two : (T → Label) → Rows (Slot Label)
  two reading = one reading ++ (codes "caller", added (reading here) (fixed_accessor caller_accessor).body bottom fixed (reading here)) ∷ []

  abbrev pub three : (T → Label) → Rows (Slot Label)
  three reading = two reading ++ (codes "arguments", added (reading here) (fixed_accessor arguments_accessor).body bottom fixed (reading here)) ∷ []

  module _ (s t : S) (kept : IsKept made meaning room firm s t) (fresh heap : List (Object T)) where
    pub with_length : Built made meaning before here inner s fresh (λ reading. []) → Adds made meaning t here o length_name (Data (value.Primitive (Num (Int count)))) depends fixed fresh heap → Built made meaning before here inner t heap one
    with_length built adds = built_more made meaning before here inner o number s fresh (λ reading. []) built room firm t kept heap length_name (Data (value.Primitive (Num (Int count)))) fixed (λ reading. refl) depends adds

    pub with_caller : Built made meaning before here inner s fresh one → AddsAlone made meaning t here o (codes "caller") (fixed_accessor caller_accessor).body fixed fresh heap → Built made meaning before here inner t heap two
    with_caller built adds = built_alone made meaning before here inner o number s fresh one built room firm t kept heap (codes "caller") (fixed_accessor caller_accessor).body fixed (λ reading. refl) adds

    pub with_arguments : Built made meaning before here inner s fresh two → AddsAlone made meaning t here o (codes "arguments") (fixed_accessor arguments_accessor).body fixed fresh heap → Built made meaning before here inner t heap three
    with_arguments built adds = built_alone made meaning before here inner o number s fresh two built room firm t kept heap (codes "arguments") (fixed_accessor arguments_accessor).body fixed (λ reading. refl) adds

  pub function_made : (store : S) (heap : List (Object T)) → Built made meaning before here inner store heap three → (n : ℕ) → count ≡ pos n → IsLast made meaning store before heap (λ reading. function_with (read_inner reading inner) (reading depends) n (reading here))
  unfolding union
  function_made store heap built n is = record {
    says = λ reading agrees.
        built.says reading agrees
        ∙ ap (λ (k : ℤ). read_heap reading before ++ made_with (reading here) (read_inner reading inner)
        ((length_name, added (reading here) (Data (value.Primitive (Num (Int k)))) (reading depends) fixed (reading here)) ∷ (codes "caller", added (reading here) (fixed_accessor caller_accessor).body bottom fixed (reading here)) ∷ (codes "arguments", added (reading here) (fixed_accessor arguments_accessor).body bottom fixed (reading here)) ∷ []) ∷ []) is;
  }

-- ---- what a bound function takes from its target

zero_less : (n : ℕ) → 0 ≡ 0 - n
zero_less n = omega arith

module _ {T : Type 0} where
  rows_at : (key : List ℕ) (r : List ℕ × Slot T) (rows : Rows (Slot T)) (test : Bool) → own key (erased_rows rows) ≡ option_map erased_slot (own key rows) → (if test then Some (erased_slot r.1) else own key (erased_rows rows)) ≡ option_map erased_slot (if test then Some r.1 else own key rows)
  rows_at key r rows true rest = refl
  rows_at key r rows false rest = rest

  rows_own : (key : List ℕ) (rows : Rows (Slot T)) → own key (erased_rows rows) ≡ option_map erased_slot (own key rows)
  rows_own key [] = refl
  rows_own key (r ∷ rows) = rows_at key r rows (same_name r.0 key) (rows_own key rows)

module _ {T : Type 0} (heap : List (Object T)) (o : ℕ) where
  pub count_taken : (given : ℕ) → count_in (option_map erased_slot (own_in length_name (slice_get heap o))) - given ≡ bound_count (option_map erased_object (slice_get heap o)) given
  count_taken given = at (slice_get heap o)
    where
      at : (p : Option (Object T)) → count_in (option_map erased_slot (own_in length_name p)) - given ≡ bound_count (option_map erased_object p) given
      at None = sym (zero_less given)
      at (Some p) = ap (λ s. count_in s - given) (sym (rows_own length_name p.rows))

module _ {S T : Type 0} (made : S → T → Type 0) (meaning : S → T → Label) (store : S) (heap : List (Object T)) (o : ℕ) where
  abbrev Known : T → Type 0
  Known known = Means made meaning store known (λ reading. length_label (option_map (read_object reading) (slice_get heap o)))

  pub known_absent : (shape : Shape T) → HasHeap (made store) heap → IsShape (slice_get heap o) shape → own_in length_name (slice_get heap o) ≡ None → Known shape.structure
  known_absent shape has is none =
      let there = shape_there heap o shape is in
      record {
        belongs = structure_has heap o (made store) shape has is;
        is = λ reading agrees.
            ap reading (ap (λ (q : Shape T). q.structure) there.is)
            ∙ sym (ap (λ p. length_label (option_map (read_object reading) p)) there.here
            ∙ ap (λ s. own_label s (reading there.object.structure)) (read_own reading length_name there.object.rows ∙ ap (option_map (read_slot reading)) (sym (ap (own_in length_name) there.here) ∙ none)));
      }

  pub known_present : (slot : Slot T) (known : T) → own_in length_name (slice_get heap o) ≡ Some slot → Means made meaning store known (λ reading. union (reading slot.existence) (reading slot.label)) → Known known
  known_present slot known some means = record {
    belongs = means.belongs;
    is = λ reading agrees. means.is reading agrees ∙ sym (at reading (slice_get heap o) some);
  }
    where
      at : (reading : T → Label) (p : Option (Object T)) → own_in length_name p ≡ Some slot → length_label (option_map (read_object reading) p) ≡ union (reading slot.existence) (reading slot.label)
      at reading None e = absurd (none-some slot e)
      at reading (Some p) e = ap (λ s. own_label s (reading p.structure)) (read_own reading length_name p.rows ∙ ap (option_map (read_slot reading)) e)

  pub known_present_in : {E : Type 0} (slot : Slot T) (r : Result T E) → own_in length_name (slice_get heap o) ≡ Some slot → IfOk r (λ known. Means made meaning store known (λ reading. union (reading slot.existence) (reading slot.label))) → IfOk r Known
  known_present_in slot (Ok known) some means = known_present slot known some means
  known_present_in slot (Err e) some means = tt

-- ---- its inner part

pub inner_has : {S T : Type 0} (made : S → T → Type 0) (meaning : S → T → Label) (room : S → ℕ) (firm : S → Bool) (old new : S) → IsKept made meaning room firm old new → (o : ObjId) (label : T) (this : Labelled T) (args : List (Labelled T)) (inner : Inner T) → inner ≡ Bound o label this args → made old label → HasValue (made old) this → All (HasValue (made old)) args → HasInner (made new) inner
inner_has made meaning room firm old new kept o label this args inner is m n all =
    subst (HasInner (made new)) (sym is) ((kept.labels label m).0, (kept.labels this.label n).0, All-weaker (HasValue (made old)) (HasValue (made new)) args (λ v h. (kept.labels v.label h).0) all)

-- ---- the act

module _ {S T : Type 0} (made : S → T → Type 0) (meaning : S → T → Label) (store : S) (w : World T) where
  pub bound_made : (heap : List (Object T)) (o f : ObjId) (label depends here none : T) (this : Labelled T) (args : List (Labelled T)) (n : ℕ) → f.0 ≡ length w.heap → n ≡ bound_count (option_map erased_object (slice_get w.heap o.0)) (length args)
      → Means made meaning store here (λ reading. context (map (seen_frame reading) w.frames.frames)) → Means made meaning store none (λ reading. bottom)
      → Means made meaning store depends (λ reading. union (reading label) (length_label (option_map (read_object reading) (slice_get w.heap o.0))))
      → IsLast made meaning store w.heap heap (λ reading. function_with (read_inner reading (Bound o label this args)) (reading depends) n (reading here))
      → Acts made meaning store (λ reading. read_value reading) (λ reading. bind_object o (record { value = value.Object o; label = reading label }) (read_value reading this) (map (read_value reading) args)) w (with_heap heap w) (Ok (outcome.Goes (record { value = value.Object f; label = none })))
  unfolding bind_object
  bound_made heap o f label depends here none this args n number counted context_is empty depending last = record {
    says = λ reading agrees told turns.
        let s = state_of reading w told turns in
        let inner = read_inner reading (Bound o label this args) in
        ap (λ k. Goes (record { value = value.Object (id k); label = bottom }) (record s { heap = s.heap ++ function_with inner (union (reading label) (length_label (slice_get s.heap o.0))) (bound_count (erased_in (slice_get s.heap o.0)) (length (map (read_value reading) args))) (context s.frames) ∷ [] })) (length-map w.heap (read_object reading) ∙ sym number)
        ∙ ap₂ (λ (l c : Label). Goes (record { value = value.Object f; label = bottom }) (record s { heap = s.heap ++ function_with inner l (bound_count (erased_in (slice_get s.heap o.0)) (length (map (read_value reading) args))) c ∷ [] }))
        (ap (λ p. union (reading label) (length_label p)) (slice_get-map (read_object reading) w.heap o.0) ∙ sym (depending.is reading agrees)) (sym (context_is.is reading agrees))
        ∙ ap (λ (k : ℕ). Goes (record { value = value.Object f; label = bottom }) (record s { heap = s.heap ++ function_with inner (reading depends) k (reading here) ∷ [] })) (count_same reading)
        ∙ ap₂ (λ (l : Label) (h : List (Object Label)). Goes (record { value = value.Object f; label = l }) (record s { heap = h })) (sym (empty.is reading agrees)) (sym (last.says reading agrees));
  }
    where
      erased_same : (reading : T → Label) (p : Option (Object T)) → erased_in (option_map (read_object reading) p) ≡ option_map erased_object p
      erased_same reading None = refl
      erased_same reading (Some p) = ap (λ q. Some q) (object_erased reading p)

      count_same : (reading : T → Label) → bound_count (erased_in (slice_get (read_heap reading w.heap) o.0)) (length (map (read_value reading) args)) ≡ n
      count_same reading =
          ap₂ (λ p k. bound_count p k) (ap erased_in (slice_get-map (read_object reading) w.heap o.0) ∙ erased_same reading (slice_get w.heap o.0)) (length-map args (read_value reading))
          ∙ sym counted

  module _ (tables : Tables) (inputs : Given) (target this : Labelled T) (args : List (Labelled T)) (after : World T) (result : Result (machine.Outcome (Labelled T) T) (FlowFault T)) where
    abbrev binding : (T → Label) → L Val
    binding reading = act tables inputs bind (read_value reading target ∷ read_value reading this ∷ map (read_value reading) args)

    abbrev by : (T → Label) → Bool → State → Outcome Halt Jump Val State
    by reading b s = bind_to b (read_value reading target) (read_value reading this) (map (read_value reading) args) s

    abbrev Throws : Type 0
    Throws = Acts made meaning store (λ reading. read_value reading) (λ reading. throw_error {X = Val} kinds.TypeError (reading target.label)) w after result

    abbrev Binds : Type 0
    Binds = Acts made meaning store (λ reading. read_value reading) binding w after result

    pub primitive_refused : (p : Primitive) → target.value ≡ value.Primitive p → Throws → Binds
    unfolding act bind_to
    primitive_refused p is acts =
        Acts-as made meaning store (λ reading. read_value reading) (λ reading. throw_error {X = Val} kinds.TypeError (reading target.label)) binding w after result
        (λ reading agrees told turns. let s = state_of reading w told turns in ap (λ v. by reading (is_function_at s.heap v) s) is)
        acts

    -- whether the object can be called, as the code tests it
    tested : (o : ObjId) → target.value ≡ value.Object o → (reading : T → Label) → is_function_at (read_heap reading w.heap) target.value ≡ is_plain_function (slice_get (erased_heap w.heap) o.0)
    tested o is reading =
        ap (is_function_at (read_heap reading w.heap)) is
        ∙ ap is_function_in (slice_get-map (read_object reading) w.heap o.0)
        ∙ same (slice_get w.heap o.0)
        ∙ sym (ap is_plain_function (erased_at w.heap o.0))
      where
        same : (p : Option (Object T)) → is_function_in (option_map (read_object reading) p) ≡ is_plain_function (option_map erased_object p)
        same None = refl
        same (Some p) = refl

    module _ (o : ObjId) (is : target.value ≡ value.Object o) where
      pub object_refused : is_plain_function (slice_get (erased_heap w.heap) o.0) ≡ false → Throws → Binds
      unfolding act bind_to
      object_refused test acts =
          Acts-as made meaning store (λ reading. read_value reading) (λ reading. throw_error {X = Val} kinds.TypeError (reading target.label)) binding w after result
          (λ reading agrees told turns. let s = state_of reading w told turns in ap (λ b. by reading b s) (tested o is reading ∙ test))
          acts

      pub function_bound : is_plain_function (slice_get (erased_heap w.heap) o.0) ≡ true
          → Acts made meaning store (λ reading. read_value reading) (λ reading. bind_object o (record { value = value.Object o; label = reading target.label }) (read_value reading this) (map (read_value reading) args)) w after result → Binds
      unfolding act bind_to bind_value
      function_bound test acts =
          Acts-as made meaning store (λ reading. read_value reading) (λ reading. bind_object o (record { value = value.Object o; label = reading target.label }) (read_value reading this) (map (read_value reading) args)) binding w after result
          (λ reading agrees told turns.
          let s = state_of reading w told turns in
          ap (λ b. by reading b s) (tested o is reading ∙ test)
          ∙ ap (λ v. bind_value v (record { value = v; label = reading target.label }) (read_value reading this) (map (read_value reading) args) s) is)
          acts
