-- What `instanceof` does up to the read of the `prototype`, in a reading of the labels.
use Rattle.std.proofs.Common.{arith, ◌≡◌, ◌<◌, ◌≤◌, ℕ, zero, suc, Bool, true, false, List, map, length, Option, Some, None, Ok, Result, refl, sym, ap, ap₂, subst, ◌∙◌}
use Rattle.std.specs.List.{slice_get}
use Rattle.std.specs.Option.{option_map}
use Rattle.std.proofs.lemmas.Option.{none-some, same_Some, slice_get-map, slice_get_past, slice_get_within}
use Rattle.origin_labels.specs.Label.{Label, IsLabel, bottom, union, within}
use Rattle.origin_labels.specs.Stores.{IsKept}
use Rattle.origin_labels.proofs.LabelLaws.{IsLabel-bottom, IsLabel-union, union-assoc, union-bottom, union-bottom_left}
use Rattle.flow_frames.specs.declared.faults.FlowFault.{FlowFault}
use Rattle.flow_frames.specs.declared.faults.Rule.{Rule}
use Rattle.flow_frames.specs.declared.faults.Rule.TheVariants.{W9}
use Rattle.js_number.specs.declared.primitive.Primitive.{Primitive}
use Rattle.js_number.specs.declared.primitive.Primitive.TheVariants as prims
use Rattle.js_ast.specs.Functions.{FunctionCode}
use Rattle.js_values.specs.declared.ids.ObjId.{ObjId}
use Rattle.js_values.specs.declared.inner.Inner.{Inner}
use Rattle.js_values.specs.declared.inner.Inner.TheVariants.{Plain, Script, Native, Bound}
use Rattle.js_values.specs.declared.value.Labelled.{Labelled}
use Rattle.js_values.specs.declared.value.Value.{Value}
use Rattle.js_values.specs.declared.value.Value.TheVariants as value
use Rattle.js_values.specs.Objects.{Object}
use Rattle.js_values.specs.Readings.{IsReading, HasHeap, HasInner, read_heap, read_inner, read_object, read_value}
use Rattle.js_values.specs.Walks.{find, object_chain}
use Rattle.js_values.proofs.ReadingLaws.{IsReading-earlier}
use Rattle.object_heap.specs.Formed.{IsFormed, IsInner, target_of}
use Rattle.prototype_walk.specs.Answers.{Means}
use Rattle.native_protocol.specs.declared.request.ErrorKind.{ErrorKind}
use Rattle.native_protocol.specs.declared.request.ErrorKind.TheVariants as kinds
use Rattle.es_meaning.specs.Functions.{bound_behind}
use Rattle.es_meaning.specs.Operations as operations
use Rattle.es_meaning.specs.Outcomes.{Goes, Jumps}
use Rattle.es_meaning.specs.Plain.{prototype_name}
use Rattle.flow_meaning.specs.Planned.{Enters, Plan, as_plan, instance_by, instance_of, instance_if, instance_value, with_outcome}
use Rattle.flow_meaning.specs.Requested.{Aim, own_aim, aim_behind, aim_in, aim_within, aim_of, is_function_in, is_function_at}
use Rattle.flow_meaning.specs.Scopes.{Val, State, Jump, LabelledLine, guard, jump, jump_to, reached, cut_to}
use Rattle.flow_frames.specs.Held.{meant_at}
use Rattle.flow_frames.specs.Rules.{jump_need}
use Rattle.flow_meaning.specs.Tracked.{called_value, found_by, property_of, throw_error, truth_of, with_error, error_jump}
use Rattle.run_state.specs.declared.outcome.Access.{Access}
use Rattle.run_state.specs.declared.outcome.Outcome.{Outcome}
use Rattle.run_state.specs.declared.outcome.Outcome.TheVariants as outcome
use Rattle.run_state.specs.declared.world.World.{World}
use Rattle.run_state.specs.Accesses.{IsAccess}
use Rattle.run_state.specs.Acts.{Acts}
use Rattle.run_state.specs.Worlds.{state_of}
use Rattle.run_state.proofs.ActLaws.{Acts-as}
use Rattle.step_objects.specs.declared.instances.Aimed.{Aimed}
use Rattle.step_objects.specs.declared.instances.InstanceTest.{InstanceTest}
use Rattle.step_objects.specs.declared.instances.InstanceTest.TheVariants as test
use Rattle.step_objects.specs.Instances.{Test, is_answered, is_read, test_by, test_value, test_of, tested, tested_if, tests_on, AreTested, IsTest, read_test, bound_in, bound_at, IsAimed}
use Rattle.step_objects.proofs.ShapeLaws.{object_has}
use Rattle.step_objects.proofs.InstanceLaws.{there_at}

-- ---- the plan of the meaning

-- an error that is thrown goes on nowhere
thrown_guard : (b : Bool) (rule : Rule) (need have : Label) (k : Jump) (depth : ℕ) (next : Test → State → Plan) (s : State) → as_plan operations.Value (guard {X = Val} b rule need have (λ u. Jumps k (cut_to depth u)) s) ≡ with_outcome (guard {X = Test} b rule need have (λ u. Jumps k (cut_to depth u)) s) next
unfolding guard
thrown_guard true rule need have k depth next s = refl
thrown_guard false rule need have k depth next s = refl

thrown_on : (kind : ErrorKind) (cause : Label) (next : Test → State → Plan) (s : State) → as_plan operations.Value (throw_error {X = Val} kind cause s) ≡ with_outcome (throw_error {X = Test} kind cause s) next
unfolding throw_error jump jump_to
thrown_on kind cause next s =
    let made = with_error kind s in
    let k = error_jump cause (length s.heap) in
    let depth = reached k.to made.frames in
    thrown_guard (within (jump_need made.frames depth cause) (meant_at made.frames depth)) W9 (jump_need made.frames depth cause) (meant_at made.frames depth) k (suc depth) next made

module _ (functions : List FunctionCode) (E : Enters) (v : Val) (s : State) where
  by_object : (o : ObjId) (label : Label) (f : ℕ) → instance_by functions v o label f E s ≡ tests_on functions E (test_by s.heap v o label f) s
  unfolding instance_by property_of
  by_object o label f = refl

  by_value : (w : Value) (label : Label) (f : ℕ) → instance_of functions v w label (aim_of s.heap f) E s ≡ tests_on functions E (test_value s.heap v w label f) s
  unfolding instance_of
  by_value (value.Primitive p) label f = refl
  by_value (value.Object o) label f = let aim = aim_of s.heap f in by_object o (union label aim.label) aim.target.function

  by_test : (b : Bool) (label : Label) (f : ℕ) → instance_if functions b v label f E s ≡ with_outcome (tested_if b v label f s) (tests_on functions E)
  unfolding instance_if tested_if
  by_test true label f = by_value v.value label f
  by_test false label f = thrown_on kinds.TypeError label (tests_on functions E) s

  by_function : (label : Label) (f : Value) → instance_value functions v label f E s ≡ with_outcome (tested v label f s) (tests_on functions E)
  unfolding instance_value tested
  by_function label (value.Primitive p) = thrown_on kinds.TypeError label (tests_on functions E) s
  by_function label (value.Object f) = by_test (is_function_in (slice_get s.heap f.0)) label f.0

pub are_tested : AreTested
are_tested tables inputs set functions E v f s = by_function functions E v s f.label f.value

-- ---- the function that a bound one comes to

module _ {T : Type 0} (reading : T → Label) where
  alike_at : (f g : ℕ → Aim) (i : ℕ) (x : Inner T) → ((j : ℕ) → target_of x ≡ Some j → f j ≡ g j) → aim_behind f i (read_inner reading x) ≡ aim_behind g i (read_inner reading x)
  alike_at f g i Plain same = refl
  alike_at f g i (Script function env) same = refl
  alike_at f g i (Native which) same = refl
  alike_at f g i (Bound target label this args) same =
      ap (λ (rest : Aim). record { target = bound_behind (read_value reading this) (map (read_value reading) args) rest.target; label = union (reading label) rest.label }) (same target.0 refl)

  alike_in : (f g : ℕ → Aim) (i : ℕ) (q : Option (Object T)) → ((p : Object T) → q ≡ Some p → (j : ℕ) → target_of p.inner ≡ Some j → f j ≡ g j) → aim_in f i (option_map (read_object reading) q) ≡ aim_in g i (option_map (read_object reading) q)
  alike_in f g i None same = refl
  alike_in f g i (Some p) same = alike_at f g i p.inner (same p refl)

  module _ (heap : List (Object T)) (formed : IsFormed heap) where
    abbrev H : List (Object Label)
    H = read_heap reading heap

    -- each target is below its function, so that enough steps are enough
    enough : (n m i : ℕ) → i < n → i < m → aim_within H n i ≡ aim_within H m i
    enough zero m i a b = absurd (omega (arith, a))
    enough (suc n) zero i a b = absurd (omega (arith, b))
    enough (suc n) (suc m) i a b =
        ap (aim_in (aim_within H n) i) (slice_get-map (read_object reading) heap i)
        ∙ alike_in (aim_within H n) (aim_within H m) i (slice_get heap i) (λ p here j leads. let below = formed.targets i j p here leads in enough n m j (omega (arith, below, a)) (omega (arith, below, b)))
        ∙ sym (ap (aim_in (aim_within H m) i) (slice_get-map (read_object reading) heap i))

    aim_here : (i : ℕ) (p : Object T) → slice_get heap i ≡ Some p → aim_of H i ≡ aim_behind (aim_of H) i (read_inner reading p.inner)
    aim_here i p here =
        ap (aim_in (aim_within H i) i) (slice_get-map (read_object reading) heap i ∙ ap (option_map (read_object reading)) here)
        ∙ alike_at (aim_within H i) (aim_of H) i p.inner (λ j leads. let below = formed.targets i j p here leads in enough i (suc j) j below (omega arith))

  -- all its labels are joined to the empty one
  IsLabel-behind : (next : ℕ → Aim) → ((j : ℕ) → IsLabel (next j).label) → (i : ℕ) (x : Inner T) → IsLabel (aim_behind next i (read_inner reading x)).label
  IsLabel-behind next labels i Plain = IsLabel-bottom
  IsLabel-behind next labels i (Script function env) = IsLabel-bottom
  IsLabel-behind next labels i (Native which) = IsLabel-bottom
  IsLabel-behind next labels i (Bound target label this args) = IsLabel-union (reading label) (next target.0).label (labels target.0)

  IsLabel-in : (next : ℕ → Aim) → ((j : ℕ) → IsLabel (next j).label) → (i : ℕ) (q : Option (Object T)) → IsLabel (aim_in next i (option_map (read_object reading) q)).label
  IsLabel-in next labels i None = IsLabel-bottom
  IsLabel-in next labels i (Some p) = IsLabel-behind next labels i p.inner

  IsLabel-aim : (heap : List (Object T)) (n i : ℕ) → IsLabel (aim_within (read_heap reading heap) n i).label
  IsLabel-aim heap zero i = IsLabel-bottom
  IsLabel-aim heap (suc n) i = subst (λ q. IsLabel (aim_in (aim_within (read_heap reading heap) n) i q).label) (sym (slice_get-map (read_object reading) heap i)) (IsLabel-in (aim_within (read_heap reading heap) n) (IsLabel-aim heap n) i (slice_get heap i))

-- what an object has of a bound function
abbrev aimed_at : {T : Type 0} → ObjId → T → Aimed T
aimed_at target label = record { function = target; label = label }

pub inner_bound : {T : Type 0} (q : Option (Object T)) (x : Inner T) → IsInner q x → bound_in x ≡ bound_at q
inner_bound None x is = absurd is
inner_bound (Some p) x is = ap bound_in is

-- an object whose inner part is bound, or isn't
pub record StandsBound {T : Type 0} (heap : List (Object T)) (i : ℕ) (b : Option (Aimed T)) : Type 0 where
  pub object : Object T
  pub here : slice_get heap i ≡ Some object
  pub is : bound_in object.inner ≡ b

pub stands_bound : {T : Type 0} (heap : List (Object T)) (i : ℕ) (b : Option (Aimed T)) → i < length heap → b ≡ bound_at (slice_get heap i) → StandsBound heap i b
stands_bound heap i b lt is = let there = there_at heap i lt in record { object = there.0; here = there.1; is = sym (is ∙ ap bound_at there.1) }

bound_target : {T : Type 0} (x : Inner T) (f : Aimed T) → bound_in x ≡ Some f → target_of x ≡ Some (f.function.0)
bound_target Plain f is = absurd (none-some f is)
bound_target (Script function env) f is = absurd (none-some f is)
bound_target (Native which) f is = absurd (none-some f is)
bound_target (Bound target label this args) f is = ap (λ (x : Aimed _). Some (x.function.0)) (same_Some (aimed_at target label) f is)

-- its target stands below it, and its label was made
pub target_below : {T : Type 0} (heap : List (Object T)) → IsFormed heap → (i : ℕ) (f : Aimed T) → StandsBound heap i (Some f) → (f.function.0 < i) × (f.function.0 < length heap)
target_below heap formed i f there =
    let below = formed.targets i f.function.0 there.object there.here (bound_target there.object.inner f there.is) in
    let within = slice_get_within heap i there.object there.here in
    (below, omega (arith, below, within))

bound_has : {T : Type 0} (made : T → Type 0) (x : Inner T) (f : Aimed T) → bound_in x ≡ Some f → HasInner made x → made f.label
bound_has made Plain f is has = absurd (none-some f is)
bound_has made (Script function env) f is has = absurd (none-some f is)
bound_has made (Native which) f is has = absurd (none-some f is)
bound_has made (Bound target label this args) f is has = subst made (ap (λ (x : Aimed _). x.label) (same_Some (aimed_at target label) f is)) has.0

pub target_has : {T : Type 0} (made : T → Type 0) (heap : List (Object T)) (i : ℕ) (f : Aimed T) → HasHeap made heap → StandsBound heap i (Some f) → made f.label
target_has made heap i f has there = bound_has made there.object.inner f there.is (object_has made heap i there.object has there.here).inner

-- what the first function comes to is what this one comes to, behind the labels so far
pub record Aims {S T : Type 0} (made : S → T → Type 0) (meaning : S → T → Label) (store : S) (heap : List (Object T)) (o at : ℕ) (label : T) : Type 0 where
  pub function : (reading : T → Label) → IsReading made meaning store reading → (aim_of (read_heap reading heap) o).target.function ≡ (aim_of (read_heap reading heap) at).target.function
  pub labels : (reading : T → Label) → IsReading made meaning store reading → (aim_of (read_heap reading heap) o).label ≡ union (reading label) (aim_of (read_heap reading heap) at).label

bound_aim : {T : Type 0} (reading : T → Label) (next : ℕ → Aim) (i : ℕ) (x : Inner T) (f : Aimed T) → bound_in x ≡ Some f → ((aim_behind next i (read_inner reading x)).target.function ≡ (next f.function.0).target.function) × ((aim_behind next i (read_inner reading x)).label ≡ union (reading f.label) (next f.function.0).label)
bound_aim reading next i Plain f is = absurd (none-some f is)
bound_aim reading next i (Script function env) f is = absurd (none-some f is)
bound_aim reading next i (Native which) f is = absurd (none-some f is)
bound_aim reading next i (Bound target label this args) f is =
    let same = same_Some (aimed_at target label) f is in
    (ap (λ (x : Aimed _). (next x.function.0).target.function) same, ap (λ (x : Aimed _). union (reading x.label) (next x.function.0).label) same)

free_aim : {T : Type 0} (reading : T → Label) (next : ℕ → Aim) (i : ℕ) (x : Inner T) → bound_in x ≡ None → aim_behind next i (read_inner reading x) ≡ own_aim i
free_aim reading next i Plain is = refl
free_aim reading next i (Script function env) is = refl
free_aim reading next i (Native which) is = refl
free_aim reading next i (Bound target label this args) is = absurd (none-some (aimed_at target label) (sym is))

module _ {S T : Type 0} (made : S → T → Type 0) (meaning : S → T → Label) (room : S → ℕ) (firm : S → Bool) (heap : List (Object T)) (formed : IsFormed heap) (o : ℕ) where
  pub aims_first : (store : S) (label : T) → made store label → meaning store label ≡ bottom → Aims made meaning store heap o o label
  aims_first store label m empty = record {
    function = λ reading read. refl;
    labels = λ reading read. let aim = aim_of (read_heap reading heap) o in sym (ap (λ l. union l aim.label) (read.agrees label m ∙ empty) ∙ union-bottom_left aim.label);
  }

  module _ (old new : S) (kept : IsKept made meaning room firm old new) (at : ℕ) (label : T) (aims : Aims made meaning old heap o at label) where
    earlier : (reading : T → Label) → IsReading made meaning new reading → IsReading made meaning old reading
    earlier reading read = IsReading-earlier made meaning room firm old new reading kept read

    -- a further target
    pub aims_on : (f : Aimed T) (joined : T) → StandsBound heap at (Some f) → Means made meaning new joined (λ reading. union (reading label) (reading f.label)) → Aims made meaning new heap o f.function.0 joined
    aims_on f joined there means = record {
      function = λ reading read.
          aims.function reading (earlier reading read)
          ∙ ap (λ (a : Aim). a.target.function) (aim_here reading heap formed at there.object there.here)
          ∙ (bound_aim reading (aim_of (read_heap reading heap)) at there.object.inner f there.is).0;
      labels = λ reading read.
          let rest = (aim_of (read_heap reading heap) f.function.0).label in
          aims.labels reading (earlier reading read)
          ∙ ap (union (reading label)) (ap (λ (a : Aim). a.label) (aim_here reading heap formed at there.object there.here) ∙ (bound_aim reading (aim_of (read_heap reading heap)) at there.object.inner f there.is).1)
          ∙ sym (union-assoc (reading label) (reading f.label) rest (IsLabel-aim reading heap (suc f.function.0) f.function.0))
          ∙ ap (λ l. union l rest) (sym (means.is reading read));
    }

  -- the last one
  pub aims_last : (store : S) → ((label : T) → made store label → IsLabel (meaning store label)) → (at : ObjId) (label : T) → made store label → Aims made meaning store heap o at.0 label → StandsBound heap at.0 None → IsAimed made meaning store heap o (record { function = at; label = label })
  aims_last store rising at label m aims there = record {
    belongs = m;
    function = λ reading read. sym (aims.function reading read ∙ ap (λ (a : Aim). a.target.function) (aim_here reading heap formed at.0 there.object there.here ∙ free_aim reading (aim_of (read_heap reading heap)) at.0 there.object.inner there.is));
    label = λ reading read.
        sym (aims.labels reading read
        ∙ ap (λ (a : Aim). union (reading label) a.label) (aim_here reading heap formed at.0 there.object there.here ∙ free_aim reading (aim_of (read_heap reading heap)) at.0 there.object.inner there.is)
        ∙ union-bottom (reading label) (subst IsLabel (sym (read.agrees label m)) (rising label m)));
  }

-- an object that isn't there
pub aimed_nowhere : {S T : Type 0} (made : S → T → Type 0) (meaning : S → T → Label) (store : S) (heap : List (Object T)) (o : ObjId) (label : T) → length heap ≤ o.0 → made store label → meaning store label ≡ bottom → IsAimed made meaning store heap o.0 (record { function = o; label = label })
aimed_nowhere made meaning store heap o label past m empty = record {
  belongs = m;
  function = λ reading read. sym (ap (λ (a : Aim). a.target.function) (gone reading));
  label = λ reading read. read.agrees label m ∙ empty ∙ sym (ap (λ (a : Aim). a.label) (gone reading));
}
  where
    gone : (reading : _ → Label) → aim_of (read_heap reading heap) o.0 ≡ own_aim o.0
    gone reading = ap (aim_in (aim_within (read_heap reading heap) o.0) o.0) (slice_get-map (read_object reading) heap o.0 ∙ ap (option_map (read_object reading)) (slice_get_past heap o.0 past))

-- ---- the test

pub aimed_later : {S T : Type 0} (made : S → T → Type 0) (meaning : S → T → Label) (room : S → ℕ) (firm : S → Bool) (old new : S) (kept : IsKept made meaning room firm old new) (heap : List (Object T)) (o : ℕ) (a : Aimed T) → IsAimed made meaning old heap o a → IsAimed made meaning new heap o a
aimed_later made meaning room firm old new kept heap o a is = record {
  belongs = (kept.labels a.label is.belongs).0;
  function = λ reading read. is.function reading (IsReading-earlier made meaning room firm old new reading kept read);
  label = λ reading read. is.label reading (IsReading-earlier made meaning room firm old new reading kept read);
}

-- of a primitive value nothing is read
pub test_answered : {S T : Type 0} (made : S → T → Type 0) (meaning : S → T → Label) (store : S) (heap : List (Object T)) (v : Labelled T) (label : T) (f : ℕ) (depends : T) → Means made meaning store depends (λ reading. union (reading v.label) (reading label))
    → (p : Primitive) → v.value ≡ value.Primitive p → IsTest made meaning store (λ reading. test_of (read_heap reading heap) (read_value reading v) (reading label) f) (test.Answered (record { value = value.Primitive (prims.Bool false); label = depends }))
test_answered made meaning store heap v label f depends means p is = record {
  belongs = means.belongs;
  is = λ reading read.
      ap (λ l. is_answered (truth_of false l)) (means.is reading read)
      ∙ sym (ap (λ w. test_value (read_heap reading heap) (read_value reading v) w (reading label) f) is);
}

module _ {S T : Type 0} (made : S → T → Type 0) (meaning : S → T → Label) (store : S) (heap : List (Object T)) (v : Labelled T) (label : T) (f : ℕ) (aimed : Aimed T) (of_function depends : T)
    (aims : IsAimed made meaning store heap f aimed) (of_means : Means made meaning store of_function (λ reading. union (reading label) (reading aimed.label))) (means : Means made meaning store depends (λ reading. union (reading v.label) (reading of_function))) where
  abbrev tests : InstanceTest T → Type 0
  tests t = IsTest made meaning store (λ reading. test_of (read_heap reading heap) (read_value reading v) (reading label) f) t

  -- the label of the function with those of its targets
  function_label : (reading : T → Label) → IsReading made meaning store reading → reading of_function ≡ union (reading label) (aim_of (read_heap reading heap) f).label
  function_label reading read = of_means.is reading read ∙ ap (union (reading label)) (aims.label reading read)

  pub test_reads : (o : ObjId) → v.value ≡ value.Object o → (name : List ℕ) → name ≡ prototype_name → (a : Access T)
      → IsAccess made meaning store (λ reading. found_by (reading depends) (called_value (reading of_function) aimed.function.0) (find name (object_chain (read_heap reading heap) aimed.function.0))) a → tests (test.Reads o depends a)
  test_reads o is name named a gives = record {
    belongs = (means.belongs, gives.belongs);
    is = λ reading read.
        let heap_read = read_heap reading heap in
        let aim = aim_of heap_read f in
        ap (λ x. is_read o.0 (reading depends) x) (gives.is reading read ∙ ap (λ k. found_by (reading depends) (called_value (reading of_function) aimed.function.0) (find k (object_chain heap_read aimed.function.0))) named)
        ∙ ap (λ d. is_read o.0 d (found_by d (called_value (reading of_function) aimed.function.0) (find prototype_name (object_chain heap_read aimed.function.0)))) (means.is reading read)
        ∙ ap₂ (λ l g. test_by heap_read (read_value reading v) o l g) (function_label reading read) (aims.function reading read)
        ∙ sym (ap (λ w. test_value heap_read (read_value reading v) w (reading label) f) is);
  }

module _ {S T : Type 0} (made : S → T → Type 0) (meaning : S → T → Label) (store : S) (w : World T) (v f : Labelled T) where
  abbrev begins : World T → Result (Outcome (InstanceTest T) T) (FlowFault T) → Type 0
  begins after result = Acts made meaning store (λ reading. read_test reading) (λ reading. tested (read_value reading v) (reading f.label) f.value) w after result

  pub tested_primitive : (after : World T) (result : Result (Outcome (InstanceTest T) T) (FlowFault T)) (p : Primitive) → f.value ≡ value.Primitive p → Acts made meaning store (λ reading. read_test reading) (λ reading. throw_error {X = Test} kinds.TypeError (reading f.label)) w after result → begins after result
  unfolding tested
  tested_primitive after result p is acts =
      Acts-as made meaning store (λ reading. read_test reading) (λ reading. throw_error {X = Test} kinds.TypeError (reading f.label)) (λ reading. tested (read_value reading v) (reading f.label) f.value) w after result
      (λ reading read told turns. ap (λ u. tested (read_value reading v) (reading f.label) u (state_of reading w told turns)) is) acts

  module _ (o : ObjId) (object : f.value ≡ value.Object o) (holds : Bool) (is : (reading : T → Label) → holds ≡ is_function_at (read_heap reading w.heap) (value.Object o)) where
    by_holds : (b : Bool) → holds ≡ b → (reading : T → Label) (told : List LabelledLine) (turns : ℕ) → tested (read_value reading v) (reading f.label) f.value (state_of reading w told turns) ≡ tested_if b (read_value reading v) (reading f.label) o.0 (state_of reading w told turns)
    unfolding tested
    by_holds b so reading told turns =
        let s = state_of reading w told turns in
        ap (λ u. tested (read_value reading v) (reading f.label) u s) object
        ∙ ap (λ t. tested_if t (read_value reading v) (reading f.label) o.0 s) (sym (is reading) ∙ so)

    pub tested_other : (after : World T) (result : Result (Outcome (InstanceTest T) T) (FlowFault T)) → holds ≡ false → Acts made meaning store (λ reading. read_test reading) (λ reading. throw_error {X = Test} kinds.TypeError (reading f.label)) w after result → begins after result
    unfolding tested_if
    tested_other after result failed acts =
        Acts-as made meaning store (λ reading. read_test reading) (λ reading. throw_error {X = Test} kinds.TypeError (reading f.label)) (λ reading. tested (read_value reading v) (reading f.label) f.value) w after result
        (λ reading read told turns. by_holds false failed reading told turns) acts

    pub tested_function : (t : InstanceTest T) → holds ≡ true → IsTest made meaning store (λ reading. test_of (read_heap reading w.heap) (read_value reading v) (reading f.label) o.0) t → begins w (Ok (outcome.Goes t))
    unfolding tested_if
    tested_function t holds_true gives = record {
      says = λ reading read told turns. by_holds true holds_true reading told turns ∙ ap (λ (x : Test). Goes x (state_of reading w told turns)) (sym (gives.is reading read));
    }
