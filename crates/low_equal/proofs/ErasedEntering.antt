-- What a labelled computation enters is what the unlabelled one enters: called functions, getters and setters, conversions, and what `instanceof` reads.
use Rattle.std.proofs.Common.{◌≡◌, ℕ, suc, Bool, true, false, ◌||◌, cond, nat_eq, List, [], ◌∷◌, ◌++◌, length, Option, Some, None, Result, Ok, Err, slice_get, refl, sym, ◌∙◌, ap, subst, true≢false}
use Rattle.std.specs.List.{list_any}
use Rattle.std.specs.Option.{option_map}
use Rattle.origin_labels.specs.Label.{Label, bottom, union}
use Rattle.flow_frames.specs.declared.kind.Kind.TheVariants as kind
use Rattle.js_number.specs.declared.int.LeftNumbers.{LeftNumbers}
use Rattle.js_number.specs.declared.num.Num.{Num as Number}
use Rattle.js_number.specs.declared.primitive.Primitive.TheVariants as prims
use Rattle.js_values.specs.declared.ids.ObjId.{ObjId}
use Rattle.js_values.specs.declared.value.Value.{Value}
use Rattle.js_values.specs.declared.value.Value.TheVariants as value
use Rattle.js_values.specs.declared.property.Slot.{Slot}
use Rattle.js_values.specs.Objects.{PlainObject, Object}
use Rattle.js_values.specs.Walks.{object_chain, find}
use Rattle.js_ast.specs.Trees.{Function, body_of, Statements}
use Rattle.js_ast.specs.Functions.{FunctionCode}
use Rattle.native_protocol.specs.declared.hint.Hint.{Hint}
use Rattle.native_protocol.specs.declared.hint.Hint.TheVariants as hint
use Rattle.native_protocol.specs.declared.request.ErrorKind.TheVariants as kinds
use Rattle.native_protocol.specs.declared.request.GivenMarks.{GivenMarks}
use Rattle.es_meaning.specs.BuiltIns.{BuiltIns}
use Rattle.es_meaning.specs.Holders.{constructs_in}
use Rattle.es_meaning.specs.Outcomes.{Halt, Outcome, Goes, Jumps, Ends, ret, and_then, ◌>>=◌}
use Rattle.es_meaning.specs.Operations.{One, Shape}
use Rattle.es_meaning.specs.Operations.{Value as a_value}
use Rattle.es_meaning.specs.Operators.{is_object, is_compared, converts_beside}
use Rattle.es_meaning.specs.Environments.{called_env}
use Rattle.es_meaning.specs.Functions.{Callee, not_callable, empty_callee, of_script, of_built_in, Target, this_or}
use Rattle.es_meaning.specs.Start.{id}
use Rattle.es_meaning.specs.Plain as plain
use Rattle.es_meaning.specs.Plain.{State, Jump, P, number_in, is_count, count_of, choose, undefined, ended_call, ended_construction, object_or_default, prototype_name}
use Rattle.es_meaning.specs.Requested as requested
use Rattle.es_meaning.specs.Requested.{no_marks}
use Rattle.flow_meaning.specs.Erased.{erased_object, erased_heap, labelled_values, unlabelled}
use Rattle.flow_meaning.specs.Scopes as scopes
use Rattle.flow_meaning.specs.Scopes.{Val, L, joined, scope, construction, settled_value}
use Rattle.flow_meaning.specs.Requested as labelled
use Rattle.flow_meaning.specs.Requested.{aim_of}
use Rattle.flow_meaning.specs.Tracked as tracked
use Rattle.low_equal.proofs.Erased.{erased, Extends, goes_extends, ends_extends, Mark, passes, calls, Shaped, YieldsBy, Yields, goes, ends, LiftBy, Lift, goes_to, ret_lifts, bind_by, bind_lifts, choose_lifts, scope_pops, frame_lifts}
use Rattle.low_equal.proofs.ErasedHeaps.{length_erased, object_erased, appended_erased, erased_chain, chain_erased, erased_found, find_erased, values_of, values_appended, erased_target, this_erased, aim_erased}
use Rattle.low_equal.proofs.ErasedActs.{throws_yields, throws_extends, erased_access, labelled_access, labelled_access_is, property_lifts, accessed_lifts, typeof_lifts, erased_putting, labelled_putting, labelled_putting_is, put_value_lifts, erased_reference}
use Rattle.low_equal.proofs.ErasedRequests.{function_in_erased, standing_erased, defining_lifts}
use Rattle.low_equal.proofs.ErasedDefinitions.{erased_defining}
use Rattle.low_equal.proofs.ErasedLengths.{no_marks_kept, length_lifts}
use Rattle.low_equal.proofs.ErasedCalls.{call_lifts, call_extends, made_extends, made_yields, labelled_are, records_length, with_call_erased}

-- an error that the engine throws
throw_lifts : {w : List Mark} (label : Label) → Lift a_value w (tracked.throw_error kinds.TypeError label) (plain.throw_error kinds.TypeError)
throw_lifts label = record { yields = λ s r. throws_yields _ label s r; extends = throws_extends _ }

-- what a value is for a call
callee_in_erased : (functions : List FunctionCode) (o : Option (Object Label)) → plain.callee_in functions (option_map erased_object o) ≡ tracked.callee_in functions o
callee_in_erased functions None = refl
callee_in_erased functions (Some p) = refl

callee_erased : (functions : List FunctionCode) (heap : List (Object Label)) (o : ℕ) → plain.callee_at functions (erased_heap heap) o ≡ tracked.callee_at functions heap o
unfolding plain.callee_at tracked.callee_at
callee_erased functions heap o = ap (plain.callee_in functions) (object_erased heap o) ∙ callee_in_erased functions (slice_get heap o)

-- a call begins without a line
call_prints_nothing : (functions : List FunctionCode) (number : ℕ) (f : Function) (place : ℕ) (base : Value) (vs : List Value) (s : State) → (plain.with_call functions number f place base vs s).lines ≡ s.lines
unfolding plain.with_call
call_prints_nothing functions number f place base vs s = refl

-- and leaves the frames
frames_kept : (functions : List FunctionCode) (number : ℕ) (f : Function) (place : ℕ) (base : Val) (vs : List Val) (s : scopes.State) {w : List Mark} → Shaped w s.frames → Shaped w (tracked.with_call functions number f place base vs s).frames
unfolding tracked.with_call
frames_kept functions number f place base vs s r = r

-- the value of a property that is found
found_value : (walk : Label) (f : Option (ℕ × Slot Label)) → plain.value_found (erased_found f) ≡ (tracked.value_found walk f).value
found_value walk None = refl
found_value walk (Some f) = refl

prototype_erased : (heap : List (Object Label)) (o : ℕ) → plain.prototype_of (erased_heap heap) o ≡ tracked.standing heap (object_or_default (tracked.prototype_of heap o).value)
prototype_erased heap o =
    ap (λ f. plain.standing (erased_heap heap) (object_or_default (plain.value_found f))) (find_erased prototype_name heap o)
    ∙ ap (λ v. plain.standing (erased_heap heap) (object_or_default v)) (found_value (find prototype_name (object_chain heap o)).walk (find prototype_name (object_chain heap o)).at)
    ∙ standing_erased heap (object_or_default (tracked.prototype_of heap o).value)

fresh_erased : (o : ℕ) (s : scopes.State) → erased (tracked.with_fresh (tracked.prototype_of s.heap o) s) ≡ plain.with_fresh (plain.prototype_of (erased_heap s.heap) o) (erased s)
fresh_erased o s =
    ap (λ (h : List PlainObject). record (erased s) { heap = h }) (appended_erased s.heap _)
    ∙ ap (λ proto. plain.with_fresh proto (erased s)) (sym (prototype_erased s.heap o))

-- how what is called is entered, with labels and without
pub record Enters (E : tracked.Enters) (D : plain.Enters) : Type 0 where
  pub body : (w : List Mark) (ss : Statements) (i : ℕ) → Lift One (calls ∷ w) (E.body ss (called_env i (suc (length w)))) (D.body ss (called_env i tt))
  pub built_in : (w : List Mark) (which : ℕ) (construct : Bool) (vs : List Val) → Lift a_value w (E.built_in which construct vs) (D.built_in which construct (values_of vs))
  pub conversion : (w : List Mark) (wanted : Hint) (v : Val) → Lift a_value w (E.conversion wanted v) (D.conversion wanted v.value)

module _ (functions : List FunctionCode) (E : tracked.Enters) (D : plain.Enters) (enters : Enters E D) where
  -- ---- what is entered only adds lines

  native_extends : (which : ℕ) (construct : Bool) (vs : List Value) (s : State) → Extends s.lines (D.built_in which construct vs s)
  native_extends which construct vs s = subst (λ us. Extends s.lines (D.built_in which construct us s)) (labelled_are bottom vs) ((enters.built_in [] which construct (labelled_values bottom vs)).extends s)

  script_extends : (number : ℕ) (code : Function) (place : ℕ) (base : Value) (vs : List Value) (s : State) → Extends s.lines (D.body (body_of code) (called_env (length s.records) tt) (plain.with_call functions number code place base vs s))
  script_extends number code place base vs s =
      subst (λ lines. Extends lines (D.body (body_of code) (called_env (length s.records) tt) (plain.with_call functions number code place base vs s))) (call_prints_nothing functions number code place base vs s)
      ((enters.body [] (body_of code) (length s.records)).extends (plain.with_call functions number code place base vs s))

  -- ---- calls

  -- what is done in the frame of a call
  abbrev inside : Callee → Value → List Value → P (Unit {0})
  inside not_callable base vs s = plain.throw_error kinds.TypeError s
  inside empty_callee base vs s = Goes tt s
  inside (of_built_in which) base vs s = plain.throw_error kinds.TypeError s
  inside (of_script number code place) base vs s = D.body (body_of code) (called_env (length s.records) tt) (plain.with_call functions number code place base vs s)

  inside_extends : (callee : Callee) (base : Value) (vs : List Value) (s : State) → Extends s.lines (inside callee base vs s)
  inside_extends not_callable base vs s = throws_extends _ s
  inside_extends empty_callee base vs s = goes_extends tt s
  inside_extends (of_built_in which) base vs s = throws_extends _ s
  inside_extends (of_script number code place) base vs s = script_extends number code place base vs s

  inside_yields : (callee : Callee) {w : List Mark} (label : Label) (base : Val) (vs : List Val) (s : scopes.State) → Shaped (calls ∷ w) s.frames
      → Yields One (calls ∷ w) (tracked.entered functions callee label base vs E (suc (length w)) s) (inside callee base.value (values_of vs) (erased s))
  unfolding tracked.entered
  inside_yields not_callable label base vs s r = throws_yields _ _ s r
  inside_yields empty_callee label base vs s r = goes r
  inside_yields (of_built_in which) label base vs s r = throws_yields _ _ s r
  inside_yields (of_script number code place) {w} label base vs s r =
      subst (λ n. Yields One (calls ∷ w) (E.body (body_of code) (called_env (length s.records) (suc (length w))) (tracked.with_call functions number code place base vs s))
      (D.body (body_of code) (called_env n tt) (plain.with_call functions number code place base.value (values_of vs) (erased s)))) (sym (records_length s.records))
      (subst (λ u. Yields One (calls ∷ w) (E.body (body_of code) (called_env (length s.records) (suc (length w))) (tracked.with_call functions number code place base vs s)) (D.body (body_of code) (called_env (length s.records) tt) u))
      (with_call_erased functions number code place base vs s)
      ((enters.body w (body_of code) (length s.records)).yields (tracked.with_call functions number code place base vs s) (frames_kept functions number code place base vs s r)))

  inside_lifts : (callee : Callee) {w : List Mark} (label : Label) (base : Val) (vs : List Val) → Lift a_value w (scope kind.Call label (λ depth. tracked.entered functions callee label base vs E depth) >>= λ c. ret (scopes.answer c)) (λ s. ended_call (inside callee base.value (values_of vs) s))
  inside_lifts callee {w} label base vs = call_lifts label (λ depth. tracked.entered functions callee label base vs E depth) (inside callee base.value (values_of vs))
      (record { yields = λ s r. inside_yields callee label base vs s r; extends = λ s. inside_extends callee base.value (values_of vs) s })

  -- a callee with its number
  by_callee : (callee : Callee) {w : List Mark} (label : Label) (o : ℕ) (base : Val) (vs : List Val) → Lift a_value w (tracked.call_by functions callee label o base vs E) (plain.entered functions callee (value.Object (id o)) base.value (values_of vs) D)
  unfolding tracked.call_by plain.entered plain.throw_error ended_call
  by_callee not_callable label o base vs = let l = inside_lifts not_callable label base vs in record { yields = l.yields; extends = l.extends }
  by_callee empty_callee label o base vs = let l = inside_lifts empty_callee label base vs in record { yields = l.yields; extends = l.extends }
  by_callee (of_script number code place) label o base vs = let l = inside_lifts (of_script number code place) label base vs in record { yields = l.yields; extends = l.extends }
  by_callee (of_built_in which) {w} label o base vs =
      let args = base ∷ tracked.called_value label o ∷ vs in
      let l = frame_lifts kind.Native label refl (λ depth. E.built_in which false args) (D.built_in which false (values_of args)) (enters.built_in (passes ∷ w) which false args) in
      record { yields = l.yields; extends = l.extends }

  entered_extends : (callee : Callee) (f base : Value) (vs : List Value) (s : State) → Extends s.lines (plain.entered functions callee f base vs D s)
  unfolding plain.entered
  entered_extends not_callable f base vs s = throws_extends _ s
  entered_extends empty_callee f base vs s = goes_extends undefined s
  entered_extends (of_built_in which) f base vs s = native_extends which false (base ∷ f ∷ vs) s
  entered_extends (of_script number code place) f base vs s = call_extends s.lines _ (script_extends number code place base vs s)

  -- what a bound function comes to
  target_yields : (target : Target Val) {w : List Mark} (label : Label) (base : Val) (vs : List Val) (s : scopes.State) → Shaped w s.frames
      → Yields a_value w (tracked.call_by functions (tracked.callee_at functions s.heap target.function) label target.function (this_or target.this base) (target.args ++ vs) E s) (plain.call_target functions (erased_target target) base.value (values_of vs) D (erased s))
  unfolding plain.call_target
  target_yields target {w} label base vs s r =
      let run = tracked.call_by functions (tracked.callee_at functions s.heap target.function) label target.function (this_or target.this base) (target.args ++ vs) E s in
      let f = value.Object (id target.function) in
      subst (λ c. Yields a_value w run (plain.entered functions c f (this_or (option_map (λ v. v.value) target.this) base.value) (values_of target.args ++ values_of vs) D (erased s))) (sym (callee_erased functions s.heap target.function))
      (subst (λ b. Yields a_value w run (plain.entered functions (tracked.callee_at functions s.heap target.function) f b (values_of target.args ++ values_of vs) D (erased s))) (sym (this_erased target.this base))
      (subst (λ us. Yields a_value w run (plain.entered functions (tracked.callee_at functions s.heap target.function) f (this_or target.this base).value us D (erased s))) (values_appended target.args vs)
      ((by_callee (tracked.callee_at functions s.heap target.function) label target.function (this_or target.this base) (target.args ++ vs)).yields s r)))

  object_yields : {w : List Mark} (label : Label) (o : ℕ) (base : Val) (vs : List Val) (s : scopes.State) → Shaped w s.frames
      → Yields a_value w (tracked.call_aimed functions label (aim_of s.heap o) base vs E s) (plain.call_target functions (requested.target_of (erased_heap s.heap) o) base.value (values_of vs) D (erased s))
  unfolding tracked.call_aimed
  object_yields {w} label o base vs s r =
      subst (λ target. Yields a_value w (tracked.call_aimed functions label (aim_of s.heap o) base vs E s) (plain.call_target functions target base.value (values_of vs) D (erased s))) (sym (aim_erased s.heap o))
      (target_yields (aim_of s.heap o).target (union label (aim_of s.heap o).label) base vs s r)

  target_extends : (target : Target Value) (base : Value) (vs : List Value) (s : State) → Extends s.lines (plain.call_target functions target base vs D s)
  unfolding plain.call_target
  target_extends target base vs s = entered_extends (plain.callee_at functions s.heap target.function) _ _ _ s

  pub value_lifts : (v : Value) {w : List Mark} (label : Label) (base : Val) (vs : List Val) → Lift a_value w (tracked.call_value functions label v base vs E) (plain.call functions v base.value (values_of vs) D)
  unfolding tracked.call_value plain.call plain.entered
  value_lifts (value.Primitive p) label base vs = let l = by_callee not_callable label 0 base vs in record { yields = l.yields; extends = l.extends }
  value_lifts (value.Object o) label base vs = record { yields = λ s r. object_yields label o.0 base vs s r; extends = λ s. target_extends (requested.target_of s.heap o.0) base.value (values_of vs) s }

  -- ---- constructions

  abbrev inside_made : Callee → ℕ → List Value → P (Unit {0})
  inside_made not_callable o vs s = plain.throw_error kinds.TypeError s
  inside_made empty_callee o vs s = plain.throw_error kinds.TypeError s
  inside_made (of_built_in which) o vs s = plain.throw_error kinds.TypeError s
  inside_made (of_script number code place) o vs s = inside (of_script number code place) (value.Object (id (length s.heap))) vs (plain.with_fresh (plain.prototype_of s.heap o) s)

  made_inside_extends : (callee : Callee) (o : ℕ) (vs : List Value) (s : State) → Extends s.lines (inside_made callee o vs s)
  made_inside_extends not_callable o vs s = throws_extends _ s
  made_inside_extends empty_callee o vs s = throws_extends _ s
  made_inside_extends (of_built_in which) o vs s = throws_extends _ s
  made_inside_extends (of_script number code place) o vs s = script_extends number code place (value.Object (id (length s.heap))) vs (plain.with_fresh (plain.prototype_of s.heap o) s)

  made_inside_yields : (callee : Callee) {w : List Mark} (label : Label) (o : ℕ) (vs : List Val) (s : scopes.State) → Shaped (calls ∷ w) s.frames
      → Yields One (calls ∷ w) (tracked.constructed functions callee label o vs E (suc (length w)) s) (inside_made callee o (values_of vs) (erased s))
  unfolding tracked.constructed
  made_inside_yields not_callable label o vs s r = throws_yields _ _ s r
  made_inside_yields empty_callee label o vs s r = throws_yields _ _ s r
  made_inside_yields (of_built_in which) label o vs s r = throws_yields _ _ s r
  made_inside_yields (of_script number code place) {w} label o vs s r =
      let made = tracked.with_fresh (tracked.prototype_of s.heap o) s in
      let base = unlabelled (value.Object (id (length s.heap))) in
      let run = tracked.entered functions (of_script number code place) label base vs E (suc (length w)) made in
      subst (λ n. Yields One (calls ∷ w) run (inside (of_script number code place) (value.Object (id n)) (values_of vs) (plain.with_fresh (plain.prototype_of (erased_heap s.heap) o) (erased s)))) (sym (length_erased s.heap))
      (subst (λ u. Yields One (calls ∷ w) run (inside (of_script number code place) (value.Object (id (length s.heap))) (values_of vs) u)) (fresh_erased o s)
      (inside_yields (of_script number code place) label base vs made r))

  made_inside : (callee : Callee) {w : List Mark} (label : Label) (o : ℕ) (vs : List Val)
      → Lift a_value w (λ s. (scope kind.Call label (λ depth. tracked.constructed functions callee label o vs E depth) >>= λ c. ret (construction (length s.heap) c)) s) (λ s. ended_construction (length s.heap) (ended_call (inside_made callee o (values_of vs) s)))
  made_inside callee {w} label o vs =
      let l : Lift One (calls ∷ w) (tracked.constructed functions callee label o vs E (suc (length w))) (inside_made callee o (values_of vs)) =
      record { yields = λ s r. made_inside_yields callee label o vs s r; extends = λ s. made_inside_extends callee o (values_of vs) s } in
      record {
        yields = λ s r.
            subst (λ n. Yields a_value w ((scope kind.Call label (λ depth. tracked.constructed functions callee label o vs E depth) >>= λ c. ret (construction (length s.heap) c)) s) (ended_construction n (ended_call (inside_made callee o (values_of vs) (erased s))))) (sym (length_erased s.heap))
            (made_yields (length s.heap) (scope_pops calls kind.Call label refl (λ depth. tracked.constructed functions callee label o vs E depth) (inside_made callee o (values_of vs)) l s r));
        extends = λ s. made_extends (length s.heap) s.lines _ (call_extends s.lines _ (l.extends s));
      }

  module _ (set : BuiltIns) where
    -- a built-in may construct, or it may not
    native_lifts : (which : ℕ) {w : List Mark} (label : Label) (o : ℕ) (vs : List Val)
        → Lift a_value w (scope kind.Native label (λ depth. tracked.construct_built_in set which label o vs E) >>= λ c. ret (settled_value c)) (choose (constructs_in set which) (D.built_in which true (undefined ∷ value.Object (id o) ∷ values_of vs)) (plain.throw_error kinds.TypeError))
    unfolding tracked.construct_built_in
    native_lifts which {w} label o vs =
        let args = unlabelled undefined ∷ tracked.called_value label o ∷ vs in
        frame_lifts kind.Native label refl (λ depth. tracked.construct_built_in set which label o vs E) (choose (constructs_in set which) (D.built_in which true (values_of args)) (plain.throw_error kinds.TypeError))
        (choose_lifts (constructs_in set which) (enters.built_in (passes ∷ w) which true args) (throw_lifts label))

    by_constructor : (callee : Callee) {w : List Mark} (label : Label) (o : ℕ) (vs : List Val) → Lift a_value w (tracked.construct_by set functions callee label o vs E) (plain.constructed set functions callee o (values_of vs) D)
    unfolding tracked.construct_by plain.constructed plain.entered plain.throw_error ended_call ended_construction
    by_constructor not_callable label o vs = let l = made_inside not_callable label o vs in record { yields = l.yields; extends = l.extends }
    by_constructor empty_callee label o vs = let l = made_inside empty_callee label o vs in record { yields = l.yields; extends = l.extends }
    by_constructor (of_script number code place) label o vs = let l = made_inside (of_script number code place) label o vs in record { yields = l.yields; extends = l.extends }
    by_constructor (of_built_in which) label o vs = let l = native_lifts which label o vs in record { yields = l.yields; extends = l.extends }

    constructed_extends : (callee : Callee) (o : ℕ) (vs : List Value) (s : State) → Extends s.lines (plain.constructed set functions callee o vs D s)
    unfolding plain.constructed
    constructed_extends not_callable o vs s = throws_extends _ s
    constructed_extends empty_callee o vs s = throws_extends _ s
    constructed_extends (of_built_in which) o vs s = by_case (constructs_in set which)
      where
        by_case : (b : Bool) → Extends s.lines (choose b (D.built_in which true (undefined ∷ value.Object (id o) ∷ vs)) (plain.throw_error kinds.TypeError) s)
        by_case true = native_extends which true (undefined ∷ value.Object (id o) ∷ vs) s
        by_case false = throws_extends _ s
    constructed_extends (of_script number code place) o vs s =
        made_extends (length s.heap) s.lines _ (entered_extends (of_script number code place) (value.Object (id o)) (value.Object (id (length s.heap))) vs (plain.with_fresh (plain.prototype_of s.heap o) s))

    construct_target_yields : (target : Target Val) {w : List Mark} (label : Label) (vs : List Val) (s : scopes.State) → Shaped w s.frames
        → Yields a_value w (tracked.construct_by set functions (tracked.callee_at functions s.heap target.function) label target.function (target.args ++ vs) E s) (plain.construct_target set functions (erased_target target) (values_of vs) D (erased s))
    unfolding plain.construct_target
    construct_target_yields target {w} label vs s r =
        let run = tracked.construct_by set functions (tracked.callee_at functions s.heap target.function) label target.function (target.args ++ vs) E s in
        subst (λ c. Yields a_value w run (plain.constructed set functions c target.function (values_of target.args ++ values_of vs) D (erased s))) (sym (callee_erased functions s.heap target.function))
        (subst (λ us. Yields a_value w run (plain.constructed set functions (tracked.callee_at functions s.heap target.function) target.function us D (erased s))) (values_appended target.args vs)
        ((by_constructor (tracked.callee_at functions s.heap target.function) label target.function (target.args ++ vs)).yields s r))

    construct_object_yields : {w : List Mark} (label : Label) (o : ℕ) (vs : List Val) (s : scopes.State) → Shaped w s.frames
        → Yields a_value w (tracked.construct_aimed set functions label (aim_of s.heap o) vs E s) (plain.construct_target set functions (requested.target_of (erased_heap s.heap) o) (values_of vs) D (erased s))
    unfolding tracked.construct_aimed
    construct_object_yields {w} label o vs s r =
        subst (λ target. Yields a_value w (tracked.construct_aimed set functions label (aim_of s.heap o) vs E s) (plain.construct_target set functions target (values_of vs) D (erased s))) (sym (aim_erased s.heap o))
        (construct_target_yields (aim_of s.heap o).target (union label (aim_of s.heap o).label) vs s r)

    construct_target_extends : (target : Target Value) (vs : List Value) (s : State) → Extends s.lines (plain.construct_target set functions target vs D s)
    unfolding plain.construct_target
    construct_target_extends target vs s = constructed_extends (plain.callee_at functions s.heap target.function) _ _ s

    pub construct_lifts : (v : Value) {w : List Mark} (label : Label) (vs : List Val) → Lift a_value w (tracked.construct_value set functions label v vs E) (plain.construct set functions v (values_of vs) D)
    unfolding tracked.construct_value plain.construct plain.constructed
    construct_lifts (value.Primitive p) label vs = let l = by_constructor not_callable label 0 vs in record { yields = l.yields; extends = l.extends }
    construct_lifts (value.Object o) label vs = record { yields = λ s r. construct_object_yields label o.0 vs s r; extends = λ s. construct_target_extends (requested.target_of s.heap o.0) (values_of vs) s }

  -- ---- conversions

  converted_lifts : (x : Value) {w : List Mark} (wanted : Hint) (label : Label) (v given : Val) → v.value ≡ x → given.value ≡ x → Lift a_value w (tracked.converted_by (is_object x) E wanted label v given) (plain.converted D wanted x)
  unfolding tracked.converted_by tracked.convert plain.converted
  converted_lifts (value.Primitive p) wanted label v given e h = record { yields = λ s r. goes_to r h refl; extends = goes_extends _ }
  converted_lifts (value.Object o) {w} wanted label v given e h =
      let l = subst (λ x. Lift a_value w (scope kind.Native label (λ depth. E.conversion wanted v) >>= λ c. ret (settled_value c)) (D.conversion wanted x)) e
      (frame_lifts kind.Native label refl (λ depth. E.conversion wanted v) (D.conversion wanted v.value) (enters.conversion (passes ∷ w) wanted v)) in
      record { yields = l.yields; extends = l.extends }

  -- ---- getters and setters

  access_entered : {w : List Mark} (a : tracked.Access) → Lift a_value w (tracked.entered_access functions E a) (plain.entered_access functions D (erased_access a))
  unfolding tracked.entered_access plain.entered_access
  access_entered (tracked.has_value v) = record { yields = λ s r. goes r; extends = goes_extends _ }
  access_entered (tracked.has_getter label f base) = let l = value_lifts (value.Object f) label base [] in record { yields = l.yields; extends = l.extends }

  -- ---- the `length` of an array: a value is converted twice

  for_length_lifts : {w : List Mark} (label : Label) (v : Val) → Lift a_value w (tracked.converted_for_length E label v) (plain.converted D hint.Number v.value)
  unfolding tracked.converted_for_length
  for_length_lifts label v = converted_lifts v.value hint.Number (union label v.label) v v refl refl

  abbrev the_number : Number → Number
  the_number n = n

  numbered_by_lifts : {w : List Mark} (r : Result Number LeftNumbers) → LiftBy the_number w (tracked.numbered_by r) (plain.numbered_by r)
  unfolding tracked.numbered_by plain.numbered_by
  numbered_by_lifts (Ok n) = record { yields = λ s r. goes r; extends = goes_extends n }
  numbered_by_lifts (Err e) = record { yields = λ s r. ends; extends = ends_extends _ }

  numbered_lifts : {w : List Mark} (v : Val) → LiftBy the_number w (tracked.numbered v) (plain.numbered v.value)
  unfolding tracked.numbered plain.numbered
  numbered_lifts v = numbered_by_lifts (number_in v.value)

  count_lifts : {w : List Mark} (b : Bool) (n : ℕ) (given label : Label) (f : ℕ → Label → L Val) (g : ℕ → P Value) → ((n : ℕ) (given : Label) → Lift a_value w (f n given) (g n)) → Lift a_value w (tracked.given_count b n given label f) (plain.given_count b n g)
  unfolding tracked.given_count plain.given_count
  count_lifts true n given label f g h = let l = h n given in record { yields = l.yields; extends = l.extends }
  count_lifts false n given label f g h = record { yields = λ s r. throws_yields _ _ s r; extends = throws_extends _ }

  -- computations behind each other
  then_twice : {X Y Z : Type 0} (o : Outcome Halt Jump X State) (f : X → P Y) (g : Y → P Z) → and_then (and_then o f) g ≡ and_then o (λ a s. and_then (f a s) g)
  then_twice (Goes a s) f g = refl
  then_twice (Jumps j s) f g = refl
  then_twice (Ends halt s) f g = refl

  regrouped : {X Y A B : Type 0} {erase : A → B} {w : List Mark} {m : L A} (n : P X) (f : X → P Y) (g : Y → P B) → LiftBy erase w m (n >>= λ a. (f a >>= g)) → LiftBy erase w m (n >>= f >>= g)
  regrouped {erase = erase} {w = w} {m = m} n f g l = record {
    yields = λ s r. subst (YieldsBy erase w (m s)) (sym (then_twice (n (erased s)) f g)) (l.yields s r);
    extends = λ s. subst (Extends s.lines) (sym (then_twice (n s) f g)) (l.extends s);
  }

  with_count_lifts : {w : List Mark} (label : Label) (v : Val) (f : ℕ → Label → L Val) (g : ℕ → P Value) → ((n : ℕ) (given : Label) → Lift a_value w (f n given) (g n)) → Lift a_value w (tracked.with_count E label v f) (plain.with_count D v.value g)
  unfolding tracked.with_count plain.with_count
  with_count_lifts {w} label v f g h =
      regrouped (plain.converted D hint.Number v.value) plain.numbered (λ m. plain.converted D hint.Number v.value >>= plain.numbered >>= λ n. plain.given_count (is_count m n) (count_of m) g)
      (bind_lifts a_value a_value w _ (λ first. plain.numbered first >>= λ m. (plain.converted D hint.Number v.value >>= plain.numbered >>= λ n. plain.given_count (is_count m n) (count_of m) g)) (for_length_lifts label v) λ first.
      bind_by {erase = the_number} (λ n. n) (λ n. refl) _ (λ m. plain.converted D hint.Number v.value >>= plain.numbered >>= λ n. plain.given_count (is_count m n) (count_of m) g) (numbered_lifts first) λ m.
      regrouped (plain.converted D hint.Number v.value) plain.numbered (λ n. plain.given_count (is_count m n) (count_of m) g)
      (bind_lifts a_value a_value w _ (λ second. plain.numbered second >>= λ n. plain.given_count (is_count m n) (count_of m) g) (for_length_lifts label v) λ second.
      bind_by {erase = the_number} (λ n. n) (λ n. refl) _ (λ n. plain.given_count (is_count m n) (count_of m) g) (numbered_lifts second) λ n.
      count_lifts (is_count m n) (count_of m) (union first.label second.label) label f g h))

  -- ---- definitions

  abbrev labelled_defining : plain.Defining → tracked.Defining
  labelled_defining plain.is_defined = tracked.is_defined bottom
  labelled_defining (plain.has_length_given o marks) = tracked.has_length_given bottom o marks

  labelled_defining_is : (a : plain.Defining) → erased_defining (labelled_defining a) ≡ a
  labelled_defining_is plain.is_defined = refl
  labelled_defining_is (plain.has_length_given o marks) = refl

  defining_entered : {w : List Mark} (v : Val) (d : tracked.Defining) → Lift a_value w (tracked.entered_defining E v d) (plain.entered_defining D v.value (erased_defining d))
  unfolding tracked.entered_defining plain.entered_defining
  defining_entered v (tracked.is_defined label) = record { yields = λ s r. goes r; extends = goes_extends _ }
  defining_entered v (tracked.has_length_given label o marks) =
      let l = with_count_lifts label v (tracked.set_length true label o marks) (plain.set_length o marks) (λ n given. length_lifts true label o marks n given (λ old n e. absurd (true≢false e))) in
      record { yields = l.yields; extends = l.extends }

  pub define_lifts : {w : List Mark} (key : List ℕ) (marks : GivenMarks) (shape : Shape) (base v g set : Val)
      → Lift a_value w (tracked.defining key marks shape base v g set >>= tracked.entered_defining E v) (plain.defining key marks shape base.value v.value g.value set.value >>= plain.entered_defining D v.value)
  define_lifts key marks shape base v g set = bind_by labelled_defining labelled_defining_is (tracked.entered_defining E v) (plain.entered_defining D v.value) (defining_lifts key marks shape base v g set) (defining_entered v)

  putting_entered : {w : List Mark} (v : Val) (p : tracked.Putting) → Lift One w (tracked.entered_putting functions E v p) (plain.entered_putting functions D v.value (erased_putting p))
  unfolding tracked.entered_putting plain.entered_putting
  putting_entered v tracked.is_put = record { yields = λ s r. goes r; extends = goes_extends _ }
  putting_entered {w} v (tracked.has_setter label f base) =
      let l = bind_lifts a_value One w (λ u. ret tt) (λ u. ret tt) (value_lifts (value.Object f) label base (v ∷ [])) (λ u. ret_lifts One w tt tt refl) in
      record { yields = l.yields; extends = l.extends }
  putting_entered {w} v (tracked.has_length label o) =
      let l = bind_lifts a_value One w (λ u. ret tt) (λ u. ret tt) (with_count_lifts label v (tracked.set_length false label o no_marks) (plain.set_length o no_marks) (λ n given. length_lifts false label o no_marks n given no_marks_kept)) (λ u. ret_lifts One w tt tt refl) in
      record { yields = l.yields; extends = l.extends }

  pub get_lifts : {w : List Mark} (n : tracked.Reference) → Lift a_value w (tracked.accessed n >>= tracked.entered_access functions E) (plain.accessed (erased_reference n) >>= plain.entered_access functions D)
  get_lifts n = bind_by labelled_access labelled_access_is (tracked.entered_access functions E) (plain.entered_access functions D) (accessed_lifts n) access_entered

  pub typeof_get_lifts : {w : List Mark} (n : tracked.Reference) → Lift a_value w (tracked.accessed_for_typeof n >>= tracked.entered_access functions E) (plain.accessed_for_typeof (erased_reference n) >>= plain.entered_access functions D)
  typeof_get_lifts n = bind_by labelled_access labelled_access_is (tracked.entered_access functions E) (plain.entered_access functions D) (typeof_lifts n) access_entered

  pub put_lifts : {w : List Mark} (n : tracked.Reference) (v : Val) → Lift One w (tracked.put_value n v >>= tracked.entered_putting functions E v) (plain.put_value (erased_reference n) v.value >>= plain.entered_putting functions D v.value)
  put_lifts n v = bind_by labelled_putting labelled_putting_is (tracked.entered_putting functions E v) (plain.entered_putting functions D v.value) (put_value_lifts n v) (putting_entered v)

  pub primitive_lifts : {w : List Mark} (wanted : Hint) (v : Val) → Lift a_value w (tracked.converted E wanted v) (plain.converted D wanted v.value)
  primitive_lifts wanted v = converted_lifts v.value wanted v.label v v refl refl

  compared_if : (b : Bool) (o : ObjId) {w : List Mark} (label : Label) (v given : Val) → v.value ≡ value.Object o → given.value ≡ value.Object o → Lift a_value w (tracked.converted_by b E hint.Default label v given) (plain.converted_if b D (value.Object o))
  unfolding tracked.converted_by plain.converted_if
  compared_if true o label v given e h = let l = converted_lifts (value.Object o) hint.Default label v given e h in record { yields = l.yields; extends = l.extends }
  compared_if false o label v given e h = record { yields = λ s r. goes_to r h refl; extends = goes_extends _ }

  compared_by : (x y : Value) {w : List Mark} (label : Label) (v given : Val) → v.value ≡ x → given.value ≡ x → Lift a_value w (tracked.converted_by (converts_beside x y) E hint.Default label v given) (plain.converted_if (converts_beside x y) D x)
  unfolding tracked.converted_by plain.converted_if
  compared_by (value.Primitive p) y label v given e h = record { yields = λ s r. goes_to r h refl; extends = goes_extends _ }
  compared_by (value.Object o) (value.Primitive p) label v given e h = compared_if (is_compared p) o label v given e h
  compared_by (value.Object o) (value.Object q) label v given e h = compared_if false o label v given e h

  pub comparable_lifts : {w : List Mark} (v u : Val) → Lift a_value w (tracked.compared E v u) (plain.converted_if (converts_beside v.value u.value) D v.value)
  comparable_lifts v u = compared_by v.value u.value (union v.label u.label) v (joined u.label v) refl refl

  -- ---- `instanceof`

  -- whether an object is among others
  linked_test : (b : Bool) (link : Label) (rest : tracked.Linked) → (b || rest.is) ≡ (cond b (record { is = true; links = link }) (tracked.linked_beyond link rest)).is
  linked_test true link rest = refl
  linked_test false link rest = refl

  from_erased : (proto : ℕ) (link : Label) (chain : List (ℕ × Object Label)) → list_any (λ e. nat_eq e.0 proto) (erased_chain chain) ≡ (tracked.linked_from proto link chain).is
  from_erased proto link [] = refl
  from_erased proto link (e ∷ chain) = ap (λ b. nat_eq e.0 proto || b) (from_erased proto e.1.link chain) ∙ linked_test (nat_eq e.0 proto) link (tracked.linked_from proto e.1.link chain)

  linked_erased : (proto : ℕ) (chain : List (ℕ × Object Label)) → plain.is_prototype_in proto (erased_chain chain) ≡ (tracked.linked proto chain).is
  linked_erased proto [] = refl
  linked_erased proto (e ∷ chain) = from_erased proto e.1.link chain

  is_instance_lifts : {w : List Mark} (label : Label) (o : ℕ) (v : Value) → Lift a_value w (tracked.is_instance label o v) (plain.is_instance o v)
  unfolding tracked.is_instance plain.is_instance
  is_instance_lifts label o (value.Primitive p) = record { yields = λ s r. throws_yields _ _ s r; extends = throws_extends _ }
  is_instance_lifts label o (value.Object proto) = record {
    yields = λ s r. goes_to r (ap (λ b. value.Primitive (prims.Bool b)) (sym (ap (plain.is_prototype_in proto.0) (chain_erased s.heap o) ∙ linked_erased proto.0 (object_chain s.heap o)))) refl;
    extends = λ s. goes_extends _ s;
  }

  instance_of_lifts : (x : Value) {w : List Mark} (v : Val) (label : Label) (aim : labelled.Aim) → Lift a_value w (tracked.instance_of functions v x label aim E) (plain.instance_of functions x aim.target.function D)
  unfolding tracked.instance_of tracked.instance_by plain.instance_of
  instance_of_lifts (value.Primitive p) v label aim = record { yields = λ s r. goes r; extends = goes_extends _ }
  instance_of_lifts (value.Object o) {w} v label aim =
      let l = bind_lifts a_value a_value w _ (λ proto. plain.is_instance o.0 proto)
      (bind_by labelled_access labelled_access_is (tracked.entered_access functions E) (plain.entered_access functions D) (property_lifts (union v.label (union label aim.label)) (tracked.called_value (union label aim.label) aim.target.function) (value.Object (id aim.target.function)) prototype_name refl) access_entered)
      (λ proto. is_instance_lifts _ o.0 proto.value) in
      record { yields = l.yields; extends = l.extends }

  instance_if_yields : (b : Bool) {w : List Mark} (v : Val) (label : Label) (f : ℕ) (s : scopes.State) → Shaped w s.frames → Yields a_value w (tracked.instance_if functions b v label f E s) (plain.instance_if functions b v.value f D (erased s))
  unfolding tracked.instance_if plain.instance_if
  instance_if_yields true {w} v label f s r =
      subst (λ g. Yields a_value w (tracked.instance_of functions v v.value label (aim_of s.heap f) E s) (plain.instance_of functions v.value g D (erased s))) (sym (ap (λ target. target.function) (aim_erased s.heap f)))
      ((instance_of_lifts v.value v label (aim_of s.heap f)).yields s r)
  instance_if_yields false v label f s r = throws_yields _ _ s r

  labelled_target : Target Value → Target Val
  labelled_target target = record { function = target.function; this = None; args = [] }

  instance_if_extends : (b : Bool) (v : Value) (f : ℕ) (s : State) → Extends s.lines (plain.instance_if functions b v f D s)
  unfolding plain.instance_if labelled_target
  instance_if_extends true v f s = (instance_of_lifts v {w = []} (unlabelled v) bottom (record { target = labelled_target (requested.target_of s.heap f); label = bottom })).extends s
  instance_if_extends false v f s = throws_extends _ s

  pub instance_lifts : (x : Value) {w : List Mark} (v : Val) (label : Label) → Lift a_value w (tracked.instance_value functions v label x E) (plain.instance functions v.value x D)
  unfolding tracked.instance_value plain.instance
  instance_lifts (value.Primitive p) v label = record { yields = λ s r. throws_yields _ _ s r; extends = throws_extends _ }
  instance_lifts (value.Object f) {w} v label = record {
    yields = λ s r. subst (λ b. Yields a_value w (tracked.instance_if functions (labelled.is_function_in (slice_get s.heap f.0)) v label f.0 E s) (plain.instance_if functions b v.value f.0 D (erased s)))
        (sym (ap requested.is_function_in (object_erased s.heap f.0) ∙ function_in_erased (slice_get s.heap f.0))) (instance_if_yields (labelled.is_function_in (slice_get s.heap f.0)) v label f.0 s r);
    extends = λ s. instance_if_extends (requested.is_function_in (slice_get s.heap f.0)) v.value f.0 s;
  }
