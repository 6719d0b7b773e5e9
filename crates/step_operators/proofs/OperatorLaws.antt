-- Operators between values and in front of them, as plans.
use Rattle.std.proofs.Common.{refl, sym, ap, ap₂, subst, ◌∙◌, ◌≡◌, ℕ, Bool, true, false, ◌&&◌, List, [], ◌∷◌, ◌++◌, length, map, pos, Result, Ok}
use Rattle.origin_labels.specs.Label.{Label, IsLabel, union}
use Rattle.flow_frames.specs.declared.faults.FlowFault.{FlowFault}
use Rattle.flow_policy.specs.Policies.{Tables, no_tables}
use Rattle.flow_policy.specs.Inputs.{Given}
use Rattle.js_ast.specs.Functions.{FunctionCode}
use Rattle.js_ast.specs.declared.operators.BinaryOperator.{BinaryOperator}
use Rattle.js_ast.specs.declared.operators.BinaryOperator.TheVariants as binary_operator
use Rattle.js_ast.specs.declared.operators.UnaryOperator.{UnaryOperator}
use Rattle.js_ast.specs.declared.operators.UnaryOperator.TheVariants as unary_operator
use Rattle.js_number.specs.declared.num.Num.TheVariants.{Int}
use Rattle.js_number.specs.declared.primitive.Primitive.TheVariants.{Num}
use Rattle.js_values.specs.declared.value.Labelled.{Labelled}
use Rattle.js_values.specs.Readings.{IsReading, HasValue, read_value}
use Rattle.native_protocol.specs.Steps.{throws_type_error}
use Rattle.native_protocol.specs.declared.hint.Hint.{Hint}
use Rattle.native_protocol.specs.declared.hint.Hint.TheVariants as hint
use Rattle.es_meaning.specs.BuiltIns.{BuiltIns}
use Rattle.es_meaning.specs.Evaluation.{Conversion, unconverted, compared, primitives, numbers, keyed, conversion_of, assign_giving, assign_to, binary_by, binary_done, binary_values, compared_left, compound_done, has_left, has_right, instance_done, number_left, postfix_by, postfix_number, postfix_value, prefix_by, prefix_number, prefix_value, primitive_left, takes_number, unary_by, unary_done, unary_value}
use Rattle.es_meaning.specs.Operations.{Value, Ops, Rec, has_key, object_needed}
use Rattle.es_meaning.specs.Outcomes.{Outcome}
use Rattle.es_meaning.specs.Plain.{object_or_default}
use Rattle.flow_meaning.specs.Planned.{gave, Give, Enters, and_plan, asking, end_instance, planned, with_result}
use Rattle.flow_meaning.specs.Scopes.{Val, Halt, Jump, State}
use Rattle.flow_meaning.specs.Tracked.{Reference, act, is_instance, labelled}
use Rattle.step_objects.specs.Instances.{AreTested, read_test, tested, tests_on}
use Rattle.step_values.specs.Converted.{OperandAsItIs, converts, converts_operand, is_keyed}
use Rattle.step_objects.specs.Operated.{AreOperated, operated, operated_by}
use Rattle.run_state.specs.declared.outcome.Outcome as machine
use Rattle.run_state.specs.declared.world.World.{World}
use Rattle.run_state.specs.Acts.{HasAnswer}
use Rattle.run_state.proofs.ActLaws.{HasAnswer-weaker}
use Rattle.continuations.specs.declared.continuation.Control.{Control}
use Rattle.continuations.specs.declared.continuation.Continuation.{Continuation}
use Rattle.continuations.specs.Kept.{Kept}
use Rattle.continuations.specs.declared.continuation.Counting.{Counting}
use Rattle.continuations.specs.declared.continuation.Counting.TheVariants as counting
use Rattle.continuations.specs.declared.continuation.Target.{Target}
use Rattle.continuations.specs.declared.continuation.Continuation.TheVariants as continuation
use Rattle.continuations.specs.Moving.{Planning, following}
use Rattle.continuations.specs.Pending.{after, converted_left, next_plan, setting_inside}
use Rattle.continuations.specs.Settings.{Setting, entrance}
use Rattle.continuations.specs.Shapes.{target_of}
use Rattle.step_objects.specs.declared.instances.InstanceTest.TheVariants as test
use Rattle.js_values.specs.declared.ids.ObjId.{ObjId}
use Rattle.js_values.specs.declared.value.Value.TheVariants as value
use Rattle.run_state.specs.declared.outcome.Access.{Access}
use Rattle.run_state.specs.Accesses.{read_access}
use Rattle.continuations.specs.declared.continuation.Control.TheVariants as control
use Rattle.continuations.proofs.Handed.{laid_value}
use Rattle.step_references.specs.Moving.{Begun, Comes, Resumed, entering_access}
use Rattle.step_references.proofs.Begun.{begun_above, begun_pushed, behind_one, resumed}
use Rattle.step_references.proofs.Plans.{followed, given_follows, outcome_follows}
use Rattle.step_operators.specs.Counting.{changed_by, given_by, numbered_by}

-- a set of no built-ins, at which acts are looked at that depend on none
pub none_built : BuiltIns
none_built = record { entries = []; begins = λ which argc construct. throws_type_error }

-- what a label of a store is in a reading is a label
pub read_is_label : {S T : Type 0} {made : S → T → Type 0} {meaning : S → T → Label} {store : S} {reading : T → Label} → ((s : S) (label : T) → made s label → IsLabel (meaning s label)) → IsReading made meaning store reading → (label : T) → made store label → IsLabel (reading label)
read_is_label {store = store} rising is label has = subst IsLabel (sym (is.agrees label has)) (rising store label has)

module _ (tables : Tables) (inputs : Given) (set : BuiltIns) (functions : List FunctionCode) where
  abbrev O : Ops
  O = planned tables inputs set functions

  abbrev T : Ops
  T = labelled tables inputs set functions

  abbrev E : Enters
  E = entrance tables inputs set functions

  abbrev R : Rec O
  R = asking tables inputs set functions

  -- ---- between two values

  -- which depends on no table
  operated_free : (key : Bool) (o : BinaryOperator) (v u : Val) (s : State) → operated_by key no_tables [] none_built [] o v u s ≡ operated_by key tables inputs set functions o v u s
  unfolding act
  operated_free true o v u s = refl
  operated_free false o v u s = refl

  pub operated_as : AreOperated → (o : BinaryOperator) (v u : Val) (s : State) → IsLabel v.label → IsLabel u.label → converts o v.value u.value ≡ false → following (operated no_tables [] none_built [] o v u s) (λ w t. Give (gave w) t) ≡ binary_values O E o v u s
  operated_as are o v u s left right none =
      ap (λ (m : Outcome Halt Jump Val State). following m (λ w t. Give (gave w) t)) (operated_free (is_keyed o) o v u s)
      ∙ sym (given_follows (operated tables inputs set functions o v u s)) ∙ sym (are tables inputs set functions E o v u s left right none)

  pub applied_as : (o : BinaryOperator) (v u : Val) (s : State) → following ((labelled no_tables [] none_built []).binary o v u s) (λ w t. Give (gave w) t) ≡ O.binary o v u s
  applied_as o v u s = sym (given_follows (T.binary o v u s))

  pub contained_as : (key object : Val) (s : State) → following (act no_tables [] has_key (key ∷ object ∷ []) s) (λ w t. Give (gave w) t) ≡ has_left O object key s
  unfolding has_left act
  contained_as key object s = sym (given_follows (act tables inputs has_key (key ∷ object ∷ []) s))

  -- what work says that keeps one operand
  module _ {p w : Val} (f : Setting) (q : Val) (s : State) where
    pub operate_is : (o : BinaryOperator) → p ≡ w → O.binary o p q s ≡ binary_done O o w q s
    unfolding binary_done
    operate_is o is = ap (λ v. O.binary o v q s) is

    pub key_is : p ≡ w → has_left O p q s ≡ has_left O w q s
    key_is is = ap (λ v. has_left O v q s) is

    pub binary_is : (o : BinaryOperator) → p ≡ w → binary_values O E o p q s ≡ binary_values O E o w q s
    binary_is o is = ap (λ v. binary_values O E o v q s) is

    pub left_is : (o : BinaryOperator) → p ≡ w → converted_left tables inputs set functions (conversion_of o) o p q s ≡ converted_left tables inputs set functions (conversion_of o) o w q s
    left_is o is = ap (λ v. converted_left tables inputs set functions (conversion_of o) o v q s) is

    pub instance_is : p ≡ w → instance_done O E R p q s ≡ instance_done O E R w q s
    instance_is is = ap (λ v. instance_done O E R v q s) is

    pub test_is : p ≡ w → end_instance p.label (object_or_default p.value).0 (gave q) s ≡ end_instance w.label (object_or_default w.value).0 (gave q) s
    test_is is = ap (λ (v : Val). end_instance v.label (object_or_default v.value).0 (gave q) s) is

  -- ---- in front of one

  pub unary_as : OperandAsItIs → (o : UnaryOperator) (v : Val) (s : State) → IsLabel v.label → converts_operand o v.value ≡ false → O.unary o v s ≡ unary_value O E o v s
  unary_as are o v s label none = sym (are tables inputs set functions E o v s label none)

  converted_if : (number rest : Bool) (o : UnaryOperator) (v : Val) (s : State) → (number && rest) ≡ true → unary_by O E true o v s ≡ unary_by O E number o v s
  converted_if true rest o v s is = refl
  converted_if false rest o v s is = absurd cc is

  pub converted_as : (rest : Bool) (o : UnaryOperator) (v : Val) (s : State) → (takes_number o && rest) ≡ true → unary_by O E true o v s ≡ unary_value O E o v s
  unfolding unary_value
  converted_as rest o v s is = converted_if (takes_number o) rest o v s is

  -- ---- conversions of two operands

  module _ (o : BinaryOperator) (v u : Val) (s : State) where
    pub plain_is : conversion_of o ≡ unconverted → O.binary o v u s ≡ binary_values O E o v u s
    unfolding binary_values
    plain_is is = subst (λ k. O.binary o v u s ≡ binary_by O E k o v u s) (sym is) refl

    pub compared_is : conversion_of o ≡ compared → O.bind Value Value (O.comparable v u E) (converted_left tables inputs set functions (conversion_of o) o u) s ≡ binary_values O E o v u s
    unfolding binary_values
    compared_is is = subst (λ k. O.bind Value Value (O.comparable v u E) (converted_left tables inputs set functions k o u) s ≡ binary_by O E k o v u s) (sym is) refl

    pub primitives_is : (h : Hint) → conversion_of o ≡ primitives h → O.bind Value Value (O.primitive h v E) (converted_left tables inputs set functions (conversion_of o) o u) s ≡ binary_values O E o v u s
    unfolding binary_values
    primitives_is h is = subst (λ k. O.bind Value Value (O.primitive h v E) (converted_left tables inputs set functions k o u) s ≡ binary_by O E k o v u s) (sym is) refl

    pub numbers_is : conversion_of o ≡ numbers → O.bind Value Value (O.primitive hint.Number v E) (converted_left tables inputs set functions (conversion_of o) o u) s ≡ binary_values O E o v u s
    unfolding binary_values
    numbers_is is = subst (λ k. O.bind Value Value (O.primitive hint.Number v E) (converted_left tables inputs set functions k o u) s ≡ binary_by O E k o v u s) (sym is) refl

    pub keyed_is : conversion_of o ≡ keyed → binary_by O E keyed binary_operator.In v u s ≡ binary_values O E o v u s
    unfolding binary_values
    keyed_is is = subst (λ k. binary_by O E keyed binary_operator.In v u s ≡ binary_by O E k o v u s) (sym is) refl

    -- behind the left one
    left_by : (k : Conversion) → conversion_of o ≡ k → converted_left tables inputs set functions k o u v s ≡ converted_left tables inputs set functions (conversion_of o) o u v s
    left_by k is = ap (λ c. converted_left tables inputs set functions c o u v s) (sym is)

    pub left_plain : conversion_of o ≡ unconverted → O.binary o v u s ≡ converted_left tables inputs set functions (conversion_of o) o u v s
    unfolding binary_done
    left_plain is = left_by unconverted is

    pub left_compared : conversion_of o ≡ compared → compared_left O E o u v s ≡ converted_left tables inputs set functions (conversion_of o) o u v s
    left_compared is = left_by compared is

    pub left_primitive : (h : Hint) → conversion_of o ≡ primitives h → primitive_left O E h o u v s ≡ converted_left tables inputs set functions (conversion_of o) o u v s
    left_primitive h is = left_by (primitives h) is

    pub left_number : conversion_of o ≡ numbers → number_left O E o u v s ≡ converted_left tables inputs set functions (conversion_of o) o u v s
    left_number is = left_by numbers is

    pub left_keyed : conversion_of o ≡ keyed → has_left O u v s ≡ converted_left tables inputs set functions (conversion_of o) o u v s
    left_keyed is = left_by keyed is

    pub compared_on : O.bind Value Value (O.comparable u v E) (binary_done O o v) s ≡ compared_left O E o u v s
    unfolding compared_left
    compared_on = refl

    pub primitive_on : (h : Hint) → O.bind Value Value (O.primitive h u E) (binary_done O o v) s ≡ primitive_left O E h o u v s
    unfolding primitive_left
    primitive_on h = refl

    pub number_on : following ((labelled no_tables [] none_built []).unary unary_operator.Plus v s) (primitive_left O E hint.Number o u) ≡ number_left O E o u v s
    unfolding number_left
    number_on = sym (followed Value (T.unary unary_operator.Plus v s) (primitive_left O E hint.Number o u))

    pub done_as : O.binary o v u s ≡ binary_done O o v u s
    unfolding binary_done
    done_as = refl

  pub needed_as : (v u : Val) (s : State) → following (act no_tables [] object_needed (u ∷ []) s) (has_right O E v) ≡ binary_by O E keyed binary_operator.In v u s
  unfolding act
  needed_as v u s = sym (followed Value (act tables inputs object_needed (u ∷ []) s) (has_right O E v))

  pub key_on : (key object : Val) (s : State) → O.bind Value Value (O.primitive hint.String key E) (has_left O object) s ≡ has_right O E key object s
  unfolding has_right
  key_on key object s = refl

  pub unary_on : (o : UnaryOperator) (v : Val) (s : State) → O.unary o v s ≡ unary_done O o v s
  unfolding unary_done
  unary_on o v s = refl

  pub operand_on : (o : UnaryOperator) (v : Val) (s : State) → O.bind Value Value (O.primitive hint.Number v E) (unary_done O o) s ≡ unary_by O E true o v s
  operand_on o v s = refl

  -- ---- `++` and `--`

  pub counted_as : (how : Counting) (o : BinaryOperator) (t : Target) (vs : List Val) (f : Setting) (v : Val) (s : State) → and_plan (O.primitive hint.Number v E s) (after tables inputs set functions (continuation.CountedNumber how o t) vs f) ≡ after tables inputs set functions (continuation.Counted how o t) vs f (gave v) s
  unfolding prefix_value postfix_value
  counted_as counting.Prefix o t vs f v s = refl
  counted_as counting.Postfix o t vs f v s = refl

  pub counted_is : (how : Counting) (o : BinaryOperator) (t : Target) (vs : List Val) (f : Setting) (v : Val) (s : State) → numbered_by how tables inputs set functions o (target_of t vs) v s ≡ after tables inputs set functions (continuation.CountedNumber how o t) vs f (gave v) s
  counted_is counting.Prefix o t vs f v s = refl
  counted_is counting.Postfix o t vs f v s = refl

  pub number_as : (how : Counting) (o : BinaryOperator) (n : Reference) (v : Val) (s : State) → following ((labelled no_tables [] none_built []).unary unary_operator.Plus v s) (changed_by how tables inputs set functions o n) ≡ numbered_by how tables inputs set functions o n v s
  unfolding prefix_number postfix_number
  number_as counting.Prefix o n v s = sym (followed Value (T.unary unary_operator.Plus v s) (prefix_by O E o n))
  number_as counting.Postfix o n v s = sym (followed Value (T.unary unary_operator.Plus v s) (postfix_by O E o n))

  pub changed_as : (how : Counting) (o : BinaryOperator) (n : Reference) (old : Val) (s : State) → following ((labelled no_tables [] none_built []).binary o old (T.literal (Num (Int (pos 1)))) s) (given_by how tables inputs set functions n old) ≡ changed_by how tables inputs set functions o n old s
  unfolding prefix_by postfix_by
  changed_as counting.Prefix o n old s = sym (followed Value (T.binary o old (T.literal (Num (Int (pos 1)))) s) (assign_to O E n))
  changed_as counting.Postfix o n old s = sym (followed Value (T.binary o old (T.literal (Num (Int (pos 1)))) s) (assign_giving O E n old))

  -- ---- compound assignments

  pub compound_is : {m n : Reference} {old v : Val} (o : BinaryOperator) (u : Val) (s : State) → m ≡ n → old ≡ v → and_plan (binary_values O E o old u s) (with_result Value (assign_to O E m)) ≡ compound_done O E R o n v u s
  unfolding compound_done
  compound_is o u s same is = ap₂ (λ r w. and_plan (binary_values O E o w u s) (with_result Value (assign_to O E r))) same is

  -- ---- `instanceof`

  pub tested_as : AreTested → (v f : Val) (s : State) → following (tested v f.label f.value s) (tests_on functions E) ≡ instance_done O E R v f s
  unfolding instance_done
  tested_as are v f s = sym (outcome_follows (tested v f.label f.value s) (tests_on functions E)) ∙ sym (are tables inputs set functions E v f s)

  pub instance_as : (label : Label) (o : ℕ) (proto : Val) (s : State) → following (is_instance (union label proto.label) o proto.value s) (λ w t. Give (gave w) t) ≡ end_instance label o (gave proto) s
  unfolding end_instance
  instance_as label o proto s = sym (given_follows (is_instance (union label proto.label) o proto.value s))

  pub applied_unary : (o : UnaryOperator) (v : Val) (s : State) → following ((labelled no_tables [] none_built []).unary o v s) (λ w t. Give (gave w) t) ≡ O.unary o v s
  applied_unary o v s = sym (given_follows (T.unary o v s))

-- what an operator gives has the label of its operand
pub unary_has : {T : Type 0} (made : T → Type 0) (l : T) (result : Result (machine.Outcome (Labelled T) T) (FlowFault T)) → HasAnswer (λ v. v.label ≡ l) (λ label. label ≡ l) result → made l → HasAnswer (HasValue made) made result
unary_has made l result same has = HasAnswer-weaker (λ v. v.label ≡ l) (HasValue made) (λ label. label ≡ l) made result (λ v is. subst made (sym is) has) (λ label is. subst made (sym is) has) same

-- work that is resumed by further work
module _ {S T : Type 0} {made : S → T → Type 0} {meaning : S → T → Label} {store : S} {w : Continuation} {old : Kept T} (between : List (Labelled T)) (popped : Labelled T) (top : old.loose ≡ between ++ popped ∷ []) (v : Continuation) (vs : List (Labelled T)) where
  pub resumed_pushed : {new : Kept T} {world : World T} {move : Control} (loose : List (Labelled T)) → new ≡ record { tasks = old.tasks ++ (v, vs) ∷ []; loose = loose }
      → ((tables : Tables) (inputs : Given) (set : BuiltIns) (functions : List FunctionCode) (reading : T → Label) (f : Setting) (s : State) → IsReading made meaning store reading
      → and_plan (next_plan tables inputs set functions move (map (read_value reading) loose) (setting_inside v f) s) (after tables inputs set functions v (map (read_value reading) vs) f) ≡ after tables inputs set functions w (map (read_value reading) between) f (gave (read_value reading popped)) s)
      → Resumed made meaning store w old new world world (Ok move)
  resumed_pushed loose laid same =
      resumed {plan = λ tables inputs set functions reading f s. after tables inputs set functions w (map (read_value reading) between) f (gave (read_value reading popped)) s} {middle = old} between popped top refl (λ tables inputs set functions reading f s is. refl) (begun_pushed v vs loose laid same)

  pub resumed_above : {p : Planning T} {middle new : Kept T} {world_old world_new : World T} {result : Result Control (FlowFault T)} → Begun made meaning store p middle new world_old world_new result → middle.tasks ≡ old.tasks ++ (v, vs) ∷ []
      → ((tables : Tables) (inputs : Given) (set : BuiltIns) (functions : List FunctionCode) (reading : T → Label) (f : Setting) (s : State) → IsReading made meaning store reading
      → and_plan (p tables inputs set functions reading (setting_inside v f) s) (after tables inputs set functions v (map (read_value reading) vs) f) ≡ after tables inputs set functions w (map (read_value reading) between) f (gave (read_value reading popped)) s)
      → Resumed made meaning store w old new world_old world_new result
  resumed_above begun tasks same =
      resumed {plan = λ tables inputs set functions reading f s. after tables inputs set functions w (map (read_value reading) between) f (gave (read_value reading popped)) s} {middle = old} between popped top refl (λ tables inputs set functions reading f s is. refl) (begun_above v vs begun tasks same)

-- ---- `instanceof`: it has its answer, or it reads the `prototype`

module _ {T : Type 0} where
  pub answers_alone : {new : Kept T} (old : Kept T) (v : Labelled T) → length old.loose ≡ 0 → new.tasks ≡ old.tasks → new.loose ≡ old.loose ++ v ∷ [] → Comes (λ tables inputs set functions reading. tests_on functions (entrance tables inputs set functions) (read_test reading (test.Answered v))) old new control.Value
  answers_alone {new} old v none tasks laid tables inputs set functions reading e s = laid_value old new v none tasks laid tables inputs set functions reading e s

  pub reads_on : (old pushed new : Kept T) (move : Control) (o : ObjId) (label : T) (a : Access T) → pushed.tasks ≡ old.tasks ++ (continuation.InstanceTest, record { value = value.Object o; label = label } ∷ []) ∷ []
      → Comes (λ tables inputs set functions reading. entering_access tables inputs set functions reading (read_access reading a)) pushed new move
      → Comes (λ tables inputs set functions reading. tests_on functions (entrance tables inputs set functions) (read_test reading (test.Reads o label a))) old new move
  reads_on old pushed new move o label a tasks comes tables inputs set functions reading e s =
      comes tables inputs set functions reading e s
      ∙ behind_one tables inputs set functions reading old.tasks pushed.tasks continuation.InstanceTest (record { value = value.Object o; label = label } ∷ []) e (λ f. entering_access tables inputs set functions reading (read_access reading a) s) tasks
