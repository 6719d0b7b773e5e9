-- An act that is made of one act and of another behind it, and the operators.
use Rattle.std.proofs.Common.{◌≡◌, refl, sym, subst, ℕ, Bool, true, false, [], ◌∷◌, Result, Ok, Err, List}
use Rattle.std.specs.Result.{IsErrAnd}
use Rattle.std.proofs.lemmas.Bool.{true≢false}
use Rattle.origin_labels.specs.Label.{Label, IsLabel}
use Rattle.origin_labels.specs.Stores.{IsKept}
use Rattle.flow_frames.specs.declared.faults.FlowFault.{FlowFault}
use Rattle.flow_policy.specs.Policies.{Tables}
use Rattle.flow_policy.specs.Inputs.{Given}
use Rattle.js_ast.specs.Functions.{FunctionCode}
use Rattle.js_ast.specs.declared.operators.BinaryOperator.{BinaryOperator}
use Rattle.js_ast.specs.declared.operators.BinaryOperator.TheVariants as binary_operator
use Rattle.js_values.specs.declared.value.Labelled.{Labelled}
use Rattle.js_values.specs.Readings.{read_value}
use Rattle.native_protocol.specs.declared.hint.Hint.TheVariants as hint
use Rattle.es_meaning.specs.BuiltIns.{BuiltIns}
use Rattle.es_meaning.specs.Outcomes.{Outcome, Goes, Jumps, Ends, and_then}
use Rattle.es_meaning.specs.Operations.{Ops, Value, object_needed, has_key}
use Rattle.es_meaning.specs.Operators.{is_object}
use Rattle.es_meaning.specs.Evaluation.{has_left, has_right, binary_values}
use Rattle.flow_meaning.specs.Planned.{gave, Enters, Then, and_plan, as_plan, convert_by, planned, with_result}
use Rattle.flow_meaning.specs.Scopes.{Halt, State, Jump, Val, L}
use Rattle.flow_meaning.specs.Tracked.{act}
use Rattle.step_values.specs.Converted.{converts, is_keyed}
use Rattle.step_values.proofs.ConvertedLaws.{operands_as_they_are}
use Rattle.run_state.specs.declared.outcome.Outcome as machine
use Rattle.run_state.specs.declared.outcome.Outcome.TheVariants as outcome
use Rattle.run_state.specs.declared.outcome.Leaving.{Leaving}
use Rattle.run_state.specs.declared.world.World.{World}
use Rattle.run_state.specs.Acts.{Acts}
use Rattle.run_state.specs.Worlds.{state_of}
use Rattle.run_state.proofs.ActLaws.{Acts-as, Acts-throws, Acts-leaves, Acts-passes, Acts-then}
use Rattle.step_objects.specs.Operated.{AreOperated, contained, operated_by}

-- ---- calls

-- an act is one act and then what comes next by its value, in each reading
pub record MadeOf {T : Type 0} (act : (T → Label) → L Val) (next : (T → Label) → Val → L Val) (whole : (T → Label) → L Val) : Type 0 where
  pub same : (reading : T → Label) (s : State) → whole reading s ≡ and_then (act reading s) (next reading)

module _ {S T : Type 0} (made : S → T → Type 0) (meaning : S → T → Label) where
  -- a call does an act that gives a value
  abbrev pub Does : S → ((T → Label) → L Val) → World T → World T → Result (machine.Outcome (Labelled T) T) (FlowFault T) → Type 0
  Does store act old new result = Acts made meaning store (λ reading. read_value reading) act old new result

  module _ {act : (T → Label) → L Val} {next : (T → Label) → Val → L Val} {whole : (T → Label) → L Val} (parts : MadeOf act next whole) where
    as_whole : (store : S) (old new : World T) (result : Result (machine.Outcome (Labelled T) T) (FlowFault T)) → Does store (λ reading s. and_then (act reading s) (next reading)) old new result → Does store whole old new result
    as_whole store old new result acts = Acts-as made meaning store (λ reading. read_value reading) (λ reading s. and_then (act reading s) (next reading)) whole old new result (λ reading is told turns. parts.same reading (state_of reading old told turns)) acts

    -- the first call goes on, and the next one does the rest
    pub goes_on : (room : S → ℕ) (firm : S → Bool) (earlier later : S) → IsKept made meaning room firm earlier later → (old middle new : World T) (v : Labelled T) (result : Result (machine.Outcome (Labelled T) T) (FlowFault T)) → Does earlier act old middle (Ok (outcome.Goes v)) → Does later (λ reading. next reading (read_value reading v)) middle new result → Does later whole old new result
    goes_on room firm earlier later kept old middle new v result first second =
        as_whole later old new result
        (Acts-then made meaning room firm earlier later kept (λ reading. read_value reading) (λ reading. read_value reading) act next old middle new v result first second)

    -- the first call doesn't go on
    pub throws_on : (store : S) (old new : World T) (error : Labelled T) → Does store act old new (Ok (outcome.Throws error)) → Does store whole old new (Ok (outcome.Throws error))
    throws_on store old new error acts = as_whole store old new (Ok (outcome.Throws error)) (Acts-throws made meaning store (λ reading. read_value reading) (λ reading. read_value reading) act next old new error acts)

    pub leaves_on : (store : S) (old new : World T) (why : Leaving) → Does store act old new (Ok (outcome.Leaves why)) → Does store whole old new (Ok (outcome.Leaves why))
    leaves_on store old new why acts = as_whole store old new (Ok (outcome.Leaves why)) (Acts-leaves made meaning store (λ reading. read_value reading) (λ reading. read_value reading) act next old new why acts)

    pub fails_on : (store : S) (old new : World T) (f : FlowFault T) (result : Result (machine.Outcome (Labelled T) T) (FlowFault T)) → IsErrAnd result (λ e. e ≡ f) → Does store act old new (Err f) → Does store whole old new result
    fails_on store old new f result is acts = as_whole store old new result (Acts-passes made meaning store (λ reading. read_value reading) (λ reading. read_value reading) act next old new f result is acts)

-- ---- `in` asks for an object, and then for the key

pub contained_parts : (tables : Tables) (inputs : Given) {T : Type 0} (v u : Labelled T)
    → MadeOf (λ (reading : T → Label). act tables inputs object_needed (read_value reading u ∷ [])) (λ reading w. act tables inputs has_key (read_value reading v ∷ w ∷ [])) (λ reading. contained tables inputs (read_value reading v) (read_value reading u))
contained_parts tables inputs v u = record { same = λ reading s. refl }

-- ---- the plan of an operator that has no operand converted

-- one operator takes a key
keyed_is_in : (o : BinaryOperator) → is_keyed o ≡ true → o ≡ binary_operator.In
keyed_is_in binary_operator.In e = refl
keyed_is_in _ e = absurd cc e

module _ (tables : Tables) (inputs : Given) (set : BuiltIns) (functions : List FunctionCode) (E : Enters) where
  abbrev P : Ops
  P = planned tables inputs set functions

  -- the key is no object
  unconverted : (test : Bool) (v : Val) (next : Then) (s : State) → test ≡ false → and_plan (convert_by test E hint.String v.label v v s) next ≡ next (gave v) s
  unfolding convert_by
  unconverted true v next s is = absurd (true≢false is)
  unconverted false v next s is = refl

  keyed_on : (o : Outcome Halt Jump Val State) (v : Val) → is_object v.value ≡ false
      → and_plan (as_plan Value o) (with_result Value (has_right P E v)) ≡ as_plan Value (and_then o (λ w. act tables inputs has_key (v ∷ w ∷ [])))
  unfolding has_right has_left
  keyed_on (Goes w t) v is = unconverted (is_object v.value) v (with_result Value (has_left P w)) t is
  keyed_on (Jumps j t) v is = refl
  keyed_on (Ends halt t) v is = refl

  by_key : (o : BinaryOperator) (test : Bool) (v u : Val) (s : State) → is_keyed o ≡ test → IsLabel v.label → IsLabel u.label → converts o v.value u.value ≡ false → binary_values P E o v u s ≡ as_plan Value (operated_by test tables inputs set functions o v u s)
  unfolding binary_values
  by_key o true v u s keyed left right none =
      let is = keyed_is_in o keyed in
      subst (λ (k : BinaryOperator). binary_values P E k v u s ≡ as_plan Value (contained tables inputs v u s)) (sym is)
      (keyed_on (act tables inputs object_needed (u ∷ []) s) v (subst (λ (k : BinaryOperator). converts k v.value u.value ≡ false) is none))
  by_key o false v u s keyed left right none = operands_as_they_are tables inputs set functions E o v u s left right keyed none

pub are_operated : AreOperated
are_operated tables inputs set functions E o v u s left right none = by_key tables inputs set functions E o (is_keyed o) v u s refl left right none
