-- The number one, in a reading of the labels.
use Rattle.std.proofs.Common.{◌≡◌, sym, ap, ◌∙◌, ℕ, ℤ, pos, Bool, Result, List}
use Rattle.origin_labels.specs.Label.{Label, bottom}
use Rattle.origin_labels.specs.Stores.{IsKept}
use Rattle.flow_frames.specs.declared.faults.FlowFault.{FlowFault}
use Rattle.flow_policy.specs.Policies.{Tables}
use Rattle.flow_policy.specs.Inputs.{Given}
use Rattle.js_ast.specs.Functions.{FunctionCode}
use Rattle.js_ast.specs.declared.operators.BinaryOperator.{BinaryOperator}
use Rattle.js_number.specs.declared.num.Num.TheVariants.{Int}
use Rattle.js_number.specs.declared.primitive.Primitive.TheVariants.{Num}
use Rattle.js_values.specs.declared.value.Labelled.{Labelled}
use Rattle.js_values.specs.declared.value.Value.TheVariants as value
use Rattle.js_values.specs.Readings.{read_value}
use Rattle.js_values.proofs.ReadingLaws.{IsReading-earlier}
use Rattle.es_meaning.specs.BuiltIns.{BuiltIns}
use Rattle.flow_meaning.specs.Tracked.{labelled}
use Rattle.run_state.specs.declared.outcome.Outcome.{Outcome}
use Rattle.run_state.specs.declared.world.World.{World}
use Rattle.run_state.specs.Worlds.{state_of}
use Rattle.run_state.proofs.ActLaws.{Acts-as}
use Rattle.step_objects.proofs.Following.{Does}

abbrev one_with : {T : Type 0} → ℤ → T → Labelled T
one_with one label = record { value = value.Primitive (Num (Int one)); label = label }

-- one without origins is the literal one
pub adds_one : {S T : Type 0} (made : S → T → Type 0) (meaning : S → T → Label) (room : S → ℕ) (firm : S → Bool) (old new : S) → IsKept made meaning room firm old new
    → (tables : Tables) (inputs : Given) (set : BuiltIns) (functions : List FunctionCode) (o : BinaryOperator) (v : Labelled T) (one : ℤ) (none : T) → one ≡ pos 1 → made old none → meaning old none ≡ bottom → (w : World T) (result : Result (Outcome (Labelled T) T) (FlowFault T))
    → Does made meaning new (λ reading. (labelled tables inputs set functions).binary o (read_value reading v) (read_value reading (one_with one none))) w w result
    → Does made meaning new (λ reading. (labelled tables inputs set functions).binary o (read_value reading v) ((labelled tables inputs set functions).literal (Num (Int (pos 1))))) w w result
adds_one made meaning room firm old new kept tables inputs set functions o v one none is m empty w result acts =
    Acts-as made meaning new (λ reading. read_value reading) (λ reading. (labelled tables inputs set functions).binary o (read_value reading v) (read_value reading (one_with one none))) (λ reading. (labelled tables inputs set functions).binary o (read_value reading v) ((labelled tables inputs set functions).literal (Num (Int (pos 1))))) w w result
    (λ reading read told turns.
    let earlier = IsReading-earlier made meaning room firm old new reading kept read in
    ap (λ (l : Label). (labelled tables inputs set functions).binary o (read_value reading v) (one_with (pos 1) l) (state_of reading w told turns)) (sym (earlier.agrees none m ∙ empty))
    ∙ ap (λ (n : ℤ). (labelled tables inputs set functions).binary o (read_value reading v) (one_with n (reading none)) (state_of reading w told turns)) (sym is))
    acts
