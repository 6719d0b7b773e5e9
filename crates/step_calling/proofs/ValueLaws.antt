-- Values that are called, or construct.
use Rattle.std.proofs.Common.{arith, sym, ap, ap₂, ◌∙◌, ◌≡◌, zero, suc, List, [], ◌∷◌, ◌++◌, map, length, drop, Ok, subst}
use Rattle.std.specs.Borrow.{Bor}
use Rattle.std.specs.List.{All}
use Rattle.std.proofs.lemmas.List.{length-append, nil_from_length}
use Rattle.origin_labels.specs.Label.{Label, bottom}
use Rattle.flow_policy.specs.Policies.{Tables}
use Rattle.flow_policy.specs.Inputs.{Given}
use Rattle.js_ast.specs.Functions.{FunctionCode}
use Rattle.js_ast.specs.declared.trees.Expr as code
use Rattle.js_ast.specs.Views.{view_exprs}
use Rattle.js_values.specs.declared.value.Labelled.{Labelled}
use Rattle.js_values.specs.Readings.{HasValue, IsReading, read_value}
use Rattle.native_protocol.specs.Steps.{Steps}
use Rattle.es_meaning.specs.BuiltIns.{BuiltIns}
use Rattle.es_meaning.specs.Evaluation.{arguments, call_value, construct_value}
use Rattle.es_meaning.specs.Operations.{calls}
use Rattle.es_meaning.specs.Plain.{undefined}
use Rattle.flow_meaning.specs.Planned.{asking, planned}
use Rattle.run_state.specs.declared.world.World.{World}
use Rattle.run_state.specs.Worlds.{state_of}
use Rattle.continuations.specs.declared.continuation.Calling.TheVariants as calling
use Rattle.continuations.specs.declared.continuation.Control.{Control}
use Rattle.continuations.specs.declared.continuation.Continuation.TheVariants as continuation
use Rattle.continuations.specs.Going.{Resumes, here}
use Rattle.continuations.specs.Kept.{Kept}
use Rattle.continuations.specs.Pending.{behind, first_or_undefined, owns_calling, setting_above}
use Rattle.continuations.specs.Resuming.{BeginsBehind}
use Rattle.continuations.specs.Settings.{entrance, setting_of}
use Rattle.continuations.specs.Shapes.{calling_of}

-- one value is taken, and lies alone then with another one below it
pub taken_alone : {T : Type 0} (old rest first laid : List (Labelled T)) (f this : Labelled T) → length old ≡ 1 → old ≡ rest ++ f ∷ [] → first ≡ rest ++ this ∷ [] → laid ≡ first ++ f ∷ [] → (old ≡ f ∷ []) × (laid ≡ this ∷ f ∷ [])
taken_alone old rest first laid f this one top more last =
    let none : length rest ≡ 0 = omega (arith, one, ap length top, length-append rest (f ∷ [])) in
    let empty : rest ≡ [] = nil_from_length rest none in
    (top ∙ ap (λ vs. vs ++ f ∷ []) empty, last ∙ ap (λ vs. vs ++ f ∷ []) (more ∙ ap (λ vs. vs ++ this ∷ []) empty))

pub two_have : {T : Type 0} (made : T → Type 0) (this f : Labelled T) (loose : List (Labelled T)) → loose ≡ f ∷ [] → made this.label → All (HasValue made) loose → All (HasValue made) (this ∷ f ∷ [])
two_have made this f loose is m all zero d lt = m
two_have made this f loose is m all (suc k) d lt = subst (All (HasValue made)) is all k d (omega (arith, lt))

module _ {S T : Type 0} (made : S → T → Type 0) (meaning : S → T → Label) (store : S) (tables : Tables) (inputs : Given) (set : BuiltIns) (functions : List FunctionCode) (ns : List Steps) (es : Bor (List code.Expr)) (world : World T) (move : Control) where
  pub value_called : (old laid new : Kept T) (f : Labelled T) (label : T) → old.loose ≡ f ∷ [] → laid.tasks ≡ old.tasks → laid.loose ≡ record { value = undefined; label = label } ∷ f ∷ []
      → ((reading : T → Label) → IsReading made meaning store reading → reading label ≡ bottom)
      → BeginsBehind (λ tables inputs set functions vs e. arguments (planned tables inputs set functions) (entrance tables inputs set functions) (asking tables inputs set functions) (calling_of calling.Calls vs) (drop (owns_calling calling.Calls) vs) (view_exprs es.now) e.env.place) laid new move
      → Resumes made meaning store tables inputs set functions (continuation.Callee es) ns ns old new world world (Ok move)
  unfolding call_value
  value_called old laid new f label lies tasks both empty begins = λ reading told turns read.
      let s = state_of reading world told turns in
      let P = planned tables inputs set functions in
      let A = asking tables inputs set functions in
      let E = entrance tables inputs set functions in
      let e = setting_of ns here in
      let i = (setting_above old.tasks e).env.place in
      begins tables inputs set functions reading e s
      ∙ ap₂ (λ ts vs. behind tables inputs set functions reading ts e (arguments P E A (calling_of calling.Calls (map (read_value reading) vs)) (drop 2 (map (read_value reading) vs)) (view_exprs es.now) (setting_above ts e).env.place s)) tasks both
      ∙ ap (λ (l : Label). behind tables inputs set functions reading old.tasks e (arguments P E A (calls (read_value reading f) (record { value = undefined; label = l })) [] (view_exprs es.now) i s)) (empty reading read)
      ∙ ap (λ vs. behind tables inputs set functions reading old.tasks e (call_value P E A (view_exprs es.now) i (first_or_undefined (map (read_value reading) vs)) s)) (sym lies)

  pub value_constructs : (old new : Kept T) (loose : List (Labelled T)) → old.loose ≡ loose → length loose ≡ 1
      → BeginsBehind (λ tables inputs set functions vs e. arguments (planned tables inputs set functions) (entrance tables inputs set functions) (asking tables inputs set functions) (calling_of calling.Constructs vs) (drop (owns_calling calling.Constructs) vs) (view_exprs es.now) e.env.place) old new move
      → Resumes made meaning store tables inputs set functions (continuation.Constructor es) ns ns old new world world (Ok move)
  unfolding construct_value
  value_constructs old new [] is one begins = absurd (omega (arith, one))
  value_constructs old new (f ∷ g ∷ loose) is one begins = absurd (omega (arith, one))
  value_constructs old new (f ∷ []) is one begins = λ reading told turns read.
      let s = state_of reading world told turns in
      let P = planned tables inputs set functions in
      let A = asking tables inputs set functions in
      let E = entrance tables inputs set functions in
      let e = setting_of ns here in
      let i = (setting_above old.tasks e).env.place in
      begins tables inputs set functions reading e s
      ∙ ap (λ vs. behind tables inputs set functions reading old.tasks e (arguments P E A (calling_of calling.Constructs (map (read_value reading) vs)) (drop 1 (map (read_value reading) vs)) (view_exprs es.now) i s)) is
      ∙ ap (λ vs. behind tables inputs set functions reading old.tasks e (construct_value P E A (view_exprs es.now) i (first_or_undefined (map (read_value reading) vs)) s)) (sym is)
