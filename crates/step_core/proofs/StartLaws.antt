-- A machine in front of a program.
use Rattle.std.proofs.Common.{ℕ, Bool, true, false, not, refl, sym, ap, subst, ◌∙◌, ◌≡◌, suc, [], length, arith, List}
use Rattle.std.specs.List.{All}
use Rattle.origin_labels.specs.Label.{Label}
use Rattle.flow_policy.specs.Policies.{Tables}
use Rattle.flow_policy.specs.Inputs.{Given}
use Rattle.js_ast.specs.Functions.{FunctionCode}
use Rattle.js_ast.specs.Trees.{Statements}
use Rattle.js_values.specs.Readings.{HasValue}
use Rattle.es_meaning.specs.Evaluation.{statements}
use Rattle.flow_meaning.specs.Scopes.{State}
use Rattle.flow_meaning.specs.Planned.{planned, asking}
use Rattle.run_state.specs.declared.world.World.{World}
use Rattle.run_state.specs.Worlds.{Belongs}
use Rattle.native_protocol.specs.declared.request.Answer.{Answer}
use Rattle.native_protocol.specs.declared.request.Request.{Request}
use Rattle.step_natives.specs.States.{States, waiting_steps}
use Rattle.step_natives.specs.Framed.{steps_at}
use Rattle.continuations.specs.declared.continuation.Control.{Control}
use Rattle.continuations.specs.Kept.{Kept, scopes_of, operands_of, waiting}
use Rattle.continuations.specs.Pending.{behind, setting_above, values_of}
use Rattle.continuations.specs.Settings.{setting_of}
use Rattle.continuations.specs.Resuming.{Begins, Keeps, coming}
use Rattle.continuations.specs.Going.{here}
use Rattle.continuations.specs.Invariant.{Invariant, depths, running}
use Rattle.step_core.proofs.Depths.{framed}
use Rattle.std.proofs.Common.{ap₂, ◌<◌, ◌∷◌}
use Rattle.std.proofs.lemmas.List.Elements.{All-cons}
use Rattle.origin_labels.specs.Label.{bottom}
use Rattle.js_ast.specs.Functions.{functions_of}
use Rattle.js_values.specs.declared.value.Labelled.{Labelled}
use Rattle.es_meaning.specs.Outcomes.{Jumps}
use Rattle.es_meaning.specs.Plain.{may_declare}
use Rattle.native_protocol.specs.declared.request.ErrorKind.TheVariants as kinds
use Rattle.es_meaning.specs.BuiltIns.{BuiltIns}
use Rattle.flow_meaning.specs.Laws.{performed_run}
use Rattle.flow_meaning.specs.Planned.{perform, meaning}
use Rattle.flow_meaning.specs.Scopes.{Val}
use Rattle.flow_meaning.specs.Tracked.{start, throw_error, tracked_run}
use Rattle.continuations.specs.declared.continuation.Jump.TheVariants as jump
use Rattle.continuations.specs.declared.continuation.Control.TheVariants as control
use Rattle.run_state.specs.Acts.{thrown}
use Rattle.step_core.proofs.Refused.{one_frame}
use Rattle.step_core.proofs.StepLaws.{begun_refused, starts}
use Rattle.std.proofs.lemmas.List.{length-map}
use Rattle.run_state.specs.Worlds.{state_of}
use Rattle.flow_frames.specs.Held.{seen_frame}

module _ {T : Type 0} (old new : Kept T) (move : Control) (empty : old ≡ record { tasks = []; loose = [] }) where
  -- without work the program's statements come first
  pub begun_alone : (tables : Tables) (inputs : Given) (set : BuiltIns) (functions : List FunctionCode) (reading : T → Label) (program : Statements) (s : State) → Begins (λ tables inputs set functions e. statements (planned tables inputs set functions) (asking tables inputs set functions) program e.env) old new move
      → coming tables inputs set functions reading new move (setting_of [] here) s ≡ statements (planned tables inputs set functions) (asking tables inputs set functions) program here s
  unfolding behind setting_above
  begun_alone tables inputs set functions reading program s begins =
      begins tables inputs set functions reading (setting_of [] here) s (ap (λ k. k.loose) empty)
      ∙ ap (λ ts. behind tables inputs set functions reading ts (setting_of [] here) (statements (planned tables inputs set functions) (asking tables inputs set functions) program (setting_above ts (setting_of [] here)).env s)) (ap (λ k. k.tasks) empty)

  -- and the machine stands
  pub standing_begun : {S : Type 0} (made : S → T → Type 0) (meaning_of : S → T → Label) (store : S) (world : World T) → Keeps old new move → Belongs made meaning_of store world → length world.frames.frames ≡ 1 → length world.records ≡ 1 → running move ≡ 0
      → Invariant made meaning_of store new world (values_of move) (scopes_of new.tasks) 0 move
  standing_begun made meaning_of store world keeps belongs alone one still =
      let none : scopes_of new.tasks ≡ [] = keeps.scopes ∙ ap (λ k. scopes_of k.tasks) empty in
      record {
        belongs = belongs;
        operands = subst (All (HasValue (made store))) (sym (keeps.operands ∙ ap operands_of empty)) (λ k d lt. absurd (omega (arith, lt)));
        values = keeps.values;
        scopes = subst (λ ds. ds ≡ depths (length ds)) (sym none) refl;
        frames = framed move (length world.frames.frames) (length (scopes_of new.tasks)) (alone ∙ ap (λ ds. suc (length ds)) (sym none));
        records = omega (arith, one);
        natives = let waits = keeps.natives ∙ ap (λ k. waiting k.tasks) empty in omega (arith, waits, still);
      }

-- ---- where a function may not be declared

module _ {T : Type 0} (stack : Kept T) (value : Labelled T) (nothing : stack.tasks ≡ []) (alone : stack.loose ≡ value ∷ []) where
  -- the throw that lies there comes to the run
  pub refused_starts : (tables : Tables) (inputs : Given) (set : BuiltIns) (reading : T → Label) (program : Statements) (s first : State) (turns : ℕ) → may_declare set program ≡ false → throw_error {X = Val} kinds.TypeError bottom first ≡ Jumps (thrown reading value) s → first ≡ start tables inputs set program turns
      → performed_run (perform (meaning tables inputs set (functions_of program)) (coming tables inputs set (functions_of program) reading stack (control.Jumps jump.Throws) (setting_of [] here) s)) ≡ tracked_run set tables inputs program turns
  unfolding behind setting_above
  refused_starts tables inputs set reading program s first turns declares throws is =
      starts tables inputs set reading program stack (control.Jumps jump.Throws) s first turns
      (ap₂ (λ ts vs. coming tables inputs set (functions_of program) reading (record { tasks = ts; loose = vs }) (control.Jumps jump.Throws) (setting_of [] here) s) nothing alone
      ∙ begun_refused tables inputs set reading program first s (thrown reading value) declares throws) is

  -- and the machine stands
  pub standing_refused : {S : Type 0} (made : S → T → Type 0) (meaning_of : S → T → Label) (store : S) (world : World T) → made store value.label → Belongs made meaning_of store world → length world.frames.frames ≡ 1 → 0 < length world.records
      → Invariant made meaning_of store stack world 1 (scopes_of stack.tasks) 0 (control.Jumps jump.Throws)
  standing_refused made meaning_of store world has belongs one_frame some_record =
      let none : scopes_of stack.tasks ≡ [] = ap scopes_of nothing in
      record {
        belongs = belongs;
        operands = subst (All (HasValue (made store))) (sym (ap₂ (λ ts vs. operands_of (record { tasks = ts; loose = vs })) nothing alone)) (All-cons (HasValue (made store)) value [] has (λ k d lt. absurd (omega (arith, lt))));
        values = ap length alone;
        scopes = subst (λ ds. ds ≡ depths (length ds)) (sym none) refl;
        frames = omega (arith, one_frame);
        records = some_record;
        natives = let waits = ap waiting nothing in omega (arith, waits);
      }

-- it left no frame but the Root
pub refused_alone : {T : Type 0} (tables : Tables) (inputs : Given) (set : BuiltIns) (program : Statements) (turns : ℕ) (reading : T → Label) (old new : World T) (v : Labelled T) → throw_error {X = Val} kinds.TypeError bottom (state_of reading old [] turns) ≡ Jumps (thrown reading v) (state_of reading new [] turns) → state_of reading old [] turns ≡ start tables inputs set program turns
    → length new.frames.frames ≡ 1
refused_alone tables inputs set program turns reading old new v throws is =
    sym (length-map new.frames.frames (seen_frame reading)) ∙ one_frame tables inputs set program turns (thrown reading v) (state_of reading new [] turns) (ap (throw_error kinds.TypeError bottom) (sym is) ∙ throws)

pub not_false : (b : Bool) → not b ≡ false → b ≡ true
not_false true is = refl
not_false false is = absurd (cc is)

-- no built-in waits at first
pub none_waits : {X : Type 0} (tells : X → Answer → X) (asks : X → Request) (natives : States X) (move : Control) → natives.states ≡ [] → running move ≡ 0 → steps_at tells asks natives move ≡ []
unfolding waiting_steps
none_waits tells asks natives (control.Request count) none still = absurd (omega (arith, still))
none_waits tells asks natives _ none still = ap (λ ss. waiting_steps tells asks (record { states = ss; answer = natives.answer })) none
