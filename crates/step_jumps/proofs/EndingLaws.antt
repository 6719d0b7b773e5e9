-- What comes behind all that is done in the frame of a `try` statement.
use Rattle.std.proofs.Common.{refl, sym, ap, subst, ◌∙◌, ◌≡◌, List, [], map, take, drop, length, Some, None, Result, Ok, Err, arith}
use Rattle.std.specs.Result.{IsErrAnd}
use Rattle.std.proofs.lemmas.List.{drop_all, take_all}
use Rattle.origin_labels.specs.Label.{Label, bottom}
use Rattle.flow_policy.specs.Policies.{Tables}
use Rattle.flow_policy.specs.Inputs.{Given}
use Rattle.flow_frames.specs.Held as held
use Rattle.flow_frames.specs.declared.faults.FlowFault.{FlowFault}
use Rattle.flow_frames.specs.declared.faults.FlowFault.TheVariants as fault
use Rattle.js_ast.specs.Functions.{FunctionCode}
use Rattle.js_values.specs.Readings.{read_value}
use Rattle.es_meaning.specs.Operations.{One}
use Rattle.es_meaning.specs.Plain.{undefined}
use Rattle.es_meaning.specs.BuiltIns.{BuiltIns}
use Rattle.flow_meaning.specs.Erased.{unlabelled}
use Rattle.flow_meaning.specs.Scopes.{State, Val, caught, ended, jump, resume, stopped}
use Rattle.flow_meaning.specs.Planned.{Give, as_plan, end_last, gave}
use Rattle.run_state.specs.declared.world.World.{World}
use Rattle.run_state.specs.Worlds.{state_of}
use Rattle.continuations.specs.declared.continuation.Jump.{Jump}
use Rattle.continuations.specs.declared.continuation.Continuation.{Continuation}
use Rattle.continuations.specs.declared.continuation.Control.{Control}
use Rattle.continuations.specs.declared.continuation.Control.TheVariants as control
use Rattle.continuations.specs.Going.{Resumes, here}
use Rattle.continuations.specs.Kept.{Kept}
use Rattle.continuations.specs.Moving.{BeginsWith, Moves}
use Rattle.continuations.specs.Pending.{owns, setting_above, after, behind, first_or_undefined}
use Rattle.continuations.specs.Resuming.{with_frames}
use Rattle.continuations.specs.Shapes.{jump_of}
use Rattle.continuations.proofs.Handed.{behind_end}
use Rattle.continuations.specs.Settings.{setting_of}
use Rattle.step_jumps.specs.Issuing.{Issues}
use Rattle.step_jumps.specs.Trying.{ending_plan}
use Rattle.native_protocol.specs.Steps.{Steps}

nothing_waits : end_last (ended tt) (gave (unlabelled undefined)) ≡ (λ s. Give (gave (unlabelled undefined)) s)
unfolding end_last resume
nothing_waits = refl

waits_for : (j : Jump) (vs : List Val) (s : State) → end_last (caught (jump_of j (first_or_undefined vs))) (gave (unlabelled undefined)) s ≡ as_plan One (jump bottom (jump_of j (first_or_undefined vs)) s)
unfolding end_last resume
waits_for j vs s = refl

module _ {S T : Type 0} (made : S → T → Type 0) (meaning : S → T → Label) (store : S) where
  -- no jump waits
  pub ends_done : (stack : Kept T) (world : World T) → BeginsWith made meaning store (ending_plan None stack.loose) stack stack world world (Ok control.Done)
  ends_done stack world = λ tables inputs set functions reading e told turns read. ap (λ p. behind tables inputs set functions reading stack.tasks e (p (state_of reading world told turns))) (sym nothing_waits)

  module _ (j : Jump) (stack : Kept T) (world : World T) (frames : held.Kept T) where
    -- the jump is issued again
    pub ends_jumping : {X : Type 0} (x : X) → Issues made meaning store (jump_of j) world.frames.frames frames.frames (Ok x)
        → BeginsWith made meaning store (ending_plan (Some j) stack.loose) stack stack world (record world { frames = frames }) (Ok (control.Jumps j))
    ends_jumping x issues = λ tables inputs set functions reading e told turns read.
        let vs = map (read_value reading) stack.loose in
        let s = state_of reading world told turns in
        ap (λ o. behind tables inputs set functions reading stack.tasks e (as_plan One o)) (sym (issues reading (first_or_undefined vs) s read))
        ∙ ap (behind tables inputs set functions reading stack.tasks e) (sym (waits_for j vs s))

    ends_fault : (X : Type 0) (f : FlowFault T) → Issues made meaning store {X = X} (jump_of j) world.frames.frames frames.frames (Err f)
        → BeginsWith made meaning store (ending_plan (Some j) stack.loose) stack stack world (record world { frames = frames }) (Err f)
    ends_fault X (fault.Stop stop) issues = λ tables inputs set functions reading e told turns read.
        let vs = map (read_value reading) stack.loose in
        let s = state_of reading world told turns in
        sym (behind_end tables inputs set functions reading stack.tasks e (stopped stop.rule (reading stop.need) (reading stop.have)) (with_frames reading frames.frames s))
        ∙ ap (λ o. behind tables inputs set functions reading stack.tasks e (as_plan One o)) (sym (issues reading (first_or_undefined vs) s read))
        ∙ ap (behind tables inputs set functions reading stack.tasks e) (sym (waits_for j vs s))
    ends_fault X fault.OutOfMemory issues = λ tables inputs set functions reading e told turns read. tt

    -- a `?` hands on the fault
    pub ends_failing : (X : Type 0) (f : FlowFault T) (result : Result Control (FlowFault T)) → IsErrAnd result (λ e. e ≡ f) → Issues made meaning store {X = X} (jump_of j) world.frames.frames frames.frames (Err f)
        → BeginsWith made meaning store (ending_plan (Some j) stack.loose) stack stack world (record world { frames = frames }) result
    ends_failing X f (Ok x) is issues = absurd is
    ends_failing X f (Err e) is issues = subst (λ (g : FlowFault T). BeginsWith made meaning store (ending_plan (Some j) stack.loose) stack stack world (record world { frames = frames }) (Err g)) (sym is) (ends_fault X f issues)

  -- work goes on behind the end of a part
  pub resumes_done : (tables : Tables) (inputs : Given) (set : BuiltIns) (functions : List FunctionCode) (natives : List Steps) (w : Continuation) (old new : Kept T) (before later : World T) (result : Result Control (FlowFault T)) → length old.loose ≡ owns w
      → BeginsWith made meaning store (λ tables inputs set functions reading f. after tables inputs set functions w (map (read_value reading) old.loose) f (gave (unlabelled undefined))) old new before later result
      → Resumes made meaning store tables inputs set functions w natives natives old new before later result
  resumes_done tables inputs set functions natives w old new before later result size begins = λ reading told turns read.
      let all : take (owns w) old.loose ≡ old.loose = take_all (owns w) old.loose (omega (arith, size)) in
      let none : drop (owns w) old.loose ≡ [] = drop_all (owns w) old.loose (omega (arith, size)) in
      subst (λ us. Moves tables inputs set functions reading new (setting_of natives here) (state_of reading later told turns) (behind tables inputs set functions reading old.tasks (setting_of natives here) (after tables inputs set functions w (map (read_value reading) us) (setting_above old.tasks (setting_of natives here)) (gave (first_or_undefined (map (read_value reading) (drop (owns w) old.loose)))) (state_of reading before told turns))) result) (sym all)
      (subst (λ us. Moves tables inputs set functions reading new (setting_of natives here) (state_of reading later told turns) (behind tables inputs set functions reading old.tasks (setting_of natives here) (after tables inputs set functions w (map (read_value reading) old.loose) (setting_above old.tasks (setting_of natives here)) (gave (first_or_undefined (map (read_value reading) us))) (state_of reading before told turns))) result) (sym none)
      (begins tables inputs set functions reading (setting_of natives here) told turns read))
