-- The next request of the built-in that runs, behind what it asks for.
use Rattle.std.proofs.Common.{refl, sym, ap, ap₂, subst, ◌∙◌, ◌≡◌, ◌+◌, ◌-◌, ℕ, List, [], ◌∷◌, ◌++◌, map, IfSome, Option, Result, Ok, Err, arith}
use Rattle.std.specs.Result.{IsErrAnd}
use Rattle.origin_labels.specs.Label.{Label}
use Rattle.flow_policy.specs.Policies.{Tables}
use Rattle.flow_policy.specs.Inputs.{Given}
use Rattle.flow_frames.specs.declared.faults.FlowFault.{FlowFault}
use Rattle.flow_frames.specs.declared.faults.FlowFault.TheVariants as fault
use Rattle.js_values.specs.Readings.{read_value}
use Rattle.native_protocol.specs.declared.request.Answer.{Answer}
use Rattle.native_protocol.specs.declared.request.Request.{Request}
use Rattle.native_protocol.specs.Steps.{Steps}
use Rattle.es_meaning.specs.Environments.{Env}
use Rattle.flow_meaning.specs.Scopes.{LabelledLine}
use Rattle.channel_requests.specs.declared.printing.Printed.{Printed}
use Rattle.run_state.specs.declared.world.World.{World}
use Rattle.run_state.specs.Worlds.{state_of}
use Rattle.step_natives.specs.States.{States, waiting_steps, running_steps}
use Rattle.continuations.specs.declared.continuation.Control.{Control}
use Rattle.continuations.specs.declared.continuation.Control.TheVariants as control
use Rattle.continuations.specs.Kept.{Kept, waiting}
use Rattle.continuations.specs.Pending.{behind, values_of}
use Rattle.continuations.specs.Resuming.{coming}
use Rattle.continuations.specs.Settings.{setting_of}
use Rattle.continuations.specs.Invariant.{running}
use Rattle.step_requests.specs.declared.moved.Moved.{Moved}
use Rattle.step_requests.specs.declared.moved.Moved.TheVariants as moved
use Rattle.step_requests.specs.Asked.{asked_of, asked_plan}
use Rattle.step_requests.specs.Doing.{Does, IsIdle, IsPrinted, Prints, IsQuiet, lines_of, next_of, setting_behind, waits_more}
use Rattle.step_requests.specs.Doing as Doing
use Rattle.step_requests.specs.Requesting.{Requests, Rests, ends_one, printed_by, steps_left, steps_now, told_behind}
use Rattle.step_requests.proofs.Plans.{request_is}

-- where no built-in runs, all wait
pub idle_steps : {S : Type 0} (after : S → Answer → S) (asks : S → Request) (natives : States S) (move : Control) → running move ≡ 0 → steps_now after asks natives move ≡ waiting_steps after asks natives
idle_steps after asks natives (control.Request count) idle = absurd (omega (arith, idle))
idle_steps after asks natives move idle = refl

module _ {T : Type 0} where
  same_setting : (m : Moved T) (steps : Steps) (front : List Steps) (e : Env ℕ) → setting_behind m steps (setting_of front e) ≡ setting_of (steps_left m steps front) e
  same_setting (moved.Asks count answer) steps front e = refl
  same_setting (moved.Prints count line) steps front e = refl
  same_setting (moved.Waits move) steps front e = refl
  same_setting (moved.Ends move) steps front e = refl

  same_lines : (tables : Tables) (reading : T → Label) (m : Moved T) (told : List LabelledLine) → lines_of tables reading m told ≡ told_behind tables reading told (printed_by m)
  same_lines tables reading (moved.Asks count answer) told = refl
  same_lines tables reading (moved.Prints count line) told = refl
  same_lines tables reading (moved.Waits move) told = refl
  same_lines tables reading (moved.Ends move) told = refl

  -- what no line is printed by prints nothing
  pub quiet_prints : (made : T → Type 0) (channels : ℕ) (m : Moved T) → IsQuiet m → Prints made channels m
  quiet_prints made channels (moved.Asks count answer) quiet = tt
  quiet_prints made channels (moved.Prints count line) quiet = absurd quiet
  quiet_prints made channels (moved.Waits move) quiet = tt
  quiet_prints made channels (moved.Ends move) quiet = tt

  -- the built-ins that wait or run
  pub rests_left : (made : T → Type 0) (old new : Kept T) (before middle after : ℕ) (m : Moved T) (move : Control) → Doing.Rests made old new m → move ≡ next_of m
      → before ≡ waiting old.tasks + 1 → middle ≡ before → after ≡ middle - ends_one m → Rests made old new after move
  rests_left made old new before middle after m move rests is runs same left = record {
    values = rests.values ∙ ap values_of (sym is);
    scopes = rests.scopes;
    running = counted m rests.natives rests.idle left ∙ ap (λ n. waiting new.tasks + running n) (sym is);
    operands = rests.operands;
  }
    where
      counted : (m : Moved T) → waiting new.tasks ≡ waiting old.tasks + waits_more m → IsIdle m → after ≡ middle - ends_one m → after ≡ waiting new.tasks + running (next_of m)
      counted (moved.Asks count answer) natives idle left = omega (arith, natives, left, runs, same)
      counted (moved.Prints count line) natives idle left = omega (arith, natives, left, runs, same)
      counted (moved.Waits move) natives idle left = omega (arith, natives, left, runs, same, idle)
      counted (moved.Ends move) natives idle left = omega (arith, natives, left, runs, same, idle)

module _ {S T X : Type 0} (made : S → T → Type 0) (meaning : S → T → Label) (store : S) (tables : Tables) (inputs : Given) (after : X → Answer → X) (asks : X → Request)
    (states_old states_middle : States X) (old new : Kept T) (world_old world_new : World T) (request : Request)
    (asked : (front : List Steps) (steps : Steps) → running_steps after asks states_old ≡ front ++ steps ∷ [] → request ≡ steps []) where
  -- it goes on
  pub requested : (states_new : States X) (m : Moved T) (result : Control × Option (Printed T)) → waiting_steps after asks states_middle ≡ running_steps after asks states_old
      → Does made meaning store (asked_of request) old new world_old world_new tables inputs (Ok m)
      → ((front : List Steps) (steps : Steps) → waiting_steps after asks states_middle ≡ front ++ steps ∷ [] → steps_now after asks states_new (next_of m) ≡ steps_left m steps front)
      → result.0 ≡ next_of m → result.1 ≡ printed_by m
      → Requests made meaning store tables inputs after asks states_old states_new old new world_old world_new (Ok result)
  requested states_new m result waits does leaves move line = record {
    says = λ set functions reading e front steps told turns is runs size.
        let vs = map (read_value reading) old.loose in
        let s = state_of reading world_old told turns in
        let left = leaves front steps (waits ∙ runs) in
        let went = does.says set functions reading (setting_of front e) steps told turns is size in
        ap₂ (λ n p. coming tables inputs set functions reading new n (setting_of (steps_now after asks states_new n) e) (state_of reading world_new (told_behind tables reading told p) turns)) move line
        ∙ ap₂ (λ ns ls. coming tables inputs set functions reading new (next_of m) (setting_of ns e) (state_of reading world_new ls turns)) left (sym (same_lines tables reading m told))
        ∙ ap (λ f. coming tables inputs set functions reading new (next_of m) f (state_of reading world_new (lines_of tables reading m told) turns)) (sym (same_setting m steps front e))
        ∙ went
        ∙ ap (λ r. behind tables inputs set functions reading old.tasks (setting_of (front ++ steps ∷ []) e) (asked_plan tables inputs set functions (asked_of r) steps vs s)) (asked front steps runs)
        ∙ ap (behind tables inputs set functions reading old.tasks (setting_of (front ++ steps ∷ []) e)) (sym (request_is tables inputs set functions steps vs s));
  }

  -- it fails
  pub request_fails : (states_new : States X) (f : FlowFault T) (result : Result (Control × Option (Printed T)) (FlowFault T)) → Does made meaning store (asked_of request) old new world_old world_new tables inputs (Err f) → IsErrAnd result (λ g. g ≡ f)
      → Requests made meaning store tables inputs after asks states_old states_new old new world_old world_new result
  request_fails states_new f (Ok m) does is = absurd is
  request_fails states_new f (Err g) does is = subst (λ (h : FlowFault T). Requests made meaning store tables inputs after asks states_old states_new old new world_old world_new (Err h)) (sym is) (failed f does)
    where
      failed : (f : FlowFault T) → Does made meaning store (asked_of request) old new world_old world_new tables inputs (Err f) → Requests made meaning store tables inputs after asks states_old states_new old new world_old world_new (Err f)
      failed (fault.Stop stop) does = record {
        says = λ set functions reading e front steps told turns is runs size.
            let vs = map (read_value reading) old.loose in
            let s = state_of reading world_old told turns in
            does.says set functions reading (setting_of front e) steps told turns is size
            ∙ ap (λ r. behind tables inputs set functions reading old.tasks (setting_of (front ++ steps ∷ []) e) (asked_plan tables inputs set functions (asked_of r) steps vs s)) (asked front steps runs)
            ∙ ap (behind tables inputs set functions reading old.tasks (setting_of (front ++ steps ∷ []) e)) (sym (request_is tables inputs set functions steps vs s));
      }
      failed fault.OutOfMemory does = record { says = λ set functions reading e front steps told turns is runs size. tt }

-- the line that is handed out
pub printed_if : {T : Type 0} (made : T → Type 0) (channels : ℕ) (m : Moved T) → Prints made channels m → IfSome (printed_by m) (IsPrinted made channels)
printed_if made channels (moved.Asks count answer) prints = tt
printed_if made channels (moved.Prints count line) prints = prints
printed_if made channels (moved.Waits move) prints = tt
printed_if made channels (moved.Ends move) prints = tt
