-- Steps in turn, each with room for one more frame.
use Rattle.std.proofs.Common.{◌≡◌, ◌<◌, ◌≤◌, ℕ, List, length, arith, refl, sym, ap, subst, ◌∙◌}
use Rattle.origin_labels.specs.Label.{Label}
use Rattle.flow_policy.specs.Policies.{Tables}
use Rattle.flow_policy.specs.Inputs.{Given}
use Rattle.flow_frames.specs.Held.{Held}
use Rattle.js_ast.specs.Functions.{FunctionCode}
use Rattle.js_values.specs.Readings.{IsReading}
use Rattle.native_protocol.specs.declared.request.Answer.{Answer}
use Rattle.native_protocol.specs.declared.request.Request.{Request}
use Rattle.es_meaning.specs.BuiltIns.{BuiltIns}
use Rattle.flow_meaning.specs.Planned.{Ran}
use Rattle.flow_meaning.specs.Scopes.{LabelledLine}
use Rattle.run_state.specs.Worlds.{Grows}
use Rattle.continuations.specs.declared.continuation.Control.{Control}
use Rattle.step_core.specs.declared.progress.Progress.{Progress}
use Rattle.step_core.specs.declared.steps.Advance.{Advance}
use Rattle.step_core.specs.declared.steps.Advance.TheVariants as advance
use Rattle.step_core.specs.RemainingRun.{Comes, IfGoes, ahead, remaining_run}
use Rattle.step_core.specs.Rooms.{IsRoomier}
use Rattle.step_core.specs.Stepping.{StandsBefore, Stepped}

-- ---- a run for whose frames room was made is to each reading the run that it was

-- with these frames, and room for so many more
with_frames : {T X : Type 0} → Progress T X → List (Held T) → ℕ → Progress T X
with_frames m fs spare = record m { world = record (m.world) { frames = record { frames = fs; spare = spare } } }

module _ {T X : Type 0} (old new : Progress T X) (roomier : IsRoomier old new) where
  pub roomier_run : (tables : Tables) (inputs : Given) (set : BuiltIns) (functions : List FunctionCode) (tells : X → Answer → X) (asks : X → Request) (reading : T → Label) (next : Control) (told : List LabelledLine)
      → remaining_run tables inputs set functions tells asks reading new next told ≡ remaining_run tables inputs set functions tells asks reading old next told
  unfolding with_frames
  roomier_run tables inputs set functions tells asks reading next told =
      ap (λ (m : Progress T X). remaining_run tables inputs set functions tells asks reading m next told) roomier.others
      ∙ ap (λ (fs : List (Held T)). remaining_run tables inputs set functions tells asks reading (with_frames old fs new.world.frames.spare) next told) roomier.frames

  pub roomier_ahead : (next : Control) → ahead new next ≡ ahead old next
  roomier_ahead next = ap (λ (m : Progress T X). ahead m next) roomier.others

  pub roomier_grows : Grows old.world new.world
  roomier_grows = record {
    heap = omega (arith, ap (λ (m : Progress T X). length m.world.heap) roomier.others);
    records = omega (arith, ap (λ (m : Progress T X). length m.world.records) roomier.others);
    positions = ap (λ (m : Progress T X). length m.world.positions.items) roomier.others;
  }

  module _ {S : Type 0} (made : S → T → Type 0) (meaning : S → T → Label) (store : S) (next : Control) where
    roomy_stands : (spare : ℕ) → StandsBefore made meaning store old next → StandsBefore made meaning store (with_frames old old.world.frames.frames spare) next
    unfolding with_frames
    roomy_stands spare stands = record {
      belongs = record {
        frames = stands.belongs.frames;
        catch = stands.belongs.catch;
        heap = stands.belongs.heap;
        records = stands.belongs.records;
        started = stands.belongs.started;
      };
      operands = stands.operands;
      values = stands.values;
      scopes = stands.scopes;
      frames = stands.frames;
      records = stands.records;
      natives = stands.natives;
    }

    pub roomier_stands : StandsBefore made meaning store old next → StandsBefore made meaning store new next
    unfolding with_frames
    roomier_stands stands =
        let spare : ℕ = new.world.frames.spare in
        subst (λ (m : Progress T X). StandsBefore made meaning store m next) (sym roomier.others)
        (subst (λ (fs : List (Held T)). StandsBefore made meaning store (with_frames old fs spare) next) (sym roomier.frames) (roomy_stands spare stands))

-- ---- what a step comes to is what a run comes to that came to that step

if_goes : {T : Type 0} (P Q : Control → Type 0) → ((n : Control) → P n → Q n) → (s : Advance T) → IfGoes P s → IfGoes Q s
if_goes P Q more (advance.Goes next) holds = more next holds
if_goes P Q more (advance.Line p next) holds = more next holds
if_goes P Q more (advance.Ends e) holds = tt

module _ {S T X : Type 0} (made : S → T → Type 0) (meaning : S → T → Label) (store : S) (tables : Tables) (inputs : Given) (set : BuiltIns) (functions : List FunctionCode) (tells : X → Answer → X) (asks : X → Request) where
  pub stepped_from : (first ran : (T → Label) → List LabelledLine → Ran) (most less : ℕ) (new : Progress T X) (s : Advance T)
      → ((reading : T → Label) (told : List LabelledLine) → IsReading made meaning store reading → first reading told ≡ ran reading told) → less ≤ most
      → Stepped made meaning store tables inputs set functions tells asks ran less new s → Stepped made meaning store tables inputs set functions tells asks first most new s
  stepped_from first ran most less new s same le step = record {
    comes = λ reading told read. subst (λ (r : Ran). Comes tables inputs set functions tells asks reading new told r s) (sym (same reading told read)) (step.comes reading told read);
    standing = step.standing;
    lowers = if_goes (λ n. ahead new n < less) (λ n. ahead new n < most) (λ n lt. omega (arith, le, lt)) s step.lowers;
    printed = step.printed;
    stopped = step.stopped;
  }
