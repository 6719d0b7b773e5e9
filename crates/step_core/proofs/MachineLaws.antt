-- A machine for which room was made is to each reading the machine that it was.
use Rattle.std.proofs.Common.{◌≡◌, ℕ, List, sym, ap, subst, ◌∙◌}
use Rattle.origin_labels.specs.Label.{Label}
use Rattle.flow_frames.specs.Held.{Held}
use Rattle.native_protocol.specs.declared.request.Answer.{Answer}
use Rattle.native_protocol.specs.declared.request.Request.{Request}
use Rattle.es_meaning.specs.BuiltIns.{BuiltIns}
use Rattle.flow_meaning.specs.Scopes.{LabelledLine}
use Rattle.step_core.specs.declared.machine.Machine.{Machine}
use Rattle.step_core.specs.Machines.{IsReserved, Runs, ahead, comes_to}

-- a machine with these frames, and room for so many more
with_frames : {T X : Type 0} → Machine T X → List (Held T) → ℕ → Machine T X
with_frames m fs spare = record m { progress = record (m.progress) { world = record (m.progress.world) { frames = record { frames = fs; spare = spare } } } }

module _ {T X : Type 0} (old new : Machine T X) (reserved : IsReserved old new) where
  pub reserved_comes : (set : BuiltIns) (tells : X → Answer → X) (asks : X → Request) (reading : T → Label) (told : List LabelledLine) → comes_to set tells asks reading new told ≡ comes_to set tells asks reading old told
  unfolding with_frames
  reserved_comes set tells asks reading told =
      ap (λ (m : Machine T X). comes_to set tells asks reading m told) reserved.others
      ∙ ap (λ (fs : List (Held T)). comes_to set tells asks reading (with_frames old fs new.progress.world.frames.spare) told) reserved.frames

  pub reserved_ahead : ahead new ≡ ahead old
  reserved_ahead = ap (λ (m : Machine T X). ahead m) reserved.others

  pub reserved_policy : new.policy ≡ old.policy
  reserved_policy = ap (λ (m : Machine T X). m.policy) reserved.others

  module _ {S : Type 0} (made : S → T → Type 0) (meaning : S → T → Label) (room : S → ℕ) (store : S) where
    -- room for more frames is no part of what holds of it
    roomy_runs : (spare : ℕ) → Runs made meaning room store old → Runs made meaning room store (with_frames old old.progress.world.frames.frames spare)
    unfolding with_frames
    roomy_runs spare runs = record {
      standing = record {
        belongs = record {
          frames = runs.standing.belongs.frames;
          catch = runs.standing.belongs.catch;
          heap = runs.standing.belongs.heap;
          records = runs.standing.belongs.records;
          started = runs.standing.belongs.started;
        };
        operands = runs.standing.operands;
        values = runs.standing.values;
        scopes = runs.standing.scopes;
        frames = runs.standing.frames;
        records = runs.standing.records;
        natives = runs.standing.natives;
      };
      origins = runs.origins;
      given = runs.given;
      positions = runs.positions;
    }

    pub reserved_runs : Runs made meaning room store old → Runs made meaning room store new
    unfolding with_frames
    reserved_runs runs =
        let spare : ℕ = new.progress.world.frames.spare in
        subst (λ (m : Machine T X). Runs made meaning room store m) (sym reserved.others)
        (subst (λ (fs : List (Held T)). Runs made meaning room store (with_frames old fs spare)) (sym reserved.frames) (roomy_runs spare runs))
