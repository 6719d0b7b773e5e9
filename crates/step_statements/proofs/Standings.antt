-- What still holds of a run where a frame was opened, and how calls on frames are calls on the run's state.
use Rattle.std.proofs.Common.{refl, sym, ap, ap₂, subst, ◌∙◌, ◌≡◌, ◌++◌, ℕ, suc, Bool, List, [], ◌∷◌, drop, map, take, length, Ok, arith}
use Rattle.std.specs.List.{All}
use Rattle.std.proofs.lemmas.List.{drop_at, length-append, nil_from_length}
use Rattle.std.proofs.lemmas.List.Elements.{All-drop, All-take, All-weaker}
use Rattle.origin_labels.specs.Label.{Label}
use Rattle.origin_labels.specs.Stores.{IsKept}
use Rattle.flow_policy.specs.Policies.{Tables}
use Rattle.flow_policy.specs.Inputs.{Given}
use Rattle.flow_frames.specs.Held as held
use Rattle.flow_frames.specs.Held.{Belong, CatchByTry, Held}
use Rattle.js_ast.specs.Functions.{FunctionCode}
use Rattle.js_values.specs.Readings.{HasValue, read_value}
use Rattle.js_values.proofs.ReadingLaws.{HasHeap-kept, HasRecords-kept}
use Rattle.es_meaning.specs.BuiltIns.{BuiltIns}
use Rattle.flow_meaning.specs.Planned.{gave, Plan}
use Rattle.flow_meaning.specs.Scopes.{State}
use Rattle.run_state.specs.declared.world.World.{World}
use Rattle.run_state.specs.Worlds.{state_of}
use Rattle.continuations.specs.declared.continuation.Continuation.{Continuation}
use Rattle.continuations.specs.declared.continuation.Control.{Control}
use Rattle.continuations.specs.declared.continuation.Control.TheVariants as control
use Rattle.continuations.specs.Going.{ComesTo, here}
use Rattle.continuations.specs.Kept.{Kept, kept_operands, scopes_of, operands_of}
use Rattle.continuations.specs.Pending.{after, behind, setting_above, first_or_undefined, values_of}
use Rattle.continuations.specs.Resuming.{BeginsIn, Opened, ResumesIn}
use Rattle.continuations.specs.Invariant.{Invariant, Framed, depths, running}
use Rattle.continuations.specs.Settings.{Setting, setting_of}
use Rattle.step_statements.specs.Fronts.{Fronts, ResumesBesideIn}
use Rattle.native_protocol.specs.Steps.{Steps}

one_more : (pending : List ℕ) (depth : ℕ) → length (pending ++ depth ∷ []) ≡ suc (length pending)
one_more pending depth = omega (arith, length-append pending (depth ∷ []))

depths_more : (pending : List ℕ) (depth : ℕ) → pending ≡ depths (length pending) → depth ≡ suc (length pending) → pending ++ depth ∷ [] ≡ depths (length (pending ++ depth ∷ []))
depths_more pending depth are is = ap₂ (λ ds d. ds ++ d ∷ []) are is ∙ sym (ap depths (one_more pending depth))

framed : (move : Control) (frames scopes : ℕ) → frames ≡ suc scopes → Framed move frames scopes
framed (control.Jumps j) frames scopes size = omega (arith, size)
framed _ frames scopes size = size

-- the one of a list of one
only_one : {X : Type 0} (xs : List X) → length xs ≡ 1 → (x : X) × (xs ≡ x ∷ [])
only_one [] size = absurd (omega (arith, size))
only_one (x ∷ []) size = (x, refl)
only_one (x ∷ y ∷ xs) size = absurd (omega (arith, size))

two_of : {X : Type 0} (xs : List X) → length xs ≡ 2 → (p : X × X) × (xs ≡ p.0 ∷ (p.1 ∷ []))
two_of [] size = absurd (omega (arith, size))
two_of (x ∷ []) size = absurd (omega (arith, size))
two_of (x ∷ y ∷ []) size = ((x, y), refl)
two_of (x ∷ y ∷ z ∷ xs) size = absurd (omega (arith, size))

module _ {S T : Type 0} (made : S → T → Type 0) (meaning : S → T → Label) where
  -- one frame more, with its scope
  pub standing_opened : (room : S → ℕ) (firm : S → Bool) (earlier later : S) → IsKept made meaning room firm earlier later → {count : ℕ} (old new : Kept T) (world : World T) (frames : held.Kept T) (pending : List ℕ) {natives : ℕ} (before move : Control)
      → ((n m : ℕ) → Framed before n m → n ≡ suc m) → running before ≡ 0 → pending ≡ scopes_of old.tasks → Invariant made meaning earlier old world count pending natives before → Opened old new world.frames.frames frames.frames move → running move ≡ 0
      → Belong made meaning later frames.frames → CatchByTry frames.frames
      → Invariant made meaning later new (record world { frames = frames }) (values_of move) (scopes_of new.tasks) natives move
  standing_opened room firm earlier later kept old new world frames pending before move whole ready are stands opened still belong catch =
      let all : length world.frames.frames ≡ suc (length (scopes_of old.tasks)) = whole (length world.frames.frames) (length pending) stands.frames ∙ ap (λ ds. suc (length ds)) are in
      let grown : length (scopes_of new.tasks) ≡ suc (length (scopes_of old.tasks)) = ap length opened.scopes ∙ one_more (scopes_of old.tasks) (length world.frames.frames) in
      record {
        belongs = record {
          frames = belong;
          catch = catch;
          heap = HasHeap-kept made meaning room firm earlier later kept world.heap stands.belongs.heap;
          records = HasRecords-kept made meaning room firm earlier later kept world.records stands.belongs.records;
          started = stands.belongs.started;
        };
        operands = subst (All (HasValue (made later))) (sym opened.operands) (All-weaker (HasValue (made earlier)) (HasValue (made later)) (λ v m. (kept.labels v.label m).0) (take (length (operands_of new)) (operands_of old)) (All-take (HasValue (made earlier)) (length (operands_of new)) (operands_of old) stands.operands));
        values = opened.values;
        scopes = subst (λ ds. ds ≡ depths (length ds)) (sym opened.scopes) (depths_more (scopes_of old.tasks) (length world.frames.frames) (subst (λ ds. ds ≡ depths (length ds)) are stands.scopes) all);
        frames = framed move (length frames.frames) (length (scopes_of new.tasks)) (opened.deeper ∙ omega (arith, all, grown));
        records = stands.records;
        natives = omega (arith, stands.natives, opened.natives, ready, still);
      }

  -- the frames stay as many as they were
  pub standing_raised : (room : S → ℕ) (firm : S → Bool) (earlier later : S) → IsKept made meaning room firm earlier later → {count : ℕ} (old new : Kept T) (world : World T) (frames : held.Kept T) (pending : List ℕ) {natives : ℕ} (before move : Control)
      → ((n m : ℕ) → Framed before n m → n ≡ suc m) → running before ≡ 0 → pending ≡ scopes_of old.tasks → Invariant made meaning earlier old world count pending natives before → Fronts old new move → length frames.frames ≡ length world.frames.frames
      → Belong made meaning later frames.frames → CatchByTry frames.frames
      → Invariant made meaning later new (record world { frames = frames }) (values_of move) (scopes_of new.tasks) natives move
  standing_raised room firm earlier later kept old new world frames pending before move whole ready are stands fronts same belong catch =
      let scopes : scopes_of new.tasks ≡ pending = fronts.scopes ∙ sym are in
      record {
        belongs = record {
          frames = belong;
          catch = catch;
          heap = HasHeap-kept made meaning room firm earlier later kept world.heap stands.belongs.heap;
          records = HasRecords-kept made meaning room firm earlier later kept world.records stands.belongs.records;
          started = stands.belongs.started;
        };
        operands = subst (All (HasValue (made later))) (sym fronts.operands) (All-weaker (HasValue (made earlier)) (HasValue (made later)) (λ v m. (kept.labels v.label m).0) (take (length (operands_of new)) (operands_of old)) (All-take (HasValue (made earlier)) (length (operands_of new)) (operands_of old) stands.operands));
        values = fronts.values;
        scopes = subst (λ ds. ds ≡ depths (length ds)) (sym scopes) stands.scopes;
        frames = framed move (length frames.frames) (length (scopes_of new.tasks)) (same ∙ whole (length world.frames.frames) (length pending) stands.frames ∙ ap (λ ds. suc (length ds)) (sym scopes));
        records = stands.records;
        natives = omega (arith, stands.natives, fronts.natives, ready, fronts.still);
      }

  -- the values that lie loose have labels of the store
  pub loose_has : (store : S) (stack : Kept T) → All (HasValue (made store)) (operands_of stack) → All (HasValue (made store)) stack.loose
  loose_has store stack all = subst (All (HasValue (made store))) (drop_at (kept_operands stack.tasks) stack.loose (length (kept_operands stack.tasks)) refl) (All-drop (HasValue (made store)) (length (kept_operands stack.tasks)) (operands_of stack) all)

  module _ (store : S) (tables : Tables) (inputs : Given) (set : BuiltIns) (functions : List FunctionCode) (natives : List Steps) where
    -- a call on frames goes on as work says that keeps no operand
    pub resumes_so : (w : Continuation) (old new : Kept T) (world : World T) (frames : held.Kept T) (move : Control) → length old.loose ≡ 1 → ResumesIn made meaning store w old new world.frames.frames frames.frames move
        → ComesTo made meaning store tables inputs set functions natives (λ reading told turns. behind tables inputs set functions reading old.tasks (setting_of natives here) (after tables inputs set functions w [] (setting_above old.tasks (setting_of natives here)) (gave (first_or_undefined (map (read_value reading) old.loose))) (state_of reading world told turns))) new (record world { frames = frames }) (Ok move)
    resumes_so w old new world frames move one resumes reading told turns is =
        let v = only_one old.loose one in
        let s = state_of reading world told turns in
        resumes tables inputs set functions reading (setting_of natives here) s v.0 is v.1
        ∙ sym (ap (λ vs. behind tables inputs set functions reading old.tasks (setting_of natives here) (after tables inputs set functions w [] (setting_above old.tasks (setting_of natives here)) (gave (first_or_undefined (map (read_value reading) vs))) s)) v.1)

    -- or that keeps one
    pub resumes_beside : (w : Continuation) (old new : Kept T) (world : World T) (frames : held.Kept T) (move : Control) → length old.loose ≡ 2 → ResumesBesideIn made meaning store w old new world.frames.frames frames.frames move
        → ComesTo made meaning store tables inputs set functions natives (λ reading told turns. behind tables inputs set functions reading old.tasks (setting_of natives here) (after tables inputs set functions w (map (read_value reading) (take 1 old.loose)) (setting_above old.tasks (setting_of natives here)) (gave (first_or_undefined (map (read_value reading) (drop 1 old.loose)))) (state_of reading world told turns))) new (record world { frames = frames }) (Ok move)
    resumes_beside w old new world frames move two resumes reading told turns is =
        let v = two_of old.loose two in
        let s = state_of reading world told turns in
        resumes tables inputs set functions reading (setting_of natives here) s v.0.0 v.0.1 is v.1
        ∙ sym (ap (λ vs. behind tables inputs set functions reading old.tasks (setting_of natives here) (after tables inputs set functions w (map (read_value reading) (take 1 vs)) (setting_above old.tasks (setting_of natives here)) (gave (first_or_undefined (map (read_value reading) (drop 1 vs)))) s)) v.1)

    -- and as a plan says
    pub begins_so : (plan : Tables → Given → BuiltIns → List FunctionCode → Setting → State → Plan) (old new : Kept T) (world : World T) (frames : held.Kept T) (move : Control) → length old.loose ≡ 0 → BeginsIn made meaning store plan old new world.frames.frames frames.frames move
        → ComesTo made meaning store tables inputs set functions natives (λ reading told turns. behind tables inputs set functions reading old.tasks (setting_of natives here) (plan tables inputs set functions (setting_above old.tasks (setting_of natives here)) (state_of reading world told turns))) new (record world { frames = frames }) (Ok move)
    begins_so plan old new world frames move none begins reading told turns is =
        begins tables inputs set functions reading (setting_of natives here) (state_of reading world told turns) is (nil_from_length old.loose none)
