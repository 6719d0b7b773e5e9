-- Where keys are taken there are as many frames as before: the innermost is raised.
use Rattle.std.proofs.Common.{refl, sym, ap, subst, ◌∙◌, ◌≡◌, ℕ, zero, suc, List, [], ◌∷◌, length, Option, Some, None, Result, Ok, Err}
use Rattle.std.proofs.lemmas.List.{length-map}
use Rattle.origin_labels.specs.Label.{Label, union}
use Rattle.flow_frames.specs.declared.faults.FlowFault.{FlowFault}
use Rattle.flow_frames.specs.Changes.{changed_at}
use Rattle.flow_frames.specs.Frames.{Frame}
use Rattle.flow_frames.specs.Held.{seen_frame}
use Rattle.js_values.specs.declared.value.Labelled.{Labelled}
use Rattle.js_values.specs.Readings.{IsReading, read_value}
use Rattle.prototype_walk.specs.KeyLists.{Keys}
use Rattle.es_meaning.specs.Outcomes.{Outcome, Goes, Jumps, Ends}
use Rattle.flow_meaning.specs.Scopes.{Val, Halt, Jump, State, raise, innermost}
use Rattle.flow_meaning.specs.Tracked.{key_list}
use Rattle.run_state.specs.declared.outcome.Outcome as machine
use Rattle.run_state.specs.declared.outcome.Outcome.TheVariants as outcome
use Rattle.run_state.specs.declared.world.World.{World}
use Rattle.run_state.specs.Acts.{Acts}
use Rattle.run_state.specs.Worlds.{state_of}
use Rattle.step_objects.specs.Taking.{given_keys, taken}
use Rattle.step_objects.specs.Standing.{StandsBy}

same_length : {X : Type 0} (change : X → X) (xs : List X) (place : ℕ) → length (changed_at change xs place) ≡ length xs
unfolding changed_at
same_length change [] place = refl
same_length change (x ∷ xs) zero = refl
same_length change (x ∷ xs) (suc place) = ap suc (same_length change xs place)

-- it goes on or ends, with as many frames
abbrev Level : {X : Type 0} → Outcome Halt Jump X State → State → Type 0
Level (Goes x t) s = length t.frames ≡ length s.frames
Level (Jumps j t) s = ⊥
Level (Ends halt t) s = length t.frames ≡ length s.frames

given_level : (list : Option Keys) (label : Label) (s : State) → Level (given_keys list label s) s
unfolding given_keys raise
given_level None label s = refl
given_level (Some list) label s = same_length (λ (f : Frame). record f { label = union f.label (union label list.walk) }) s.frames (innermost s.frames)

taken_level : (v : Val) (s : State) → Level (taken v s) s
unfolding taken
taken_level v s = given_level (key_list s.heap v.value) v.label s

module _ {S T : Type 0} (made : S → T → Type 0) (meaning : S → T → Label) (store : S) (v : Labelled T) (old new : World T) where
  abbrev Takes : Result (machine.Outcome (List (List ℕ)) T) (FlowFault T) → Type 0
  Takes answer = Acts made meaning store (λ reading (keys : List (List ℕ)). keys) (λ reading. taken (read_value reading v)) old new answer

  itself : IsReading made meaning store (meaning store)
  itself = record { agrees = λ label m. refl }

  as_many : (before after : State) → before ≡ state_of (meaning store) old [] 0 → after ≡ state_of (meaning store) new [] 0 → length after.frames ≡ length before.frames → length new.frames.frames ≡ length old.frames.frames
  as_many before after is_before is_after same =
      sym (length-map new.frames.frames (seen_frame (meaning store))) ∙ ap (λ s. length s.frames) (sym is_after) ∙ same ∙ ap (λ s. length s.frames) is_before ∙ length-map old.frames.frames (seen_frame (meaning store))

  -- as what they say
  level_of : (o : Outcome Halt Jump (List (List ℕ)) State) → taken (read_value (meaning store) v) (state_of (meaning store) old [] 0) ≡ o → Level o (state_of (meaning store) old [] 0)
  level_of o says = subst (λ (p : Outcome Halt Jump (List (List ℕ)) State). Level p (state_of (meaning store) old [] 0)) says (taken_level (read_value (meaning store) v) (state_of (meaning store) old [] 0))

  pub taking_stands : (answer : Result (machine.Outcome (List (List ℕ)) T) (FlowFault T)) → Takes answer → StandsBy old new answer
  taking_stands (Ok (outcome.Goes keys)) acts = as_many (state_of (meaning store) old [] 0) (state_of (meaning store) new [] 0) refl refl (level_of _ (acts.says (meaning store) itself [] 0))
  taking_stands (Ok (outcome.Throws error)) acts = absurd (level_of _ (acts.says (meaning store) itself [] 0))
  taking_stands (Ok (outcome.Leaves why)) acts = as_many (state_of (meaning store) old [] 0) (state_of (meaning store) new [] 0) refl refl (level_of _ (acts.says (meaning store) itself [] 0))
  taking_stands (Err f) acts = tt
