-- What registers hold, in a later store, and acts on it.
use Rattle.std.proofs.Common.{refl, sym, ap, ap₂, subst, ◌∙◌, ◌≡◌, ◌+◌, ◌<◌, ◌≤◌, ℕ, Bool, List, [], ◌∷◌, ◌++◌, map, take, length, get_or, IfSome, Option, Some, None, Result}
use Rattle.std.specs.List.{All}
use Rattle.std.proofs.lemmas.List.{map-append, take_more, take_all}
use Rattle.std.proofs.lemmas.Option.{slice_get-get_or}
use Rattle.std.proofs.lemmas.List.Elements.{All-push, All-nil}
use Rattle.origin_labels.specs.Label.{Label}
use Rattle.origin_labels.specs.Stores.{IsKept}
use Rattle.flow_frames.specs.declared.faults.FlowFault.{FlowFault}
use Rattle.js_values.specs.declared.value.Labelled.{Labelled}
use Rattle.js_values.specs.Readings.{HasValue, read_value}
use Rattle.js_values.proofs.ReadingLaws.{All-weaker, IsReading-earlier}
use Rattle.native_protocol.specs.declared.registers.Reg.{Reg}
use Rattle.flow_meaning.specs.Scopes.{L, Val}
use Rattle.run_state.specs.declared.outcome.Outcome.{Outcome}
use Rattle.run_state.specs.declared.world.World.{World}
use Rattle.run_state.specs.Acts.{Acts, HasAnswer}
use Rattle.run_state.specs.Worlds.{state_of}
use Rattle.run_state.proofs.ActLaws.{Acts-as, HasAnswer-weaker}
use Rattle.continuations.specs.Answering.{Reads, held_in}
use Rattle.step_requests.specs.Asked.{held_all, held_if}
use Rattle.property_requests.specs.Defining.{HasGiven, given_in}
use Rattle.step_requests.specs.Doing.{HeldIn, Holds, ReadsIf}

-- an answer is of labels of a store, whatever else it is
pub any_answer : {X T : Type 0} (has : X → Type 0) (made : T → Type 0) (reply : Result (Outcome X T) (FlowFault T)) → HasAnswer has made reply → HasAnswer (λ x. Unit {0}) made reply
any_answer has made reply answer = HasAnswer-weaker has (λ x. Unit {0}) made made reply (λ x h. tt) (λ l m. m) answer

module _ {S T : Type 0} (made : S → T → Type 0) (meaning : S → T → Label) (room : S → ℕ) (firm : S → Bool) (earlier later : S) (kept : IsKept made meaning room firm earlier later) where
  -- labels of a store are labels of a later one
  pub made_later : (vs : List (Labelled T)) → All (HasValue (made earlier)) vs → All (HasValue (made later)) vs
  made_later vs all = All-weaker (HasValue (made earlier)) (HasValue (made later)) vs (λ v m. (kept.labels v.label m).0) all

  pub label_later : (label : T) → made earlier label → made later label
  label_later label m = (kept.labels label m).0

  pub given_later : (value : Option (Labelled T)) → HasGiven (made earlier) value → IfSome value (HasValue (made later))
  given_later None has = tt
  given_later (Some v) has = label_later v.label has

  -- an act on values that registers hold is one on registers
  module _ {X Y : Type 0} (read : (T → Label) → X → Y) (registers : List (Labelled T)) (old new : World T) (result : Result (Outcome X T) (FlowFault T)) where
    pub acts_one : (f : (T → Label) → Val → L Y) (from : Reg) (v : Labelled T) → Reads made meaning earlier from registers v
        → Acts made meaning later read (λ reading. f reading (read_value reading v)) old new result
        → Acts made meaning later read (λ reading. f reading (held_in from (map (read_value reading) registers))) old new result
    acts_one f from v reads acts =
        Acts-as made meaning later read (λ reading. f reading (read_value reading v)) (λ reading. f reading (held_in from (map (read_value reading) registers))) old new result
        (λ reading is told turns. ap (λ u. f reading u (state_of reading old told turns)) (sym (reads reading (IsReading-earlier made meaning room firm earlier later reading kept is)))) acts

    pub acts_all : (f : (T → Label) → List Val → L Y) (from : List Reg) (values : List (Labelled T)) → HeldIn made meaning earlier from registers values
        → Acts made meaning later read (λ reading. f reading (map (read_value reading) values)) old new result
        → Acts made meaning later read (λ reading. f reading (held_all from (map (read_value reading) registers))) old new result
    acts_all f from values reads acts =
        Acts-as made meaning later read (λ reading. f reading (map (read_value reading) values)) (λ reading. f reading (held_all from (map (read_value reading) registers))) old new result
        (λ reading is told turns. ap (λ u. f reading u (state_of reading old told turns)) (sym (reads reading (IsReading-earlier made meaning room firm earlier later reading kept is)))) acts

    pub acts_if : (f : (T → Label) → Val → L Y) (from : Option Reg) (value : Option (Labelled T)) → ReadsIf made meaning earlier from registers value
        → Acts made meaning later read (λ reading. f reading (given_in reading value)) old new result
        → Acts made meaning later read (λ reading. f reading (held_if (map (read_value reading) registers) from)) old new result
    acts_if f from value reads acts =
        Acts-as made meaning later read (λ reading. f reading (given_in reading value)) (λ reading. f reading (held_if (map (read_value reading) registers) from)) old new result
        (λ reading is told turns. ap (λ u. f reading u (state_of reading old told turns)) (sym (reads.is reading (IsReading-earlier made meaning room firm earlier later reading kept is)))) acts

    -- a value of the earlier store that means this
    pub acts_on : (f : (T → Label) → Val → L Y) (u : Val) (v : Labelled T) → Holds made meaning earlier u v
        → Acts made meaning later read (λ reading. f reading (read_value reading v)) old new result
        → Acts made meaning later read (λ reading. f reading u) old new result
    acts_on f u v holds acts =
        Acts-as made meaning later read (λ reading. f reading (read_value reading v)) (λ reading. f reading u) old new result
        (λ reading is told turns. ap (λ w. f reading w (state_of reading old told turns)) (sym (holds.is reading (IsReading-earlier made meaning room firm earlier later reading kept is)))) acts

-- ---- several registers are read

module _ {S T : Type 0} (made : S → T → Type 0) (meaning : S → T → Label) (store : S) (registers : List (Labelled T)) where
  -- of so many from the first on these are the values
  pub record Reading (from : List Reg) (k : ℕ) (values : List (Labelled T)) : Type 0 where
    pub has : All (HasValue (made store)) values
    pub reads : HeldIn made meaning store (take k from) registers values

  pub reading_begins : (from : List Reg) (values : List (Labelled T)) → values ≡ [] → Reading from 0 values
  reading_begins from values none = subst (Reading from 0) (sym none) (record { has = All-nil (HasValue (made store)); reads = λ reading is. refl })

  pub reading_goes : (from : List Reg) (k : ℕ) (r : Reg) (v : Labelled T) (values more : List (Labelled T)) → k < length from → r ≡ get_or from k r → Reading from k values → Reads made meaning store r registers v → made store v.label → more ≡ values ++ v ∷ [] → Reading from (k + 1) more
  reading_goes from k r v values more lt is so_far reads m pushed = record {
    has = subst (All (HasValue (made store))) (sym pushed) (All-push (HasValue (made store)) values v so_far.has m);
    reads = λ reading read.
        let vs = map (read_value reading) registers in
        ap (map (read_value reading)) pushed
        ∙ map-append (read_value reading) values (v ∷ [])
        ∙ ap₂ (λ (front back : List Val). front ++ back) (so_far.reads reading read) (ap (λ u. u ∷ []) (reads reading read))
        ∙ sym (map-append (λ q. held_in q vs) (take k from) (r ∷ []))
        ∙ ap (λ rs. held_all rs vs) (ap (λ (q : Reg). take k from ++ q ∷ []) is ∙ sym (take_more from k r lt));
  }

  -- a register by its place in the list
  one_place : (from : List Reg) (k : ℕ) (d e : Reg) → k < length from → get_or from k d ≡ get_or from k e
  one_place from k d e lt = let same : Some (get_or from k d) ≡ Some (get_or from k e) = sym (slice_get-get_or from k d lt) ∙ slice_get-get_or from k e lt in cc

  pub reading_goes_at : (from : List Reg) (k : ℕ) (d : Reg) (v : Labelled T) (values more : List (Labelled T)) → k < length from → Reading from k values → Reads made meaning store (get_or from k d) registers v → made store v.label → more ≡ values ++ v ∷ [] → Reading from (k + 1) more
  reading_goes_at from k d v values more lt so_far reads m pushed = reading_goes from k (get_or from k d) v values more lt (one_place from k d (get_or from k d) lt) so_far reads m pushed

  pub reading_ends : (from : List Reg) (k : ℕ) (values : List (Labelled T)) → length from ≤ k → Reading from k values → HeldIn made meaning store from registers values
  reading_ends from k values le so_far = subst (λ rs. HeldIn made meaning store rs registers values) (take_all k from le) so_far.reads

  pub reading_has : (from : List Reg) (k : ℕ) (values : List (Labelled T)) → Reading from k values → All (HasValue (made store)) values
  reading_has from k values so_far = so_far.has
