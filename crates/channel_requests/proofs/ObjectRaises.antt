-- What is done to a heap where labels are raised, in a reading of the labels.
use Rattle.std.proofs.Common.{◌≡◌, ◌≤◌, ℕ, List, length, map, set, Option, Some, None, IsSome, Result, Ok, refl, ap, ap₂, sym, subst, ◌∙◌}
use Rattle.std.specs.List.{slice_get}
use Rattle.std.specs.Option.{option_map}
use Rattle.std.proofs.lemmas.Option.{none-some, same_Some, slice_get-map, slice_get_past, get_or_from_slice_get}
use Rattle.std.proofs.lemmas.List.{set-get_or}
use Rattle.origin_labels.specs.Label.{Label, union, label_of}
use Rattle.flow_frames.specs.Frames.{context}
use Rattle.flow_frames.specs.Held.{seen_frame}
use Rattle.flow_frames.specs.declared.faults.FlowFault.{FlowFault}
use Rattle.flow_frames.specs.declared.faults.Rule.TheVariants.{W8}
use Rattle.js_values.specs.declared.property.Slot.{Slot}
use Rattle.js_values.specs.declared.value.Labelled.{Labelled}
use Rattle.js_values.specs.Objects.{Object, changed}
use Rattle.js_values.specs.Readings.{HasHeap, read_value, read_slot, read_object, read_heap}
use Rattle.object_heap.specs.Acts as heap_acts
use Rattle.object_heap.specs.Acts.{Acted, on_slot, on_object, put_back}
use Rattle.object_heap.specs.Formed.{own_in}
use Rattle.object_heap.proofs.ReadLaws.{read_own}
use Rattle.es_meaning.specs.Outcomes.{Goes}
use Rattle.flow_meaning.specs.Requested.{own_test, own_walk}
use Rattle.flow_meaning.specs.Scopes.{State}
use Rattle.flow_meaning.specs.Tracked as tracked
use Rattle.flow_meaning.specs.Tracked.{acted}
use Rattle.run_state.specs.declared.outcome.Outcome.{Outcome}
use Rattle.run_state.specs.declared.outcome.Outcome.TheVariants as outcome
use Rattle.run_state.specs.declared.world.World.{World}
use Rattle.run_state.specs.Acts.{Acts}
use Rattle.run_state.specs.Worlds.{state_of}
use Rattle.run_state.proofs.ActLaws.{Acts-as}
use Rattle.property_access.proofs.HeldLaws.{own_has}
use Rattle.channel_requests.specs.Answers.{Means}
use Rattle.channel_requests.specs.Raising.{nothing, raises_structure, raises_existence}

-- ---- heaps of the meaning

-- nothing is done to an object that isn't there, and to a property that isn't
no_object_raised : (heap : List (Object Label)) (o : ℕ) (need label : Label) → slice_get heap o ≡ None → heap_acts.raise_structure o need label heap ≡ Ok heap
no_object_raised heap o need label none = ap (λ p. on_object p heap o (heap_acts.raise_own_structure need label)) none

no_property_raised : (heap : List (Object Label)) (o : ℕ) (key : List ℕ) (need label : Label) → own_in key (slice_get heap o) ≡ None → heap_acts.raise_existence o key need label heap ≡ Ok heap
no_property_raised heap o key need label none = at (slice_get heap o) refl none
  where
    at : (p : Option (Object Label)) → slice_get heap o ≡ p → own_in key p ≡ None → on_object p heap o (heap_acts.raise_own_existence key need label) ≡ Ok heap
    at None here absent = refl
    at (Some p) here absent =
        ap (λ q. put_back heap o (on_slot q p (λ s. heap_acts.under W8 need (heap_acts.existence_have s) (Ok (heap_acts.with_rows p (changed key (heap_acts.with_existence label) p.rows)))))) absent
        ∙ ap Ok (ap (set heap o) (sym (get_or_from_slice_get heap o p p here)) ∙ set-get_or heap o p)

-- what an object has of a property that is there
walk_own : (key : List ℕ) (p : Option (Object Label)) (s : Slot Label) → own_in key p ≡ Some s → own_walk key p ≡ s.existence
walk_own key None s e = cc
walk_own key (Some p) s e = ap (λ q. own_test q p.structure) e

-- ---- the heap of a world

module _ {T : Type 0} (heap : List (Object T)) (o : ℕ) where
  object_read : (reading : T → Label) → length heap ≤ o → slice_get (read_heap reading heap) o ≡ None
  object_read reading past = slice_get-map (read_object reading) heap o ∙ ap (option_map (read_object reading)) (slice_get_past heap o past)

  own_there : (reading : T → Label) (key : List ℕ) (p : Option (Object T)) → own_in key (option_map (read_object reading) p) ≡ option_map (read_slot reading) (own_in key p)
  own_there reading key None = refl
  own_there reading key (Some p) = read_own reading key p.rows

  own_read : (reading : T → Label) (key : List ℕ) → own_in key (slice_get (read_heap reading heap) o) ≡ option_map (read_slot reading) (own_in key (slice_get heap o))
  own_read reading key = ap (own_in key) (slice_get-map (read_object reading) heap o) ∙ own_there reading key (slice_get heap o)

  -- the existence label of a property, if it is there
  abbrev pub existence_in : List ℕ → Option T
  existence_in key = option_map (λ (s : Slot T). s.existence) (own_in key (slice_get heap o))

  pub no_existence_past : (key : List ℕ) → length heap ≤ o → existence_in key ≡ None
  no_existence_past key past = ap (λ p. option_map (λ (s : Slot T). s.existence) (own_in key p)) (slice_get_past heap o past)

  -- a property with this existence label
  pub record HasExistence (key : List ℕ) (existence : T) : Type 0 where
    pub slot : Slot T
    pub here : own_in key (slice_get heap o) ≡ Some slot
    pub is : slot.existence ≡ existence

  pub existence_there : (key : List ℕ) (existence : T) → Some existence ≡ existence_in key → HasExistence key existence
  existence_there key existence is = at (own_in key (slice_get heap o)) refl is
    where
      at : (s : Option (Slot T)) → own_in key (slice_get heap o) ≡ s → Some existence ≡ option_map (λ (s : Slot T). s.existence) s → HasExistence key existence
      at None here is = absurd (none-some existence (sym is))
      at (Some s) here is = record { slot = s; here = here; is = same_Some s.existence existence (sym is) }

  absent_of : (key : List ℕ) → None ≡ existence_in key → own_in key (slice_get heap o) ≡ None
  absent_of key none = at (own_in key (slice_get heap o)) none
    where
      at : (s : Option (Slot T)) → None ≡ option_map (λ (s : Slot T). s.existence) s → s ≡ None
      at None none = refl
      at (Some s) none = absurd (none-some s.existence none)

  pub existence_has : (made : T → Type 0) (key : List ℕ) (existence : T) → HasHeap made heap → Some existence ≡ existence_in key → made existence
  existence_has made key existence has is =
      let there = existence_there key existence is in
      subst made there.is (own_has heap o made key there.slot has there.here).1

  pub existence_some : (key : List ℕ) (existence : T) → Some existence ≡ existence_in key → IsSome (own_in key (slice_get heap o))
  existence_some key existence is = let there = existence_there key existence is in subst IsSome (sym there.here) refl

-- ---- by the label of origins

pub structure_as : (origins : List ℕ) (label : Label) (o : ℕ) (added : Label) → added ≡ label_of origins → (s : State) → tracked.raise_structure origins label o s ≡ raises_structure o label added s
unfolding tracked.raise_structure
structure_as origins label o added is s = ap (λ l. raises_structure o label l s) (sym is)

pub existence_as : (origins : List ℕ) (label : Label) (key : List ℕ) (o : ℕ) (added : Label) → added ≡ label_of origins → (s : State) → tracked.raise_existence origins label key o s ≡ raises_existence o key label added s
unfolding tracked.raise_existence
existence_as origins label key o added is s = ap (λ l. raises_existence o key label l s) (sym is)

-- ---- what is done to it

module _ {S T : Type 0} (made : S → T → Type 0) (meaning : S → T → Label) (store : S) (w : World T) (o : ℕ) (label origins : T) where
  module _ (v : Labelled T) (is : v ≡ nothing label) where
    pub raises_nowhere : length w.heap ≤ o → Acts made meaning store (λ reading. read_value reading) (λ reading. raises_structure o (reading label) (reading origins)) w w (Ok (outcome.Goes v))
    unfolding acted
    raises_nowhere past = record {
      says = λ reading read told turns.
          let s = state_of reading w told turns in
          ap (λ a. acted (nothing (reading label)) a s) (no_object_raised s.heap o (union (context s.frames) (reading label)) (reading origins) (object_read w.heap o reading past))
          ∙ ap (λ (x : Labelled T). Goes (read_value reading x) s) (sym is);
    }

    pub raises_nothing : (key : List ℕ) → None ≡ existence_in w.heap o key → Acts made meaning store (λ reading. read_value reading) (λ reading. raises_existence o key (reading label) (reading origins)) w w (Ok (outcome.Goes v))
    unfolding acted
    raises_nothing key none = record {
      says = λ reading read told turns.
          let s = state_of reading w told turns in
          ap (λ a. acted (nothing (reading label)) a s)
          (no_property_raised s.heap o key (union (context s.frames) (union (reading label) (own_walk key (slice_get s.heap o)))) (reading origins) (own_read w.heap o reading key ∙ ap (option_map (read_slot reading)) (absent_of w.heap o key none)))
          ∙ ap (λ (x : Labelled T). Goes (read_value reading x) s) (sym is);
    }

  module _ (need : T) (v : Labelled T) (is : v ≡ nothing label) (after : World T) (result : Result (Outcome (Labelled T) T) (FlowFault T)) where
    pub structure_raised : Means made meaning store need (λ reading. union (context (map (seen_frame reading) w.frames.frames)) (reading label))
        → Acts made meaning store (λ reading. read_value reading) (λ reading s. acted (read_value reading v) (heap_acts.raise_structure o (reading need) (reading origins) s.heap) s) w after result
        → Acts made meaning store (λ reading. read_value reading) (λ reading. raises_structure o (reading label) (reading origins)) w after result
    structure_raised means acts =
        Acts-as made meaning store (λ reading. read_value reading) (λ reading s. acted (read_value reading v) (heap_acts.raise_structure o (reading need) (reading origins) s.heap) s) (λ reading. raises_structure o (reading label) (reading origins)) w after result
        (λ reading read told turns. let s = state_of reading w told turns in ap₂ (λ (x : Labelled T) n. acted (read_value reading x) (heap_acts.raise_structure o n (reading origins) s.heap) s) (sym is) (sym (means.is reading read)))
        acts

    pub existence_raised : (key : List ℕ) (existence place : T) → Some existence ≡ existence_in w.heap o key → Means made meaning store place (λ reading. union (reading label) (reading existence))
        → Means made meaning store need (λ reading. union (context (map (seen_frame reading) w.frames.frames)) (reading place))
        → Acts made meaning store (λ reading. read_value reading) (λ reading s. acted (read_value reading v) (heap_acts.raise_existence o key (reading need) (reading origins) s.heap) s) w after result
        → Acts made meaning store (λ reading. read_value reading) (λ reading. raises_existence o key (reading label) (reading origins)) w after result
    existence_raised key existence place has placed means acts =
        let there = existence_there w.heap o key existence has in
        Acts-as made meaning store (λ reading. read_value reading) (λ reading s. acted (read_value reading v) (heap_acts.raise_existence o key (reading need) (reading origins) s.heap) s) (λ reading. raises_existence o key (reading label) (reading origins)) w after result
        (λ reading read told turns.
        let s = state_of reading w told turns in
        ap (λ l. acted (nothing (reading label)) (heap_acts.raise_existence o key (union (context s.frames) (union (reading label) l)) (reading origins) s.heap) s)
        (walk_own key (slice_get s.heap o) (read_slot reading there.slot) (own_read w.heap o reading key ∙ ap (option_map (read_slot reading)) there.here) ∙ ap reading there.is)
        ∙ ap₂ (λ (x : Labelled T) n. acted (read_value reading x) (heap_acts.raise_existence o key n (reading origins) s.heap) s) (sym is) (ap (union (context s.frames)) (sym (placed.is reading read)) ∙ sym (means.is reading read)))
        acts
