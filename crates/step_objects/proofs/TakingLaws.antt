-- The keys that `for in` takes, in a reading of the labels.
use Rattle.std.proofs.Common.{◌≡◌, ◌≤◌, ℕ, Bool, true, false, List, [], map, length, ◌-◌, Option, Some, None, Ok, refl, sym, ap, ap₂, ◌∙◌}
use Rattle.std.specs.Option.{option_map}
use Rattle.std.proofs.lemmas.Bool.{true≢false, false≢true}
use Rattle.std.proofs.lemmas.Option.{slice_get-map, slice_get_past}
use Rattle.std.proofs.lemmas.List.{length-map}
use Rattle.origin_labels.specs.Label.{Label, IsLabel, bottom, union}
use Rattle.origin_labels.specs.Stores.{IsKept}
use Rattle.flow_frames.specs.Changes.{raised}
use Rattle.flow_frames.specs.Frames.{Frame}
use Rattle.flow_frames.specs.Held.{Kept, Belong, CatchByTry, seen, seen_frame}
use Rattle.js_number.specs.declared.primitive.Primitive.{Primitive}
use Rattle.js_number.specs.declared.primitive.Primitive.TheVariants as prims
use Rattle.js_values.specs.declared.value.Labelled.{Labelled}
use Rattle.js_values.specs.declared.value.Value.{Value}
use Rattle.js_values.specs.declared.value.Value.TheVariants as value
use Rattle.js_values.specs.Chains.{beginning, onwards, chain_within}
use Rattle.js_values.specs.Objects.{Object, number_of}
use Rattle.js_values.specs.Readings.{IsReading, read_value, read_object, read_heap}
use Rattle.js_values.specs.Walks.{object_chain}
use Rattle.js_values.proofs.ReadingLaws.{IsReading-earlier}
use Rattle.prototype_walk.specs.declared.key_list.KeyList.{KeyList}
use Rattle.prototype_walk.specs.Answers.{Means, IsKeyList, read_keys}
use Rattle.prototype_walk.specs.KeyLists as lists
use Rattle.prototype_walk.specs.KeyLists.{keys}
use Rattle.es_meaning.specs.Outcomes.{Goes, ◌>>=◌}
use Rattle.es_meaning.specs.Plain.{is_coercible}
use Rattle.flow_meaning.specs.Scopes.{State, L, raise, innermost}
use Rattle.flow_meaning.specs.Tracked.{key_list, with_list}
use Rattle.run_state.specs.declared.outcome.Outcome.TheVariants as outcome
use Rattle.run_state.specs.declared.outcome.Leaving.TheVariants as leaving
use Rattle.run_state.specs.declared.world.World.{World}
use Rattle.run_state.specs.Acts.{Acts}
use Rattle.run_state.specs.Worlds.{state_of, Belongs}
use Rattle.run_state.proofs.ActLaws.{Belongs-later}
use Rattle.property_access.proofs.Reading.{read_frames}
use Rattle.property_access.proofs.ThrowLaws.{with_frames}
use Rattle.step_objects.specs.Taking.{given_keys, taken, IsListed, AreHandedOn}

-- ---- the act of the meaning

handed_on : (list : Option lists.Keys) (label : Label) (next : List (List ℕ) → L (Unit {0})) (s : State) → with_list list label next s ≡ (given_keys list label >>= next) s
unfolding with_list given_keys raise
handed_on None label next s = refl
handed_on (Some list) label next s = refl

pub keys_handed_on : AreHandedOn
unfolding taken
keys_handed_on tables inputs set functions v next s = handed_on (key_list s.heap v.value) v.label next s

-- ---- the keys of a value

-- no object stands behind the last one
no_chain : {T : Type 0} (reading : T → Label) (heap : List (Object T)) (o : ℕ) → length heap ≤ o → object_chain (read_heap reading heap) o ≡ []
no_chain reading heap o past =
    ap (λ (p : Option (Object Label)). beginning o p (λ a. onwards (number_of a.proto) (chain_within (λ q. number_of q.proto) (read_heap reading heap) o)))
    (slice_get-map (read_object reading) heap o ∙ ap (option_map (read_object reading)) (slice_get_past heap o past))

module _ {S T : Type 0} (made : S → T → Type 0) (meaning : S → T → Label) (store : S) (heap : List (Object T)) where
  pub no_keys_along : (o : ℕ) → length heap ≤ o → (list : KeyList T) → list.keys ≡ [] → made store list.walk → meaning store list.walk ≡ bottom → IsKeyList made meaning store heap o list
  no_keys_along o past list none m empty = record {
    belongs = m;
    is = λ reading read. ap₂ (λ (ks : List (List ℕ)) (l : Label). record { keys = ks; walk = l }) none (read.agrees list.walk m ∙ empty) ∙ sym (ap keys (no_chain reading heap o past));
  }

  -- a primitive value that can have properties would be wrapped, and the others have none
  wrapped : (h : List (Object Label)) (p : Primitive) → is_coercible (value.Primitive p) ≡ true → None ≡ key_list h (value.Primitive p)
  wrapped h prims.Undefined given_yes = absurd (false≢true given_yes)
  wrapped h prims.Null given_yes = absurd (false≢true given_yes)
  wrapped h (prims.Bool b) given_yes = refl
  wrapped h (prims.Num n) given_yes = refl
  wrapped h (prims.Str text) given_yes = refl

  empty : (h : List (Object Label)) (p : Primitive) → is_coercible (value.Primitive p) ≡ false → Some (record { keys = []; walk = bottom }) ≡ key_list h (value.Primitive p)
  empty h prims.Undefined given_no = refl
  empty h prims.Null given_no = refl
  empty h (prims.Bool b) given_no = absurd (true≢false given_no)
  empty h (prims.Num n) given_no = absurd (true≢false given_no)
  empty h (prims.Str text) given_no = absurd (true≢false given_no)

  module _ (v : Value) (p : Primitive) (is : v ≡ value.Primitive p) where
    pub wrapped_listed : is_coercible v ≡ true → IsListed made meaning store heap v None
    wrapped_listed given_yes = record { belongs = tt; is = λ reading read. wrapped (read_heap reading heap) p (sym (ap is_coercible is) ∙ given_yes) ∙ sym (ap (key_list (read_heap reading heap)) is) }

    pub empty_listed : (list : KeyList T) → list.keys ≡ [] → made store list.walk → meaning store list.walk ≡ bottom → is_coercible v ≡ false → IsListed made meaning store heap v (Some list)
    empty_listed list none m nothing given_no = record {
      belongs = m;
      is = λ reading read.
          ap₂ (λ (ks : List (List ℕ)) (l : Label). Some (record { keys = ks; walk = l })) none (read.agrees list.walk m ∙ nothing)
          ∙ empty (read_heap reading heap) p (sym (ap is_coercible is) ∙ given_no)
          ∙ sym (ap (key_list (read_heap reading heap)) is);
    }

-- ---- a frame that is raised

module _ {S T : Type 0} (made : S → T → Type 0) (meaning : S → T → Label) (room : S → ℕ) (firm : S → Bool) (old new : S) (kept : IsKept made meaning room firm old new) (w : World T) (label : T) (frames : Kept T) where
  -- the innermost frame is raised in each reading
  pub frames_raised : Belong made meaning old w.frames.frames → Belong made meaning new frames.frames → made old label → seen meaning new frames.frames ≡ raised (seen meaning old w.frames.frames) (length w.frames.frames - 1) (meaning old label)
      → (reading : T → Label) → IsReading made meaning new reading → raised (map (seen_frame reading) w.frames.frames) (innermost (map (seen_frame reading) w.frames.frames)) (reading label) ≡ map (seen_frame reading) frames.frames
  frames_raised before after m more reading read =
      let earlier = IsReading-earlier made meaning room firm old new reading kept read in
      ap₂ (λ n l. raised (map (seen_frame reading) w.frames.frames) n l) (ap (λ n. n - 1) (length-map w.frames.frames (seen_frame reading))) (earlier.agrees label m)
      ∙ ap (λ fs. raised fs (length w.frames.frames - 1) (meaning old label)) (read_frames made meaning old reading w.frames.frames earlier before)
      ∙ sym more ∙ sym (read_frames made meaning new reading frames.frames read after)

-- ---- what taking them comes to

module _ {S T : Type 0} (made : S → T → Type 0) (meaning : S → T → Label) (w : World T) (v : Labelled T) where
  pub taking_leaves : (store : S) (list : Option (KeyList T)) → list ≡ None → IsListed made meaning store w.heap v.value list → Acts made meaning store (λ reading (ks : List (List ℕ)). ks) (λ reading. taken (read_value reading v)) w w (Ok (outcome.Leaves leaving.Wrapper))
  unfolding taken given_keys
  taking_leaves store list none listed = record {
    says = λ reading read told turns.
        let s = state_of reading w told turns in
        ap (λ k. given_keys k (reading v.label) s) (sym (sym (ap (option_map (read_keys reading)) none) ∙ listed.is reading read));
  }

  module _ (room : S → ℕ) (firm : S → Bool) (old new : S) (kept : IsKept made meaning room firm old new) (label : T) (frames : Kept T) where
    pub taking_goes : (list : KeyList T) (found : Option (KeyList T)) → found ≡ Some list → IsListed made meaning old w.heap v.value found → Means made meaning old label (λ reading. union (reading v.label) (reading list.walk))
        → Belong made meaning old w.frames.frames → Belong made meaning new frames.frames → seen meaning new frames.frames ≡ raised (seen meaning old w.frames.frames) (length w.frames.frames - 1) (meaning old label)
        → Acts made meaning new (λ reading (ks : List (List ℕ)). ks) (λ reading. taken (read_value reading v)) w (with_frames frames w) (Ok (outcome.Goes list.keys))
    unfolding taken given_keys raise
    taking_goes list found is listed means before after more = record {
      says = λ reading read told turns.
          let s = state_of reading w told turns in
          let earlier = IsReading-earlier made meaning room firm old new reading kept read in
          ap (λ k. given_keys k (reading v.label) s) (sym (sym (ap (option_map (read_keys reading)) is) ∙ listed.is reading earlier))
          ∙ ap (λ (l : Label). Goes list.keys (record s { frames = raised s.frames (innermost s.frames) l })) (sym (means.is reading earlier))
          ∙ ap (λ (fs : List Frame). Goes list.keys (record s { frames = fs })) (frames_raised made meaning room firm old new kept w label frames before after means.belongs more reading read);
    }

-- ---- a later store

pub listed_later : {S T : Type 0} (made : S → T → Type 0) (meaning : S → T → Label) (room : S → ℕ) (firm : S → Bool) (old new : S) (kept : IsKept made meaning room firm old new) (heap : List (Object T)) (v : Value) (list : Option (KeyList T)) → IsListed made meaning old heap v list → IsListed made meaning new heap v list
listed_later made meaning room firm old new kept heap v None l = record { belongs = tt; is = λ reading read. l.is reading (IsReading-earlier made meaning room firm old new reading kept read) }
listed_later made meaning room firm old new kept heap v (Some list) l = record { belongs = (kept.labels list.walk l.belongs).0; is = λ reading read. l.is reading (IsReading-earlier made meaning room firm old new reading kept read) }

-- a world with other frames belongs to it, if they do
pub belongs_framed : {S T : Type 0} (made : S → T → Type 0) (meaning : S → T → Label) (room : S → ℕ) (firm : S → Bool) (old new : S) (kept : IsKept made meaning room firm old new) (w : World T) → Belongs made meaning old w → ((store : S) (label : T) → made store label → IsLabel (meaning store label))
    → (frames : Kept T) → Belong made meaning new frames.frames → CatchByTry frames.frames → Belongs made meaning new (with_frames frames w)
belongs_framed made meaning room firm old new kept w belongs rising frames behind catch =
    let later = Belongs-later made meaning room firm old new kept rising w belongs in
    record { frames = behind; catch = catch; heap = later.heap; records = later.records; started = later.started }
