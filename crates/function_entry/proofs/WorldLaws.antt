-- Worlds with further objects and records.
use Rattle.std.proofs.Common.{arith, refl, sym, ap, subst, ◌∙◌, ◌≡◌, ◌≤◌, ℕ, Bool, List, [], ◌∷◌, ◌++◌, length, set, Some}
use Rattle.std.specs.List.{slice_get}
use Rattle.origin_labels.specs.Label.{Label, IsLabel}
use Rattle.origin_labels.specs.Stores.{IsKept}
use Rattle.flow_frames.specs.Held.{seen, seen_frame}
use Rattle.flow_frames.specs.Frames.{context}
use Rattle.flow_frames.specs.Held.{Held, Belong}
use Rattle.std.specs.List.{All}
use Rattle.std.proofs.Common.{map, suc, ap₂}
use Rattle.js_values.specs.declared.value.Labelled.{Labelled}
use Rattle.js_values.specs.Objects.{Object}
use Rattle.js_values.specs.Records.{Record}
use Rattle.js_values.specs.Readings.{IsReading, HasHeap, HasRecords}
use Rattle.js_values.proofs.ReadingLaws.{HasHeap-kept, HasRecords-kept}
use Rattle.run_state.specs.declared.world.World.{World}
use Rattle.run_state.specs.Worlds.{Belongs}
use Rattle.run_state.proofs.ActLaws.{Belongs-later}

-- ---- the last of a list

pub last_there : {X : Type 0} (before : List X) (x : X) → slice_get (before ++ x ∷ []) (length before) ≡ Some x
last_there [] x = refl
last_there (b ∷ before) x = last_there before x

pub last_set : {X : Type 0} (before : List X) (x y : X) → set (before ++ x ∷ []) (length before) y ≡ before ++ y ∷ []
last_set [] x y = refl
last_set (b ∷ before) x y = ap (λ xs. b ∷ xs) (last_set before x y)

-- ---- other objects and records

abbrev pub with_records : {T : Type 0} → List (Record (Labelled T)) → World T → World T
with_records records w = record w { records = records }

abbrev pub with_heap : {T : Type 0} → List (Object T) → World T → World T
with_heap heap w = record w { heap = heap }

module _ {S T : Type 0} (made : S → T → Type 0) (meaning : S → T → Label) (room : S → ℕ) (firm : S → Bool) (old new : S) (kept : IsKept made meaning room firm old new) (rising : (store : S) (label : T) → made store label → IsLabel (meaning store label)) (w : World T) (belongs : Belongs made meaning old w) where
  -- a world with other records belongs to a later store, if these do
  pub records_belong : (records : List (Record (Labelled T))) → HasRecords (made new) records → Belongs made meaning new (with_records records w)
  records_belong records has =
      let later = Belongs-later made meaning room firm old new kept rising w belongs in
      record { frames = later.frames; catch = later.catch; heap = later.heap; records = has; started = later.started }

  pub same_records_belong : (records : List (Record (Labelled T))) → records ≡ w.records → Belongs made meaning new (with_records records w)
  same_records_belong records same = records_belong records (subst (HasRecords (made new)) (sym same) (HasRecords-kept made meaning room firm old new kept w.records belongs.records))

  -- with more objects too
  pub heap_belongs : (heap : List (Object T)) → HasHeap (made new) heap → length w.heap ≤ length heap → Belongs made meaning new (with_heap heap w)
  heap_belongs heap has more =
      let later = Belongs-later made meaning room firm old new kept rising w belongs in
      record { frames = later.frames; catch = later.catch; heap = has; records = later.records; started = let started = belongs.started in omega (arith, started, more) }

  pub same_heap_belongs : (heap : List (Object T)) → heap ≡ w.heap → Belongs made meaning new (with_heap heap w)
  same_heap_belongs heap same =
      heap_belongs heap (subst (HasHeap (made new)) (sym same) (HasHeap-kept made meaning room firm old new kept w.heap belongs.heap))
      (let more = ap length same in omega (arith, more))

-- ---- the context, in a reading

module _ {S T : Type 0} (made : S → T → Type 0) (meaning : S → T → Label) (store : S) where
  frames_read : (reading : T → Label) (frames : List (Held T)) → IsReading made meaning store reading → All (λ h. made store h.label) frames → map (seen_frame reading) frames ≡ seen meaning store frames
  frames_read reading [] is all = refl
  frames_read reading (h ∷ frames) is all =
      ap₂ (λ f fs. f ∷ fs) (ap (λ l. record { kind = h.kind; label = l; active = h.active }) (is.agrees h.label (all 0 h (omega arith)))) (frames_read reading frames is (λ k d lt. all (suc k) d (omega (arith, lt))))

  -- a label that means the context means it in each reading that agrees with the store
  pub context_read : (frames : List (Held T)) (label : T) → Belong made meaning store frames → made store label → meaning store label ≡ context (seen meaning store frames) → (reading : T → Label) → IsReading made meaning store reading → context (map (seen_frame reading) frames) ≡ reading label
  context_read frames label belongs m here reading is = ap context (frames_read reading frames is belongs.labels) ∙ sym here ∙ sym (is.agrees label m)
