-- Readings of labels, and labels that a store made.
use Rattle.std.proofs.Common.{ℕ, Bool, List, get_or, ◌∙◌}
use Rattle.std.specs.List.{All}
use Rattle.origin_labels.specs.Label.{Label}
use Rattle.origin_labels.specs.Stores.{IsKept}
use Rattle.js_values.specs.declared.value.Labelled.{Labelled}
use Rattle.js_values.specs.declared.property.Slot.{Slot}
use Rattle.js_values.specs.declared.inner.Inner.{Inner}
use Rattle.js_values.specs.declared.inner.Inner.TheVariants.{Plain, Script, Native, Bound}
use Rattle.js_values.specs.Objects.{Object}
use Rattle.js_values.specs.Records.{Record}
use Rattle.js_values.specs.Readings.{IsReading, HasValue, HasSlot, HasInner, HasObject, HasHeap, HasRecord, HasRecords}

-- a reading that agrees with a later store agrees with the earlier one
pub IsReading-earlier : {S T : Type 0} (made : S → T → Type 0) (meaning : S → T → Label) (room : S → ℕ) (firm : S → Bool) (old new : S) (reading : T → Label) → IsKept made meaning room firm old new → IsReading made meaning new reading → IsReading made meaning old reading
IsReading-earlier made meaning room firm old new reading kept read = record { agrees = λ label m. let later = kept.labels label m in read.agrees label later.0 ∙ later.1 }

-- what holds of each element holds of them all still where it becomes weaker
pub All-weaker : {X : Type 0} (P Q : X → Type 0) (xs : List X) → ((x : X) → P x → Q x) → All P xs → All Q xs
All-weaker P Q xs f all = λ k d lt. f (get_or xs k d) (all k d lt)

module _ {T : Type 0} (P Q : T → Type 0) (f : (label : T) → P label → Q label) where
  pub HasSlot-weaker : (s : Slot T) → HasSlot P s → HasSlot Q s
  HasSlot-weaker s has = (f s.label has.0, f s.existence has.1)

  pub HasInner-weaker : (inner : Inner T) → HasInner P inner → HasInner Q inner
  HasInner-weaker Plain has = tt
  HasInner-weaker (Script function env) has = tt
  HasInner-weaker (Native which) has = tt
  HasInner-weaker (Bound target label this args) has = (f label has.0, f this.label has.1, All-weaker (HasValue P) (HasValue Q) args (λ v. f v.label) has.2)

  pub HasObject-weaker : (p : Object T) → HasObject P p → HasObject Q p
  HasObject-weaker p has = record { inner = HasInner-weaker p.inner has.inner; link = f p.link has.link; structure = f p.structure has.structure; rows = All-weaker (λ r. HasSlot P r.1) (λ r. HasSlot Q r.1) p.rows (λ r. HasSlot-weaker r.1) has.rows }

  pub HasHeap-weaker : (heap : List (Object T)) → HasHeap P heap → HasHeap Q heap
  HasHeap-weaker heap has = All-weaker (HasObject P) (HasObject Q) heap HasObject-weaker has

  pub HasRecord-weaker : (r : Record (Labelled T)) → HasRecord P r → HasRecord Q r
  HasRecord-weaker r has = All-weaker (λ b. HasValue P b.value) (λ b. HasValue Q b.value) r.bindings (λ b. f b.value.label) has

  pub HasRecords-weaker : (records : List (Record (Labelled T))) → HasRecords P records → HasRecords Q records
  HasRecords-weaker records has = All-weaker (HasRecord P) (HasRecord Q) records HasRecord-weaker has

-- what belongs to a store belongs to each later one
module _ {S T : Type 0} (made : S → T → Type 0) (meaning : S → T → Label) (room : S → ℕ) (firm : S → Bool) (old new : S) (kept : IsKept made meaning room firm old new) where
  pub HasHeap-kept : (heap : List (Object T)) → HasHeap (made old) heap → HasHeap (made new) heap
  HasHeap-kept heap has = HasHeap-weaker (made old) (made new) (λ label m. (kept.labels label m).0) heap has

  pub HasRecords-kept : (records : List (Record (Labelled T))) → HasRecords (made old) records → HasRecords (made new) records
  HasRecords-kept records has = HasRecords-weaker (made old) (made new) (λ label m. (kept.labels label m).0) records has
