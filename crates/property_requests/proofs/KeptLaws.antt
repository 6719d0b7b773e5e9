-- What an act on the heap leaves of an object.
use Rattle.std.proofs.Common.{◌≡◌, ℕ, Bool, true, false, List, [], ◌∷◌, length, set, Option, Some, None, IsSome, Ok, Err, Result, refl, sym, ap, subst, ◌∙◌, if◌then◌else◌, suc}
use Rattle.std.specs.List.{slice_get}
use Rattle.std.proofs.lemmas.Slice.Eq.{bytes_eq-Decides}
use Rattle.origin_labels.specs.Label.{Label, within}
use Rattle.origin_labels.specs.Names.{same_name}
use Rattle.flow_frames.specs.declared.faults.FlowFault.{FlowFault}
use Rattle.flow_frames.specs.declared.faults.Rule.{Rule}
use Rattle.flow_frames.specs.declared.faults.Rule.TheVariants.{W4, W5, W6}
use Rattle.js_values.specs.declared.property.Marks.{Marks}
use Rattle.js_values.specs.declared.property.Slot.{Slot}
use Rattle.js_values.specs.Objects.{Rows, Object, own, changed, without}
use Rattle.js_values.specs.Readings.{read_heap}
use Rattle.object_heap.specs.Acts as heap_acts
use Rattle.object_heap.specs.Acts.{Act, Acted, act_on, on_object, on_slot, put_back, remove_own, set_own_attributes, under, with_marks, with_rows}
use Rattle.object_heap.specs.Answers as answers
use Rattle.object_heap.specs.Formed.{own_in}
use Rattle.property_requests.specs.Defining.{SameOutline, outline}
use Rattle.property_requests.proofs.ChangingLaws.{read_there, set_there, some_read, some_there}

-- ---- what an act answers that goes on

abbrev goes : {X : Type 0} → X → Acted X
goes x = Ok x

abbrev gone : {X : Type 0} → X → Acted X → X
gone other (Ok x) = x
gone other (Err stop) = other

module _ {X : Type 0} where
  same_gone : (x y : X) → goes x ≡ goes y → x ≡ y
  same_gone x y is = ap (gone x) is

  under_goes : (rule : Rule) (need have : Label) (r : Acted X) (q : X) → under rule need have r ≡ goes q → r ≡ goes q
  under_goes rule need have r q is = by (within need have) is
    where
      by : (test : Bool) → (if test then r else Err (record { rule = rule; need = need; have = have })) ≡ goes q → r ≡ goes q
      by true is = is
      by false is = cc

slot_goes : (s : Option (Slot Label)) (p q : Object Label) (act : Slot Label → Acted (Object Label)) (P : Object Label → Type 0) → P p → ((x : Slot Label) → act x ≡ goes q → P q) → on_slot s p act ≡ goes q → P q
slot_goes None p q act P stays does is = subst P (same_gone p q is) stays
slot_goes (Some x) p q act P stays does is = does x is

-- what an act on an object leaves is left of it in the heap
module _ {X : Type 0} (F : Option (Object Label) → X) (o : ℕ) (act : Act) (heap after : List (Object Label)) (keeps : (p q : Object Label) → act p ≡ goes q → F (Some q) ≡ F (Some p)) where
  back_keeps : (p : Object Label) (r : Acted (Object Label)) → slice_get heap o ≡ Some p → act p ≡ r → put_back heap o r ≡ goes after → F (slice_get after o) ≡ F (slice_get heap o)
  back_keeps p (Ok q) here does is =
      ap (λ (h : List (Object Label)). F (slice_get h o)) (sym (same_gone (set heap o q) after is)) ∙ ap F (set_there heap o p q here) ∙ keeps p q does ∙ ap F (sym here)
  back_keeps p (Err stop) here does is = cc

  at_keeps : (x : Option (Object Label)) → slice_get heap o ≡ x → on_object x heap o act ≡ goes after → F (slice_get after o) ≡ F (slice_get heap o)
  at_keeps None here is = ap (λ (h : List (Object Label)). F (slice_get h o)) (sym (same_gone heap after is))
  at_keeps (Some p) here is = back_keeps p (act p) here refl is

  act_keeps : act_on o act heap ≡ goes after → F (slice_get after o) ≡ F (slice_get heap o)
  act_keeps is = at_keeps (slice_get heap o) refl is

-- ---- other attributes

module _ (key : List ℕ) (f : Slot Label → Slot Label) where
  length_at : (r : List ℕ × Slot Label) (rows : Rows (Slot Label)) (test : Bool) → length (changed key f rows) ≡ length rows → length (if test then (r.0, f r.1) ∷ rows else r ∷ changed key f rows) ≡ suc (length rows)
  length_at r rows true rest = refl
  length_at r rows false rest = ap suc rest

  changed_length : (rows : Rows (Slot Label)) → length (changed key f rows) ≡ length rows
  changed_length [] = refl
  changed_length (r ∷ rows) = length_at r rows (same_name r.0 key) (changed_length rows)

marks_outline : (key : List ℕ) (need : Label) (marks : Marks) (p q : Object Label) → set_own_attributes key need marks p ≡ goes q → outline (Some q) ≡ outline (Some p)
marks_outline key need marks p q is =
    let object = with_rows p (changed key (with_marks marks) p.rows) in
    slot_goes (own key p.rows) p q (λ s. under W6 need s.existence (goes object)) (λ x. outline (Some x) ≡ outline (Some p)) refl
    (λ s does.
    ap (λ (x : Object Label). outline (Some x)) (sym (same_gone object q (under_goes W6 need s.existence (goes object) q does)))
    ∙ ap (λ (n : ℕ). Some (n, p.structure)) (changed_length key (with_marks marks) p.rows))
    is

pub outline_stays : {S T : Type 0} (made : S → T → Type 0) (meaning : S → T → Label) (store : S) (o : ℕ) (key : List ℕ) (need : T) (marks : Marks) (heap after : List (Object T)) (r : Result (Unit {0}) (FlowFault T)) → r ≡ Ok tt
    → answers.Acts made meaning store read_heap (λ reading. heap_acts.set_attributes o key (reading need) marks) heap after r → SameOutline made meaning store o heap after
outline_stays made meaning store o key need marks heap after r ok acts =
    let does = (subst (answers.Acts made meaning store read_heap (λ reading. heap_acts.set_attributes o key (reading need) marks) heap after) ok acts).does in
    record { is = λ reading agrees. act_keeps outline o (set_own_attributes key (reading need) marks) (read_heap reading heap) (read_heap reading after) (λ p q is. marks_outline key (reading need) marks p q is) (does reading agrees) }

-- ---- a property less

module _ {S : Type 0} (key other : List ℕ) (differs : same_name key other ≡ false) where
  without_at : (r : List ℕ × S) (rows : Rows S) (test : Bool) → same_name r.0 key ≡ test → own other (without key rows) ≡ own other rows → own other (if test then rows else r ∷ without key rows) ≡ (if same_name r.0 other then Some r.1 else own other rows)
  without_at r rows true named rest = ap (λ (b : Bool). if b then Some r.1 else own other rows) (sym (ap (λ (k : List ℕ). same_name k other) ((bytes_eq-Decides r.0 key).0 named) ∙ differs))
  without_at r rows false named rest = ap (λ (x : Option S). if same_name r.0 other then Some r.1 else x) rest

  own_without : (rows : Rows S) → own other (without key rows) ≡ own other rows
  own_without [] = refl
  own_without (r ∷ rows) = without_at r rows (same_name r.0 key) refl (own_without rows)

removed_own : (key other : List ℕ) → same_name key other ≡ false → (need : Label) (p q : Object Label) → remove_own key need p ≡ goes q → own_in other (Some q) ≡ own_in other (Some p)
removed_own key other differs need p q is =
    let object = with_rows p (without key p.rows) in
    slot_goes (own key p.rows) p q (λ s. under W4 need s.existence (under W5 need p.structure (goes object))) (λ x. own other x.rows ≡ own other p.rows) refl
    (λ s does.
    ap (λ (x : Object Label). own other x.rows) (sym (same_gone object q (under_goes W5 need p.structure (goes object) q (under_goes W4 need s.existence (under W5 need p.structure (goes object)) q does))))
    ∙ own_without key other differs p.rows)
    is

-- another property is there still
pub other_stays : {S T : Type 0} (made : S → T → Type 0) (meaning : S → T → Label) (store : S) (o : ℕ) (key other : List ℕ) → same_name key other ≡ false → (need : T) (heap after : List (Object T)) (r : Result (Unit {0}) (FlowFault T)) → r ≡ Ok tt
    → answers.Acts made meaning store read_heap (λ reading. heap_acts.remove o key (reading need)) heap after r
    → IsSome (own_in other (slice_get heap o)) → IsSome (own_in other (slice_get after o))
other_stays made meaning store o key other differs need heap after r ok acts some =
    let reading = meaning store in
    let does = (subst (answers.Acts made meaning store read_heap (λ reading. heap_acts.remove o key (reading need)) heap after) ok acts).does reading (record { agrees = λ l m. refl }) in
    let kept = act_keeps (own_in other) o (remove_own key (reading need)) (read_heap reading heap) (read_heap reading after) (λ p q is. removed_own key other differs (reading need) p q is) does in
    let before : IsSome (own_in other (slice_get (read_heap reading heap) o)) = subst IsSome (sym (read_there reading heap o other)) (some_read reading (own_in other (slice_get heap o)) some) in
    some_there reading (own_in other (slice_get after o)) (subst IsSome (read_there reading after o other) (subst IsSome (sym kept) before))
