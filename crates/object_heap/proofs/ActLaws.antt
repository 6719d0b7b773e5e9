-- Acts on an object, in the labels of a store and in a reading.
use Rattle.std.proofs.Common.{ℕ, suc, ◌<◌, length, inl, inr, true, false, List, [], ◌∷◌, if◌then◌else◌, arith, Option, Some, None, Bool, ◌≡◌, Result, Ok, Err, refl, sym, ap, ap₂, subst, ◌∙◌}
use Rattle.std.specs.List.{slice_get, All}
use Rattle.std.specs.Option.{option_map}
use Rattle.std.specs.Result.{IsErrAnd}
use Rattle.std.proofs.lemmas.Option.{none-some, same_Some, slice_get_cases}
use Rattle.std.proofs.lemmas.Bool.{cond-true, cond-false}
use Rattle.origin_labels.specs.Label.{Label, union, within}
use Rattle.origin_labels.specs.Names.{same_name}
use Rattle.origin_labels.specs.Stores.{IsKept}
use Rattle.flow_frames.specs.declared.faults.Rule.{Rule}
use Rattle.flow_frames.specs.declared.faults.Rule.TheVariants.{W4, W5}
use Rattle.flow_frames.specs.declared.faults.FlowStop.{FlowStop}
use Rattle.flow_frames.specs.declared.faults.FlowFault.{FlowFault}
use Rattle.flow_frames.specs.declared.faults.FlowFault.TheVariants as fault
use Rattle.flow_frames.specs.Stops.{IfStop}
use Rattle.js_values.specs.declared.property.Slot.{Slot}
use Rattle.js_values.specs.Objects.{Object, Rows, own, changed, without}
use Rattle.js_values.specs.Readings.{IsReading, read_slot, read_rows, read_object, HasSlot, HasObject}
use Rattle.object_heap.specs.Acts.{Acted, under, change, on_slot, with_rows, remove_own}
use Rattle.js_values.proofs.ReadingLaws.{IsReading-earlier}
use Rattle.object_heap.specs.Answers.{Acts, MeansValue, read_stop}
use Rattle.object_heap.specs.Places.{StandsAt, changed_at_place}
use Rattle.object_heap.proofs.ReadLaws.{read_own, read_changed, read_without}

-- a rule that holds, and one that is broken
pub under_holds : {X : Type 0} (rule : Rule) (need have : Label) (go_on : Acted X) → within need have ≡ true → under rule need have go_on ≡ go_on
under_holds rule need have go_on holds = cond-true (within need have) go_on (Err (record { rule = rule; need = need; have = have })) holds

pub under_broken : {X : Type 0} (rule : Rule) (need have : Label) (go_on : Acted X) → within need have ≡ false → under rule need have go_on ≡ Err (record { rule = rule; need = need; have = have })
under_broken rule need have go_on broken = cond-false (within need have) go_on (Err (record { rule = rule; need = need; have = have })) broken

module _ {T : Type 0} (reading : T → Label) (p : Object T) (key : List ℕ) (s : Slot T) (here : own key p.rows ≡ Some s) where
  -- the property that the key names is there in the reading too
  pub on_own : (act : Slot Label → Acted (Object Label)) → on_slot (own key (read_object reading p).rows) (read_object reading p) act ≡ act (read_slot reading s)
  on_own act = ap (λ o. on_slot o (read_object reading p) act) (read_own reading key p.rows ∙ ap (option_map (read_slot reading)) here)

  module _ (rule : Rule) (have : Slot Label → Label) (new : Slot Label → Slot Label) (need had : Label) (is : had ≡ have (read_slot reading s)) where
    pub change_stops : within need had ≡ false → change rule have new key need (read_object reading p) ≡ Err (record { rule = rule; need = need; have = had })
    change_stops broken =
        on_own (λ x. under rule need (have x) (Ok (with_rows (read_object reading p) (changed key new (read_rows reading p.rows)))))
        ∙ ap (λ h. under rule need h (Ok (with_rows (read_object reading p) (changed key new (read_rows reading p.rows))))) (sym is)
        ∙ under_broken rule need had (Ok (with_rows (read_object reading p) (changed key new (read_rows reading p.rows)))) broken

    pub change_does : (to : Slot T → Slot T) → within need had ≡ true → new (read_slot reading s) ≡ read_slot reading (to s) → change rule have new key need (read_object reading p) ≡ Ok (read_object reading (with_rows p (changed key to p.rows)))
    change_does to holds same =
        on_own (λ x. under rule need (have x) (Ok (with_rows (read_object reading p) (changed key new (read_rows reading p.rows)))))
        ∙ ap (λ h. under rule need h (Ok (with_rows (read_object reading p) (changed key new (read_rows reading p.rows))))) (sym is)
        ∙ under_holds rule need had (Ok (with_rows (read_object reading p) (changed key new (read_rows reading p.rows)))) holds
        ∙ ap (λ rows. Ok (with_rows (read_object reading p) rows)) (read_changed reading key s p.rows to new here same)

  module _ (need : Label) where
    at_removed : remove_own key need (read_object reading p) ≡ under W4 need (reading s.existence) (under W5 need (reading p.structure) (Ok (with_rows (read_object reading p) (without key (read_rows reading p.rows)))))
    at_removed = on_own (λ x. under W4 need x.existence (under W5 need (reading p.structure) (Ok (with_rows (read_object reading p) (without key (read_rows reading p.rows))))))

    pub remove_stops_first : within need (reading s.existence) ≡ false → remove_own key need (read_object reading p) ≡ Err (record { rule = W4; need = need; have = reading s.existence })
    remove_stops_first broken = at_removed ∙ under_broken W4 need (reading s.existence) (under W5 need (reading p.structure) (Ok (with_rows (read_object reading p) (without key (read_rows reading p.rows))))) broken

    at_object : within need (reading s.existence) ≡ true → remove_own key need (read_object reading p) ≡ under W5 need (reading p.structure) (Ok (with_rows (read_object reading p) (without key (read_rows reading p.rows))))
    at_object holds = at_removed ∙ under_holds W4 need (reading s.existence) (under W5 need (reading p.structure) (Ok (with_rows (read_object reading p) (without key (read_rows reading p.rows))))) holds

    pub remove_stops_second : within need (reading s.existence) ≡ true → within need (reading p.structure) ≡ false → remove_own key need (read_object reading p) ≡ Err (record { rule = W5; need = need; have = reading p.structure })
    remove_stops_second holds broken = at_object holds ∙ under_broken W5 need (reading p.structure) (Ok (with_rows (read_object reading p) (without key (read_rows reading p.rows)))) broken

    pub remove_does : within need (reading s.existence) ≡ true → within need (reading p.structure) ≡ true → remove_own key need (read_object reading p) ≡ Ok (read_object reading (with_rows p (without key p.rows)))
    remove_does holds also =
        at_object holds ∙ under_holds W5 need (reading p.structure) (Ok (with_rows (read_object reading p) (without key (read_rows reading p.rows)))) also
        ∙ ap (λ rows. Ok (with_rows (read_object reading p) rows)) (read_without reading key s p.rows here)

-- ---- what a call answers

module _ {S T V W : Type 0} (made : S → T → Type 0) (meaning : S → T → Label) (store : S) (read : (T → Label) → V → W) (act : (T → Label) → W → Acted W) (old : V) where
  pub acts_stopped : (rule : Rule) (need have : T) (stop : FlowStop T) (result : Result (Unit {0}) (FlowFault T)) → stop ≡ record { rule = rule; need = need; have = have } → made store need → made store have
      → ((reading : T → Label) → IsReading made meaning store reading → act reading (read reading old) ≡ Err (record { rule = rule; need = reading need; have = reading have }))
      → IsErrAnd result (λ e. e ≡ fault.Stop stop) → Acts made meaning store read act old old result
  acts_stopped rule need have stop (Ok u) is n h stopped err = absurd err
  acts_stopped rule need have stop (Err e) is n h stopped err = record {
    does = tt;
    stops = subst (IfStop (λ x. made store x.need × made store x.have × ((reading : T → Label) → IsReading made meaning store reading → act reading (read reading old) ≡ Err (read_stop reading x)))) (sym (err ∙ ap fault.Stop is)) (n, h, stopped);
    unchanged = refl;
  }

  pub acts_done : (new : V) → ((reading : T → Label) → IsReading made meaning store reading → act reading (read reading old) ≡ Ok (read reading new)) → Acts made meaning store read act old new (Ok tt)
  acts_done new done = record { does = done; stops = tt; unchanged = tt }

module _ {S T : Type 0} (made : S → T → Type 0) (meaning : S → T → Label) (store : S) (reading : T → Label) (read : IsReading made meaning store reading) where
  -- what a test says of labels, it says of what they mean in the reading
  pub tested : (a b : T) (test : Bool) → made store a → made store b → within (meaning store a) (meaning store b) ≡ test → within (reading a) (reading b) ≡ test
  tested a b test ma mb e = ap₂ within (read.agrees a ma) (read.agrees b mb) ∙ e

  -- a label that was joined of two means their union in the reading
  pub joined_is : (room : S → ℕ) (firm : S → Bool) (old : S) (a b j : T) → IsKept made meaning room firm old store → made old a → made old b → made store j → meaning store j ≡ union (meaning old a) (meaning old b) → reading j ≡ union (reading a) (reading b)
  joined_is room firm old a b j kept ma mb mj e =
      let earlier = IsReading-earlier made meaning room firm old store reading kept read in
      read.agrees j mj ∙ e ∙ ap₂ union (sym (earlier.agrees a ma)) (sym (earlier.agrees b mb))

-- ---- rows as the code reads and writes them

module _ {T : Type 0} (q p : Object T) (same : q ≡ p) (key : List ℕ) (place : ℕ) (stands : StandsAt key p.rows place) where
  pub row_written : (to : Slot T → Slot T) (rows : Rows (Slot T)) → rows ≡ changed_at_place place to q.rows → with_rows q rows ≡ with_rows p (changed key to p.rows)
  row_written to rows is =
      ap (with_rows q) is
      ∙ ap (λ (y : Object T). with_rows y (changed_at_place place to y.rows)) same
      ∙ ap (with_rows p) (stands.changes to)

-- the labels of a property that the key names have what the object's labels have
pub HasObject-at : {T : Type 0} (made : T → Type 0) (p : Object T) (key : List ℕ) (s : Slot T) → own key p.rows ≡ Some s → HasObject made p → made s.label × made s.existence
HasObject-at made p key s here has = All-own p.rows here has.rows
  where
    at_row : (r : List ℕ × Slot _) (rows : Rows (Slot _)) (test : Bool) → (if test then Some r.1 else own key rows) ≡ Some s → HasSlot made r.1 → (own key rows ≡ Some s → HasSlot made s) → HasSlot made s
    at_row r rows true here first rest = subst (HasSlot made) (same_Some r.1 s here) first
    at_row r rows false here first rest = rest here

    All-own : (rows : Rows (Slot _)) → own key rows ≡ Some s → All (λ r. HasSlot made r.1) rows → HasSlot made s
    All-own [] here all = absurd (none-some s here)
    All-own (r ∷ rows) here all = at_row r rows (same_name r.0 key) here (all 0 r (omega arith)) (λ there. All-own rows there (λ k d lt. all (suc k) d (omega arith)))

-- a place within a list has an element
is_past_end : {X : Type 0} (xs : List X) (i : ℕ) → i < length xs → slice_get xs i ≡ None → ⊥
is_past_end xs i lt e = elim (slice_get_cases xs i).1 as (λ _. ⊥) [
  | inl here ↦ none-some here.0 (sym e ∙ here.2)
  | inr past ↦ omega (arith, lt, past.0)
]

-- the property at the place of a key
pub placed : {T : Type 0} (p : Object T) (key : List ℕ) (place : ℕ) → StandsAt key p.rows place → (r : List ℕ × Slot T) × (slice_get p.rows place ≡ Some r) × (own key p.rows ≡ Some r.1)
placed p key place stands = there (slice_get p.rows place) refl
  where
    there : (o : Option (List ℕ × Slot _)) → slice_get p.rows place ≡ o → (r : List ℕ × Slot _) × (slice_get p.rows place ≡ Some r) × (own key p.rows ≡ Some r.1)
    there None here = absurd (is_past_end p.rows place stands.within here)
    there (Some r) here = (r, here, sym stands.here ∙ ap (option_map (λ (x : List ℕ × Slot _). x.1)) here)

pub value_is : {T : Type 0} (meaning : T → Label) (rows : Rows (Slot T)) (place : ℕ) (r : List ℕ × Slot T) → slice_get rows place ≡ Some r → (label : Label) → MeansValue meaning (slice_get rows place) label → label ≡ union (meaning r.1.label) (meaning r.1.existence)
value_is meaning rows place r here label means = subst (λ o. MeansValue meaning o label) here means
