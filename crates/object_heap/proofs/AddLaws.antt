-- Additions of properties, and of elements of arrays.
use Rattle.std.proofs.Common.{◌≡◌, ℕ, zero, suc, Bool, true, false, List, [], ◌∷◌, ◌++◌, Option, Some, None, IsSome, IfSome, is_some, Result, Ok, Err, is_ok, refl, sym, ap, subst, ◌∙◌, arith, if◌then◌else◌}
use Rattle.std.specs.List.{All}
use Rattle.std.specs.Option.{option_map}
use Rattle.std.specs.Result.{IsErrAnd}
use Rattle.std.proofs.lemmas.Bool.{cond-true, cond-false, true≢false, false≢true}
use Rattle.std.proofs.lemmas.Option.{none-some}
use Rattle.origin_labels.specs.Label.{Label, union, within}
use Rattle.origin_labels.specs.Names.{same_name}
use Rattle.origin_labels.specs.Stores.{IsKept}
use Rattle.flow_frames.specs.declared.faults.Rule.TheVariants.{W2, W3}
use Rattle.flow_frames.specs.declared.faults.FlowStop.{FlowStop}
use Rattle.flow_frames.specs.declared.faults.FlowFault.{FlowFault}
use Rattle.flow_frames.specs.declared.faults.FlowFault.TheVariants as fault
use Rattle.flow_frames.specs.Stops.{IfStop}
use Rattle.js_values.specs.declared.property.Slot.{Slot}
use Rattle.js_values.specs.declared.property.Marks.{Marks}
use Rattle.js_values.specs.declared.property.Body.{Body}
use Rattle.js_values.specs.Indices.{IsArrayIndex}
use Rattle.js_values.specs.Numerals.{index_of}
use Rattle.js_values.specs.Objects.{Object, Rows, own, changed, with_row}
use Rattle.js_values.specs.Readings.{IsReading, read_slot, read_rows, read_object, HasSlot, HasObject}
use Rattle.js_values.proofs.IndexLaws.{is_index, some_index}
use Rattle.js_values.proofs.ReadingLaws.{IsReading-earlier}
use Rattle.object_heap.specs.Acts.{Acted, under, on_slot, with_rows, value_have, added, lengthened, stretched, add_absent, add_own}
use Rattle.object_heap.specs.Answers.{Acts, read_stop}
use Rattle.js_values.specs.Arrays.{length_key, length_body, element_of, is_past}
use Rattle.object_heap.specs.Lengths.{StandsPast, IsBelow, append_own, ask_length, lengthen_own, add_past, length_set}
use Rattle.object_heap.proofs.ActLaws.{under_holds, under_broken, on_own, joined_is}
use Rattle.object_heap.proofs.ReadLaws.{read_own, read_changed, read_with_row}

-- ---- the element that a key names

pub index_is : (key : List ℕ) (r : Option ℕ) → IfSome r (IsArrayIndex key) → ((n : ℕ) → IsArrayIndex key n → r ≡ Some n) → r ≡ index_of key
index_is key (Some n) named names = sym (is_index key n named)
index_is key None named names = sym (no_index (index_of key) refl)
  where
    no_index : (o : Option ℕ) → index_of key ≡ o → o ≡ None
    no_index None e = refl
    no_index (Some n) e = absurd (none-some n (names n (some_index key (Some n) (sym e))))

-- ---- rows

module _ {S : Type 0} where
  own_kept_at : (key : List ℕ) (s t : S) (rows more : Rows S) (test : Bool) → (own key rows ≡ Some s → own key (rows ++ more) ≡ Some s) → (if test then Some t else own key rows) ≡ Some s → (if test then Some t else own key (rows ++ more)) ≡ Some s
  own_kept_at key s t rows more true rest here = here
  own_kept_at key s t rows more false rest here = rest here

  -- what a key names, it names still with more properties behind
  pub own_kept : (key : List ℕ) (s : S) (rows more : Rows S) → own key rows ≡ Some s → own key (rows ++ more) ≡ Some s
  own_kept key s [] more here = absurd (none-some s here)
  own_kept key s (r ∷ rows) more here = own_kept_at key s r.1 rows more (same_name r.0 key) (own_kept key s rows more) here

All-cons : {X : Type 0} (P : X → Type 0) (x : X) (xs : List X) → P x → All P xs → All P (x ∷ xs)
All-cons P x xs first all zero d lt = first
All-cons P x xs first all (suc k) d lt = all k d (omega arith)

All-tail : {X : Type 0} (P : X → Type 0) (x : X) (xs : List X) → All P (x ∷ xs) → All P xs
All-tail P x xs all k d lt = all (suc k) d (omega arith)

module _ {T : Type 0} (made : T → Type 0) (key : List ℕ) (to : Slot T → Slot T) (kept : (s : Slot T) → HasSlot made s → HasSlot made (to s)) where
  All-changed_at : (r : List ℕ × Slot T) (rows : Rows (Slot T)) (test : Bool) → HasSlot made r.1 → All (λ x. HasSlot made x.1) rows → All (λ x. HasSlot made x.1) (changed key to rows) → All (λ x. HasSlot made x.1) (if test then (r.0, to r.1) ∷ rows else r ∷ changed key to rows)
  All-changed_at r rows true first all rest = All-cons (λ x. HasSlot made x.1) (r.0, to r.1) rows (kept r.1 first) all
  All-changed_at r rows false first all rest = All-cons (λ x. HasSlot made x.1) r (changed key to rows) first rest

  All-changed : (rows : Rows (Slot T)) → All (λ x. HasSlot made x.1) rows → All (λ x. HasSlot made x.1) (changed key to rows)
  All-changed [] all = all
  All-changed (r ∷ rows) all = All-changed_at r rows (same_name r.0 key) (all 0 r (omega arith)) (All-tail (λ x. HasSlot made x.1) r rows all) (All-changed rows (All-tail (λ x. HasSlot made x.1) r rows all))

pub HasObject-length_set : {T : Type 0} (made : T → Type 0) (i : ℕ) (label : T) (p : Object T) → made label → HasObject made p → HasObject made (length_set i label p)
HasObject-length_set made i label p m has = record { inner = has.inner; link = has.link; structure = has.structure; rows = All-changed made length_key (λ s. record s { body = length_body (suc i); label = label }) (λ s h. (m, h.1)) p.rows has.rows }

-- ---- rule W2 at the `length`

module _ {T : Type 0} (reading : T → Label) (p : Object T) (s : Slot T) (here : own length_key p.rows ≡ Some s) (need had : Label) (is : had ≡ value_have (read_slot reading s)) where
  pub asked_stops : within need had ≡ false → ask_length need (read_object reading p) ≡ Err (record { rule = W2; need = need; have = had })
  asked_stops broken =
      on_own reading p length_key s here (λ x. under W2 need (value_have x) (Ok (read_object reading p)))
      ∙ ap (λ h. under W2 need h (Ok (read_object reading p))) (sym is)
      ∙ under_broken W2 need had (Ok (read_object reading p)) broken

  pub asked_does : within need had ≡ true → ask_length need (read_object reading p) ≡ Ok (read_object reading p)
  asked_does holds =
      on_own reading p length_key s here (λ x. under W2 need (value_have x) (Ok (read_object reading p)))
      ∙ ap (λ h. under W2 need h (Ok (read_object reading p))) (sym is)
      ∙ under_holds W2 need had (Ok (read_object reading p)) holds

-- a rule stops whatever is done behind it, or lets it be done
stops_too : {X : Type 0} (test : Bool) (a : X) (go_on : Acted X) (broken stop : FlowStop Label) → (if test then Ok a else Err broken) ≡ Err stop → (if test then go_on else Err broken) ≡ Err stop
stops_too true a go_on broken stop e = absurd (true≢false (ap is_ok e))
stops_too false a go_on broken stop e = e

goes_too : {X : Type 0} (test : Bool) (a b : X) (go_on : Acted X) (broken : FlowStop Label) → (if test then Ok a else Err broken) ≡ Ok b → (if test then go_on else Err broken) ≡ go_on
goes_too true a b go_on broken e = refl
goes_too false a b go_on broken e = absurd (false≢true (ap is_ok e))

module _ (need : Label) (p q : Object Label) where
  past_stops_at : (o : Option (Slot Label)) (stop : FlowStop Label) → on_slot o p (λ s. under W2 need (value_have s) (Ok p)) ≡ Err stop → on_slot o p (λ s. under W2 need (value_have s) (Ok q)) ≡ Err stop
  past_stops_at None stop e = e
  past_stops_at (Some s) stop e = stops_too (within need (value_have s)) p (Ok q) (record { rule = W2; need = need; have = value_have s }) stop e

  past_goes_at : (o : Option (Slot Label)) → IsSome o → on_slot o p (λ s. under W2 need (value_have s) (Ok p)) ≡ Ok p → on_slot o p (λ s. under W2 need (value_have s) (Ok q)) ≡ Ok q
  past_goes_at None some e = absurd (false≢true some)
  past_goes_at (Some s) some e = goes_too (within need (value_have s)) p p (Ok q) (record { rule = W2; need = need; have = value_have s }) e

pub past_stops : (i : ℕ) (key : List ℕ) (need : Label) (body : Body) (label : Label) (marks : Marks) (p : Object Label) (stop : FlowStop Label) → ask_length need p ≡ Err stop → add_past i key need body label marks p ≡ Err stop
past_stops i key need body label marks p stop e = past_stops_at need p (lengthen_own i key need body label marks p) (own length_key p.rows) stop e

-- ---- a property more

-- the rows as the code writes them, in the reading
pub appended_is : {T : Type 0} (reading : T → Label) (q p : Object T) → q ≡ p → (key : List ℕ) (need label joined : T) (body : Body) (marks : Marks) → reading joined ≡ union (reading label) (reading need)
    → (rows : Rows (Slot T)) → rows ≡ q.rows ++ (key, record { body = body; label = joined; existence = q.structure; marks = marks }) ∷ [] → append_own key (reading need) body (reading label) marks (read_object reading p) ≡ read_object reading (with_rows q rows)
appended_is reading q p same key need label joined body marks means rows is =
    ap (λ x. append_own key (reading need) body (reading label) marks (read_object reading x)) (sym same)
    ∙ ap (λ (l : Label). with_rows (read_object reading q) (with_row key (record { body = body; label = l; existence = reading q.structure; marks = marks }) (read_rows reading q.rows))) (sym means)
    ∙ ap (λ (rs : Rows (Slot Label)). with_rows (read_object reading q) rs) (read_with_row reading key (record { body = body; label = joined; existence = q.structure; marks = marks }) q.rows)
    ∙ ap (λ (rs : Rows (Slot _)). read_object reading (with_rows q rs)) (sym is)

-- ---- an element at or above the `length`

module _ {S T : Type 0} (made : S → T → Type 0) (meaning : S → T → Label) (room : S → ℕ) (firm : S → Bool) (i : ℕ) (key : List ℕ) (need : T) (body : Body) (label : T) (marks : Marks) (p q : Object T) (l : Slot T) (raised : T) where
  lengthened_is : (reading : T → Label) → own length_key q.rows ≡ Some l → reading raised ≡ union (reading l.label) (reading need) → append_own key (reading need) body (reading label) marks (read_object reading p) ≡ read_object reading q
      → lengthen_own i key (reading need) body (reading label) marks (read_object reading p) ≡ read_object reading (length_set i raised q)
  lengthened_is reading here is appended =
      ap (λ (x : Object Label). with_rows x (changed length_key (lengthened i (reading need)) x.rows)) appended
      ∙ ap (λ (rows : Rows (Slot Label)). with_rows (read_object reading q) rows)
      (read_changed reading length_key l q.rows (λ s. record s { body = length_body (suc i); label = raised }) (lengthened i (reading need)) here
      (ap (λ (x : Label). record { body = length_body (suc i); label = x; existence = reading l.existence; marks = l.marks }) (sym is)))

  pub past_done : (first second third : S) → IsKept made meaning room firm first second → IsKept made meaning room firm second third → own length_key p.rows ≡ Some l → own length_key q.rows ≡ Some l
      → made first l.label → made first need → made second raised → meaning second raised ≡ union (meaning first l.label) (meaning first need)
      → ((reading : T → Label) → IsReading made meaning first reading → ask_length (reading need) (read_object reading p) ≡ Ok (read_object reading p))
      → ((reading : T → Label) → IsReading made meaning third reading → append_own key (reading need) body (reading label) marks (read_object reading p) ≡ read_object reading q)
      → (reading : T → Label) → IsReading made meaning third reading → add_past i key (reading need) body (reading label) marks (read_object reading p) ≡ Ok (read_object reading (length_set i raised q))
  past_done first second third kept later here there ml mn mr means asked appended reading read =
      let at_second = IsReading-earlier made meaning room firm second third reading later read in
      let at_first = IsReading-earlier made meaning room firm first second reading kept at_second in
      let is = joined_is made meaning second reading at_second room firm first l.label need raised kept ml mn mr means in
      past_goes_at (reading need) (read_object reading p) (lengthen_own i key (reading need) body (reading label) marks (read_object reading p)) (own length_key (read_rows reading p.rows))
      (ap is_some (read_own reading length_key p.rows ∙ ap (option_map (read_slot reading)) here))
      (asked reading at_first)
      ∙ ap Ok (lengthened_is reading there is (appended reading read))

-- ---- an addition

module _ {T : Type 0} (reading : T → Label) (p : Object T) (key : List ℕ) (absent : own key p.rows ≡ None) (need : Label) (body : Body) (label : Label) (marks : Marks) where
  abbrev after : Acted (Object Label)
  after = stretched (element_of p.class key) (own length_key (read_rows reading p.rows)) need (read_object reading p) (with_row key (added need body label marks (reading p.structure)) (read_rows reading p.rows))

  add_here : add_own key need body label marks (read_object reading p) ≡ under W3 need (reading p.structure) after
  add_here = ap (λ o. add_absent o key need body label marks (read_object reading p)) (read_own reading key p.rows ∙ ap (option_map (read_slot reading)) absent)

  pub add_stops : within need (reading p.structure) ≡ false → add_own key need body label marks (read_object reading p) ≡ Err (record { rule = W3; need = need; have = reading p.structure })
  add_stops broken = add_here ∙ under_broken W3 need (reading p.structure) after broken

  stretch_below : (e : Option ℕ) (o : Option (Slot T)) (rows : Rows (Slot Label)) → IsBelow e o → stretched e (option_map (read_slot reading) o) need (read_object reading p) rows ≡ Ok (with_rows (read_object reading p) rows)
  stretch_below None o rows below = refl
  stretch_below (Some i) None rows below = refl
  stretch_below (Some i) (Some s) rows below = cond-false (is_past i s.body) (under W2 need (value_have (read_slot reading s)) (Ok (with_rows (read_object reading p) (changed length_key (lengthened i need) rows)))) (Ok (with_rows (read_object reading p) rows)) below

  stretch_past : (i : ℕ) (o : Option (Slot T)) (rows : Rows (Slot Label)) → IsSome o → ((s : Slot T) → o ≡ Some s → is_past i s.body ≡ true)
      → stretched (Some i) (option_map (read_slot reading) o) need (read_object reading p) rows ≡ on_slot (option_map (read_slot reading) o) (read_object reading p) (λ s. under W2 need (value_have s) (Ok (with_rows (read_object reading p) (changed length_key (lengthened i need) rows))))
  stretch_past i None rows some past = absurd (false≢true some)
  stretch_past i (Some s) rows some past = cond-true (is_past i s.body) (under W2 need (value_have (read_slot reading s)) (Ok (with_rows (read_object reading p) (changed length_key (lengthened i need) rows)))) (Ok (with_rows (read_object reading p) rows)) (past s refl)

  module _ (holds : within need (reading p.structure) ≡ true) where
    pub add_below : IsBelow (element_of p.class key) (own length_key p.rows) → add_own key need body label marks (read_object reading p) ≡ Ok (append_own key need body label marks (read_object reading p))
    add_below below =
        add_here ∙ under_holds W3 need (reading p.structure) after holds
        ∙ ap (λ o. stretched (element_of p.class key) o need (read_object reading p) (with_row key (added need body label marks (reading p.structure)) (read_rows reading p.rows))) (read_own reading length_key p.rows)
        ∙ stretch_below (element_of p.class key) (own length_key p.rows) (with_row key (added need body label marks (reading p.structure)) (read_rows reading p.rows)) below

    pub add_at_past : (i : ℕ) → StandsPast key p i → add_own key need body label marks (read_object reading p) ≡ add_past i key need body label marks (read_object reading p)
    add_at_past i stands =
        add_here ∙ under_holds W3 need (reading p.structure) after holds
        ∙ ap (λ e. stretched e (own length_key (read_rows reading p.rows)) need (read_object reading p) (with_row key (added need body label marks (reading p.structure)) (read_rows reading p.rows))) stands.element
        ∙ ap (λ o. stretched (Some i) o need (read_object reading p) (with_row key (added need body label marks (reading p.structure)) (read_rows reading p.rows))) (read_own reading length_key p.rows)
        ∙ stretch_past i (own length_key p.rows) (with_row key (added need body label marks (reading p.structure)) (read_rows reading p.rows)) stands.there stands.past
        ∙ ap (λ o. on_slot o (read_object reading p) (λ s. under W2 need (value_have s) (Ok (lengthen_own i key need body label marks (read_object reading p))))) (sym (read_own reading length_key p.rows))

-- ---- an act that is another one there

module _ {S T V W : Type 0} (made : S → T → Type 0) (meaning : S → T → Label) (store : S) (read : (T → Label) → V → W) (act other : (T → Label) → W → Acted W) (old : V) (same : (reading : T → Label) → IsReading made meaning store reading → act reading (read reading old) ≡ other reading (read reading old)) where
  stops_as : (e : FlowFault T) → IfStop (λ stop. made store stop.need × made store stop.have × ((reading : T → Label) → IsReading made meaning store reading → other reading (read reading old) ≡ Err (read_stop reading stop))) e → IfStop (λ stop. made store stop.need × made store stop.have × ((reading : T → Label) → IsReading made meaning store reading → act reading (read reading old) ≡ Err (read_stop reading stop))) e
  stops_as (fault.Stop stop) told = (told.0, told.1, λ reading r. same reading r ∙ told.2 reading r)
  stops_as fault.OutOfMemory told = tt

  pub acts_as : (new : V) (result : Result (Unit {0}) (FlowFault T)) → Acts made meaning store read other old new result → Acts made meaning store read act old new result
  acts_as new (Ok u) acts = record { does = λ reading r. same reading r ∙ acts.does reading r; stops = tt; unchanged = tt }
  acts_as new (Err e) acts = record { does = tt; stops = stops_as e acts.stops; unchanged = acts.unchanged }

-- where the `length` isn't let be overwritten, nothing is added
module _ {S T : Type 0} (made : S → T → Type 0) (meaning : S → T → Label) (store : S) (i : ℕ) (key : List ℕ) (need : T) (body : Body) (label : T) (marks : Marks) (p : Object T) where
  past_refused_at : (f : FlowFault T) → IfStop (λ stop. made store stop.need × made store stop.have × ((reading : T → Label) → IsReading made meaning store reading → ask_length (reading need) (read_object reading p) ≡ Err (read_stop reading stop))) f → IfStop (λ stop. made store stop.need × made store stop.have × ((reading : T → Label) → IsReading made meaning store reading → add_past i key (reading need) body (reading label) marks (read_object reading p) ≡ Err (read_stop reading stop))) f
  past_refused_at (fault.Stop stop) told = (told.0, told.1, λ reading read. past_stops i key (reading need) body (reading label) marks (read_object reading p) (read_stop reading stop) (told.2 reading read))
  past_refused_at fault.OutOfMemory told = tt

  pub past_refused : (r result : Result (Unit {0}) (FlowFault T)) (e : FlowFault T) → r ≡ Err e → IsErrAnd result (λ f. f ≡ e) → Acts made meaning store read_object (λ reading. ask_length (reading need)) p p r → Acts made meaning store read_object (λ reading. add_past i key (reading need) body (reading label) marks) p p result
  past_refused r (Ok u) e err is acts = absurd is
  past_refused r (Err f) e err is acts =
      let told = subst (λ q. Acts made meaning store read_object (λ reading. ask_length (reading need)) p p q) (err ∙ ap Err (sym is)) acts in
      record { does = tt; stops = past_refused_at f told.stops; unchanged = refl }
