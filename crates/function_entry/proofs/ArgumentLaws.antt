-- The `arguments` object: its elements are added from the last one down, and then its accessors.
use Rattle.std.proofs.Common.{arith, refl, sym, ap, ap₂, subst, ◌∙◌, ◌≡◌, ◌≤◌, ◌<◌, ◌+◌, ◌^◌, ℕ, zero, suc, pos, Bool, true, false, List, [], ◌∷◌, ◌++◌, append_assoc, length, map, set, drop, get_or, codes, Option, Some, None, Ok, Err, if◌then◌else◌}
use Rattle.std.specs.Fmt.{decimal}
use Rattle.std.specs.List.{slice_get}
use Rattle.std.specs.Option.{option_map}
use Rattle.std.proofs.lemmas.Bool.{cond-false}
use Rattle.std.proofs.lemmas.Fmt.{decimal_by_steps}
use Rattle.std.proofs.lemmas.List.{set-set, length-map, map-append}
use Rattle.std.proofs.lemmas.Option.{none-some, same_Some, slice_get-map}
use Rattle.std.proofs.lemmas.Slice.Eq.{bytes_eq-Decides}
use Rattle.std.proofs.Math.Seq.{drop-cons, drop-length}
use Rattle.origin_labels.specs.Label.{Label, within}
use Rattle.origin_labels.specs.Names.{same_name}
use Rattle.origin_labels.specs.Stores.{IsKept}
use Rattle.origin_labels.proofs.LabelLaws.{within-refl}
use Rattle.flow_frames.specs.declared.faults.Rule.TheVariants.{W3}
use Rattle.js_number.specs.declared.num.Num.TheVariants.{Int}
use Rattle.js_number.specs.declared.primitive.Primitive.TheVariants.{Num}
use Rattle.js_values.specs.declared.ids.EnvId.{EnvId}
use Rattle.js_values.specs.declared.ids.ObjId.{ObjId}
use Rattle.js_values.specs.declared.property.Body.{Body}
use Rattle.js_values.specs.declared.property.Body.TheVariants.{Data}
use Rattle.js_values.specs.declared.property.Marks.{Marks}
use Rattle.js_values.specs.declared.property.Slot.{Slot}
use Rattle.js_values.specs.declared.value.Labelled.{Labelled}
use Rattle.js_values.specs.declared.value.Value.TheVariants as value
use Rattle.js_values.specs.Objects.{Rows, Object, own, changed, with_row}
use Rattle.js_values.specs.Readings.{IsReading, read_value, read_slot, read_object, read_heap}
use Rattle.js_values.proofs.ReadingLaws.{IsReading-earlier}
use Rattle.object_heap.specs.Acts.{added, with_rows, put_back, on_object, stretched, add_absent, add_own, add, given_over, given, give}
use Rattle.js_values.specs.Arrays.{element_key, element_of, length_key}
use Rattle.object_heap.specs.Formed.{own_in}
use Rattle.object_heap.proofs.ReadLaws.{read_own}
use Rattle.es_meaning.specs.Functions.{property_with, elements_down, accessor_rows}
use Rattle.es_meaning.specs.Objects.{made_by_script, defined_over}
use Rattle.es_meaning.specs.Start.{built_in, fixed_accessor, caller_accessor, callee_accessor}
use Rattle.flow_meaning.specs.Erased.{made_rows}
use Rattle.flow_meaning.specs.Requested.{data_slot}
use Rattle.plain_heap.specs.PlainObjects.{slot_with, object_with, objects_with}
use Rattle.plain_heap.proofs.GiveLaws.{last_gives, read_give}
use Rattle.function_entry.specs.ArgumentRows.{AddsValue, Gets, MakesArguments, counted_object}
use Rattle.function_entry.specs.Making.{Opens, IsOpen}
use Rattle.function_entry.proofs.WorldLaws.{last_there, last_set}
use Rattle.function_entry.proofs.MakingLaws.{done_to}

-- ---- an element of a list that is replaced

set_there : {X : Type 0} (xs : List X) (i : ℕ) (x y : X) → slice_get xs i ≡ Some x → slice_get (set xs i y) i ≡ Some y
set_there [] i x y there = absurd (none-some x there)
set_there (a ∷ xs) zero x y there = refl
set_there (a ∷ xs) (suc i) x y there = set_there xs i x y there

set_same : {X : Type 0} (xs : List X) (i : ℕ) (x : X) → slice_get xs i ≡ Some x → xs ≡ set xs i x
set_same [] i x there = absurd (none-some x there)
set_same (a ∷ xs) zero x there = ap (λ y. y ∷ xs) (same_Some a x there)
set_same (a ∷ xs) (suc i) x there = ap (λ ys. a ∷ ys) (set_same xs i x there)

-- ---- a property that is added to an open object

added_there : (heap : List (Object Label)) (o : ℕ) (p : Object Label) (c : Label) (key : List ℕ) (body : Body) (label : Label) (marks : Marks) → slice_get heap o ≡ Some p → Opens c (Some p) → own key p.rows ≡ None
    → add o key c body label marks heap ≡ Ok (set heap o (with_rows p (with_row key (added c body label marks c) p.rows)))
added_there heap o p c key body label marks there opens absent =
    let more = with_row key (added c body label marks p.structure) p.rows in
    ap (λ (x : Option (Object Label)). on_object x heap o (add_own key c body label marks)) there
    ∙ ap (λ (s : Option (Slot Label)). put_back heap o (add_absent s key c body label marks p)) absent
    ∙ ap (λ b. put_back heap o (if b then stretched (element_of p.class key) (own length_key p.rows) c p more else Err (record { rule = W3; need = c; have = p.structure }))) (ap (within c) opens.0 ∙ within-refl c)
    ∙ ap (λ (e : Option ℕ). put_back heap o (stretched e (own length_key p.rows) c p more)) (opens.1 key)
    ∙ ap (λ (l : Label). Ok (set heap o (with_rows p (with_row key (added c body label marks l) p.rows)))) opens.0

-- what an object has, in a reading
own_read : {T : Type 0} (reading : T → Label) (key : List ℕ) (p : Option (Object T)) → own_in key (option_map (read_object reading) p) ≡ option_map (read_slot reading) (own_in key p)
own_read reading key None = refl
own_read reading key (Some p) = read_own reading key p.rows

absent_read : {T : Type 0} (reading : T → Label) (key : List ℕ) (heap : List (Object T)) (o : ℕ) → own_in key (slice_get heap o) ≡ None → own_in key (slice_get (read_heap reading heap) o) ≡ None
absent_read reading key heap o absent = ap (own_in key) (slice_get-map (read_object reading) heap o) ∙ own_read reading key (slice_get heap o) ∙ ap (option_map (read_slot reading)) absent

-- an object with other rows is as open as before
open_after : (c : Label) (old new : List (Object Label)) (o : ℕ) (rows : Rows (Slot Label) → Rows (Slot Label)) (p : Option (Object Label)) → slice_get old o ≡ p → Opens c p
    → ((q : Object Label) → p ≡ Some q → new ≡ set old o (with_rows q (rows q.rows))) → Opens c (slice_get new o)
open_after c old new o rows None there opens is = absurd opens
open_after c old new o rows (Some p) there opens is = subst (Opens c) (sym (ap (λ (h : List (Object Label)). slice_get h o) (is p refl) ∙ set_there old o p (with_rows p (rows p.rows)) there)) opens

module _ {S T : Type 0} (made : S → T → Type 0) (meaning : S → T → Label) (room : S → ℕ) (firm : S → Bool) (s t : S) (kept : IsKept made meaning room firm s t) (here : T) (o : ℕ) where
  -- one element
  pub gets_one : (i : ℕ) (v : Labelled T) (old new : List (Object T)) → IsOpen made meaning s old o here → own_in (element_key i) (slice_get old o) ≡ None → AddsValue made meaning t here o (element_key i) v old new → Gets made meaning t here o i (v ∷ []) old new
  gets_one i v old new opened absent adds = record {
    says = λ reading is p there.
        let key = element_key i in
        let heap = read_heap reading old in
        let none : own key p.rows ≡ None = sym (ap (own_in key) there) ∙ absent_read reading key old o absent in
        let opens : Opens (reading here) (Some p) = subst (Opens (reading here)) there (opened.says reading (IsReading-earlier made meaning room firm s t reading kept is)) in
        ap done_to (sym (adds.says reading is) ∙ added_there heap o p (reading here) key (Data v.value) (reading v.label) made_by_script there opens none)
        ∙ ap (λ (x : Option (Slot Label)). set heap o (with_rows p (defined_over x key (data_slot (reading here) (read_value reading v)) p.rows))) (sym none);
  }

  -- behind those above it
  pub gets_more : (i : ℕ) (v : Labelled T) (vs : List (Labelled T)) (old middle new : List (Object T)) → Gets made meaning s here o (suc i) vs old middle → Gets made meaning t here o i (v ∷ []) middle new → Gets made meaning t here o i (v ∷ vs) old new
  gets_more i v vs old middle new first next = record {
    says = λ reading is p there.
        let heap = read_heap reading old in
        let above = with_rows p (elements_down p.rows (suc i) (map (data_slot (reading here)) (map (read_value reading) vs))) in
        let all = with_rows p (elements_down p.rows i (map (data_slot (reading here)) (map (read_value reading) (v ∷ vs)))) in
        let begun : read_heap reading middle ≡ set heap o above = first.says reading (IsReading-earlier made meaning room firm s t reading kept is) p there in
        next.says reading is above (ap (λ (h : List (Object Label)). slice_get h o) begun ∙ set_there heap o p above there)
        ∙ ap (λ (h : List (Object Label)). set h o all) begun
        ∙ set-set heap o above all;
  }

  -- the object stays open
  pub open_behind : (i : ℕ) (vs : List (Labelled T)) (old new : List (Object T)) → IsOpen made meaning s old o here → Gets made meaning t here o i vs old new → IsOpen made meaning t new o here
  open_behind i vs old new opened gets = record {
    says = λ reading is.
        open_after (reading here) (read_heap reading old) (read_heap reading new) o (λ rows. elements_down rows i (map (data_slot (reading here)) (map (read_value reading) vs)))
        (slice_get (read_heap reading old) o) refl (opened.says reading (IsReading-earlier made meaning room firm s t reading kept is)) (gets.says reading is);
  }

module _ {S T : Type 0} (made : S → T → Type 0) (meaning : S → T → Label) (room : S → ℕ) (firm : S → Bool) where
  -- no elements
  pub gets_none : (s : S) (here : T) (o i : ℕ) (heap : List (Object T)) → Gets made meaning s here o i [] heap heap
  gets_none s here o i heap = record { says = λ reading is p there. set_same (read_heap reading heap) o p there }

  -- the next element below: it is the argument at that place
  pub gets_next : (s t : S) (here : T) (o i next : ℕ) (v : Labelled T) (args : List (Labelled T)) (old middle new : List (Object T)) → IsKept made meaning room firm s t → next ≡ suc i → next ≤ length args → v ≡ get_or args i v
      → Gets made meaning s here o next (drop next args) old middle → Gets made meaning t here o i (v ∷ []) middle new → Gets made meaning t here o i (drop i args) old new
  gets_next s t here o i next v args old middle new kept above inside is first last =
      let behind = subst (λ n. Gets made meaning s here o n (drop n args) old middle) above first in
      subst (λ (vs : List (Labelled T)). Gets made meaning t here o i vs old new) (sym (drop-cons args i v (omega (arith, above, inside)) ∙ ap (λ x. x ∷ drop (suc i) args) (sym is)))
      (gets_more made meaning room firm s t kept here o i v (drop (suc i) args) old middle new behind last)

  -- all arguments are there
  pub gets_begun : (s : S) (here : T) (o count : ℕ) (args : List (Labelled T)) (heap : List (Object T)) → count ≡ length args → Gets made meaning s here o count (drop count args) heap heap
  gets_begun s here o count args heap is = subst (λ (vs : List (Labelled T)). Gets made meaning s here o count vs heap heap) (sym (ap (λ n. drop n args) is ∙ drop-length args)) (gets_none s here o count heap)

-- ---- no element has a key that begins with a letter

abbrev BelowLetters : List ℕ → Type 0
BelowLetters [] = ⊥
BelowLetters (d ∷ ds) = d < 58

longer_below : (ds more : List ℕ) → BelowLetters ds → BelowLetters (ds ++ more)
longer_below [] more below = absurd below
longer_below (d ∷ ds) more below = below

decimal_below : (n : ℕ) → n < 2 ^ 64 → BelowLetters (decimal n)
decimal_below n small = decimal_by_steps (λ n ds. BelowLetters ds) (λ n lt. omega (arith, lt)) (λ n ds le below. longer_below ds _ below) n small

is_false : (b : Bool) → (b ≡ true → ⊥) → b ≡ false
is_false true isnt = absurd (isnt refl)
is_false false isnt = refl

key_differs : (n c : ℕ) (rest : List ℕ) → n < 2 ^ 64 → 58 ≤ c → same_name (element_key n) (c ∷ rest) ≡ false
key_differs n c rest small letter =
    is_false (same_name (decimal n) (c ∷ rest)) (λ e. let below : c < 58 = subst BelowLetters ((bytes_eq-Decides (decimal n) (c ∷ rest)).0 e) (decimal_below n small) in omega (arith, below, letter))

module _ {S : Type 0} (key : List ℕ) where
  absent_front : (test : Bool) (s : S) (rest : Option S) → (if test then Some s else rest) ≡ None → (test ≡ false) × (rest ≡ None)
  absent_front true s rest none = absurd (none-some s (sym none))
  absent_front false s rest none = (refl, none)

  lacks_row : (rows : Rows S) (k : List ℕ) (s : S) → own key rows ≡ None → same_name k key ≡ false → own key (with_row k s rows) ≡ None
  lacks_row [] k s none differs = cond-false (same_name k key) (Some s) None differs
  lacks_row (r ∷ rows) k s none differs =
      let front = absent_front (same_name r.0 key) r.1 (own key rows) none in
      cond-false (same_name r.0 key) (Some r.1) (own key (with_row k s rows)) front.0 ∙ lacks_row rows k s front.1 differs

  changed_at : (test : Bool) (r : List ℕ × S) (s : S) (rows more : Rows S) → own key (r ∷ rows) ≡ None → own key more ≡ None → own key (if test then (r.0, s) ∷ rows else r ∷ more) ≡ None
  changed_at true r s rows more none others =
      let front = absent_front (same_name r.0 key) r.1 (own key rows) none in cond-false (same_name r.0 key) (Some s) (own key rows) front.0 ∙ front.1
  changed_at false r s rows more none others =
      let front = absent_front (same_name r.0 key) r.1 (own key rows) none in cond-false (same_name r.0 key) (Some r.1) (own key more) front.0 ∙ others

  lacks_changed : (rows : Rows S) (k : List ℕ) (s : S) → own key rows ≡ None → own key (changed k (λ t. s) rows) ≡ None
  lacks_changed [] k s none = none
  lacks_changed (r ∷ rows) k s none = changed_at (same_name r.0 k) r s rows (changed k (λ t. s) rows) none (lacks_changed rows k s (absent_front (same_name r.0 key) r.1 (own key rows) none).1)

  lacks_defined : (old : Option S) (rows : Rows S) (k : List ℕ) (s : S) → own key rows ≡ None → same_name k key ≡ false → own key (defined_over old k s rows) ≡ None
  lacks_defined None rows k s none differs = lacks_row rows k s none differs
  lacks_defined (Some t) rows k s none differs = lacks_changed rows k s none

  lacks_elements : (rows : Rows S) (n : ℕ) (ss : List S) → own key rows ≡ None → ((i : ℕ) → i < n + length ss → same_name (element_key i) key ≡ false) → own key (elements_down rows n ss) ≡ None
  lacks_elements rows n [] none differs = none
  lacks_elements rows n (s ∷ ss) none differs =
      lacks_defined (own (element_key n) (elements_down rows (suc n) ss)) (elements_down rows (suc n) ss) (element_key n) s
      (lacks_elements rows (suc n) ss none (λ i lt. differs i (omega (arith, lt)))) (differs n (omega arith))

-- ---- the whole object: it is made with its `length`, gets its elements, and then the accessors

module _ (rows : Rows (Slot Label)) (caller callee : Slot Label) (no_caller : own (codes "caller") rows ≡ None) (no_callee : own (codes "callee") rows ≡ None) where
  accessors_given : given (codes "callee") callee (given (codes "caller") caller rows) ≡ rows ++ (codes "caller", caller) ∷ (codes "callee", callee) ∷ []
  accessors_given =
      ap (λ s. given (codes "callee") callee (given_over s (codes "caller") caller rows)) no_caller
      ∙ ap (λ s. given_over s (codes "callee") callee (with_row (codes "caller") caller rows)) (lacks_row (codes "callee") rows (codes "caller") caller no_callee refl)
      ∙ append_assoc rows ((codes "caller", caller) ∷ []) ((codes "callee", callee) ∷ [])

module _ {S T : Type 0} (made : S → T → Type 0) (meaning : S → T → Label) (store : S) (here : T) (function : ℕ) (env : EnvId) (o : ObjId) (count : ℕ) (args : List (Labelled T)) (heap counted after called last : List (Object T)) (number : o.0 ≡ length heap) (count_is : count ≡ length args) (few : count < 2 ^ 32)
    (is_counted : counted ≡ heap ++ objects_with here (counted_object function env.0 count ∷ [])) (gets : Gets made meaning store here o.0 0 args counted after)
    (calls : called ≡ give o.0 (codes "caller") (slot_with here (fixed_accessor caller_accessor)) after) (ends : last ≡ give o.0 (codes "callee") (slot_with here (fixed_accessor callee_accessor)) called) where
  module _ (reading : T → Label) (is : IsReading made meaning store reading) where
    abbrev c : Label
    c = reading here

    abbrev before : List (Object Label)
    before = read_heap reading heap

    abbrev vs : List (Labelled Label)
    vs = map (read_value reading) args

    abbrev object : Rows (Slot Label) → Object Label
    object rows = record (object_with c (counted_object function env.0 count)) { rows = rows }

    abbrev size : ℕ → Rows (Slot Label)
    size n = (codes "length", slot_with c (property_with (value.Primitive (Num (Int (pos n)))) built_in)) ∷ []

    abbrev elements : ℕ → Rows (Slot Label)
    elements n = elements_down (size n) 0 (map (data_slot c) vs)

    place : o.0 ≡ length before
    place = number ∙ sym (length-map heap (read_object reading))

    begun : read_heap reading counted ≡ before ++ object (size count) ∷ []
    begun = ap (read_heap reading) is_counted ∙ map-append (read_object reading) heap (objects_with here (counted_object function env.0 count ∷ []))

    with_elements : read_heap reading after ≡ before ++ object (elements count) ∷ []
    with_elements =
        gets.says reading is (object (size count)) (ap₂ (λ (h : List (Object Label)) n. slice_get h n) begun place ∙ last_there before (object (size count)))
        ∙ ap₂ (λ (h : List (Object Label)) n. set h n (object (elements count))) begun place
        ∙ last_set before (object (size count)) (object (elements count))

    lacks : (letter : ℕ) (rest : List ℕ) → 58 ≤ letter → own (letter ∷ rest) (size count) ≡ None → own (letter ∷ rest) (elements count) ≡ None
    lacks letter rest high none =
        lacks_elements (letter ∷ rest) (size count) 0 (map (data_slot c) vs) none
        (λ i lt. let long = length-map vs (data_slot c) in let as_many = length-map args (read_value reading) in key_differs i letter rest (omega (arith, lt, long, as_many, count_is, few)) high)

    whole : read_heap reading last ≡ before ++ object (elements (length vs) ++ made_rows c accessor_rows) ∷ []
    whole =
        last_gives before (read_heap reading called) (read_heap reading last) (object (given (codes "caller") (slot_with c (fixed_accessor caller_accessor)) (elements count))) o.0 (codes "callee") (slot_with c (fixed_accessor callee_accessor)) place
        (last_gives before (read_heap reading after) (read_heap reading called) (object (elements count)) o.0 (codes "caller") (slot_with c (fixed_accessor caller_accessor)) place with_elements
        (ap (read_heap reading) calls ∙ read_give reading (codes "caller") (slot_with here (fixed_accessor caller_accessor)) o.0 after))
        (ap (read_heap reading) ends ∙ read_give reading (codes "callee") (slot_with here (fixed_accessor callee_accessor)) o.0 called)
        ∙ ap (λ rows. before ++ object rows ∷ [])
        (accessors_given (elements count) (slot_with c (fixed_accessor caller_accessor)) (slot_with c (fixed_accessor callee_accessor)) (lacks 99 _ (omega arith) refl) (lacks 99 _ (omega arith) refl))
        ∙ ap (λ n. before ++ object (elements n ++ made_rows c accessor_rows) ∷ []) (count_is ∙ sym (length-map args (read_value reading)))

  pub arguments_made : MakesArguments made meaning store here function env.0 args heap last
  arguments_made = record { says = whole }
