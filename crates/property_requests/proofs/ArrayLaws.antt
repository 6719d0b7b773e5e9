-- New arrays, in a reading of the labels.
use Rattle.std.proofs.Common.{arith, refl, sym, ap, ap₂, subst, ◌∙◌, ◌≡◌, ◌≤◌, ◌<◌, ℕ, suc, pos, int_le, Bool, true, false, List, [], ◌∷◌, ◌++◌, length, map, Option, Some, None, Ok, Err, if◌then◌else◌}
use Rattle.std.specs.List.{slice_get}
use Rattle.std.proofs.lemmas.Bool.{cond-false, leb-true}
use Rattle.std.proofs.lemmas.List.{length-map, map-append}
use Rattle.std.proofs.lemmas.Option.{none-some, same_Some, slice_get-map}
use Rattle.std.proofs.lemmas.Slice.Eq.{bytes_eq-Decides}
use Rattle.origin_labels.specs.Label.{Label, bottom, within}
use Rattle.origin_labels.specs.Names.{same_name}
use Rattle.origin_labels.specs.Stores.{IsKept}
use Rattle.origin_labels.proofs.LabelLaws.{union-bottom_left, within-refl}
use Rattle.flow_policy.specs.Policies.{Tables}
use Rattle.flow_policy.specs.Inputs.{Given}
use Rattle.flow_frames.specs.Frames.{context}
use Rattle.flow_frames.specs.Held.{seen_frame}
use Rattle.flow_frames.specs.declared.faults.Rule.TheVariants.{W3}
use Rattle.js_values.specs.declared.ids.ObjId.{ObjId}
use Rattle.js_values.specs.declared.inner.Class.TheVariants as class
use Rattle.js_values.specs.declared.inner.Inner.TheVariants.{Plain}
use Rattle.js_values.specs.declared.property.Body.{Body}
use Rattle.js_values.specs.declared.property.Body.TheVariants.{Data}
use Rattle.js_values.specs.declared.property.Marks.{Marks}
use Rattle.js_values.specs.declared.property.Slot.{Slot}
use Rattle.js_values.specs.declared.value.Value.TheVariants as value
use Rattle.js_values.specs.Arrays.{length_key, length_body, element_key, element_of, is_past}
use Rattle.js_values.specs.Numerals.{index_of, value_after}
use Rattle.js_values.specs.Objects.{Rows, Object, own, with_row, fresh_object}
use Rattle.js_values.specs.Readings.{IsReading, HasValue, read_heap, read_object, read_slot, read_value}
use Rattle.js_values.proofs.IndexLaws.{is_index}
use Rattle.js_values.proofs.ReadingLaws.{IsReading-earlier}
use Rattle.object_heap.specs.Acts.{Acted, add, add_absent, add_own, added, new_object, on_object, put_back, stretched, with_rows}
use Rattle.object_heap.specs.Formed.{own_in}
use Rattle.object_heap.specs.Lengths.{IsBelow}
use Rattle.es_meaning.specs.Objects.{defined, defined_over, elements_onto, made_by_script}
use Rattle.es_meaning.specs.Start.{id, array_prototype, length_marks, length_property}
use Rattle.es_meaning.specs.Operations as operations
use Rattle.es_meaning.specs.Outcomes.{Goes}
use Rattle.flow_meaning.specs.Tracked.{act, make_array}
use Rattle.prototype_walk.specs.Answers.{Means}
use Rattle.run_state.specs.declared.outcome.Outcome.TheVariants as outcome
use Rattle.run_state.specs.declared.world.World.{World}
use Rattle.run_state.specs.Acts.{Acts}
use Rattle.run_state.specs.Worlds.{state_of}
use Rattle.property_access.proofs.ObjectLaws.{with_heap}
use Rattle.flow_meaning.specs.Requested.{array_object, data_slot, made_slot}
use Rattle.property_requests.specs.declared.arrays.Element.{Element}
use Rattle.property_requests.specs.Arrays.{ElementsFrom, MakesArray, MakesEmpty, places_in, values_in}
use Rattle.property_requests.specs.Building.{Adds, AddsAlone, IsLast, IsOpenFor, OpensFor}
use Rattle.property_requests.proofs.BuildingLaws.{below_goes, last_set, last_there, none_of, ok_or}
use Rattle.property_requests.proofs.HeldLaws.{read_own_in}

-- ---- keys of elements

abbrev pub limit : ℕ
limit = 4294967295

is_false : (b : Bool) → (b ≡ true → ⊥) → b ≡ false
is_false true isnt = absurd (isnt refl)
is_false false isnt = refl

key_index : (n : ℕ) → n < limit → index_of (element_key n) ≡ Some n
key_index n small = is_index (element_key n) n (record { text = refl; below = small })

-- keys with other indices are other keys
keys_differ : (a b : List ℕ) (i : ℕ) → index_of a ≡ Some i → (index_of b ≡ Some i → ⊥) → same_name a b ≡ false
keys_differ a b i is isnt = is_false (same_name a b) (λ e. isnt (sym (ap index_of ((bytes_eq-Decides a b).0 e)) ∙ is))

elements_differ : (m n : ℕ) → m < n → n < limit → same_name (element_key m) (element_key n) ≡ false
elements_differ m n less small =
    let first : m < limit = omega (arith, less, small) in
    keys_differ (element_key m) (element_key n) m (key_index m first) (λ e. let same = same_Some m n (sym e ∙ key_index n small) in omega (arith, same, less))

pub no_length : index_of length_key ≡ None
unfolding index_of value_after
no_length = refl

pub element_no_length : (m : ℕ) → m < limit → same_name (element_key m) length_key ≡ false
element_no_length m small = keys_differ (element_key m) length_key m (key_index m small) (λ e. none-some m (sym no_length ∙ e))

-- ---- rows with a property more

module _ {S : Type 0} (key : List ℕ) where
  absent_front : (test : Bool) (s : S) (rest : Option S) → (if test then Some s else rest) ≡ None → (test ≡ false) × (rest ≡ None)
  absent_front true s rest none = absurd (none-some s (sym none))
  absent_front false s rest none = (refl, none)

  lacks_row : (rows : Rows S) (k : List ℕ) (s : S) → own key rows ≡ None → same_name k key ≡ false → own key (with_row k s rows) ≡ None
  lacks_row [] k s none differs = cond-false (same_name k key) (Some s) None differs
  lacks_row (r ∷ rows) k s none differs =
      let front = absent_front (same_name r.0 key) r.1 (own key rows) none in
      cond-false (same_name r.0 key) (Some r.1) (own key (with_row k s rows)) front.0 ∙ lacks_row rows k s front.1 differs

  has_front : (test : Bool) (r s : S) (rest more : Option S) → (rest ≡ Some s → more ≡ Some s) → (if test then Some r else rest) ≡ Some s → (if test then Some r else more) ≡ Some s
  has_front true r s rest more next has = has
  has_front false r s rest more next has = next has

  has_row : (rows : Rows S) (k : List ℕ) (t s : S) → own key rows ≡ Some s → own key (with_row k t rows) ≡ Some s
  has_row [] k t s has = absurd (none-some s has)
  has_row (r ∷ rows) k t s has = has_front (same_name r.0 key) r.1 s (own key rows) (own key (with_row k t rows)) (λ h. has_row rows k t s h) has

-- the rows of an array in which the elements from a number on are absent
pub record Fresh (length_slot : Slot Label) (n : ℕ) (rows : Rows (Slot Label)) : Type 0 where
  pub length_there : own length_key rows ≡ Some length_slot
  pub absent : (m : ℕ) → n ≤ m → m < limit → own (element_key m) rows ≡ None

fresh_row : (l : Slot Label) (n p : ℕ) (rows : Rows (Slot Label)) (s : Slot Label) → Fresh l n rows → n ≤ p → p < limit → Fresh l (suc p) (with_row (element_key p) s rows)
fresh_row l n p rows s fresh from small = record {
  length_there = has_row length_key rows (element_key p) s l fresh.length_there;
  absent = λ m le lt. lacks_row (element_key m) rows (element_key p) s (fresh.absent m (omega (arith, le, from)) lt) (elements_differ p m (omega (arith, le)) lt);
}

-- where the next element may stand
abbrev pub next_place : {T : Type 0} → ℕ → List (Element T) → ℕ
next_place n [] = n
next_place n (e ∷ es) = next_place (suc e.place) es

pub next_more : {T : Type 0} (n : ℕ) (es : List (Element T)) (e : Element T) → next_place n (es ++ e ∷ []) ≡ suc e.place
next_more n [] e = refl
next_more n (d ∷ es) e = next_more (suc d.place) es e

-- elements of an earlier store
pub elements_later : {T : Type 0} (made made_new : T → Type 0) (n count : ℕ) (es : List (Element T)) → ((label : T) → made label → made_new label) → ElementsFrom made n count es → ElementsFrom made_new n count es
elements_later made made_new n count [] later has = tt
elements_later made made_new n count (e ∷ es) later has = (has.0, has.1, later e.value.label has.2, elements_later made made_new (suc e.place) count es later has.3)

-- those of a list that begins so
pub elements_front : {T : Type 0} (made : T → Type 0) (n count : ℕ) (xs rest : List (Element T)) (e : Element T) → xs ≡ e ∷ rest → ElementsFrom made n count xs → (n ≤ e.place) × (e.place < count) × HasValue made e.value × ElementsFrom made (suc e.place) count rest
elements_front made n count xs rest e is has = subst (ElementsFrom made n count) is has

pub nothing_left : {X : Type 0} (xs : List X) → length xs ≡ 0 → xs ≡ []
nothing_left [] h = refl
nothing_left (x ∷ xs) h = absurd (omega arith)

-- ---- elements, one after the other

module _ {T : Type 0} (reading : T → Label) (here : Label) where
  abbrev slot_of : Element T → Slot Label
  slot_of e = data_slot here (read_value reading e.value)

  abbrev onto : Rows (Slot Label) → List (Element T) → Rows (Slot Label)
  onto rows [] = rows
  onto rows (e ∷ es) = onto (defined (element_key e.place) (slot_of e) rows) es

  onto_is : (rows : Rows (Slot Label)) (es : List (Element T)) → onto rows es ≡ elements_onto rows (places_in es) (map (data_slot here) (map (read_value reading) (values_in es)))
  onto_is rows [] = refl
  onto_is rows (e ∷ es) = onto_is (defined (element_key e.place) (slot_of e) rows) es

  onto_more : (rows : Rows (Slot Label)) (es : List (Element T)) (e : Element T) → onto rows (es ++ e ∷ []) ≡ defined (element_key e.place) (slot_of e) (onto rows es)
  onto_more rows [] e = refl
  onto_more rows (d ∷ es) e = onto_more (defined (element_key d.place) (slot_of d) rows) es e

  abbrev length_slot : ℕ → Slot Label
  length_slot count = made_slot here (length_property count)

  -- those of an array so far
  abbrev pub rows_so_far : ℕ → List (Element T) → Rows (Slot Label)
  rows_so_far count es = onto ((length_key, length_slot count) ∷ []) es

  fresh_first : (count : ℕ) → Fresh (length_slot count) 0 (rows_so_far count [])
  fresh_first count = record {
    length_there = refl;
    absent = λ m le lt. cond-false (same_name length_key (element_key m)) (Some (length_slot count)) None (keys_differ_other m lt);
  }
    where
      keys_differ_other : (m : ℕ) → m < limit → same_name length_key (element_key m) ≡ false
      keys_differ_other m lt = is_false (same_name length_key (element_key m)) (λ e. none-some m (sym no_length ∙ ap index_of ((bytes_eq-Decides length_key (element_key m)).0 e) ∙ key_index m lt))

  abbrev pub IsFresh : ℕ → List (Element T) → Type 0
  IsFresh count es = Fresh (length_slot count) (next_place 0 es) (rows_so_far count es)

  pub fresh_begun : (count : ℕ) → IsFresh count []
  fresh_begun count = fresh_first count

  -- one more, whose number is no smaller
  more_rows : (count : ℕ) (es : List (Element T)) (e : Element T) → IsFresh count es → next_place 0 es ≤ e.place → e.place < limit → rows_so_far count (es ++ e ∷ []) ≡ with_row (element_key e.place) (slot_of e) (rows_so_far count es)
  more_rows count es e fresh from small =
      onto_more ((length_key, length_slot count) ∷ []) es e
      ∙ ap (λ (x : Option (Slot Label)). defined_over x (element_key e.place) (slot_of e) (rows_so_far count es)) (fresh.absent e.place from small)

  pub fresh_more : (count : ℕ) (es : List (Element T)) (e : Element T) → IsFresh count es → next_place 0 es ≤ e.place → e.place < limit → IsFresh count (es ++ e ∷ [])
  fresh_more count es e fresh from small =
      subst (λ (rows : Rows (Slot Label)). Fresh (length_slot count) (next_place 0 (es ++ e ∷ [])) rows) (sym (more_rows count es e fresh from small))
      (subst (λ n. Fresh (length_slot count) n (with_row (element_key e.place) (slot_of e) (rows_so_far count es))) (sym (next_more 0 es e)) (fresh_row (length_slot count) (next_place 0 es) e.place (rows_so_far count es) (slot_of e) fresh from small))

-- ---- a property that is added to the last object

pub added_to_last : (front : List (Object Label)) (o : ℕ) (c : Label) (q : Object Label) (key : List ℕ) (body : Body) (label : Label) (marks : Marks) → o ≡ length front → q.structure ≡ c → IsBelow (element_of q.class key) (own length_key q.rows) → own key q.rows ≡ None
    → add o key c body label marks (front ++ q ∷ []) ≡ Ok (front ++ with_rows q (with_row key (added c body label marks c) q.rows) ∷ [])
added_to_last front o c q key body label marks place structure below absent =
    let heap = front ++ q ∷ [] in
    let more = with_row key (added c body label marks q.structure) q.rows in
    ap (λ n. add n key c body label marks heap) place
    ∙ ap (λ (x : Option (Object Label)). on_object x heap (length front) (add_own key c body label marks)) (last_there front q)
    ∙ ap (λ (s : Option (Slot Label)). put_back heap (length front) (add_absent s key c body label marks q)) absent
    ∙ ap (λ b. put_back heap (length front) (if b then stretched (element_of q.class key) (own length_key q.rows) c q more else Err (record { rule = W3; need = c; have = q.structure }))) (ap (within c) structure ∙ within-refl c)
    ∙ ap (λ (r : Acted (Object Label)). put_back heap (length front) r) (below_goes key c body label marks (element_of q.class key) (own length_key q.rows) q more below)
    ∙ ap (λ (h : List (Object Label)). Ok h) (last_set front q (with_rows q more))
    ∙ ap (λ (l : Label). Ok (front ++ with_rows q (with_row key (added c body label marks l) q.rows) ∷ [])) structure

-- ---- an array that is being made: the last object of a heap

abbrev pub array_with : Option ObjId → Label → Label → Rows (Slot Label) → Object Label
array_with proto link here rows = record (fresh_object class.Array Plain proto link here) { rows = rows }

below_length : (p count : ℕ) → p < limit → p < count → (e : Option ℕ) → e ≡ Some p → (l : Option (Slot Label)) (s : Slot Label) → s.body ≡ length_body count → l ≡ Some s → IsBelow e l
below_length p count small less (Some i) is None s body there = tt
below_length p count small less None is l s body there = tt
below_length p count small less (Some i) is (Some t) s body there =
    ap₂ (λ j (b : Body). is_past j b) (same_Some i p is) (ap (λ (x : Slot Label). x.body) (same_Some t s there) ∙ body) ∙ is_false (int_le (pos count) (pos p)) (λ e. let le = leb-true count p e in omega (arith, le, less))

module _ {S T : Type 0} (made : S → T → Type 0) (meaning : S → T → Label) (before : List (Object T)) (here link : T) (proto : Option ObjId) where
  abbrev pub IsArrayIn : S → List (Object T) → ((T → Label) → Rows (Slot Label)) → Type 0
  IsArrayIn store heap rows = IsLast made meaning store before heap (λ reading. array_with proto (reading link) (reading here) (rows reading))

  -- the elements so far
  abbrev pub IsArrayWith : S → ℕ → List (Object T) → List (Element T) → Type 0
  IsArrayWith store count heap es = IsArrayIn store heap (λ reading. rows_so_far reading (reading here) count es)

module _ {S T : Type 0} (made : S → T → Type 0) (meaning : S → T → Label) (before : List (Object T)) (here link : T) (proto : Option ObjId) (o : ℕ) (number : o ≡ length before) where
  abbrev IsArray : S → List (Object T) → ((T → Label) → Rows (Slot Label)) → Type 0
  IsArray store heap rows = IsArrayIn made meaning before here link proto store heap rows

  abbrev IsArrayOf : S → ℕ → List (Object T) → List (Element T) → Type 0
  IsArrayOf store count heap es = IsArrayWith made meaning before here link proto store count heap es

  place : (reading : T → Label) → o ≡ length (read_heap reading before)
  place reading = number ∙ sym (length-map before (read_object reading))

  module _ (store : S) (heap : List (Object T)) (rows : (T → Label) → Rows (Slot Label)) (array : IsArray store heap rows) where
    there : (reading : T → Label) → IsReading made meaning store reading → slice_get (read_heap reading heap) o ≡ Some (array_with proto (reading link) (reading here) (rows reading))
    there reading agrees = ap₂ (λ (h : List (Object Label)) n. slice_get h n) (array.says reading agrees) (place reading) ∙ last_there (read_heap reading before) (array_with proto (reading link) (reading here) (rows reading))

    pub array_open : (key : List ℕ) → ((reading : T → Label) → IsBelow (index_of key) (own length_key (rows reading))) → IsOpenFor made meaning store heap o key here
    array_open key below = record { says = λ reading agrees. subst (OpensFor (reading here) key) (sym (there reading agrees)) (refl, below reading) }

    pub array_lacks : (key : List ℕ) → own key (rows (meaning store)) ≡ None → own_in key (slice_get heap o) ≡ None
    array_lacks key none =
        let reading = meaning store in
        none_of (read_slot reading) (own_in key (slice_get heap o))
        (sym (ap (own_in key) (slice_get-map (read_object reading) heap o) ∙ read_own_in reading key (slice_get heap o))
        ∙ ap (own_in key) (there reading (record { agrees = λ l h. refl }))
        ∙ none)

    module _ (room : S → ℕ) (firm : S → Bool) (t : S) (kept : IsKept made meaning room firm store t) (after : List (Object T)) (key : List ℕ) (body : Body) (marks : Marks)
        (below : (reading : T → Label) → IsBelow (index_of key) (own length_key (rows reading))) (absent : (reading : T → Label) → own key (rows reading) ≡ None) where
      pub array_alone : AddsAlone made meaning t here o key body marks heap after → IsArray t after (λ reading. with_row key (added (reading here) body bottom marks (reading here)) (rows reading))
      array_alone adds = record {
        says = λ reading agrees.
            ap ok_or
            (sym (adds.says reading agrees)
            ∙ ap (add o key (reading here) body bottom marks) (array.says reading (IsReading-earlier made meaning room firm store t reading kept agrees))
            ∙ added_to_last (read_heap reading before) o (reading here) (array_with proto (reading link) (reading here) (rows reading)) key body bottom marks (place reading) refl (below reading) (absent reading));
      }

      pub array_more : (label : T) → Adds made meaning t here o key body label marks heap after → IsArray t after (λ reading. with_row key (added (reading here) body (reading label) marks (reading here)) (rows reading))
      array_more label adds = record {
        says = λ reading agrees.
            ap ok_or
            (sym (adds.says reading agrees)
            ∙ ap (add o key (reading here) body (reading label) marks) (array.says reading (IsReading-earlier made meaning room firm store t reading kept agrees))
            ∙ added_to_last (read_heap reading before) o (reading here) (array_with proto (reading link) (reading here) (rows reading)) key body (reading label) marks (place reading) refl (below reading) (absent reading));
      }

  pub array_begun : (store : S) (count : ℕ) (heap : List (Object T)) → MakesEmpty made meaning store here link proto count before heap → IsArrayOf store count heap []
  array_begun store count heap makes = record { says = λ reading agrees. makes.is reading agrees }

  module _ (count : ℕ) (es : List (Element T)) (e : Element T) (fresh : (reading : T → Label) → IsFresh reading (reading here) count es) (from : next_place 0 es ≤ e.place) (less : e.place < count) (small : e.place < limit) where
    element_below : (reading : T → Label) → IsBelow (index_of (element_key e.place)) (own length_key (rows_so_far reading (reading here) count es))
    element_below reading =
        below_length e.place count small less (index_of (element_key e.place)) (key_index e.place small) (own length_key (rows_so_far reading (reading here) count es)) (length_slot reading (reading here) count) refl (fresh reading).length_there

    element_absent : (reading : T → Label) → own (element_key e.place) (rows_so_far reading (reading here) count es) ≡ None
    element_absent reading = (fresh reading).absent e.place from small

    pub element_fresh : (reading : T → Label) → IsFresh reading (reading here) count (es ++ e ∷ [])
    element_fresh reading = fresh_more reading (reading here) count es e (fresh reading) from small

    module _ (s : S) (heap : List (Object T)) (array : IsArrayOf s count heap es) where
      pub element_open : IsOpenFor made meaning s heap o (element_key e.place) here
      element_open = array_open s heap (λ reading. rows_so_far reading (reading here) count es) array (element_key e.place) element_below

      pub element_lacks : own_in (element_key e.place) (slice_get heap o) ≡ None
      element_lacks = array_lacks s heap (λ reading. rows_so_far reading (reading here) count es) array (element_key e.place) (element_absent (meaning s))

      pub element_added : (room : S → ℕ) (firm : S → Bool) (t : S) (kept : IsKept made meaning room firm s t) (after : List (Object T)) → Adds made meaning t here o (element_key e.place) (Data e.value.value) e.value.label made_by_script heap after → IsArrayOf t count after (es ++ e ∷ [])
      element_added room firm t kept after adds =
          let more = array_more s heap (λ reading. rows_so_far reading (reading here) count es) array room firm t kept after (element_key e.place) (Data e.value.value) made_by_script element_below element_absent e.value.label adds in
          record {
            says = λ reading agrees.
                more.says reading agrees
                ∙ ap (λ (rows : Rows (Slot Label)). read_heap reading before ++ array_with proto (reading link) (reading here) rows ∷ []) (sym (more_rows reading (reading here) count es e (fresh reading) from small));
          }

-- with its elements it is the array of the meaning
pub array_is_made : {S T : Type 0} (made : S → T → Type 0) (meaning : S → T → Label) (before : List (Object T)) (here : T) (store : S) (count : ℕ) (heap : List (Object T)) (es : List (Element T))
    → IsArrayWith made meaning before here here (Some array_prototype) store count heap es → MakesArray made meaning store here count es before heap
array_is_made made meaning before here store count heap es array = record {
  is = λ reading agrees.
      array.says reading agrees
      ∙ ap (λ (rows : Rows (Slot Label)). read_heap reading before ++ array_with (Some array_prototype) (reading here) (reading here) rows ∷ []) (onto_is reading (reading here) ((length_key, length_slot reading (reading here) count) ∷ []) es);
}

-- ---- an array without elements

pub nothing_below : (e : Option ℕ) → IsBelow {T = Label} e None
nothing_below None = tt
nothing_below (Some i) = tt

module _ {S T : Type 0} (made : S → T → Type 0) (meaning : S → T → Label) (before heap : List (Object T)) (here link : T) (proto : Option ObjId) (o : ℕ) (number : o ≡ length before) where
  -- it is new
  array_new : (s : S) → heap ≡ new_object class.Array proto link here Plain before → IsArrayIn made meaning before here link proto s heap (λ reading. [])
  array_new s is = record { says = λ reading agrees. ap (read_heap reading) is ∙ map-append (read_object reading) before (fresh_object class.Array Plain proto link here ∷ []) }

  module _ (s : S) (is : heap ≡ new_object class.Array proto link here Plain before) where
    pub new_open : IsOpenFor made meaning s heap o length_key here
    new_open = array_open made meaning before here link proto o number s heap (λ reading. []) (array_new s is) length_key (λ reading. nothing_below (index_of length_key))

    pub new_lacks : own_in length_key (slice_get heap o) ≡ None
    new_lacks = array_lacks made meaning before here link proto o number s heap (λ reading. []) (array_new s is) length_key refl

    pub empty_made : (room : S → ℕ) (firm : S → Bool) (t : S) (kept : IsKept made meaning room firm s t) (after : List (Object T)) (count : ℕ) → AddsAlone made meaning t here o length_key (length_body count) length_marks heap after → MakesEmpty made meaning t here link proto count before after
    empty_made room firm t kept after count adds =
        let more = array_alone made meaning before here link proto o number s heap (λ reading. []) (array_new s is) room firm t kept after length_key (length_body count) length_marks (λ reading. nothing_below (index_of length_key)) (λ reading. refl) adds in
        record {
          is = λ reading agrees.
              more.says reading agrees
              ∙ ap (λ (l : Label). read_heap reading before ++ array_with proto (reading link) (reading here) ((length_key, record { body = length_body count; label = l; existence = reading here; marks = length_marks }) ∷ []) ∷ []) (union-bottom_left (reading here));
        }

-- ---- the act

pub array_acts : {S T : Type 0} (made : S → T → Type 0) (meaning : S → T → Label) (store : S) (w : World T) (tables : Tables) (inputs : Given) (here none : T) (count : ℕ) (es : List (Element T)) (heap : List (Object T)) (o : ObjId) → o.0 ≡ length w.heap → MakesArray made meaning store here count es w.heap heap
    → Means made meaning store here (λ reading. context (map (seen_frame reading) w.frames.frames)) → Means made meaning store none (λ reading. bottom)
    → Acts made meaning store (λ reading. read_value reading) (λ reading. act tables inputs (operations.array_of (places_in es) count) (map (read_value reading) (values_in es))) w (with_heap heap w) (Ok (outcome.Goes (record { value = value.Object o; label = none })))
unfolding act make_array
array_acts made meaning store w tables inputs here none count es heap o number makes context_is empty = record {
  says = λ reading agrees told turns.
      let s = state_of reading w told turns in
      ap (λ k. Goes (record { value = value.Object (id k); label = bottom }) (record s { heap = s.heap ++ array_object count (places_in es) (map (read_value reading) (values_in es)) (context s.frames) ∷ [] })) (length-map w.heap (read_object reading) ∙ sym number)
      ∙ ap (λ (l : Label). Goes (record { value = value.Object o; label = bottom }) (record s { heap = s.heap ++ array_object count (places_in es) (map (read_value reading) (values_in es)) l ∷ [] })) (sym (context_is.is reading agrees))
      ∙ ap₂ (λ (l : Label) (h : List (Object Label)). Goes (record { value = value.Object o; label = l }) (record s { heap = h })) (sym (empty.is reading agrees)) (sym (makes.is reading agrees));
}
