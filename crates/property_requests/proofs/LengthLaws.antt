-- The `length` of an array is given a number, in a reading of the labels.
use Rattle.std.proofs.Common.{arith, ◌≡◌, ◌≤◌, ◌<◌, ◌⊎◌, inl, inr, ℕ, suc, zero, pos, Bool, true, false, List, [], ◌∷◌, length, map, Option, Some, None, IsSome, Ok, Err, Result, refl, sym, ap, ap₂, subst, ◌∙◌, nat_le, nat_lt, if◌then◌else◌}
use Rattle.std.specs.List.{All, slice_get}
use Rattle.std.specs.Option.{option_map}
use Rattle.std.specs.Result.{IsErrAnd}
use Rattle.std.specs.Cmp.Lexicographic.{bytes_decides}
use Rattle.std.proofs.lemmas.List.{length-map}
use Rattle.std.proofs.lemmas.Option.{none-some, same_Some, slice_get-map, slice_get_past}
use Rattle.origin_labels.specs.Label.{Label, IsLabel, bottom, union}
use Rattle.origin_labels.specs.Names.{same_name}
use Rattle.origin_labels.specs.Stores.{IsKept}
use Rattle.flow_frames.specs.declared.faults.FlowFault.{FlowFault}
use Rattle.flow_frames.specs.Frames.{context}
use Rattle.flow_frames.specs.Held.{seen_frame}
use Rattle.js_number.specs.declared.num.Num.TheVariants.{Int}
use Rattle.js_number.specs.declared.primitive.Primitive.TheVariants.{Num}
use Rattle.js_values.specs.declared.ids.ObjId.{ObjId}
use Rattle.js_values.specs.declared.inner.Class.{Class}
use Rattle.js_values.specs.declared.inner.Class.TheVariants as class
use Rattle.js_values.specs.declared.property.Body.{Body}
use Rattle.js_values.specs.declared.property.Marks.{Marks}
use Rattle.js_values.specs.declared.property.Slot.{Slot}
use Rattle.js_values.specs.declared.value.Labelled.{Labelled}
use Rattle.js_values.specs.declared.value.Value.{Value}
use Rattle.js_values.specs.declared.value.Value.TheVariants as value
use Rattle.js_values.specs.Arrays.{element_key, element_of, higher_if, higher_of, highest, length_body, length_key}
use Rattle.js_values.specs.Numerals.{index_of}
use Rattle.js_values.specs.Objects.{Rows, Property, Object, own}
use Rattle.js_values.specs.Readings.{IsReading, HasHeap, HasSlot, read_heap, read_object, read_rows, read_slot, read_value}
use Rattle.js_values.proofs.IndexLaws.{index_is}
use Rattle.js_values.proofs.ReadingLaws.{IsReading-earlier}
use Rattle.native_protocol.specs.declared.request.ErrorKind.TheVariants as kinds
use Rattle.native_protocol.specs.declared.request.GivenMarks.{GivenMarks}
use Rattle.object_heap.specs.Acts as heap_acts
use Rattle.object_heap.specs.Formed.{IsShape, own_in}
use Rattle.object_heap.specs.Formed as formed
use Rattle.object_heap.specs.declared.shape.Shape.{Shape}
use Rattle.object_heap.proofs.ReadLaws.{read_own}
use Rattle.prototype_walk.specs.Answers.{Means}
use Rattle.prototype_walk.specs.KeyLists.{rows_in}
use Rattle.es_meaning.specs.Definitions as definitions
use Rattle.es_meaning.specs.Objects.{length_behind}
use Rattle.es_meaning.specs.Outcomes.{Outcome, Goes, Jumps, Ends, and_then, ret, ◌>>=◌}
use Rattle.es_meaning.specs.Requested.{behind_length, defined_if}
use Rattle.flow_meaning.specs.Erased.{erased_slot}
use Rattle.flow_meaning.specs.Requested.{own_walk, property_in, value_label}
use Rattle.flow_meaning.specs.Scopes.{Halt, Jump, LabelledLine, L, State, Val}
use Rattle.flow_meaning.specs.Tracked as tracked
use Rattle.flow_meaning.specs.Tracked.{acted, cut_length, delete_element, deleted_at, deleted_if, deleted_within, ended_at, set_body_if, set_length, set_length_in, set_length_to, set_marks_if, throw_error}
use Rattle.run_state.specs.declared.outcome.Outcome as machine
use Rattle.run_state.specs.declared.outcome.Outcome.TheVariants as outcome
use Rattle.run_state.specs.declared.outcome.SetLength.{SetLength}
use Rattle.run_state.specs.declared.world.World.{World}
use Rattle.run_state.specs.Accesses.{defines, marks_given}
use Rattle.run_state.specs.Acts.{Acts, Says}
use Rattle.run_state.specs.Worlds.{state_of}
use Rattle.run_state.proofs.ActLaws.{Acts-as, Acts-passes, Acts-then}
use Rattle.property_requests.specs.declared.defining.Site.{Site}
use Rattle.property_requests.specs.declared.definition.GivenBody.TheVariants as given_body
use Rattle.property_requests.specs.declared.lengths.Cut.{Cut}
use Rattle.property_requests.specs.declared.lengths.Deletion.{Deletion}
use Rattle.property_requests.specs.declared.lengths.Deletion.TheVariants as deletion
use Rattle.property_requests.specs.Defining.{SameOutline, body_set, definition_of, outline, test_of_definition}
use Rattle.property_requests.specs.Finding.{nothing, went}
use Rattle.property_requests.specs.Lengths.{Deleted, ended, further, deletion_at, deletion_if, marks_behind, number_definition, one_deletion, read_cut, read_deletion, set_at, shortened, shortened_by}
use Rattle.property_requests.proofs.ArrayLaws.{no_length}
use Rattle.property_requests.proofs.BuildingLaws.{none_of}
use Rattle.property_requests.proofs.DefiningLaws.{found_there}
use Rattle.property_requests.proofs.HeldLaws.{object_has, shape_there}
use Rattle.property_requests.proofs.PlaceLaws.{place_absent, place_present}

-- ---- the attributes behind the number

module _ {T : Type 0} (slot : Slot T) (how : SetLength) (n : ℕ) where
  abbrev marks_if : Bool → Bool → Option Marks
  marks_if accessor may = option_map (λ (q : Property). q.marks) (if accessor then None else defined_if may (definitions.defined_over (erased_slot slot) (number_definition how n)))

  pub over_accessor : definitions.is_accessor slot.body ≡ true → None ≡ marks_behind how n (Some slot)
  over_accessor accessor = sym (ap (λ (b : Bool). marks_if b (definitions.may_define_over (erased_slot slot) (number_definition how n))) accessor)

  module _ (accessor : definitions.is_accessor slot.body ≡ false) (marks : GivenMarks) (given : marks ≡ marks_given how) (v : Value) (number : v ≡ value.Primitive (Num (Int (pos n)))) where
    may_same : definitions.may_define_over (erased_slot slot) (definition_of (record { marks = marks; body = given_body.Value v })) ≡ definitions.may_define_over (erased_slot slot) (number_definition how n)
    may_same = ap₂ (λ (m : GivenMarks) (u : Value). definitions.may_define_over (erased_slot slot) (record { marks = m; body = definitions.a_value u })) given number

    pub over_refused : definitions.may_define_over (erased_slot slot) (definition_of (record { marks = marks; body = given_body.Value v })) ≡ false → None ≡ marks_behind how n (Some slot)
    over_refused may = sym (ap₂ marks_if accessor (sym may_same ∙ may))

    pub over_defined : definitions.may_define_over (erased_slot slot) (definition_of (record { marks = marks; body = given_body.Value v })) ≡ true → (out : Marks) → out ≡ definitions.marks_of_kind false slot.marks marks → Some out ≡ marks_behind how n (Some slot)
    over_defined may out is =
        ap (λ (m : Marks). Some m) (is ∙ ap (λ (m : GivenMarks). definitions.marks_of_kind false slot.marks m) given)
        ∙ sym (ap₂ marks_if accessor (sym may_same ∙ may))

-- ---- the place of the `length`

no_element : (c : Class) → element_of c length_key ≡ None
no_element class.Array = no_length
no_element class.Object = refl
no_element class.Function = refl
no_element class.Arguments = refl
no_element class.Error = refl
no_element class.Math = refl
no_element class.Json = refl
no_element class.String = refl
no_element class.Number = refl
no_element class.Boolean = refl

abbrev shape_of : {T : Type 0} → Object T → Shape T
shape_of p = record { class = p.class; proto = p.proto; link = p.link; structure = p.structure; extensible = p.extensible }

module _ {S T : Type 0} (made : S → T → Type 0) (meaning : S → T → Label) (store : S) (heap : List (Object T)) (o : ℕ) (label : T) where
  abbrev Placed : List ℕ → T → Type 0
  Placed key place = Means made meaning store place (λ reading. union (reading label) (test_of_definition reading key (slice_get heap o)))

  pub length_placed : (rising : (store : S) (label : T) → made store label → IsLabel (meaning store label)) → HasHeap (made store) heap → (key : List ℕ) → key ≡ length_key → o < length heap → (place : T)
      → Means made meaning store place (λ reading. union (reading label) (own_walk key (option_map (read_object reading) (slice_get heap o)))) → Placed length_key place
  length_placed rising has key is here place means = subst (λ (k : List ℕ). Placed k place) is (found_there heap o here (Placed key place) (λ p there. by p there (own_in key (slice_get heap o)) refl))
    where
      by : (p : Object T) → slice_get heap o ≡ Some p → (x : Option (Slot T)) → own_in key (slice_get heap o) ≡ x → Placed key place
      by p there None none =
          place_absent made meaning store heap o key label (shape_of p) (subst (λ (q : Option (Object T)). IsShape q (shape_of p)) (sym there) refl) none rising has place (ap (element_of p.class) is ∙ no_element p.class) means
      by p there (Some s) some = place_present made meaning store heap o key label place (subst (λ (q : Option (Slot T)). IsSome q) (sym some) refl) means

-- ---- a throw by two labels

pub throws_both : {S T : Type 0} (made : S → T → Type 0) (meaning : S → T → Label) (store : S) (w after : World T) (first second cause : T) (result : Result (machine.Outcome (Labelled T) T) (FlowFault T)) → Means made meaning store cause (λ reading. union (reading first) (reading second))
    → Acts made meaning store (λ reading. read_value reading) (λ reading. throw_error {X = Val} kinds.TypeError (reading cause)) w after result
    → Acts made meaning store (λ reading. read_value reading) (λ reading. throw_error {X = Val} kinds.TypeError (union (reading first) (reading second))) w after result
throws_both made meaning store w after first second cause result means acts =
    Acts-as made meaning store (λ reading. read_value reading) (λ reading. throw_error {X = Val} kinds.TypeError (reading cause)) (λ reading. throw_error {X = Val} kinds.TypeError (union (reading first) (reading second))) w after result
    (λ reading agrees told turns. ap (λ (l : Label). throw_error kinds.TypeError l (state_of reading w told turns)) (sym (means.is reading agrees)))
    acts

-- ---- the act, where the object is there and where it isn't

module _ {S T : Type 0} (made : S → T → Type 0) (meaning : S → T → Label) (store : S) (w after : World T) (how : SetLength) (n : ℕ) (array : ObjId) (label given : T) (result : Result (machine.Outcome (Labelled T) T) (FlowFault T)) where
  abbrev sets : (T → Label) → L Val
  sets reading = set_length (defines how) (reading label) array.0 (marks_given how) n (reading given)

  abbrev Sets : Type 0
  Sets = Acts made meaning store (λ reading. read_value reading) sets w after result

  pub sets_nowhere : length w.heap ≤ array.0 → Acts made meaning store (λ reading. read_value reading) (λ reading. throw_error {X = Val} kinds.TypeError (union (reading label) (reading given))) w after result → Sets
  unfolding set_length set_length_in
  sets_nowhere past acts =
      Acts-as made meaning store (λ reading. read_value reading) (λ reading. throw_error {X = Val} kinds.TypeError (union (reading label) (reading given))) sets w after result
      (λ reading agrees told turns.
      let s = state_of reading w told turns in
      ap (λ p. set_length_in (defines how) p (reading label) (reading given) array.0 (marks_given how) n s) (slice_get-map (read_object reading) w.heap array.0 ∙ ap (option_map (read_object reading)) (slice_get_past w.heap array.0 past)))
      acts

  pub sets_there : (key : List ℕ) (place : T) → array.0 < length w.heap → Means made meaning store place (λ reading. union (reading label) (test_of_definition reading length_key (slice_get w.heap array.0)))
      → Acts made meaning store (λ reading. read_value reading) (λ reading s. set_at reading how (record { object = array; key = key; place = place; given = given }) n (slice_get s.heap array.0) s) w after result → Sets
  unfolding set_length set_length_in
  sets_there key place here means acts = found_there w.heap array.0 here Sets (λ p there.
      Acts-as made meaning store (λ reading. read_value reading) (λ reading s. set_at reading how (record { object = array; key = key; place = place; given = given }) n (slice_get s.heap array.0) s) sets w after result
      (λ reading agrees told turns.
      let s = state_of reading w told turns in
      let q = read_object reading p in
      let found : slice_get s.heap array.0 ≡ Some q = slice_get-map (read_object reading) w.heap array.0 ∙ ap (option_map (read_object reading)) there in
      ap (λ x. set_length_in (defines how) x (reading label) (reading given) array.0 (marks_given how) n s) found
      ∙ ap (λ (l : Label). set_length_to (defines how) q l (reading given) array.0 n (behind_length (property_in (own length_key q.rows)) (number_definition how n)) s) (ap (λ x. union (reading label) (test_of_definition reading length_key x)) (sym there) ∙ sym (means.is reading agrees))
      ∙ ap (λ x. set_at reading how (record { object = array; key = key; place = place; given = given }) n x s) (sym found))
      acts)

-- ---- on an object that is there

property_read : {T : Type 0} (reading : T → Label) (x : Option (Slot T)) → property_in (option_map (read_slot reading) x) ≡ option_map (λ s. erased_slot s) x
property_read reading None = refl
property_read reading (Some x) = refl

abbrev marks_in : Option Property → Option Marks
marks_in q = option_map (λ (q : Property). q.marks) q

module _ {S T : Type 0} (made : S → T → Type 0) (meaning : S → T → Label) (store : S) (w after : World T) (how : SetLength) (n : ℕ) (site : Site T) (result : Result (machine.Outcome (Labelled T) T) (FlowFault T)) (here : site.object.0 < length w.heap) (is : site.key ≡ length_key) where
  abbrev old : Option (Slot T)
  old = own_in site.key (slice_get w.heap site.object.0)

  abbrev behind : Option Property
  behind = behind_length (option_map (λ s. erased_slot s) old) (number_definition how n)

  abbrev SetsAt : Type 0
  SetsAt = Acts made meaning store (λ reading. read_value reading) (λ reading s. set_at reading how site n (slice_get s.heap site.object.0) s) w after result

  abbrev to : (T → Label) → Object T → Option Property → L Val
  to reading p q = set_length_to (defines how) (read_object reading p) (reading site.place) (reading site.given) site.object.0 n q

  -- at the object that is there
  at_site : (act : (T → Label) → Object T → L Val) → ((p : Object T) → slice_get w.heap site.object.0 ≡ Some p → (reading : T → Label) → IsReading made meaning store reading → (s : State) → to reading p behind s ≡ act reading p s)
      → ((p : Object T) → slice_get w.heap site.object.0 ≡ Some p → Acts made meaning store (λ reading. read_value reading) (λ reading. act reading p) w after result) → SetsAt
  at_site act same acts = found_there w.heap site.object.0 here SetsAt (λ p there.
      Acts-as made meaning store (λ reading. read_value reading) (λ reading. act reading p) (λ reading s. set_at reading how site n (slice_get s.heap site.object.0) s) w after result
      (λ reading agrees told turns.
      let s = state_of reading w told turns in
      let q = read_object reading p in
      let found : slice_get s.heap site.object.0 ≡ Some q = slice_get-map (read_object reading) w.heap site.object.0 ∙ ap (option_map (read_object reading)) there in
      ap (λ x. set_at reading how site n x s) found
      ∙ ap (λ (x : Option Property). to reading p (behind_length x (number_definition how n)) s)
      (ap property_in (read_own reading length_key p.rows) ∙ property_read reading (own length_key p.rows) ∙ ap₂ (λ (k : List ℕ) (x : Option (Object T)). option_map (λ s. erased_slot s) (own_in k x)) (sym is) (sym there))
      ∙ same p there reading agrees s)
      (acts p there))

  old_read : (p : Object T) → slice_get w.heap site.object.0 ≡ Some p → (reading : T → Label) → own length_key (read_object reading p).rows ≡ option_map (read_slot reading) old
  old_read p there reading = read_own reading length_key p.rows ∙ ap₂ (λ (k : List ℕ) (x : Option (Object T)). option_map (read_slot reading) (own_in k x)) (sym is) (sym there)

  pub sets_refused : marks_behind how n old ≡ None
      → Acts made meaning store (λ reading. read_value reading) (λ reading. throw_error {X = Val} kinds.TypeError (union (union (reading site.place) (reading site.given)) (value_label (option_map (read_slot reading) old)))) w after result → SetsAt
  unfolding set_length_to
  sets_refused none acts = at_site (λ reading p. throw_error {X = Val} kinds.TypeError (union (union (reading site.place) (reading site.given)) (value_label (option_map (read_slot reading) old))))
      (λ p there reading agrees s.
      ap (λ (q : Option Property). to reading p q s) (none_of (λ (q : Property). q.marks) behind none)
      ∙ ap (λ (x : Option (Slot Label)). throw_error kinds.TypeError (union (union (reading site.place) (reading site.given)) (value_label x)) s) (old_read p there reading))
      (λ p there. acts)

  -- its attributes first, and then the rest
  abbrev marking : Marks → (T → Label) → L (Unit {0})
  marking marks reading = set_marks_if (defines how) (union (reading site.place) (reading site.given)) marks site.object.0 site.key

  abbrev resting : Object T → (T → Label) → L Val
  resting p reading = shortened (reading site.place) (reading site.given) site.object.0 n (Some (read_object reading p))

  by_marks : (q : Option Property) (marks : Marks) → marks_in q ≡ Some marks → (p : Object T) (reading : T → Label) (s : State) → to reading p q s ≡ (marking marks reading >>= λ u. resting p reading) s
  unfolding set_length_to
  by_marks None marks some p reading s = absurd (none-some marks some)
  by_marks (Some q) marks some p reading s =
      ap₂ (λ (m : Marks) (k : List ℕ). (set_marks_if (defines how) (union (reading site.place) (reading site.given)) m site.object.0 k >>= λ u. resting p reading) s) (same_Some q.marks marks some) (sym is)

  sets_after : (marks : Marks) → marks_behind how n old ≡ Some marks → ((p : Object T) → slice_get w.heap site.object.0 ≡ Some p → Acts made meaning store (λ reading. read_value reading) (λ reading. marking marks reading >>= λ u. resting p reading) w after result) → SetsAt
  sets_after marks some acts = at_site (λ reading p. marking marks reading >>= λ u. resting p reading) (λ p there reading agrees s. by_marks behind marks some p reading s) acts

  pub sets_stopped : (marks : Marks) → marks_behind how n old ≡ Some marks → (r : Result (Unit {0}) (FlowFault T)) (f : FlowFault T) → r ≡ Err f → IsErrAnd result (λ e. e ≡ f)
      → Acts made meaning store (λ reading (u : Unit {0}). u) (λ reading. marking marks reading) w after (went r) → SetsAt
  sets_stopped marks some r f err passes acts = sets_after marks some (λ p there.
      Acts-passes made meaning store (λ reading (u : Unit {0}). u) (λ reading. read_value reading) (λ reading. marking marks reading) (λ reading u. resting p reading) w after f result passes
      (subst (λ (x : Result (Unit {0}) (FlowFault T)). Acts made meaning store (λ reading (u : Unit {0}). u) (λ reading. marking marks reading) w after (went x)) err acts))

  pub sets_on : (room : S → ℕ) (firm : S → Bool) (first : S) → IsKept made meaning room firm first store → (middle : World T) → (marks : Marks) → marks_behind how n old ≡ Some marks → (r : Result (Unit {0}) (FlowFault T)) → r ≡ Ok tt
      → Acts made meaning first (λ reading (u : Unit {0}). u) (λ reading. marking marks reading) w middle (went r) → SameOutline made meaning first site.object.0 w.heap middle.heap
      → Acts made meaning store (λ reading. read_value reading) (λ reading s. shortened (reading site.place) (reading site.given) site.object.0 n (slice_get s.heap site.object.0) s) middle after result → SetsAt
  sets_on room firm first kept middle marks some r ok acts same shortens = sets_after marks some (λ p there.
      Acts-then made meaning room firm first store kept (λ reading (u : Unit {0}). u) (λ reading. read_value reading) (λ reading. marking marks reading) (λ reading u. resting p reading) w middle after tt result
      (subst (λ (x : Result (Unit {0}) (FlowFault T)). Acts made meaning first (λ reading (u : Unit {0}). u) (λ reading. marking marks reading) w middle (went x)) ok acts)
      (Acts-as made meaning store (λ reading. read_value reading) (λ reading s. shortened (reading site.place) (reading site.given) site.object.0 n (slice_get s.heap site.object.0) s) (λ reading. resting p reading) middle after result
      (λ reading agrees told turns.
      let s = state_of reading middle told turns in
      let found : slice_get (read_heap reading w.heap) site.object.0 ≡ Some (read_object reading p) = slice_get-map (read_object reading) w.heap site.object.0 ∙ ap (option_map (read_object reading)) there in
      ap (λ (e : Option (ℕ × Label)). shortened_by (reading site.place) (reading site.given) site.object.0 n e s) (ap outline (sym found) ∙ sym (same.is reading (IsReading-earlier made meaning room firm first store reading kept agrees))))
      shortens))

-- ---- the deletions, and what comes behind them

rows_same : {T : Type 0} (p : Option (Object T)) → rows_in p ≡ formed.rows_in p
rows_same None = refl
rows_same (Some p) = refl

module _ {S T : Type 0} (made : S → T → Type 0) (meaning : S → T → Label) (store : S) (w after : World T) (n o : ℕ) (place given : T) (result : Result (machine.Outcome (Labelled T) T) (FlowFault T)) where
  abbrev Shortens : Type 0
  Shortens = Acts made meaning store (λ reading. read_value reading) (λ reading s. shortened (reading place) (reading given) o n (slice_get s.heap o) s) w after result

  module _ (shape : Shape T) (has : IsShape (slice_get w.heap o) shape) (label all : T) (labelled : Means made meaning store label (λ reading. union (reading given) (reading shape.structure))) (joined : Means made meaning store all (λ reading. union (reading place) (reading label))) where
    abbrev downs : (T → Label) → L tracked.Cut
    downs reading = deleted_within (length (rows_in (slice_get w.heap o))) (reading all) o n bottom

    abbrev cuts : (T → Label) → tracked.Cut → L Val
    cuts reading = cut_length (reading place) (reading label) o n

    shortens_as : Acts made meaning store (λ reading. read_value reading) (λ reading. downs reading >>= cuts reading) w after result → Shortens
    shortens_as acts =
        let there = shape_there w.heap o shape has in
        let p = there.object in
        Acts-as made meaning store (λ reading. read_value reading) (λ reading. downs reading >>= cuts reading) (λ reading s. shortened (reading place) (reading given) o n (slice_get s.heap o) s) w after result
        (λ reading agrees told turns.
        let s = state_of reading w told turns in
        let found : slice_get s.heap o ≡ Some (read_object reading p) = slice_get-map (read_object reading) w.heap o ∙ ap (option_map (read_object reading)) there.here in
        ap (λ x. shortened (reading place) (reading given) o n x s) found
        ∙ ap (λ (k : ℕ). shortened_by (reading place) (reading given) o n (Some (k, reading p.structure)) s) (length-map p.rows (λ r. (r.0, read_slot reading r.1)) ∙ ap (λ (x : Option (Object T)). length (rows_in x)) (sym there.here))
        ∙ ap (λ (l : Label). (deleted_within (length (rows_in (slice_get w.heap o))) (union (reading place) l) o n bottom >>= cut_length (reading place) l o n) s) (ap (λ (q : Shape T). union (reading given) (reading q.structure)) (sym there.is) ∙ sym (labelled.is reading agrees))
        ∙ ap (λ (l : Label). (deleted_within (length (rows_in (slice_get w.heap o))) l o n bottom >>= cut_length (reading place) (reading label) o n) s) (sym (joined.is reading agrees)))
        acts

    pub shortens_stopped : (r : Result (Cut T) (FlowFault T)) (f : FlowFault T) → r ≡ Err f → IsErrAnd result (λ e. e ≡ f) → Acts made meaning store (λ reading. read_cut reading) downs w after (went r) → Shortens
    shortens_stopped r f err passes acts = shortens_as
        (Acts-passes made meaning store (λ reading. read_cut reading) (λ reading. read_value reading) downs cuts w after f result passes
        (subst (λ (x : Result (Cut T) (FlowFault T)). Acts made meaning store (λ reading. read_cut reading) downs w after (went x)) err acts))

    pub shortens_on : (room : S → ℕ) (firm : S → Bool) (first : S) → IsKept made meaning room firm first store → (middle : World T) (r : Result (Cut T) (FlowFault T)) (cut : Cut T) → r ≡ Ok cut
        → Acts made meaning first (λ reading. read_cut reading) downs w middle (went r) → Acts made meaning store (λ reading. read_value reading) (λ reading. cuts reading (read_cut reading cut)) middle after result → Shortens
    shortens_on room firm first kept middle r cut ok acts rest = shortens_as
        (Acts-then made meaning room firm first store kept (λ reading. read_cut reading) (λ reading. read_value reading) downs cuts w middle after cut result
        (subst (λ (x : Result (Cut T) (FlowFault T)). Acts made meaning first (λ reading. read_cut reading) downs w middle (went x)) ok acts) rest)

-- ---- behind the deletions

module _ {S T : Type 0} (made : S → T → Type 0) (meaning : S → T → Label) (store : S) (w after : World T) (n o : ℕ) (key : List ℕ) (is : key ≡ length_key) (place label : T) (cut : Cut T) (result : Result (machine.Outcome (Labelled T) T) (FlowFault T)) where
  abbrev Gives : Type 0
  Gives = Acts made meaning store (λ reading. read_value reading) (λ reading. cut_length (reading place) (reading label) o n (read_cut reading cut)) w after result

  module _ (depends : T) (body : Body) (m : ℕ) (joined : Means made meaning store depends (λ reading. union (reading label) (reading cut.tested))) (bodied : body ≡ length_body m) (counted : m ≡ length_behind n cut.stays) where
    abbrev sets_body : (T → Label) → L (Unit {0})
    sets_body reading = body_set reading (reading place) (Some (record { body = body; label = depends })) o key

    abbrev ends_at : (T → Label) → L Val
    ends_at reading = ended_at cut.stays (reading place) (union (reading place) (reading depends))

    gives_as : Acts made meaning store (λ reading. read_value reading) (λ reading. sets_body reading >>= λ u. ends_at reading) w after result → Gives
    unfolding cut_length body_set
    gives_as acts =
        Acts-as made meaning store (λ reading. read_value reading) (λ reading. sets_body reading >>= λ u. ends_at reading) (λ reading. cut_length (reading place) (reading label) o n (read_cut reading cut)) w after result
        (λ reading agrees told turns.
        let s = state_of reading w told turns in
        ap (λ (l : Label). (set_body_if true (reading place) (length_body (length_behind n cut.stays)) l o length_key >>= λ u. ended_at cut.stays (reading place) (union (reading place) l)) s) (sym (joined.is reading agrees))
        ∙ ap₂ (λ (b : Body) (k : List ℕ). (set_body_if true (reading place) b (reading depends) o k >>= λ u. ends_at reading) s) (ap length_body (sym counted) ∙ sym bodied) (sym is))
        acts

    pub gives_stopped : (r : Result (Unit {0}) (FlowFault T)) (f : FlowFault T) → r ≡ Err f → IsErrAnd result (λ e. e ≡ f) → Acts made meaning store (λ reading (u : Unit {0}). u) sets_body w after (went r) → Gives
    gives_stopped r f err passes acts = gives_as
        (Acts-passes made meaning store (λ reading (u : Unit {0}). u) (λ reading. read_value reading) sets_body (λ reading u. ends_at reading) w after f result passes
        (subst (λ (x : Result (Unit {0}) (FlowFault T)). Acts made meaning store (λ reading (u : Unit {0}). u) sets_body w after (went x)) err acts))

    pub gives_on : (room : S → ℕ) (firm : S → Bool) (first : S) → IsKept made meaning room firm first store → (middle : World T) (r : Result (Unit {0}) (FlowFault T)) → r ≡ Ok tt
        → Acts made meaning first (λ reading (u : Unit {0}). u) sets_body w middle (went r) → Acts made meaning store (λ reading. read_value reading) ends_at middle after result → Gives
    gives_on room firm first kept middle r ok acts rest = gives_as
        (Acts-then made meaning room firm first store kept (λ reading (u : Unit {0}). u) (λ reading. read_value reading) sets_body (λ reading u. ends_at reading) w middle after tt result
        (subst (λ (x : Result (Unit {0}) (FlowFault T)). Acts made meaning first (λ reading (u : Unit {0}). u) sets_body w middle (went x)) ok acts) rest)

module _ {S T : Type 0} (made : S → T → Type 0) (meaning : S → T → Label) (store : S) (w : World T) (place label : T) (stays : Option ℕ) where
  pub ends_well : (v : Labelled T) → v ≡ nothing place → stays ≡ None → Acts made meaning store (λ reading. read_value reading) (λ reading. ended_at stays (reading place) (union (reading place) (reading label))) w w (Ok (outcome.Goes v))
  unfolding ended_at
  ends_well v is none = record {
    says = λ reading agrees told turns.
        let s = state_of reading w told turns in
        ap (λ (x : Option ℕ). ended_at x (reading place) (union (reading place) (reading label)) s) none ∙ ap (λ (u : Labelled T). Goes (read_value reading u) s) (sym is);
  }

  pub ends_thrown : (i : ℕ) → stays ≡ Some i → (after : World T) (result : Result (machine.Outcome (Labelled T) T) (FlowFault T))
      → Acts made meaning store (λ reading. read_value reading) (λ reading. throw_error {X = Val} kinds.TypeError (union (reading place) (reading label))) w after result
      → Acts made meaning store (λ reading. read_value reading) (λ reading. ended_at stays (reading place) (union (reading place) (reading label))) w after result
  unfolding ended_at
  ends_thrown i some after result acts =
      Acts-as made meaning store (λ reading. read_value reading) (λ reading. throw_error {X = Val} kinds.TypeError (union (reading place) (reading label))) (λ reading. ended_at stays (reading place) (union (reading place) (reading label))) w after result
      (λ reading agrees told turns. ap (λ (x : Option ℕ). ended_at x (reading place) (union (reading place) (reading label)) (state_of reading w told turns)) some)
      acts

-- ---- the highest element

module _ {X : Type 0} where
  -- it is that of the first row, or of those behind
  abbrev From : Option ℕ → X → Option (ℕ × X) → ℕ × X → Type 0
  From o s rest e = ((o ≡ Some e.0) × (s ≡ e.1)) ⊎ (rest ≡ Some e)

  from_here : (k : ℕ) (s : X) (rest : Option (ℕ × X)) (e : ℕ × X) → Some (k, s) ≡ Some e → From (Some k) s rest e
  from_here k s rest e is = let same : (k, s) ≡ e = same_Some (k, s) e is in inl (ap (λ (x : ℕ × X). Some x.0) same, ap (λ (x : ℕ × X). x.1) same)

  from_two : (k : ℕ) (s : X) (f e : ℕ × X) (test : Bool) → (if test then Some (k, s) else Some f) ≡ Some e → From (Some k) s (Some f) e
  from_two k s f e true is = from_here k s (Some f) e is
  from_two k s f e false is = inr is

  from_rest : (k : ℕ) (s : X) (rest : Option (ℕ × X)) (e : ℕ × X) → higher_of k s rest ≡ Some e → From (Some k) s rest e
  from_rest k s None e is = from_here k s None e is
  from_rest k s (Some f) e is = from_two k s f e (nat_lt f.0 k) is

  from_test : (k : ℕ) (s : X) (rest : Option (ℕ × X)) (e : ℕ × X) (test : Bool) → (if test then higher_of k s rest else rest) ≡ Some e → From (Some k) s rest e
  from_test k s rest e true is = from_rest k s rest e is
  from_test k s rest e false is = inr is

  from_row : (n : ℕ) (o : Option ℕ) (s : X) (rest : Option (ℕ × X)) (e : ℕ × X) → higher_if n o s rest ≡ Some e → From o s rest e
  from_row n None s rest e is = inr is
  from_row n (Some k) s rest e is = from_test k s rest e (nat_le n k) is

  some_behind : (test : Bool) (s : X) (rest : Option X) → IsSome rest → IsSome (if test then Some s else rest)
  some_behind true s rest some = refl
  some_behind false s rest some = some

  -- it is there, and has a successor
  pub highest_there : (n : ℕ) (rows : Rows X) (e : ℕ × X) → highest n rows ≡ Some e → (e.0 < 4294967295) × IsSome (own (element_key e.0) rows)
  highest_there n [] e is = absurd (none-some e is)
  highest_there n (r ∷ rows) e is = elim (from_row n (index_of r.0) r.1 (highest n rows) e is) as (λ _. (e.0 < 4294967295) × IsSome (own (element_key e.0) (r ∷ rows))) [
    | inl here ↦
        let index = index_is r.0 e.0 here.0 in
        (index.below, subst (λ (b : Bool). IsSome (if b then Some r.1 else own (element_key e.0) rows)) (sym ((bytes_decides r.0 (element_key e.0)).1 index.text)) refl)
    | inr behind ↦ let rest = highest_there n rows e behind in (rest.0, some_behind (same_name r.0 (element_key e.0)) r.1 (own (element_key e.0) rows) rest.1)
  ]

  -- what holds of each row holds of it
  highest_holds : (P : X → Type 0) (n : ℕ) (rows : Rows X) (e : ℕ × X) → All (λ r. P r.1) rows → highest n rows ≡ Some e → P e.1
  highest_holds P n [] e all is = absurd (none-some e is)
  highest_holds P n (r ∷ rows) e all is = elim (from_row n (index_of r.0) r.1 (highest n rows) e is) as (λ _. P e.1) [
    | inl here ↦ subst P here.1 (all zero r (omega arith))
    | inr behind ↦ highest_holds P n rows e (λ k d lt. all (suc k) d (omega (arith, lt))) behind
  ]

module _ {T : Type 0} (reading : T → Label) where
  abbrev read_element : ℕ × Slot T → ℕ × Slot Label
  read_element e = (e.0, read_slot reading e.1)

  read_test : (i : ℕ) (s : Slot T) (f : ℕ × Slot T) (test : Bool) → (if test then Some (i, read_slot reading s) else Some (read_element f)) ≡ option_map read_element (if test then Some (i, s) else Some f)
  read_test i s f true = refl
  read_test i s f false = refl

  read_higher : (i : ℕ) (s : Slot T) (rest : Option (ℕ × Slot T)) → higher_of i (read_slot reading s) (option_map read_element rest) ≡ option_map read_element (higher_of i s rest)
  read_higher i s None = refl
  read_higher i s (Some f) = read_test i s f (nat_lt f.0 i)

  read_row : (i : ℕ) (s : Slot T) (rest : Option (ℕ × Slot T)) (test : Bool) → (if test then higher_of i (read_slot reading s) (option_map read_element rest) else option_map read_element rest) ≡ option_map read_element (if test then higher_of i s rest else rest)
  read_row i s rest true = read_higher i s rest
  read_row i s rest false = refl

  read_if : (n : ℕ) (o : Option ℕ) (s : Slot T) (rest : Option (ℕ × Slot T)) → higher_if n o (read_slot reading s) (option_map read_element rest) ≡ option_map read_element (higher_if n o s rest)
  read_if n None s rest = refl
  read_if n (Some i) s rest = read_row i s rest (nat_le n i)

  highest_rows : (n : ℕ) (rows : Rows (Slot T)) → highest n (read_rows reading rows) ≡ option_map read_element (highest n rows)
  highest_rows n [] = refl
  highest_rows n (r ∷ rows) = ap (higher_if n (index_of r.0) (read_slot reading r.1)) (highest_rows n rows) ∙ read_if n (index_of r.0) r.1 (highest n rows)

  highest_object : (n : ℕ) (p : Option (Object T)) → highest n (rows_in (option_map (read_object reading) p)) ≡ option_map read_element (highest n (formed.rows_in p))
  highest_object n None = refl
  highest_object n (Some p) = highest_rows n p.rows

  highest_read : (n : ℕ) (heap : List (Object T)) (o : ℕ) → highest n (rows_in (slice_get (read_heap reading heap) o)) ≡ option_map read_element (highest n (formed.rows_in (slice_get heap o)))
  highest_read n heap o = ap (λ p. highest n (rows_in p)) (slice_get-map (read_object reading) heap o) ∙ highest_object n (slice_get heap o)

-- it stands in the heap
pub element_there : {T : Type 0} (n : ℕ) (heap : List (Object T)) (o : ℕ) (e : ℕ × Slot T) → highest n (formed.rows_in (slice_get heap o)) ≡ Some e → (e.0 < 4294967295) × IsSome (own_in (element_key e.0) (slice_get heap o))
element_there {T = T} n heap o e is = by (slice_get heap o) is
  where
    by : (p : Option (Object T)) → highest n (formed.rows_in p) ≡ Some e → (e.0 < 4294967295) × IsSome (own_in (element_key e.0) p)
    by None none = absurd (none-some e none)
    by (Some p) some = highest_there n p.rows e some

-- with labels of a store
pub element_has : {T : Type 0} (made : T → Type 0) (n : ℕ) (heap : List (Object T)) (o : ℕ) (e : ℕ × Slot T) → HasHeap made heap → highest n (formed.rows_in (slice_get heap o)) ≡ Some e → HasSlot made e.1
element_has {T = T} made n heap o e has is = by (slice_get heap o) refl is
  where
    by : (p : Option (Object T)) → slice_get heap o ≡ p → highest n (formed.rows_in p) ≡ Some e → HasSlot made e.1
    by None there none = absurd (none-some e none)
    by (Some p) there some = highest_holds (HasSlot made) n p.rows e (object_has made heap o p has there).rows some

-- ---- one deletion

module _ {S T : Type 0} (made : S → T → Type 0) (meaning : S → T → Label) (store : S) (w after : World T) (o n : ℕ) (place tested : T) (result : Result (machine.Outcome (Deletion T) T) (FlowFault T)) where
  abbrev Deletes : Type 0
  Deletes = Acts made meaning store (λ reading. read_deletion reading) (λ reading. one_deletion (reading place) o n (reading tested)) w after result

  deletes_as : (x : Option (ℕ × Slot T)) → highest n (formed.rows_in (slice_get w.heap o)) ≡ x → (act : (T → Label) → L Deleted)
      → ((reading : T → Label) → IsReading made meaning store reading → (s : State) → deletion_at (option_map (read_element reading) x) (reading place) o (reading tested) s ≡ act reading s)
      → Acts made meaning store (λ reading. read_deletion reading) act w after result → Deletes
  unfolding one_deletion
  deletes_as x is act same acts =
      Acts-as made meaning store (λ reading. read_deletion reading) act (λ reading. one_deletion (reading place) o n (reading tested)) w after result
      (λ reading agrees told turns.
      let s = state_of reading w told turns in
      ap (λ (e : Option (ℕ × Slot Label)). deletion_at e (reading place) o (reading tested) s) (highest_read reading n w.heap o ∙ ap (option_map (read_element reading)) is)
      ∙ same reading agrees s)
      acts

  pub deletes_none : highest n (formed.rows_in (slice_get w.heap o)) ≡ None → Acts made meaning store (λ reading. read_deletion reading) (λ reading. ret (ended (record { stays = None; tested = reading tested }))) w after result → Deletes
  deletes_none is acts = deletes_as None is (λ reading. ret (ended (record { stays = None; tested = reading tested }))) (λ reading agrees s. refl) acts

  module _ (i : ℕ) (slot : Slot T) (is : highest n (formed.rows_in (slice_get w.heap o)) ≡ Some (i, slot)) (joined : T) (joins : Means made meaning store joined (λ reading. union (reading tested) (reading slot.existence))) where
    pub deletes_stays : slot.marks.configurable ≡ false → Acts made meaning store (λ reading. read_deletion reading) (λ reading. ret (ended (record { stays = Some i; tested = reading joined }))) w after result → Deletes
    deletes_stays test acts = deletes_as (Some (i, slot)) is (λ reading. ret (ended (record { stays = Some i; tested = reading joined })))
        (λ reading agrees s. ap₂ (λ (b : Bool) (l : Label). deletion_if b (reading place) o i l s) test (sym (joins.is reading agrees)))
        acts

    abbrev deletes : (T → Label) → L (Unit {0})
    deletes reading = delete_element (union (reading place) (reading joined)) o i

    abbrev goes_further : (T → Label) → Unit {0} → L Deleted
    goes_further reading u = ret (further (reading joined))

    deletes_then : slot.marks.configurable ≡ true → Acts made meaning store (λ reading. read_deletion reading) (λ reading. deletes reading >>= goes_further reading) w after result → Deletes
    deletes_then test acts = deletes_as (Some (i, slot)) is (λ reading. deletes reading >>= goes_further reading)
        (λ reading agrees s. ap₂ (λ (b : Bool) (l : Label). deletion_if b (reading place) o i l s) test (sym (joins.is reading agrees)))
        acts

    pub deletes_stopped : slot.marks.configurable ≡ true → (r : Result (Unit {0}) (FlowFault T)) (f : FlowFault T) → r ≡ Err f → IsErrAnd result (λ e. e ≡ f) → Acts made meaning store (λ reading (u : Unit {0}). u) deletes w after (went r) → Deletes
    deletes_stopped test r f err passes acts = deletes_then test
        (Acts-passes made meaning store (λ reading (u : Unit {0}). u) (λ reading. read_deletion reading) deletes goes_further w after f result passes
        (subst (λ (x : Result (Unit {0}) (FlowFault T)). Acts made meaning store (λ reading (u : Unit {0}). u) deletes w after (went x)) err acts))

module _ {S T : Type 0} (made : S → T → Type 0) (meaning : S → T → Label) (store : S) (w after : World T) (o n : ℕ) (place tested : T) (i : ℕ) (slot : Slot T) (is : highest n (formed.rows_in (slice_get w.heap o)) ≡ Some (i, slot)) (joined : T) where
  pub deletes_on : Means made meaning store joined (λ reading. union (reading tested) (reading slot.existence)) → slot.marks.configurable ≡ true → (r : Result (Unit {0}) (FlowFault T)) → r ≡ Ok tt
      → Acts made meaning store (λ reading (u : Unit {0}). u) (λ reading. delete_element (union (reading place) (reading joined)) o i) w after (went r)
      → Deletes made meaning store w after o n place tested (Ok (outcome.Goes (deletion.Further joined)))
  deletes_on joins test r ok acts = deletes_then made meaning store w after o n place tested (Ok (outcome.Goes (deletion.Further joined))) i slot is joined joins test (record {
    says = λ reading agrees told turns.
        ap (λ (m : Outcome Halt Jump (Unit {0}) State). and_then m (λ u. ret (further (reading joined))))
        ((subst (λ (x : Result (Unit {0}) (FlowFault T)). Acts made meaning store (λ reading (u : Unit {0}). u) (λ reading. delete_element (union (reading place) (reading joined)) o i) w after (went x)) ok acts).says reading agrees told turns);
  })

-- an element that is deleted
pub removes : {S T : Type 0} (made : S → T → Type 0) (meaning : S → T → Label) (store : S) (w after : World T) (o i : ℕ) (key : List ℕ) (place tested depends need : T) (result : Result (machine.Outcome (Unit {0}) T) (FlowFault T)) → key ≡ element_key i → Means made meaning store depends (λ reading. union (reading place) (reading tested))
    → Means made meaning store need (λ reading. union (context (map (seen_frame reading) w.frames.frames)) (reading depends))
    → Acts made meaning store (λ reading (u : Unit {0}). u) (λ reading s. acted tt (heap_acts.remove o key (reading need) s.heap) s) w after result
    → Acts made meaning store (λ reading (u : Unit {0}). u) (λ reading. delete_element (union (reading place) (reading tested)) o i) w after result
unfolding delete_element
removes made meaning store w after o i key place tested depends need result is joined needs acts =
    Acts-as made meaning store (λ reading (u : Unit {0}). u) (λ reading s. acted tt (heap_acts.remove o key (reading need) s.heap) s) (λ reading. delete_element (union (reading place) (reading tested)) o i) w after result
    (λ reading agrees told turns.
    let s = state_of reading w told turns in
    ap₂ (λ (k : List ℕ) (l : Label). acted tt (heap_acts.remove o k l s.heap) s) (sym is) (ap (union (context s.frames)) (sym (joined.is reading agrees)) ∙ sym (needs.is reading agrees)))
    acts

-- ---- one deletion after the other

abbrev deleted_behind : (Label → L tracked.Cut) → Deleted → L tracked.Cut
deleted_behind next (ended cut) = ret cut
deleted_behind next (further tested) = next tested

and_further : (m : Outcome Halt Jump (Unit {0}) State) (next : Label → L tracked.Cut) (tested : Label) → and_then m (λ u. next tested) ≡ and_then (and_then m (λ u. ret (further tested))) (deleted_behind next)
and_further (Goes u s) next tested = refl
and_further (Jumps j s) next tested = refl
and_further (Ends halt s) next tested = refl

one_test : (test : Bool) (next : Label → L tracked.Cut) (label : Label) (o i : ℕ) (tested : Label) (s : State) → deleted_if test next label o i tested s ≡ and_then (deletion_if test label o i tested s) (deleted_behind next)
unfolding deleted_if
one_test true next label o i tested s = and_further (delete_element (union label tested) o i s) next tested
one_test false next label o i tested s = refl

one_at : (x : Option (ℕ × Slot Label)) (next : Label → L tracked.Cut) (label : Label) (o : ℕ) (tested : Label) (s : State) → deleted_at x next label o tested s ≡ and_then (deletion_at x label o tested s) (deleted_behind next)
unfolding deleted_at
one_at None next label o tested s = refl
one_at (Some e) next label o tested s = one_test e.1.marks.configurable next label o e.0 (union tested e.1.existence) s

one_more : (rest : ℕ) (label : Label) (o n : ℕ) (tested : Label) (s : State) → deleted_within (suc rest) label o n tested s ≡ and_then (one_deletion label o n tested s) (deleted_behind (deleted_within rest label o n))
unfolding deleted_within one_deletion
one_more rest label o n tested s = one_at (highest n (rows_in (slice_get s.heap o))) (deleted_within rest label o n) label o tested s

module _ {S T : Type 0} (made : S → T → Type 0) (meaning : S → T → Label) (place : T) (o n most : ℕ) (first : World T) where
  abbrev pub whole : (T → Label) → L tracked.Cut
  whole reading = deleted_within most (reading place) o n bottom

  -- so many deletions are left, behind these that were tested
  pub record Downs (store : S) (w : World T) (rest : ℕ) (tested : T) : Type 0 where
    pub says : (reading : T → Label) → IsReading made meaning store reading → (told : List LabelledLine) (turns : ℕ) → whole reading (state_of reading first told turns) ≡ deleted_within rest (reading place) o n (reading tested) (state_of reading w told turns)

  pub downs_first : (store : S) (rest : ℕ) (tested : T) → rest ≡ most → made store tested → meaning store tested ≡ bottom → Downs store first rest tested
  downs_first store rest tested is m empty = record {
    says = λ reading agrees told turns. ap₂ (λ (k : ℕ) (l : Label). deleted_within k (reading place) o n l (state_of reading first told turns)) (sym is) (sym (agrees.agrees tested m ∙ empty));
  }

  module _ (room : S → ℕ) (firm : S → Bool) (old new : S) (kept : IsKept made meaning room firm old new) (w after : World T) (rest left : ℕ) (is : rest ≡ suc left) (tested : T) (downs : Downs old w rest tested) (r : Result (Deletion T) (FlowFault T))
      (acts : Acts made meaning new (λ reading. read_deletion reading) (λ reading. one_deletion (reading place) o n (reading tested)) w after (went r)) where
    one_behind : (reading : T → Label) → IsReading made meaning new reading → (told : List LabelledLine) (turns : ℕ)
        → whole reading (state_of reading first told turns) ≡ and_then (one_deletion (reading place) o n (reading tested) (state_of reading w told turns)) (deleted_behind (deleted_within left (reading place) o n))
    one_behind reading agrees told turns =
        let s = state_of reading w told turns in
        downs.says reading (IsReading-earlier made meaning room firm old new reading kept agrees) told turns
        ∙ ap (λ (k : ℕ). deleted_within k (reading place) o n (reading tested) s) is
        ∙ one_more left (reading place) o n (reading tested) s

    abbrev Deleting : Result (Deletion T) (FlowFault T) → Type 0
    Deleting x = Acts made meaning new (λ reading. read_deletion reading) (λ reading. one_deletion (reading place) o n (reading tested)) w after (went x)

    pub downs_on : (t : T) → r ≡ Ok (deletion.Further t) → Downs new after left t
    downs_on t ok = record {
      says = λ reading agrees told turns.
          one_behind reading agrees told turns
          ∙ ap (λ (m : Outcome Halt Jump Deleted State). and_then m (deleted_behind (deleted_within left (reading place) o n))) ((subst Deleting ok acts).says reading agrees told turns);
    }

    pub downs_ended : (cut : Cut T) → r ≡ Ok (deletion.Ended cut) → Acts made meaning new (λ reading. read_cut reading) whole first after (Ok (outcome.Goes cut))
    downs_ended cut ok = record {
      says = λ reading agrees told turns.
          one_behind reading agrees told turns
          ∙ ap (λ (m : Outcome Halt Jump Deleted State). and_then m (deleted_behind (deleted_within left (reading place) o n))) ((subst Deleting ok acts).says reading agrees told turns);
    }

    pub downs_stopped : (f : FlowFault T) → r ≡ Err f → (result : Result (machine.Outcome (Cut T) T) (FlowFault T)) → IsErrAnd result (λ e. e ≡ f) → Acts made meaning new (λ reading. read_cut reading) whole first after result
    downs_stopped f err result passes =
        let told_all = Acts-passes made meaning new (λ reading. read_deletion reading) (λ reading. read_cut reading) (λ reading. one_deletion (reading place) o n (reading tested)) (λ reading. deleted_behind (deleted_within left (reading place) o n)) w after f result passes (subst Deleting err acts) in
        record {
          says = λ reading agrees told turns.
              subst (λ (m : Outcome Halt Jump tracked.Cut State). Says (read_cut reading) reading m (state_of reading after told turns) result) (sym (one_behind reading agrees told turns)) (told_all.says reading agrees told turns);
        }

  pub downs_done : (store : S) (w : World T) (rest : ℕ) (tested : T) → rest ≡ 0 → Downs store w rest tested → Acts made meaning store (λ reading. read_cut reading) whole first w (Ok (outcome.Goes (record { stays = None; tested = tested })))
  unfolding deleted_within
  downs_done store w rest tested none downs = record {
    says = λ reading agrees told turns. downs.says reading agrees told turns ∙ ap (λ (k : ℕ). deleted_within k (reading place) o n (reading tested) (state_of reading w told turns)) none;
  }

  -- there are as many as rows
  pub whole_rows : (store : S) (after : World T) (result : Result (machine.Outcome (Cut T) T) (FlowFault T)) → most ≡ length (formed.rows_in (slice_get first.heap o)) → Acts made meaning store (λ reading. read_cut reading) whole first after result
      → Acts made meaning store (λ reading. read_cut reading) (λ reading. deleted_within (length (rows_in (slice_get first.heap o))) (reading place) o n bottom) first after result
  whole_rows store after result counted acts =
      subst (λ (m : ℕ). Acts made meaning store (λ reading. read_cut reading) (λ reading. deleted_within m (reading place) o n bottom) first after result) (counted ∙ sym (ap (λ (rows : Rows (Slot T)). length rows) (rows_same (slice_get first.heap o)))) acts
