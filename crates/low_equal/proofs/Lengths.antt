-- The `length` of an array is given a number: where the cause can't be seen, and in two runs. Attributes, deletions and the number follow each other.
use Rattle.std.proofs.Common.{◌≡◌, ℕ, zero, suc, List, length, Bool, true, false, nat_lt, nat_le, ⊎_elim, Option, Some, None, slice_get, Ok, Err, refl, sym, ◌∙◌, ap, ap₂, subst, true≢false, if◌then◌else◌, pos}
use Rattle.std.proofs.lemmas.Option.{none-some, same_Some}
use Rattle.origin_labels.specs.Label.{Label, bottom, union}
use Rattle.flow_policy.specs.Policies.{Tables}
use Rattle.flow_frames.specs.Frames.{context, Frame}
use Rattle.flow_frames.specs.declared.faults.Rule.TheVariants.{W2, W6}
use Rattle.native_protocol.specs.declared.request.ErrorKind.TheVariants as kinds
use Rattle.native_protocol.specs.declared.request.GivenMarks.{GivenMarks}
use Rattle.js_number.specs.declared.num.Num.TheVariants.{Int}
use Rattle.js_number.specs.declared.primitive.Primitive.TheVariants.{Num}
use Rattle.js_values.specs.declared.value.Value.{Value}
use Rattle.js_values.specs.declared.value.Value.TheVariants as value
use Rattle.js_values.specs.declared.property.Marks.{Marks}
use Rattle.js_values.specs.declared.property.Body.{Body}
use Rattle.js_values.specs.declared.property.Body.TheVariants.{Data, Accessor}
use Rattle.js_values.specs.declared.property.Slot.{Slot}
use Rattle.js_values.specs.Numerals.{index_of}
use Rattle.js_values.specs.Arrays.{length_key, length_body, element_key, highest, higher_of, higher_if}
use Rattle.js_values.specs.Objects.{Rows, Property, Object, own, changed, without}
use Rattle.object_heap.specs.Acts.{Acted, Act, act_on, put_back, on_object, with_rows, with_marks, existence_have, set_own_attributes, remove_own, remove, set_attributes}
use Rattle.prototype_walk.specs.Plans.{may_add, absence_label}
use Rattle.prototype_walk.specs.KeyLists.{rows_in}
use Rattle.es_meaning.specs.Outcomes.{Outcome, Goes, Jumps, Ends, and_then, ◌>>=◌}
use Rattle.es_meaning.specs.Definitions.{Definition, a_value as given_value, is_accessor, may_define_over, defined_over}
use Rattle.es_meaning.specs.Objects.{length_behind}
use Rattle.es_meaning.specs.Requested.{defined_if, behind_length}
use Rattle.flow_meaning.specs.Erased.{erased_slot}
use Rattle.flow_meaning.specs.Requested.{property_in, definition_test, value_label}
use Rattle.flow_meaning.specs.Scopes.{Val, Halt, State, Jump, L}
use Rattle.flow_meaning.specs.Tracked.{throw_error, acted, set_marks, set_marks_if, set_body_if, Cut, delete_element, deleted_if, deleted_at, deleted_within, ended_at, cut_length, set_length_to, set_length_in, set_length}
use Rattle.low_equal.specs.Observed.{Sees, Hides, IsSeen, IsHidden, Front}
use Rattle.low_equal.specs.LowEqual.{Pairing, Extends, Alike, seen, hidden, SameValue, primitives, Agree, BodiesAgree, data_bodies, accessors, SlotsAgree, RowsAgree, no_rows, row, ShapesAgree, seen_shape, hidden_shape, ObjectsAgree, LowEqual}
use Rattle.low_equal.specs.Runs.{state_of, Still, Fits, Confined, InStep, go, jump, apart, first_ends, second_ends}
use Rattle.low_equal.proofs.Labels.{not_both, sees_bottom, sees_union, hides_first, hides_second, hidden_part}
use Rattle.low_equal.proofs.Lines.{front_refl, front_trans, lines_sym, lines_trans, lines_front, front_lines, fronts_trans}
use Rattle.low_equal.proofs.States.{same_hidden, same_right, same_context}
use Rattle.low_equal.proofs.Steps.{still_after, fits_more, conf_ret, conf_bind, step_more}
use Rattle.low_equal.proofs.Acts.{conf_throw, thrown_both}
use Rattle.low_equal.proofs.Agreement.{extends_refl, alike_map, alike_join, two}
use Rattle.low_equal.proofs.Rows.{own_absent, absent_altered, own_changed}
use Rattle.low_equal.proofs.HeapActs.{set_here, Becomes, makes, ends}
use Rattle.low_equal.proofs.Changes.{SameKind, both_data, MayTake, kind_stays, makes_change, makes_remove, still_remove, still_set_attributes, still_set_body, level_set_attributes, level_body, level_remove}
use Rattle.low_equal.proofs.Walks.{OwnCase, at_both, at_none, out_of_sight, own_case, OwnSame, names_nothing, names_both}
use Rattle.low_equal.proofs.Plans.{absence_agrees}
use Rattle.low_equal.proofs.Givens.{GivenSame, given_values, marks_behind, refused_alike}
use Rattle.low_equal.proofs.Owns.{both_there}
use Rattle.low_equal.proofs.Defines.{attributes_stop, not_included, mute_stopped_then, test_hidden}
use Rattle.low_equal.proofs.Keys.{element_differs, own_without}
use Rattle.low_equal.proofs.HeapSteps.{still_acted, fits_acted, adds_acted, mute_acted, in_turn_after}
use Rattle.low_equal.proofs.Mute.{Mute, mutes, mute_ends, Mum, HiddenVal, Never, mute_behind, mum_ret, mum_at, mum_bind, mum_throw, same_seen, mute_both, values_apart, stops_first, stops_second}
use Rattle.low_equal.proofs.References.{conf_at, seen_other}

-- ---- one act on an object

heap_or : List (Object Label) → Acted (List (Object Label)) → List (Object Label)
heap_or h (Ok g) = g
heap_or h (Err stop) = h

goes_on : {T : Type 0} → Acted T → Bool
goes_on (Ok g) = true
goes_on (Err stop) = false

-- what holds of the object with a number, if it stands
abbrev pub HoldsAt : List (Object Label) → ℕ → (Object Label → Type 0) → Type 0
HoldsAt h o P = (p : Object Label) → slice_get h o ≡ Some p → P p

object_or : Object Label → Acted (Object Label) → Object Label
object_or p (Ok q) = q
object_or p (Err stop) = p

-- it holds behind an act that makes such an object
holds_behind : (P : Object Label → Type 0) (o : ℕ) (act : Act) (new : Object Label → Object Label) (h g : List (Object Label)) → ((p : Object Label) → Becomes (new p) (act p)) → ((p : Object Label) → P p → P (new p)) → act_on o act h ≡ Ok g → HoldsAt h o P → HoldsAt g o P
unfolding heap_or goes_on
holds_behind P o act new h g b k e holds r there = by_object (slice_get h o) refl e
  where
    by_result : (p : Object Label) → slice_get h o ≡ Some p → {x : Acted (Object Label)} → Becomes (new p) x → put_back h o x ≡ Ok g → P r
    by_result p at (makes {q = q} is) f =
        subst P (sym is ∙ same_Some q r (sym (set_here h o q p at) ∙ ap (λ l. slice_get l o) (ap (heap_or h) f) ∙ there)) (k p (holds p at))
    by_result p at ends f = absurd (true≢false (sym (ap goes_on f)))

    by_object : (z : Option (Object Label)) → slice_get h o ≡ z → on_object z h o act ≡ Ok g → P r
    by_object None at f = absurd (none-some r (sym at ∙ ap (λ l. slice_get l o) (ap (heap_or h) f) ∙ there))
    by_object (Some p) at f = by_result p at (b p) f

-- the `length` of an object is data
pub data IsData : Body → Type 0 where
  is_data : {v : Value} → IsData (Data v)

abbrev pub HasData : Object Label → Type 0
HasData p = (s : Slot Label) → own length_key p.rows ≡ Some s → IsData s.body

data_removed : (i : ℕ) (p : Object Label) → HasData p → HasData (with_rows p (without (element_key i) p.rows))
data_removed i p d s e = d s (sym (own_without (element_key i) length_key (element_differs i) p.rows) ∙ e)

data_marked : (marks : Marks) (p : Object Label) → HasData p → HasData (with_rows p (changed length_key (with_marks marks) p.rows))
data_marked marks p d s e = by_own (own length_key p.rows) refl
  where
    by_own : (x : Option (Slot Label)) → own length_key p.rows ≡ x → IsData s.body
    by_own None f = absurd (none-some s (sym f ∙ sym (ap (own length_key) (absent_altered (λ z. Some (with_marks marks z)) (own_absent length_key p.rows f))) ∙ e))
    by_own (Some t) f = subst (λ (z : Slot Label). IsData z.body) (same_Some (with_marks marks t) s (sym (own_changed length_key (with_marks marks) t p.rows f) ∙ e)) (d t f)

removal_keeps : (o i : ℕ) (need : Label) (h g : List (Object Label)) → remove o (element_key i) need h ≡ Ok g → HoldsAt h o HasData → HoldsAt g o HasData
removal_keeps o i need h g e d = holds_behind HasData o (remove_own (element_key i) need) (λ p. with_rows p (without (element_key i) p.rows)) h g (λ p. (makes_remove (element_key i) need p).becomes) (λ p. data_removed i p) e d

marking_keeps : (o : ℕ) (need : Label) (marks : Marks) (h g : List (Object Label)) → set_attributes o length_key need marks h ≡ Ok g → HoldsAt h o HasData → HoldsAt g o HasData
marking_keeps o need marks h g e d = holds_behind HasData o (set_own_attributes length_key need marks) (λ p. with_rows p (changed length_key (with_marks marks) p.rows)) h g
    (λ p. (makes_change W6 existence_have (with_marks marks) length_key need p).becomes) (λ p. data_marked marks p) e d

-- so it may take a number
may_number : (o : ℕ) (need : Label) (n : ℕ) (h : List (Object Label)) → HoldsAt h o HasData → MayTake h o length_key need (length_body n)
may_number o need n h d p s here named = kind_stays (kinds_data (d p here s named))
  where
    kinds_data : {b : Body} → IsData b → SameKind b (length_body n)
    kinds_data is_data = both_data

-- where a definition of `length` isn't refused it is data
length_data : (old : Option (Slot Label)) (d : Definition) (x : Property) → behind_length (property_in old) d ≡ Some x → (s : Slot Label) → old ≡ Some s → IsData s.body
length_data None d x e s f = absurd (none-some s f)
length_data (Some t) d x e s f = subst (λ (z : Slot Label). IsData z.body) (same_Some t s f) (by_body t.body _ e)
  where
    by_body : (b : Body) (y : Option Property) → (if is_accessor b then None else y) ≡ Some x → IsData b
    by_body (Data v) y g = is_data
    by_body (Accessor get set) y g = absurd (none-some x g)

data_here : (o : ℕ) (p : Object Label) (h : List (Object Label)) → slice_get h o ≡ Some p → HasData p → HoldsAt h o HasData
data_here o p h at d q there = subst HasData (same_Some p q (sym at ∙ there)) d

-- ---- outcomes that go on

-- what holds of each state that such an outcome comes to
abbrev Comes : {X : Type 0} → (State → Type 0) → Outcome Halt Jump X State → Type 0
Comes P (Goes a s) = P s
Comes P (Jumps j s) = Unit {0}
Comes P (Ends halt s) = Unit {0}

comes_then : {X Y : Type 0} (P : State → Type 0) (f : X → L Y) (o : Outcome Halt Jump X State) → Comes P o → ((a : X) (s : State) → P s → Comes P (f a s)) → Comes P (and_then o f)
comes_then P f (Goes a s) c h = h a s c
comes_then P f (Jumps j s) c h = tt
comes_then P f (Ends halt s) c h = tt

abbrev DataIn : ℕ → State → Type 0
DataIn o s = HoldsAt s.heap o HasData

comes_acted : {X : Type 0} (o : ℕ) (x : X) (a : Acted (List (Object Label))) (s : State) → ((g : List (Object Label)) → a ≡ Ok g → HoldsAt g o HasData) → Comes (DataIn o) (acted x a s)
unfolding acted
comes_acted o x (Ok g) s h = h g refl
comes_acted o x (Err stop) s h = tt

-- through attributes and deletions
comes_marked : (label : Label) (marks : Marks) (o : ℕ) (s : State) → DataIn o s → Comes (DataIn o) (set_marks label marks o length_key s)
unfolding set_marks
comes_marked label marks o s d = comes_acted o tt _ s (λ g e. marking_keeps o _ marks s.heap g e d)

comes_marked_if : (b : Bool) (label : Label) (marks : Marks) (o : ℕ) (s : State) → DataIn o s → Comes (DataIn o) (set_marks_if b label marks o length_key s)
comes_marked_if true label marks o s d = comes_marked label marks o s d
comes_marked_if false label marks o s d = d

comes_deleted : (label : Label) (o i : ℕ) (s : State) → DataIn o s → Comes (DataIn o) (delete_element label o i s)
unfolding delete_element
comes_deleted label o i s d = comes_acted o tt _ s (λ g e. removal_keeps o i _ s.heap g e d)

comes_if : (b : Bool) (next : Label → L Cut) (label : Label) (o i : ℕ) (tested : Label) (s : State) → DataIn o s → ((t : Label) (u : State) → DataIn o u → Comes (DataIn o) (next t u)) → Comes (DataIn o) (deleted_if b next label o i tested s)
unfolding deleted_if
comes_if true next label o i tested s d h = comes_then (DataIn o) (λ u. next tested) (delete_element (union label tested) o i s) (comes_deleted (union label tested) o i s d) (λ u t k. h tested t k)
comes_if false next label o i tested s d h = d

comes_at : (e : Option (ℕ × Slot Label)) (next : Label → L Cut) (label : Label) (o : ℕ) (tested : Label) (s : State) → DataIn o s → ((t : Label) (u : State) → DataIn o u → Comes (DataIn o) (next t u)) → Comes (DataIn o) (deleted_at e next label o tested s)
unfolding deleted_at
comes_at None next label o tested s d h = d
comes_at (Some e) next label o tested s d h = comes_if e.1.marks.configurable next label o e.0 _ s d h

comes_within : (k : ℕ) (label : Label) (o n : ℕ) (tested : Label) (s : State) → DataIn o s → Comes (DataIn o) (deleted_within k label o n tested s)
unfolding deleted_within
comes_within zero label o n tested s d = d
comes_within (suc k) label o n tested s d = comes_at (highest n (rows_in (slice_get s.heap o))) (deleted_within k label o n) label o tested s d (λ t u c. comes_within k label o n t u c)

module _ (observer : Label) (tables : Tables) where
  abbrev Hid : Val → Type 0
  Hid v = HiddenVal observer tables v

  -- ---- one run, where the context is hidden

  still_with : {X Y : Type 0} (P : State → Type 0) (f : X → L Y) (s : State) (o : Outcome Halt Jump X State) → IsHidden observer s → Still observer tables s o → Comes P o → ((a : X) (t : State) → IsHidden observer t → P t → Still observer tables t (f a t)) → Still observer tables s (and_then o f)
  still_with P f s (Goes a t) p q c h = still_after observer tables (f a t) (q.same tt) q.lines q.positions (h a t (same_hidden observer tables (q.same tt) p) c)
  still_with P f s (Jumps j t) p q c h = record { same = λ v. q.same tt; lines = q.lines; positions = q.positions }
  still_with P f s (Ends halt t) p q c h = record { same = λ v. absurd v; lines = q.lines; positions = q.positions }

  fits_with : {X Y : Type 0} (f : X → L Y) (n : ℕ) (o : Outcome Halt Jump X State) → Fits n o → ((a : X) (t : State) → Fits (length t.frames) (f a t)) → Fits n (and_then o f)
  fits_with f n (Goes a t) q h = fits_more observer tables (length t.frames) n q (f a t) (h a t)
  fits_with f n (Jumps j t) q h = q
  fits_with f n (Ends halt t) q h = tt

  adds_with : {X Y : Type 0} (f : X → L Y) (o : Outcome Halt Jump X State) → ((a : X) (t : State) → Front t.lines (state_of (f a t)).lines) → Front (state_of o).lines (state_of (and_then o f)).lines
  adds_with f (Goes a t) h = h a t
  adds_with f (Jumps j t) h = front_refl t.lines
  adds_with f (Ends halt t) h = front_refl t.lines

  conf_marks : (label : Label) (marks : Marks) (o : ℕ) → Confined observer tables (set_marks label marks o length_key)
  unfolding set_marks
  conf_marks label marks o = record {
    still = λ s p. still_acted observer tables tt _ s (still_set_attributes observer o length_key _ marks s.heap (hides_first observer (context s.frames) label p));
    fits = λ s. fits_acted observer tables tt _ s;
    adds = λ s. adds_acted observer tables tt _ s;
  }

  conf_marks_if : (b : Bool) (label : Label) (marks : Marks) (o : ℕ) → Confined observer tables (set_marks_if b label marks o length_key)
  conf_marks_if true label marks o = conf_marks label marks o
  conf_marks_if false label marks o = conf_ret observer tables tt

  conf_delete : (label : Label) (o i : ℕ) → Confined observer tables (delete_element label o i)
  unfolding delete_element
  conf_delete label o i = record {
    still = λ s p. still_acted observer tables tt _ s (still_remove observer o (element_key i) _ s.heap (hides_first observer (context s.frames) label p));
    fits = λ s. fits_acted observer tables tt _ s;
    adds = λ s. adds_acted observer tables tt _ s;
  }

  conf_deleted_if : (b : Bool) (next : Label → L Cut) (label : Label) (o i : ℕ) (tested : Label) → ((t : Label) → Confined observer tables (next t)) → Confined observer tables (deleted_if b next label o i tested)
  unfolding deleted_if
  conf_deleted_if true next label o i tested c = conf_at observer tables (λ s. delete_element (union label tested) o i >>= λ u. next tested) (λ s. conf_bind observer tables (λ u. next tested) (conf_delete (union label tested) o i) (λ u. c tested))
  conf_deleted_if false next label o i tested c = conf_ret observer tables _

  conf_deleted_at : (e : Option (ℕ × Slot Label)) (next : Label → L Cut) (label : Label) (o : ℕ) (tested : Label) → ((t : Label) → Confined observer tables (next t)) → Confined observer tables (deleted_at e next label o tested)
  unfolding deleted_at
  conf_deleted_at None next label o tested c = conf_ret observer tables _
  conf_deleted_at (Some e) next label o tested c = conf_at observer tables (λ s. deleted_if e.1.marks.configurable next label o e.0 (union tested e.1.existence)) (λ s. conf_deleted_if e.1.marks.configurable next label o e.0 (union tested e.1.existence) c)

  conf_within : (k : ℕ) (label : Label) (o n : ℕ) (tested : Label) → Confined observer tables (deleted_within k label o n tested)
  unfolding deleted_within
  conf_within zero label o n tested = conf_ret observer tables _
  conf_within (suc k) label o n tested = conf_at observer tables (λ s. deleted_at (highest n (rows_in (slice_get s.heap o))) (deleted_within k label o n) label o tested)
      (λ s. conf_deleted_at (highest n (rows_in (slice_get s.heap o))) (deleted_within k label o n) label o tested (λ t. conf_within k label o n t))

  conf_ended : (stays : Option ℕ) (place label : Label) → Confined observer tables (ended_at stays place label)
  unfolding ended_at
  conf_ended None place label = conf_ret observer tables _
  conf_ended (Some i) place label = conf_at observer tables (λ s. throw_error kinds.TypeError label) (λ s. conf_throw observer tables {X = Val} kinds.TypeError label)

  -- the number, where `length` is data
  abbrev numbers : Label → Label → ℕ → ℕ → L (Unit {0})
  numbers place label n o = set_body_if true place (length_body n) label o length_key

  still_number : (place label : Label) (n o : ℕ) (s : State) → IsHidden observer s → DataIn o s → Still observer tables s (numbers place label n o s)
  unfolding set_body_if
  still_number place label n o s p d = still_acted observer tables tt _ s (still_set_body observer o length_key _ (length_body n) label s.heap (hides_first observer (context s.frames) place p) (may_number o _ n s.heap d))

  fits_number : (place label : Label) (n o : ℕ) (s : State) → Fits (length s.frames) (numbers place label n o s)
  unfolding set_body_if
  fits_number place label n o s = fits_acted observer tables tt _ s

  adds_number : (place label : Label) (n o : ℕ) (s : State) → Front s.lines (state_of (numbers place label n o s)).lines
  unfolding set_body_if
  adds_number place label n o s = adds_acted observer tables tt _ s

  still_cut : (place label : Label) (o n : ℕ) (cut : Cut) (s : State) → IsHidden observer s → DataIn o s → Still observer tables s (cut_length place label o n cut s)
  unfolding cut_length
  still_cut place label o n cut s p d = still_with (λ t. Unit {0}) (λ u. ended_at cut.stays place (union place (union label cut.tested))) s _ p (still_number place (union label cut.tested) (length_behind n cut.stays) o s p d) (any_comes _)
      (λ u t q x. (conf_ended cut.stays place (union place (union label cut.tested))).still t q)
    where
      any_comes : {X : Type 0} (z : Outcome Halt Jump X State) → Comes (λ t. Unit {0}) z
      any_comes (Goes a t) = tt
      any_comes (Jumps j t) = tt
      any_comes (Ends halt t) = tt

  fits_cut : (place label : Label) (o n : ℕ) (cut : Cut) (s : State) → Fits (length s.frames) (cut_length place label o n cut s)
  unfolding cut_length
  fits_cut place label o n cut s = fits_with (λ u. ended_at cut.stays place (union place (union label cut.tested))) (length s.frames) _ (fits_number place (union label cut.tested) (length_behind n cut.stays) o s)
      (λ u t. (conf_ended cut.stays place (union place (union label cut.tested))).fits t)

  adds_cut : (place label : Label) (o n : ℕ) (cut : Cut) (s : State) → Front s.lines (state_of (cut_length place label o n cut s)).lines
  unfolding cut_length
  adds_cut place label o n cut s = front_trans (adds_number place (union label cut.tested) (length_behind n cut.stays) o s)
      (adds_with (λ u. ended_at cut.stays place (union place (union label cut.tested))) (numbers place (union label cut.tested) (length_behind n cut.stays) o s) (λ u t. (conf_ended cut.stays place (union place (union label cut.tested))).adds t))

  -- ---- attributes, deletions and the number

  abbrev in_turn : Bool → Marks → ℕ → Label → Label → Label → ℕ → ℕ → L Val
  in_turn b marks k one place label o n = set_marks_if b one marks o length_key >>= λ u. (deleted_within k (union place label) o n bottom >>= cut_length place label o n)

  still_turn : (b : Bool) (marks : Marks) (k : ℕ) (one place label : Label) (o n : ℕ) (s : State) → IsHidden observer s → DataIn o s → Still observer tables s (in_turn b marks k one place label o n s)
  still_turn b marks k one place label o n s p d = still_with (DataIn o) (λ u. (deleted_within k (union place label) o n bottom >>= cut_length place label o n)) s (set_marks_if b one marks o length_key s) p ((conf_marks_if b one marks o).still s p)
      (comes_marked_if b one marks o s d)
      (λ u t q c. still_with (DataIn o) (cut_length place label o n) t (deleted_within k (union place label) o n bottom t) q ((conf_within k (union place label) o n bottom).still t q) (comes_within k (union place label) o n bottom t c)
      (λ cut v w x. still_cut place label o n cut v w x))

  fits_turn : (b : Bool) (marks : Marks) (k : ℕ) (one place label : Label) (o n : ℕ) (s : State) → Fits (length s.frames) (in_turn b marks k one place label o n s)
  fits_turn b marks k one place label o n s = fits_with (λ u. (deleted_within k (union place label) o n bottom >>= cut_length place label o n)) (length s.frames) (set_marks_if b one marks o length_key s) ((conf_marks_if b one marks o).fits s)
      (λ u t. fits_with (cut_length place label o n) (length t.frames) (deleted_within k (union place label) o n bottom t) ((conf_within k (union place label) o n bottom).fits t) (λ cut v. fits_cut place label o n cut v))

  adds_turn : (b : Bool) (marks : Marks) (k : ℕ) (one place label : Label) (o n : ℕ) (s : State) → Front s.lines (state_of (in_turn b marks k one place label o n s)).lines
  adds_turn b marks k one place label o n s = front_trans ((conf_marks_if b one marks o).adds s)
      (adds_with (λ u. (deleted_within k (union place label) o n bottom >>= cut_length place label o n)) (set_marks_if b one marks o length_key s)
      (λ u t. front_trans ((conf_within k (union place label) o n bottom).adds t) (adds_with (cut_length place label o n) (deleted_within k (union place label) o n bottom t) (λ cut v. adds_cut place label o n cut v))))

  -- what the definition gives is nothing, or an object's `length` is data
  abbrev refuses : Label → Label → Object Label → L Val
  refuses place given p = throw_error kinds.TypeError (union (union place given) (value_label (own length_key p.rows)))

  conf_refuses : (place given : Label) (p : Object Label) → Confined observer tables (refuses place given p)
  conf_refuses place given p = conf_throw observer tables {X = Val} kinds.TypeError (union (union place given) (value_label (own length_key p.rows)))

  still_to : (b : Bool) (p : Object Label) (place given : Label) (o n : ℕ) (q : Option Property) (s : State) → IsHidden observer s → ((x : Property) → q ≡ Some x → DataIn o s) → Still observer tables s (set_length_to b p place given o n q s)
  unfolding set_length_to
  still_to b p place given o n None s h d = (conf_refuses place given p).still s h
  still_to b p place given o n (Some q) s h d = still_turn b q.marks (length p.rows) (union place given) place (union given p.structure) o n s h (d q refl)

  fits_to : (b : Bool) (p : Object Label) (place given : Label) (o n : ℕ) (q : Option Property) (s : State) → Fits (length s.frames) (set_length_to b p place given o n q s)
  unfolding set_length_to
  fits_to b p place given o n None s = (conf_refuses place given p).fits s
  fits_to b p place given o n (Some q) s = fits_turn b q.marks (length p.rows) (union place given) place (union given p.structure) o n s

  adds_to : (b : Bool) (p : Object Label) (place given : Label) (o n : ℕ) (q : Option Property) (s : State) → Front s.lines (state_of (set_length_to b p place given o n q s)).lines
  unfolding set_length_to
  adds_to b p place given o n None s = (conf_refuses place given p).adds s
  adds_to b p place given o n (Some q) s = adds_turn b q.marks (length p.rows) (union place given) place (union given p.structure) o n s

  abbrev number_given : ℕ → GivenMarks → Definition
  number_given n marks = record { marks = marks; body = given_value (value.Primitive (Num (Int (pos n)))) }

  still_in : (b : Bool) (z : Option (Object Label)) (place given : Label) (o : ℕ) (marks : GivenMarks) (n : ℕ) (s : State) → slice_get s.heap o ≡ z → IsHidden observer s → Still observer tables s (set_length_in b z place given o marks n s)
  unfolding set_length_in
  still_in b None place given o marks n s at h = (conf_throw observer tables {X = Val} kinds.TypeError (union place given)).still s h
  still_in b (Some p) place given o marks n s at h = still_to b p (union place (definition_test length_key (own length_key p.rows) p)) given o n (behind_length (property_in (own length_key p.rows)) (number_given n marks)) s h
      (λ x e. data_here o p s.heap at (λ t named. length_data (own length_key p.rows) (number_given n marks) x e t named))

  fits_in : (b : Bool) (z : Option (Object Label)) (place given : Label) (o : ℕ) (marks : GivenMarks) (n : ℕ) (s : State) → Fits (length s.frames) (set_length_in b z place given o marks n s)
  unfolding set_length_in
  fits_in b None place given o marks n s = (conf_throw observer tables {X = Val} kinds.TypeError (union place given)).fits s
  fits_in b (Some p) place given o marks n s = fits_to b p _ given o n _ s

  adds_in : (b : Bool) (z : Option (Object Label)) (place given : Label) (o : ℕ) (marks : GivenMarks) (n : ℕ) (s : State) → Front s.lines (state_of (set_length_in b z place given o marks n s)).lines
  unfolding set_length_in
  adds_in b None place given o marks n s = (conf_throw observer tables {X = Val} kinds.TypeError (union place given)).adds s
  adds_in b (Some p) place given o marks n s = adds_to b p _ given o n _ s

  pub conf_set_length : (b : Bool) (place : Label) (o : ℕ) (marks : GivenMarks) (n : ℕ) (given : Label) → Confined observer tables (set_length b place o marks n given)
  unfolding set_length
  conf_set_length b place o marks n given = record {
    still = λ s p. still_in b (slice_get s.heap o) place given o marks n s refl p;
    fits = λ s. fits_in b (slice_get s.heap o) place given o marks n s;
    adds = λ s. adds_in b (slice_get s.heap o) place given o marks n s;
  }

  -- ---- where the place is hidden

  abbrev Free : {X : Type 0} → X → Type 0
  Free a = Unit {0}

  mute_with : {X Y : Type 0} (P : X → Type 0) (Q : Y → Type 0) (R : State → Type 0) (f : X → L Y) (s : State) {o : Outcome Halt Jump X State} → IsSeen observer s → Mute observer tables P s o → Comes R o → ((a : X) (t : State) → P a → IsSeen observer t → R t → Mute observer tables Q t (f a t))
      → Mute observer tables Q s (and_then o f)
  mute_with P Q R f s w (mutes {a = a} {t = t} k l p) c h = mute_behind observer tables Q k l (h a t p (same_seen observer tables k w) c)
  mute_with P Q R f s w (mute_ends l) c h = mute_ends l

  mum_marks : (label : Label) (marks : Marks) (o : ℕ) → Hides observer label → Mum observer tables Free (set_marks label marks o length_key)
  unfolding set_marks
  mum_marks label marks o h = record { mute = λ s w. mute_acted observer tables Free tt _ s tt (still_set_attributes observer o length_key _ marks s.heap (hides_second observer (context s.frames) label h)) }

  mum_marks_if : (b : Bool) (label : Label) (marks : Marks) (o : ℕ) → Hides observer label → Mum observer tables Free (set_marks_if b label marks o length_key)
  mum_marks_if true label marks o h = mum_marks label marks o h
  mum_marks_if false label marks o h = mum_ret observer tables Free tt

  mum_delete : (label : Label) (o i : ℕ) → Hides observer label → Mum observer tables Free (delete_element label o i)
  unfolding delete_element
  mum_delete label o i h = record { mute = λ s w. mute_acted observer tables Free tt _ s tt (still_remove observer o (element_key i) _ s.heap (hides_second observer (context s.frames) label h)) }

  -- deletions by a hidden label. What is kept of the labels of tested elements is this
  module _ (H : Label → Type 0) (up : (a b : Label) → H a → H (union a b)) (label : Label) (hides : (t : Label) → H t → Hides observer (union label t)) where
    abbrev CutHas : Cut → Type 0
    CutHas cut = H cut.tested

    mum_deleted_if : (b : Bool) (next : Label → L Cut) (o i : ℕ) (tested : Label) → H tested → ((t : Label) → H t → Mum observer tables CutHas (next t)) → Mum observer tables CutHas (deleted_if b next label o i tested)
    unfolding deleted_if
    mum_deleted_if true next o i tested x c = mum_at observer tables CutHas (λ s. delete_element (union label tested) o i >>= λ u. next tested)
        (λ s. mum_bind observer tables Free CutHas (λ u. next tested) (mum_delete (union label tested) o i (hides tested x)) (λ u y. c tested x))
    mum_deleted_if false next o i tested x c = mum_ret observer tables CutHas x

    mum_deleted_at : (e : Option (ℕ × Slot Label)) (next : Label → L Cut) (o : ℕ) (tested : Label) → H tested → ((t : Label) → H t → Mum observer tables CutHas (next t)) → Mum observer tables CutHas (deleted_at e next label o tested)
    unfolding deleted_at
    mum_deleted_at None next o tested x c = mum_ret observer tables CutHas x
    mum_deleted_at (Some e) next o tested x c = mum_at observer tables CutHas (λ s. deleted_if e.1.marks.configurable next label o e.0 (union tested e.1.existence))
        (λ s. mum_deleted_if e.1.marks.configurable next o e.0 (union tested e.1.existence) (up tested e.1.existence x) c)

    mum_within : (k o n : ℕ) (tested : Label) → H tested → Mum observer tables CutHas (deleted_within k label o n tested)
    unfolding deleted_within
    mum_within zero o n tested x = mum_ret observer tables CutHas x
    mum_within (suc k) o n tested x = mum_at observer tables CutHas (λ s. deleted_at (highest n (rows_in (slice_get s.heap o))) (deleted_within k label o n) label o tested)
        (λ s. mum_deleted_at (highest n (rows_in (slice_get s.heap o))) (deleted_within k label o n) o tested x (λ t y. mum_within k o n t y))

  mum_ended : (stays : Option ℕ) (place label : Label) → Hides observer place → Hides observer label → Mum observer tables Hid (ended_at stays place label)
  unfolding ended_at
  mum_ended None place label h k = mum_ret observer tables Hid h
  mum_ended (Some i) place label h k = mum_at observer tables Hid (λ s. throw_error kinds.TypeError label) (λ s. mum_throw observer tables Hid kinds.TypeError label k)

  mute_number : (place label : Label) (n o : ℕ) (s : State) → Hides observer place → DataIn o s → Mute observer tables Free s (numbers place label n o s)
  unfolding set_body_if
  mute_number place label n o s h d = mute_acted observer tables Free tt _ s tt (still_set_body observer o length_key _ (length_body n) label s.heap (hides_second observer (context s.frames) place h) (may_number o _ n s.heap d))

  free_comes : {X : Type 0} (z : Outcome Halt Jump X State) → Comes (λ t. Unit {0}) z
  free_comes (Goes a t) = tt
  free_comes (Jumps j t) = tt
  free_comes (Ends halt t) = tt

  mute_cut : (place label : Label) (o n : ℕ) (cut : Cut) (s : State) → Hides observer place → DataIn o s → IsSeen observer s → Mute observer tables Hid s (cut_length place label o n cut s)
  unfolding cut_length
  mute_cut place label o n cut s h d w = mute_with Free Hid (λ t. Unit {0}) (λ u. ended_at cut.stays place (union place (union label cut.tested))) s w (mute_number place (union label cut.tested) (length_behind n cut.stays) o s h d) (free_comes _)
      (λ u t x v y. (mum_ended cut.stays place (union place (union label cut.tested)) h (hides_first observer place (union label cut.tested) h)).mute t v)

  mute_turn : (b : Bool) (marks : Marks) (k : ℕ) (one place label : Label) (o n : ℕ) (s : State) → Hides observer one → Hides observer place → DataIn o s → IsSeen observer s → Mute observer tables Hid s (in_turn b marks k one place label o n s)
  mute_turn b marks k one place label o n s g h d w = mute_with Free Hid (DataIn o) (λ u. (deleted_within k (union place label) o n bottom >>= cut_length place label o n)) s w ((mum_marks_if b one marks o g).mute s w) (comes_marked_if b one marks o s d)
      (λ u t x v c. mute_with Free Hid (DataIn o) (cut_length place label o n) t v
      ((mum_within (λ l. Unit {0}) (λ a b y. tt) (union place label) (λ l y. hides_first observer (union place label) l (hides_first observer place label h)) k o n bottom tt).mute t v) (comes_within k (union place label) o n bottom t c)
      (λ cut u y x z. mute_cut place label o n cut u h z x))

  mute_to : (b : Bool) (p : Object Label) (place given : Label) (o n : ℕ) (q : Option Property) (s : State) → Hides observer place → ((x : Property) → q ≡ Some x → DataIn o s) → IsSeen observer s → Mute observer tables Hid s (set_length_to b p place given o n q s)
  unfolding set_length_to
  mute_to b p place given o n None s h d w =
      (mum_throw observer tables Hid kinds.TypeError (union (union place given) (value_label (own length_key p.rows))) (hides_first observer (union place given) (value_label (own length_key p.rows)) (hides_first observer place given h))).mute s w
  mute_to b p place given o n (Some q) s h d w = mute_turn b q.marks (length p.rows) (union place given) place (union given p.structure) o n s (hides_first observer place given h) h (d q refl) w

  mute_in : (b : Bool) (z : Option (Object Label)) (place given : Label) (o : ℕ) (marks : GivenMarks) (n : ℕ) (s : State) → slice_get s.heap o ≡ z → Hides observer place → IsSeen observer s → Mute observer tables Hid s (set_length_in b z place given o marks n s)
  unfolding set_length_in
  mute_in b None place given o marks n s at h w = (mum_throw observer tables Hid kinds.TypeError (union place given) (hides_first observer place given h)).mute s w
  mute_in b (Some p) place given o marks n s at h w = mute_to b p (union place (definition_test length_key (own length_key p.rows) p)) given o n (behind_length (property_in (own length_key p.rows)) (number_given n marks)) s (hides_first observer place _ h)
      (λ x e. data_here o p s.heap at (λ t named. length_data (own length_key p.rows) (number_given n marks) x e t named)) w

  pub mum_set_length : (b : Bool) (place : Label) (o : ℕ) (marks : GivenMarks) (n : ℕ) (given : Label) → Hides observer place → Mum observer tables Hid (set_length b place o marks n given)
  unfolding set_length
  mum_set_length b place o marks n given h = record { mute = λ s w. mute_in b (slice_get s.heap o) place given o marks n s refl h w }

-- ---- states with the same frames

-- an act leaves the frames, and no jump comes of it
abbrev Leaves : {X : Type 0} → List Frame → Outcome Halt Jump X State → Type 0
Leaves fs (Goes a t) = t.frames ≡ fs
Leaves fs (Jumps j t) = ⊥
Leaves fs (Ends halt t) = Unit {0}

leaves_then : {X Y : Type 0} (fs : List Frame) (f : X → L Y) (o : Outcome Halt Jump X State) → Leaves fs o → ((a : X) (t : State) → t.frames ≡ fs → Leaves fs (f a t)) → Leaves fs (and_then o f)
leaves_then fs f (Goes a t) e h = h a t e
leaves_then fs f (Jumps j t) e h = absurd e
leaves_then fs f (Ends halt t) e h = tt

leaves_acted : {X : Type 0} (fs : List Frame) (x : X) (a : Acted (List (Object Label))) (s : State) → s.frames ≡ fs → Leaves fs (acted x a s)
unfolding acted
leaves_acted fs x (Ok g) s e = e
leaves_acted fs x (Err stop) s e = tt

leaves_deleted : (fs : List Frame) (label : Label) (o i : ℕ) (s : State) → s.frames ≡ fs → Leaves fs (delete_element label o i s)
unfolding delete_element
leaves_deleted fs label o i s e = leaves_acted fs tt _ s e

leaves_if : (fs : List Frame) (b : Bool) (next : Label → L Cut) (label : Label) (o i : ℕ) (tested : Label) (s : State) → s.frames ≡ fs → ((t : Label) (u : State) → u.frames ≡ fs → Leaves fs (next t u)) → Leaves fs (deleted_if b next label o i tested s)
unfolding deleted_if
leaves_if fs true next label o i tested s e h = leaves_then fs (λ u. next tested) (delete_element (union label tested) o i s) (leaves_deleted fs (union label tested) o i s e) (λ u t k. h tested t k)
leaves_if fs false next label o i tested s e h = e

leaves_at : (fs : List Frame) (x : Option (ℕ × Slot Label)) (next : Label → L Cut) (label : Label) (o : ℕ) (tested : Label) (s : State) → s.frames ≡ fs → ((t : Label) (u : State) → u.frames ≡ fs → Leaves fs (next t u)) → Leaves fs (deleted_at x next label o tested s)
unfolding deleted_at
leaves_at fs None next label o tested s e h = e
leaves_at fs (Some x) next label o tested s e h = leaves_if fs x.1.marks.configurable next label o x.0 _ s e h

leaves_within : (fs : List Frame) (k : ℕ) (label : Label) (o n : ℕ) (tested : Label) (s : State) → s.frames ≡ fs → Leaves fs (deleted_within k label o n tested s)
unfolding deleted_within
leaves_within fs zero label o n tested s e = e
leaves_within fs (suc k) label o n tested s e = leaves_at fs (highest n (rows_in (slice_get s.heap o))) (deleted_within k label o n) label o tested s e (λ t u d. leaves_within fs k label o n t u d)

-- the structure label stays
abbrev Structured : Label → Object Label → Type 0
Structured l p = p.structure ≡ l

structure_removed : (l : Label) (o : ℕ) (key : List ℕ) (need : Label) (h g : List (Object Label)) → remove o key need h ≡ Ok g → HoldsAt h o (Structured l) → HoldsAt g o (Structured l)
structure_removed l o key need h g e d = holds_behind (Structured l) o (remove_own key need) (λ p. with_rows p (without key p.rows)) h g (λ p. (makes_remove key need p).becomes) (λ p x. x) e d

structure_marked : (l : Label) (o : ℕ) (need : Label) (marks : Marks) (h g : List (Object Label)) → set_attributes o length_key need marks h ≡ Ok g → HoldsAt h o (Structured l) → HoldsAt g o (Structured l)
structure_marked l o need marks h g e d = holds_behind (Structured l) o (set_own_attributes length_key need marks) (λ p. with_rows p (changed length_key (with_marks marks) p.rows)) h g
    (λ p. (makes_change W6 existence_have (with_marks marks) length_key need p).becomes) (λ p x. x) e d

module _ (observer : Label) (tables : Tables) where
  abbrev Values : Pairing → Val → Val → Type 0
  Values = Agree observer

  -- ---- the highest elements of rows that agree

  data HighAgree (γ : Pairing) : Option (ℕ × Slot Label) → Option (ℕ × Slot Label) → Type 0 where
    none_high : HighAgree γ None None
    both_high : {i : ℕ} {s t : Slot Label} → SlotsAgree observer γ s t → HighAgree γ (Some (i, s)) (Some (i, t))

  higher_both : {γ : Pairing} (i : ℕ) {s t : Slot Label} {o u : Option (ℕ × Slot Label)} → SlotsAgree observer γ s t → HighAgree γ o u → HighAgree γ (higher_of i s o) (higher_of i t u)
  higher_both i a none_high = both_high a
  higher_both {γ} i {s} {t} a (both_high {i = j} {s = x} {t = y} b) = by_order (nat_lt j i)
    where
      by_order : (c : Bool) → HighAgree γ (if c then Some (i, s) else Some (j, x)) (if c then Some (i, t) else Some (j, y))
      by_order true = both_high a
      by_order false = both_high b

  index_both : {γ : Pairing} (n : ℕ) (x : Option ℕ) {s t : Slot Label} {o u : Option (ℕ × Slot Label)} → SlotsAgree observer γ s t → HighAgree γ o u → HighAgree γ (higher_if n x s o) (higher_if n x t u)
  index_both n None a r = r
  index_both {γ} n (Some i) {s} {t} {o} {u} a r = by_order (nat_le n i)
    where
      by_order : (c : Bool) → HighAgree γ (if c then higher_of i s o else o) (if c then higher_of i t u else u)
      by_order true = higher_both i a r
      by_order false = r

  rows_high : {γ : Pairing} (n : ℕ) {rs qs : Rows (Slot Label)} → RowsAgree observer γ rs qs → HighAgree γ (highest n rs) (highest n qs)
  rows_high n no_rows = none_high
  rows_high n (row {key = key} a r) = index_both n (index_of key) a (rows_high n r)

  rows_count : {γ : Pairing} {rs qs : Rows (Slot Label)} → RowsAgree observer γ rs qs → length rs ≡ length qs
  rows_count no_rows = refl
  rows_count (row a r) = ap suc (rows_count r)

  -- ---- deletions in two runs

  abbrev CutsAgree : Label → Label → Pairing → Cut → Cut → Type 0
  CutsAgree l m γ c d = Alike observer (union l c.tested) (union m d.tested) (c.stays ≡ d.stays)

  hides_more : (a b c : Label) → Hides observer (union a b) → Hides observer (union a (union b c))
  hides_more a b c h = ⊎_elim (λ x. hides_first observer a (union b c) x) (λ x. hides_second observer a (union b c) (hides_first observer b c x)) (hidden_part observer a b h)

  hides_behind : (a b c : Label) → Hides observer (union b c) → Hides observer (union (union a b) c)
  hides_behind a b c h = ⊎_elim (λ x. hides_first observer (union a b) c (hides_second observer a b x)) (λ x. hides_second observer (union a b) c x) (hidden_part observer b c h)

  -- each run by itself, by a hidden label
  abbrev CutHidden : Label → Cut → Type 0
  CutHidden l cut = Hides observer (union l cut.tested)

  mum_cut_within : (place l : Label) (k o n : ℕ) (tested : Label) → Hides observer (union l tested) → Mum observer tables (CutHidden l) (deleted_within k (union place l) o n tested)
  mum_cut_within place l k o n tested h = mum_within observer tables (λ t. Hides observer (union l t)) (λ a b. hides_more l a b) (union place l) (λ t. hides_behind place l t) k o n tested h

  mum_cut_if : (place l : Label) (b : Bool) (k o n i : ℕ) (tested : Label) → Hides observer (union l tested) → Mum observer tables (CutHidden l) (deleted_if b (deleted_within k (union place l) o n) (union place l) o i tested)
  mum_cut_if place l b k o n i tested h = mum_deleted_if observer tables (λ t. Hides observer (union l t)) (λ a c. hides_more l a c) (union place l) (λ t. hides_behind place l t) b (deleted_within k (union place l) o n) o i tested h
      (λ t x. mum_cut_within place l k o n t x)

  cuts_apart : {γ : Pairing} (l m : Label) {s t : State} {o p : Outcome Halt Jump Cut State} → LowEqual observer tables γ s t → IsSeen observer s → Mute observer tables (CutHidden l) s o → Mute observer tables (CutHidden m) t p → InStep observer tables (CutsAgree l m) γ o p
  cuts_apart {γ} l m {s} {t} r w (mutes {a = a} {t = u} x f h) (mutes {a = b} {t = v} y g k) = go γ (extends_refl γ) (same_right observer tables y γ u (x.looks γ t r)) (same_seen observer tables x w) (hidden h k)
  cuts_apart l m r w (mute_ends f) (mutes y g k) = first_ends (lines_front observer tables (lines_trans observer tables (lines_sym observer tables f) (lines_trans observer tables r.lines g)))
  cuts_apart l m r w (mute_ends f) (mute_ends g) = first_ends (lines_front observer tables (lines_trans observer tables (lines_sym observer tables f) (lines_trans observer tables r.lines g)))
  cuts_apart l m r w (mutes x f h) (mute_ends g) = second_ends (lines_front observer tables (lines_trans observer tables (lines_sym observer tables g) (lines_trans observer tables (lines_sym observer tables r.lines) f)))

  -- by a label that is seen, of objects whose structure is seen
  module _ (γ : Pairing) (place other l m structure : Label) (i j n : ℕ) (ps : Sees observer place) (pe : place ≡ other) (ls : Sees observer l) (le : l ≡ m) (ss : Sees observer structure) (pair : γ.objects i j ≡ true) where
    abbrev Cutting : Outcome Halt Jump Cut State → Outcome Halt Jump Cut State → Type 0
    Cutting o p = InStep observer tables (CutsAgree l m) γ o p

    seen_cut : {a b : Label} → Sees observer a → a ≡ b → {x : Option ℕ} → CutsAgree l m γ (record { stays = x; tested = a }) (record { stays = x; tested = b })
    seen_cut {a} s e = seen (sees_union observer l a ls s) (ap₂ union le e) refl

    abbrev Recursion : ℕ → Type 0
    Recursion k = (a b : Label) (s t : State) → Sees observer a → a ≡ b → HoldsAt s.heap i (Structured structure) → LowEqual observer tables γ s t → IsSeen observer s
        → Cutting (deleted_within k (union place l) i n a s) (deleted_within k (union other m) j n b t)

    cutting_if : (c : Bool) (k x : ℕ) (a b : Label) (s t : State) → Sees observer a → a ≡ b → HoldsAt s.heap i (Structured structure) → LowEqual observer tables γ s t → IsSeen observer s → Recursion k
        → Cutting (deleted_if c (deleted_within k (union place l) i n) (union place l) i x a s) (deleted_if c (deleted_within k (union other m) j n) (union other m) j x b t)
    unfolding deleted_if delete_element
    cutting_if true k x a b s t v e d r w h =
        let one = union (context s.frames) (union (union place l) a) in
        in_turn_after observer tables (CutsAgree l m) tt tt _ _ (λ u. deleted_within k (union place l) i n a) (λ u. deleted_within k (union other m) j n b) s t
        (level_remove observer r.heap (seen (sees_union observer (context s.frames) (union (union place l) a) w (sees_union observer (union place l) a (sees_union observer place l ps ls) v))
        (ap₂ union (same_context observer tables r w) (ap₂ union (ap₂ union pe le) e)) (pair, refl))) r
        (λ heap. (conf_within observer tables k (union place l) i n a).adds (record s { heap = heap })) (λ heap. (conf_within observer tables k (union other m) j n b).adds (record t { heap = heap }))
        (λ h₁ h₂ f g q. h a b (record s { heap = h₁ }) (record t { heap = h₂ }) v e (structure_removed structure i (element_key x) one s.heap h₁ f d) q w)
    cutting_if false k x a b s t v e d r w h = go γ (extends_refl γ) r w (seen_cut v e)

    cutting_at : (k : ℕ) {o u : Option (ℕ × Slot Label)} (a b : Label) (s t : State) → HighAgree γ o u → Sees observer a → a ≡ b → HoldsAt s.heap i (Structured structure) → LowEqual observer tables γ s t → IsSeen observer s → Recursion k
        → Cutting (deleted_at o (deleted_within k (union place l) i n) (union place l) i a s) (deleted_at u (deleted_within k (union other m) j n) (union other m) j b t)
    unfolding deleted_at
    cutting_at k a b s t none_high v e d r w h = go γ (extends_refl γ) r w (seen_cut v e)
    cutting_at k a b s t (both_high {i = x} {s = y} {t = z} (seen f g q)) v e d r w h =
        subst (λ c. Cutting (deleted_if y.marks.configurable (deleted_within k (union place l) i n) (union place l) i x (union a y.existence) s) (deleted_if c (deleted_within k (union other m) j n) (union other m) j x (union b z.existence) t)) (ap (λ (c : Marks). c.configurable) q.0)
        (cutting_if y.marks.configurable k x (union a y.existence) (union b z.existence) s t (sees_union observer a y.existence v f) (ap₂ union e g) d r w h)
    cutting_at k a b s t (both_high {i = x} {s = y} {t = z} (hidden f g)) v e d r w h = cuts_apart l m r w
        ((mum_cut_if place l y.marks.configurable k i n x (union a y.existence) (hides_second observer l (union a y.existence) (hides_second observer a y.existence f))).mute s w)
        ((mum_cut_if other m z.marks.configurable k j n x (union b z.existence) (hides_second observer m (union b z.existence) (hides_second observer b z.existence g))).mute t (seen_other observer tables r w))

    rows_here : {p q : Object Label} → Structured structure p → ObjectsAgree observer γ p q → RowsAgree observer γ p.rows q.rows
    rows_here {p} {q} e z = by_shape z.shapes
      where
        by_shape : ShapesAgree observer γ p q → RowsAgree observer γ p.rows q.rows
        by_shape (seen_shape a b x r) = r
        by_shape (hidden_shape a b r) = absurd (not_both observer p.structure (subst (Sees observer) (sym e) ss) a)

    cutting : (k : ℕ) → Recursion k
    unfolding deleted_within
    cutting zero a b s t v e d r w = go γ (extends_refl γ) r w (seen_cut v e)
    cutting (suc k) a b s t v e d r w =
        let z = two (r.heap.paired i j pair) in
        subst (λ x. Cutting (deleted_at (highest n (rows_in x)) (deleted_within k (union place l) i n) (union place l) i a s) (deleted_at (highest n (rows_in (slice_get t.heap j))) (deleted_within k (union other m) j n) (union other m) j b t)) (sym z.is_one)
        (subst (λ x. Cutting (deleted_at (highest n z.one.rows) (deleted_within k (union place l) i n) (union place l) i a s) (deleted_at (highest n (rows_in x)) (deleted_within k (union other m) j n) (union other m) j b t)) (sym z.is_other)
        (cutting_at k a b s t (rows_high n (rows_here (d z.one z.is_one) z.related)) v e d r w (cutting k)))

  -- ---- then the number

  ended_both : {γ : Pairing} (x y : Option ℕ) (place other label beside : Label) (s t : State) → Sees observer place → place ≡ other → Alike observer label beside (x ≡ y) → LowEqual observer tables γ s t → IsSeen observer s
      → InStep observer tables Values γ (ended_at x place label s) (ended_at y other beside t)
  unfolding ended_at
  ended_both {γ} None None place other label beside s t h e a r w = go γ (extends_refl γ) r w (seen h e primitives)
  ended_both (Some i) (Some j) place other label beside s t h e a r w = thrown_both observer tables Values kinds.TypeError s t (alike_map observer (λ z. tt) a) r w
  ended_both None (Some j) place other label beside s t h e (seen x y z) r w = absurd (none-some j z)
  ended_both (Some i) None place other label beside s t h e (seen x y z) r w = absurd (none-some i (sym z))
  ended_both None (Some j) place other label beside s t h e (hidden x y) r w = stops_second observer tables Values r (front_refl s.lines) ((mum_throw observer tables Never kinds.TypeError beside y).mute t (seen_other observer tables r w))
  ended_both (Some i) None place other label beside s t h e (hidden x y) r w = stops_first observer tables Values r ((mum_throw observer tables Never kinds.TypeError label x).mute s w) (front_refl t.lines)

  lengths_agree : {γ : Pairing} (n m : ℕ) (x y : Option ℕ) → x ≡ y → n ≡ m → SameValue γ (value.Primitive (Num (Int (pos (length_behind n x))))) (value.Primitive (Num (Int (pos (length_behind m y)))))
  lengths_agree {γ} n m x y e f = subst (λ k. SameValue γ (value.Primitive (Num (Int (pos (length_behind n x))))) (value.Primitive (Num (Int (pos k))))) (ap₂ length_behind f e) primitives

  cut_both : {γ : Pairing} (place other l m : Label) (i j n k : ℕ) (c d : Cut) (s t : State) → Sees observer place → place ≡ other → Alike observer (union l c.tested) (union m d.tested) ((c.stays ≡ d.stays) × (n ≡ k)) → γ.objects i j ≡ true → LowEqual observer tables γ s t → IsSeen observer s
      → InStep observer tables Values γ (cut_length place l i n c s) (cut_length other m j k d t)
  unfolding cut_length set_body_if
  cut_both {γ} place other l m i j n k c d s t h e a pair r w =
      in_turn_after observer tables Values tt tt _ _ (λ u. ended_at c.stays place (union place (union l c.tested))) (λ u. ended_at d.stays other (union other (union m d.tested))) s t
      (level_body observer W2 r.heap length_key (union (context s.frames) place) (union (context t.frames) other) pair (sees_union observer (context s.frames) place w h) (ap₂ union (same_context observer tables r w) e)
      (data_bodies (alike_map observer (λ x. lengths_agree n k c.stays d.stays x.0 x.1) a))) r
      (λ heap. (conf_ended observer tables c.stays place (union place (union l c.tested))).adds (record s { heap = heap })) (λ heap. (conf_ended observer tables d.stays other (union other (union m d.tested))).adds (record t { heap = heap }))
      (λ one another f g q. ended_both c.stays d.stays place other (union place (union l c.tested)) (union other (union m d.tested)) (record s { heap = one }) (record t { heap = another }) h e
      (alike_join observer (λ (x : Unit {0}) y. y.0) (seen h e tt) a) q w)

  -- deletions, and what follows them: neither jumps, nor leaves the frame that is seen
  cuts_then : {γ : Pairing} (l m : Label) (f g : Cut → L Val) (s : State) {o p : Outcome Halt Jump Cut State} → ((c : Cut) (u : State) → Front u.lines (state_of (f c u)).lines) → ((c : Cut) (u : State) → Front u.lines (state_of (g c u)).lines) → IsSeen observer s → Leaves s.frames o
      → InStep observer tables (CutsAgree l m) γ o p → ((δ : Pairing) → Extends γ δ → (c d : Cut) (u v : State) → CutsAgree l m δ c d → LowEqual observer tables δ u v → IsSeen observer u → InStep observer tables Values δ (f c u) (g d v)) → InStep observer tables Values γ (and_then o f) (and_then p g)
  cuts_then l m f g s af ag w leaves (go {a = c} {b = d} {s = u} {t = v} δ e r x q) h = step_more observer tables Values e (h δ e c d u v q r x)
  cuts_then l m f g s af ag w leaves (jump δ e r x q) h = jump δ e r x q
  cuts_then l m f g s af ag w leaves (apart {o = Goes c u} δ e r x y z) h = absurd (not_seen u leaves x)
    where
      not_seen : (u : State) → u.frames ≡ s.frames → IsHidden observer u → ⊥
      not_seen u e y = not_both observer (context s.frames) w (subst (λ (fs : List Frame). Hides observer (context fs)) e y)
  cuts_then l m f g s af ag w leaves (apart {o = Jumps j u} δ e r x y z) h = absurd leaves
  cuts_then l m f g s af ag w leaves (apart {o = Ends halt u} δ e r x y z) h = absurd y
  cuts_then l m f g s af ag w leaves (first_ends {p = p} z) h = first_ends (fronts_trans observer tables z (front_lines observer tables (adds_with observer tables g p ag)))
  cuts_then l m f g s af ag w leaves (second_ends {o = o} z) h = second_ends (fronts_trans observer tables z (front_lines observer tables (adds_with observer tables f o af)))

  -- deletions and the number, behind the attributes
  abbrev rest_of : Label → Label → ℕ → ℕ → ℕ → L Val
  rest_of place l k o n = deleted_within k (union place l) o n bottom >>= cut_length place l o n

  rest_hidden : {γ : Pairing} (place other l m : Label) (h k i j n a : ℕ) (s t : State) → Sees observer place → place ≡ other → Hides observer l → Hides observer m → γ.objects i j ≡ true → LowEqual observer tables γ s t → IsSeen observer s
      → InStep observer tables Values γ (rest_of place l h i n s) (rest_of other m k j a t)
  rest_hidden place other l m h k i j n a s t ps pe x y pair r w =
      cuts_then l m (cut_length place l i n) (cut_length other m j a) s (λ c u. adds_cut observer tables place l i n c u) (λ c u. adds_cut observer tables other m j a c u) w (leaves_within s.frames h (union place l) i n bottom s refl)
      (cuts_apart l m r w ((mum_cut_within place l h i n bottom (hides_first observer l bottom x)).mute s w) ((mum_cut_within other m k j a bottom (hides_first observer m bottom y)).mute t (seen_other observer tables r w)))
      (λ δ e c d u v z q b. cut_both place other l m i j n a c d u v ps pe (hidden (hides_first observer l c.tested x) (hides_first observer m d.tested y)) (e.objects i j pair) q b)

  rest_seen : {γ : Pairing} (place other l m structure : Label) (h k i j n : ℕ) (s t : State) → Sees observer place → place ≡ other → Sees observer l → l ≡ m → Sees observer structure → HoldsAt s.heap i (Structured structure) → h ≡ k → γ.objects i j ≡ true → LowEqual observer tables γ s t → IsSeen observer s
      → InStep observer tables Values γ (rest_of place l h i n s) (rest_of other m k j n t)
  rest_seen {γ} place other l m structure h k i j n s t ps pe ls le ss d e pair r w = subst (λ x. InStep observer tables Values γ (rest_of place l h i n s) (rest_of other m x j n t)) e
      (cuts_then l m (cut_length place l i n) (cut_length other m j n) s (λ c u. adds_cut observer tables place l i n c u) (λ c u. adds_cut observer tables other m j n c u) w (leaves_within s.frames h (union place l) i n bottom s refl)
      (cutting γ place other l m structure i j n ps pe ls le ss pair h bottom bottom s t (sees_bottom observer) refl d r w)
      (λ δ x c f u v z q b. cut_both place other l m i j n n c f u v ps pe (alike_map observer (λ y. (y, refl)) z) (x.objects i j pair) q b))

  rest_both : {γ : Pairing} (place other given beside : Label) (p q : Object Label) (i j n k : ℕ) (s t : State) → Sees observer place → place ≡ other → Alike observer given beside (n ≡ k) → ObjectsAgree observer γ p q → HoldsAt s.heap i (Structured p.structure) → γ.objects i j ≡ true
      → LowEqual observer tables γ s t → IsSeen observer s → InStep observer tables Values γ (rest_of place (union given p.structure) (length p.rows) i n s) (rest_of other (union beside q.structure) (length q.rows) j k t)
  rest_both {γ} place other given beside p q i j n k s t ps pe a z d pair r w = by_shape a z.shapes
    where
      by_shape : Alike observer given beside (n ≡ k) → ShapesAgree observer γ p q → InStep observer tables Values γ (rest_of place (union given p.structure) (length p.rows) i n s) (rest_of other (union beside q.structure) (length q.rows) j k t)
      by_shape (hidden x y) sh = rest_hidden place other (union given p.structure) (union beside q.structure) (length p.rows) (length q.rows) i j n k s t ps pe (hides_first observer given p.structure x) (hides_first observer beside q.structure y) pair r w
      by_shape b (hidden_shape x y rows) = rest_hidden place other (union given p.structure) (union beside q.structure) (length p.rows) (length q.rows) i j n k s t ps pe (hides_second observer given p.structure x) (hides_second observer beside q.structure y) pair r w
      by_shape (seen x y e) (seen_shape u v f rows) = subst (λ c. InStep observer tables Values γ (rest_of place (union given p.structure) (length p.rows) i n s) (rest_of other (union beside q.structure) (length q.rows) j c t)) e
          (rest_seen place other (union given p.structure) (union beside q.structure) p.structure (length p.rows) (length q.rows) i j n s t ps pe (sees_union observer given p.structure x u) (ap₂ union y v) u d (rows_count rows) pair r w)

  -- ---- attributes, where they are given; then the rest

  module _ {γ : Pairing} (p q : Object Label) (x y : Slot Label) (marks : GivenMarks) (place other given beside : Label) (i j n k : ℕ) (s t : State) (ps : Sees observer place) (pe : place ≡ other) (xs : Sees observer x.existence) (ys : Sees observer y.existence)
      (counts : Alike observer given beside (n ≡ k)) (here : slice_get s.heap i ≡ Some p) (there : slice_get t.heap j ≡ Some q) (named : own length_key p.rows ≡ Some x) (also : own length_key q.rows ≡ Some y) (agree : ObjectsAgree observer γ p q) (pair : γ.objects i j ≡ true)
      (r : LowEqual observer tables γ s t) (w : IsSeen observer s) where
    structured : HoldsAt s.heap i (Structured p.structure)
    structured u at = ap (λ (z : Object Label). z.structure) (same_Some u p (sym at ∙ here))

    abbrev First : Bool → Marks → Outcome Halt Jump Val State
    First b m = in_turn observer tables b m (length p.rows) (union place given) place (union given p.structure) i n s

    abbrev Second : Bool → Marks → Outcome Halt Jump Val State
    Second b m = in_turn observer tables b m (length q.rows) (union other beside) other (union beside q.structure) j k t

    marks_stop : (m o : Marks) → Hides observer given → Hides observer beside → InStep observer tables Values γ (First true m) (Second true o)
    unfolding set_marks
    marks_stop m o f g = mute_both observer tables Never Values (λ a b never z. absurd never) r w
        (mute_stopped_then observer tables Never tt (λ u. rest_of place (union given p.structure) (length p.rows) i n) s (attributes_stop s.heap i length_key (union (context s.frames) (union place given)) m p x here named
        (not_included observer tables (union (context s.frames) (union place given)) x.existence (hides_second observer (context s.frames) (union place given) (hides_second observer place given f)) xs)))
        (mute_stopped_then observer tables Never tt (λ u. rest_of other (union beside q.structure) (length q.rows) j k) t (attributes_stop t.heap j length_key (union (context t.frames) (union other beside)) o q y there also
        (not_included observer tables (union (context t.frames) (union other beside)) y.existence (hides_second observer (context t.frames) (union other beside) (hides_second observer other beside g)) ys)))

    marks_go : (m o : Marks) → m ≡ o → Sees observer given → given ≡ beside → InStep observer tables Values γ (First true m) (Second true o)
    unfolding set_marks
    marks_go m o e f g =
        in_turn_after observer tables Values tt tt _ _ (λ u. rest_of place (union given p.structure) (length p.rows) i n) (λ u. rest_of other (union beside q.structure) (length q.rows) j k) s t
        (level_set_attributes observer r.heap m o (seen (sees_union observer (context s.frames) (union place given) w (sees_union observer place given ps f)) (ap₂ union (same_context observer tables r w) (ap₂ union pe g)) ((pair, refl), e))) r
        (λ heap. adds_rest place (union given p.structure) (length p.rows) i n (record s { heap = heap })) (λ heap. adds_rest other (union beside q.structure) (length q.rows) j k (record t { heap = heap }))
        (λ one another a b z. rest_both place other given beside p q i j n k (record s { heap = one }) (record t { heap = another }) ps pe counts agree
        (structure_marked p.structure i (union (context s.frames) (union place given)) m s.heap one a structured) pair z w)
      where
        adds_rest : (place l : Label) (c o n : ℕ) (u : State) → Front u.lines (state_of (rest_of place l c o n u)).lines
        adds_rest place l c o n u = front_trans ((conf_within observer tables c (union place l) o n bottom).adds u) (adds_with observer tables (cut_length place l o n) (deleted_within c (union place l) o n bottom u) (λ d v. adds_cut observer tables place l o n d v))

    turns_both : (b : Bool) (m o : Marks) → (n ≡ k → m ≡ o) → InStep observer tables Values γ (First b m) (Second b o)
    turns_both true m o e = by_count counts
      where
        by_count : Alike observer given beside (n ≡ k) → InStep observer tables Values γ (First true m) (Second true o)
        by_count (hidden f g) = marks_stop m o f g
        by_count (seen f g z) = marks_go m o (e z) f g
    turns_both false m o e = rest_both place other given beside p q i j n k s t ps pe counts agree structured pair r w

    -- ---- by what the definition gives

    abbrev number_in : ℕ → Definition
    number_in c = number_given observer tables c marks

    abbrev FirstTo : Bool → Option Property → Outcome Halt Jump Val State
    FirstTo b o = set_length_to b p place given i n o s

    abbrev SecondTo : Bool → Option Property → Outcome Halt Jump Val State
    SecondTo b u = set_length_to b q other beside j k u t

    refused_first : Hides observer (union given x.label) → Mum observer tables {X = Val} Never (throw_error kinds.TypeError (union (union place given) (value_label (own length_key p.rows))))
    refused_first h = mum_throw observer tables Never kinds.TypeError _ (subst (λ z. Hides observer (union (union place given) (value_label z))) (sym named) (hides_behind place given x.label h))

    refused_second : Hides observer (union beside y.label) → Mum observer tables {X = Val} Never (throw_error kinds.TypeError (union (union other beside) (value_label (own length_key q.rows))))
    refused_second h = mum_throw observer tables Never kinds.TypeError _ (subst (λ z. Hides observer (union (union other beside) (value_label z))) (sym also) (hides_behind other beside y.label h))

    both_refuse : (b : Bool) → Alike observer x.label y.label (Unit {0}) → InStep observer tables Values γ (FirstTo b None) (SecondTo b None)
    unfolding set_length_to
    both_refuse b a = thrown_both observer tables Values kinds.TypeError s t
        (alike_join observer (λ (u : Unit {0}) (v : Unit {0}). tt) (alike_join observer (λ (u : Unit {0}) v. tt) (seen ps pe tt) counts)
        (subst (λ z. Alike observer (value_label z) (value_label (own length_key q.rows)) (Unit {0})) (sym named) (subst (λ z. Alike observer x.label (value_label z) (Unit {0})) (sym also) a))) r w

    choice_both : (b c d : Bool) (g h : Property) → Alike observer x.label y.label (Unit {0}) → Alike observer (union given x.label) (union beside y.label) (c ≡ d) → (n ≡ k → g.marks ≡ h.marks) → InStep observer tables Values γ (FirstTo b (defined_if c g)) (SecondTo b (defined_if d h))
    unfolding set_length_to
    choice_both b true true g h l a e = turns_both b g.marks h.marks e
    choice_both b false false g h l a e = both_refuse b l
    choice_both b true false g h l (seen u v f) e = absurd (true≢false f)
    choice_both b false true g h l (seen u v f) e = absurd (true≢false (sym f))
    choice_both b true false g h l (hidden u v) e = stops_second observer tables Values r (adds_to observer tables b p place given i n (Some g) s) ((refused_second v).mute t (seen_other observer tables r w))
    choice_both b false true g h l (hidden u v) e = stops_first observer tables Values r ((refused_first u).mute s w) (adds_to observer tables b q other beside j k (Some h) t)

    labels_of : {a b : Body} → BodiesAgree observer γ x.label y.label a b → Alike observer x.label y.label (Unit {0})
    labels_of (data_bodies c) = alike_map observer (λ z. tt) c
    labels_of (accessors c) = alike_map observer (λ z. tt) c

    numbers_same : n ≡ k → GivenSame γ (given_value (value.Primitive (Num (Int (pos n))))) (given_value (value.Primitive (Num (Int (pos k)))))
    numbers_same e = given_values (subst (λ c. SameValue γ (value.Primitive (Num (Int (pos n)))) (value.Primitive (Num (Int (pos c))))) e primitives)

    to_both : (b : Bool) → x.marks ≡ y.marks → BodiesAgree observer γ x.label y.label x.body y.body → InStep observer tables Values γ (FirstTo b (behind_length (Some (erased_slot x)) (number_in n))) (SecondTo b (behind_length (Some (erased_slot y)) (number_in k)))
    to_both b m bodies = by_kind bodies bodies refl refl
      where
        f : Property
        f = defined_over (erased_slot x) (number_in n)

        g : Property
        g = defined_over (erased_slot y) (number_in k)

        may_first : Bool
        may_first = may_define_over (erased_slot x) (number_in n)

        may_second : Bool
        may_second = may_define_over (erased_slot y) (number_in k)

        refusals : Alike observer (union given x.label) (union beside y.label) (may_first ≡ may_second)
        refusals = by_labels counts (labels_of bodies)
          where
            by_labels : Alike observer given beside (n ≡ k) → Alike observer x.label y.label (Unit {0}) → Alike observer (union given x.label) (union beside y.label) (may_first ≡ may_second)
            by_labels (hidden u v) a = hidden (hides_first observer given x.label u) (hides_first observer beside y.label v)
            by_labels a (hidden u v) = hidden (hides_second observer given x.label u) (hides_second observer beside y.label v)
            by_labels (seen u v e) (seen a c z) = seen (sees_union observer given x.label u a) (ap₂ union v c)
                (subst (λ o. may_define_over (erased_slot x) (number_in n) ≡ may_define_over (record { body = y.body; marks = o }) (number_in k)) m (refused_alike γ r.heap.one_to_one observer x.marks marks a bodies (numbers_same e)))

        marks_alike : n ≡ k → f.marks ≡ g.marks
        marks_alike e = subst (λ o. (defined_over (erased_slot x) (number_in n)).marks ≡ (defined_over (record { body = y.body; marks = o }) (number_in k)).marks) m (marks_behind observer x.marks marks bodies (numbers_same e))

        by_kind : {a c : Body} → BodiesAgree observer γ x.label y.label a c → BodiesAgree observer γ x.label y.label x.body y.body → x.body ≡ a → y.body ≡ c
            → InStep observer tables Values γ (FirstTo b (if is_accessor x.body then None else defined_if may_first f)) (SecondTo b (if is_accessor y.body then None else defined_if may_second g))
        by_kind (data_bodies u) z d e =
            subst (λ o. InStep observer tables Values γ (FirstTo b (if is_accessor o then None else defined_if may_first f)) (SecondTo b (if is_accessor y.body then None else defined_if may_second g))) (sym d)
            (subst (λ o. InStep observer tables Values γ (FirstTo b (defined_if may_first f)) (SecondTo b (if is_accessor o then None else defined_if may_second g))) (sym e)
            (choice_both b may_first may_second f g (labels_of z) refusals marks_alike))
        by_kind (accessors u) z d e =
            subst (λ o. InStep observer tables Values γ (FirstTo b (if is_accessor o then None else defined_if may_first f)) (SecondTo b (if is_accessor y.body then None else defined_if may_second g))) (sym d)
            (subst (λ o. InStep observer tables Values γ (FirstTo b None) (SecondTo b (if is_accessor o then None else defined_if may_second g))) (sym e)
            (both_refuse b (labels_of z)))

  -- ---- of paired objects

  -- what is there of `length`, under the test of the definition
  test_case : {γ : Pairing} {p q : Object Label} {o u : Option (Slot Label)} → Alike observer (absence_label length_key p) (absence_label length_key q) (may_add length_key p ≡ may_add length_key q) → OwnCase observer γ p q o u
      → Alike observer (definition_test length_key o p) (definition_test length_key u q) (OwnSame observer γ o u)
  test_case a (at_both s t m b) = seen s t (names_both m b)
  test_case a (at_none s t x) = alike_map observer (λ e. names_nothing) a
  test_case {p = p} {q = q} a (out_of_sight {o = o} {u = u} s t) = hidden (test_hidden observer tables length_key p o s) (test_hidden observer tables length_key q u t)

  in_both : {γ : Pairing} (b : Bool) (place other given beside : Label) (marks : GivenMarks) (i j n k : ℕ) (s t : State) → Sees observer place → place ≡ other → Alike observer given beside (n ≡ k) → γ.objects i j ≡ true → LowEqual observer tables γ s t → IsSeen observer s
      → InStep observer tables Values γ (set_length_in b (slice_get s.heap i) place given i marks n s) (set_length_in b (slice_get t.heap j) other beside j marks k t)
  unfolding set_length_in set_length_to
  in_both {γ} b place other given beside marks i j n k s t ps pe counts pair r w = both_there observer tables Values (λ z. set_length_in b z place given i marks n) (λ z. set_length_in b z other beside j marks k) i j s t r pair
      (λ p q here there z. by_test p q here there z (test_case (absence_agrees observer γ length_key s.heap t.heap z.class z.shapes) (own_case observer γ length_key (r.heap.left i j pair p here).distinct (r.heap.right i j pair q there).distinct z.shapes)))
    where
      by_test : (p q : Object Label) → slice_get s.heap i ≡ Some p → slice_get t.heap j ≡ Some q → ObjectsAgree observer γ p q
          → Alike observer (definition_test length_key (own length_key p.rows) p) (definition_test length_key (own length_key q.rows) q) (OwnSame observer γ (own length_key p.rows) (own length_key q.rows))
          → InStep observer tables Values γ (set_length_in b (Some p) place given i marks n s) (set_length_in b (Some q) other beside j marks k t)
      by_test p q here there z (hidden f g) = values_apart observer tables r w
          (mute_to observer tables b p (union place (definition_test length_key (own length_key p.rows) p)) given i n _ s (hides_second observer place _ f)
          (λ x e. data_here i p s.heap here (λ c named. length_data (own length_key p.rows) (number_given observer tables n marks) x e c named)) w)
          (mute_to observer tables b q (union other (definition_test length_key (own length_key q.rows) q)) beside j k _ t (hides_second observer other _ g)
          (λ x e. data_here j q t.heap there (λ c named. length_data (own length_key q.rows) (number_given observer tables k marks) x e c named)) (seen_other observer tables r w))
      by_test p q here there z (seen f g same) = by_own same refl refl
        where
          first : Label
          first = union place (definition_test length_key (own length_key p.rows) p)

          second : Label
          second = union other (definition_test length_key (own length_key q.rows) q)

          by_own : {o u : Option (Slot Label)} → OwnSame observer γ o u → own length_key p.rows ≡ o → own length_key q.rows ≡ u
              → InStep observer tables Values γ (set_length_to b p first given i n (behind_length (property_in o) (number_given observer tables n marks)) s) (set_length_to b q second beside j k (behind_length (property_in u) (number_given observer tables k marks)) t)
          by_own names_nothing d e = thrown_both observer tables Values kinds.TypeError s t
              (alike_join observer (λ (u : Unit {0}) (v : Unit {0}). tt) (alike_join observer (λ (u : Unit {0}) v. tt) (seen (sees_union observer place _ ps f) (ap₂ union pe g) tt) counts)
              (subst (λ c. Alike observer (value_label c) (value_label (own length_key q.rows)) (Unit {0})) (sym d) (subst (λ c. Alike observer bottom (value_label c) (Unit {0})) (sym e) (seen (sees_bottom observer) refl tt)))) r w
          by_own (names_both {s = x} {t = y} m bodies) d e =
              to_both p q x y marks first second given beside i j n k s t (sees_union observer place _ ps f) (ap₂ union pe g) (subst (λ o. Sees observer (definition_test length_key o p)) d f) (subst (λ o. Sees observer (definition_test length_key o q)) e (subst (Sees observer) g f))
              counts here there d e z pair r w b m bodies

  pub set_length_after : {γ : Pairing} (b : Bool) (place other given beside : Label) (marks : GivenMarks) (i j n k : ℕ) (s t : State) → Sees observer place → place ≡ other → Alike observer given beside (n ≡ k) → γ.objects i j ≡ true → LowEqual observer tables γ s t → IsSeen observer s
      → InStep observer tables Values γ (set_length b place i marks n given s) (set_length b other j marks k beside t)
  unfolding set_length
  set_length_after b place other given beside marks i j n k s t ps pe counts pair r w = in_both b place other given beside marks i j n k s t ps pe counts pair r w
