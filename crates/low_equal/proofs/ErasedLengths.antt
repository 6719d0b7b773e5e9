-- The `length` of an array is given a number, with labels and without: attributes, deletions and the number in turn are what the array comes to.
use Rattle.std.proofs.Common.{◌≡◌, ℕ, zero, suc, Bool, true, false, List, [], length, Option, Some, None, slice_get, refl, sym, ◌∙◌, ap, subst, pos, if◌then◌else◌}
use Rattle.std.specs.Option.{option_map}
use Rattle.origin_labels.specs.Label.{Label, bottom, union}
use Rattle.js_number.specs.declared.num.Num.TheVariants.{Int}
use Rattle.js_number.specs.declared.primitive.Primitive.TheVariants.{Num}
use Rattle.js_values.specs.declared.value.Value.{Value}
use Rattle.js_values.specs.declared.value.Value.TheVariants as value
use Rattle.js_values.specs.declared.property.Marks.{Marks}
use Rattle.js_values.specs.declared.property.Slot.{Slot}
use Rattle.js_values.specs.Objects.{Rows, Property, PlainObject, Object, own, changed, without}
use Rattle.js_values.specs.Arrays.{length_key, length_body, element_key, highest}
use Rattle.prototype_walk.specs.KeyLists.{rows_in}
use Rattle.native_protocol.specs.declared.request.GivenMarks.{GivenMarks}
use Rattle.es_meaning.specs.Outcomes.{Goes, and_then, ◌>>=◌}
use Rattle.es_meaning.specs.Operations.{One}
use Rattle.es_meaning.specs.Operations.{Value as a_value}
use Rattle.es_meaning.specs.Definitions as definitions
use Rattle.es_meaning.specs.Definitions.{Definition, a_value as given_value, may_define_over}
use Rattle.es_meaning.specs.Objects as objects
use Rattle.es_meaning.specs.Objects.{Shortened, deleted_at, deleted_if, deleted_within, length_behind, cut_to, with_object, with_rows, with_length}
use Rattle.es_meaning.specs.Plain as plain
use Rattle.es_meaning.specs.Plain.{State, P}
use Rattle.es_meaning.specs.Requested.{defined_if, behind_length, no_marks}
use Rattle.flow_meaning.specs.Erased.{erased_slot, erased_rows, erased_object, erased_heap}
use Rattle.flow_meaning.specs.Scopes as scopes
use Rattle.flow_meaning.specs.Requested.{property_in, definition_test}
use Rattle.flow_meaning.specs.Tracked as tracked
use Rattle.low_equal.proofs.Erased.{Mark, Shaped, erased, Extends, goes_extends, YieldsBy, Yields, goes, LiftBy, Lift, yields_bind, bind_by, bind_lifts}
use Rattle.low_equal.proofs.ErasedHeaps.{object_erased, own_erased, unchanged, stays as stays_there, remove_does, erased_element, highest_erased, rows_length}
use Rattle.low_equal.proofs.ErasedActs.{throws_yields, throws_extends, acted_yields}
use Rattle.low_equal.proofs.ErasedDefinitions.{changed_found, changed_twice, same_change, object_twice, attributes_set, body_set, set_body_yields, set_marks_yields}
use Rattle.low_equal.proofs.HeapActs.{set_here}
use Rattle.low_equal.proofs.Keys.{element_differs, without_changed, highest_changed}

-- ---- deletions beside a changed `length`

abbrev with_cut : (Property → Property) → Shortened → Shortened
with_cut f cut = record { rows = changed length_key f cut.rows; stays = cut.stays }

cut_if : (b : Bool) (i : ℕ) (f : Property → Property) (next : Rows Property → Shortened) (rows : Rows Property) → ((rs : Rows Property) → next (changed length_key f rs) ≡ with_cut f (next rs))
    → deleted_if b next i (changed length_key f rows) ≡ with_cut f (deleted_if b next i rows)
cut_if true i f next rows h = ap next (without_changed (element_key i) length_key (element_differs i) f rows) ∙ h (without (element_key i) rows)
cut_if false i f next rows h = refl

cut_at : (e : Option (ℕ × Property)) (f : Property → Property) (next : Rows Property → Shortened) (rows : Rows Property) → ((rs : Rows Property) → next (changed length_key f rs) ≡ with_cut f (next rs))
    → deleted_at e next (changed length_key f rows) ≡ with_cut f (deleted_at e next rows)
cut_at None f next rows h = refl
cut_at (Some e) f next rows h = cut_if e.1.marks.configurable e.0 f next rows h

cut_within : (k n : ℕ) (f : Property → Property) (rows : Rows Property) → deleted_within k n (changed length_key f rows) ≡ with_cut f (deleted_within k n rows)
cut_within zero n f rows = refl
cut_within (suc k) n f rows = ap (λ e. deleted_at e (deleted_within k n) (changed length_key f rows)) (highest_changed n f rows) ∙ cut_at (highest n rows) f (deleted_within k n) rows (cut_within k n f)

-- ---- deletions in turn

abbrev rows_of : Option PlainObject → Rows Property
rows_of None = []
rows_of (Some p) = p.rows

abbrev step_if : Bool → P (Option ℕ) → ℕ → ℕ → P (Option ℕ)
step_if true next o i s = next (record s { heap = objects.remove o (element_key i) s.heap })
step_if false next o i s = Goes (Some i) s

abbrev step_at : Option (ℕ × Property) → P (Option ℕ) → ℕ → P (Option ℕ)
step_at None next o s = Goes None s
step_at (Some e) next o s = step_if e.1.marks.configurable next o e.0 s

abbrev steps : ℕ → ℕ → ℕ → P (Option ℕ)
steps zero n o s = Goes None s
steps (suc k) n o s = step_at (highest n (rows_of (slice_get s.heap o))) (steps k n o) o s

-- which print nothing
if_extends : (b : Bool) (next : P (Option ℕ)) (o i : ℕ) (s : State) → ((t : State) → Extends t.lines (next t)) → Extends s.lines (step_if b next o i s)
if_extends true next o i s h = h (record s { heap = objects.remove o (element_key i) s.heap })
if_extends false next o i s h = goes_extends (Some i) s

at_extends : (e : Option (ℕ × Property)) (next : P (Option ℕ)) (o : ℕ) (s : State) → ((t : State) → Extends t.lines (next t)) → Extends s.lines (step_at e next o s)
at_extends None next o s h = goes_extends None s
at_extends (Some e) next o s h = if_extends e.1.marks.configurable next o e.0 s h

steps_extend : (k n o : ℕ) (s : State) → Extends s.lines (steps k n o s)
steps_extend zero n o s = goes_extends None s
steps_extend (suc k) n o s = at_extends (highest n (rows_of (slice_get s.heap o))) (steps k n o) o s (steps_extend k n o)

-- with labels they are the same
highest_in : (n : ℕ) (p : Option (Object Label)) → highest n (rows_of (option_map erased_object p)) ≡ erased_element (highest n (rows_in p))
highest_in n None = refl
highest_in n (Some p) = highest_erased n p.rows

abbrev IsCut : List Mark → tracked.Cut → Option ℕ → Type 0
IsCut w cut stays = cut.stays ≡ stays

abbrev stays_of : tracked.Cut → Option ℕ
stays_of cut = cut.stays

delete_yields : {w : List Mark} (label : Label) (o i : ℕ) (s : scopes.State) → Shaped w s.frames
    → Yields One w (tracked.delete_element label o i s) (Goes tt (record (erased s) { heap = objects.remove o (element_key i) (erased_heap s.heap) }))
unfolding tracked.delete_element
delete_yields label o i s r = acted_yields One tt s r (remove_does o (element_key i) _ s.heap)

cut_if_yields : {w : List Mark} (b : Bool) (f : Label → scopes.L tracked.Cut) (g : P (Option ℕ)) (label : Label) (o i : ℕ) (tested : Label) (s : scopes.State) → ((t : Label) → LiftBy stays_of w (f t) g) → Shaped w s.frames
    → YieldsBy stays_of w (tracked.deleted_if b f label o i tested s) (step_if b g o i (erased s))
unfolding tracked.deleted_if
cut_if_yields true f g label o i tested s h r = yields_bind (λ u. f tested) (λ u. g) (delete_yields (union label tested) o i s r) (λ u. h tested) (λ u t. (h tested).extends t)
cut_if_yields false f g label o i tested s h r = goes r

cut_at_yields : {w : List Mark} (e : Option (ℕ × Slot Label)) (f : Label → scopes.L tracked.Cut) (g : P (Option ℕ)) (label : Label) (o : ℕ) (tested : Label) (s : scopes.State) → ((t : Label) → LiftBy stays_of w (f t) g) → Shaped w s.frames
    → YieldsBy stays_of w (tracked.deleted_at e f label o tested s) (step_at (erased_element e) g o (erased s))
unfolding tracked.deleted_at
cut_at_yields None f g label o tested s h r = goes r
cut_at_yields (Some e) f g label o tested s h r = cut_if_yields e.1.marks.configurable f g label o e.0 _ s h r

steps_lift : {w : List Mark} (k : ℕ) (label : Label) (o n : ℕ) (tested : Label) → LiftBy stays_of w (tracked.deleted_within k label o n tested) (steps k n o)
unfolding tracked.deleted_within
steps_lift zero label o n tested = record { yields = λ s r. goes r; extends = goes_extends None }
steps_lift {w} (suc k) label o n tested = record {
  yields = λ s r. subst (λ e. YieldsBy stays_of w (tracked.deleted_within (suc k) label o n tested s) (step_at e (steps k n o) o (erased s))) (sym (ap (λ x. highest n (rows_of x)) (object_erased s.heap o) ∙ highest_in n (slice_get s.heap o)))
      (cut_at_yields (highest n (rows_in (slice_get s.heap o))) (tracked.deleted_within k label o n) (steps k n o) label o tested s (λ t. steps_lift k label o n t) r);
  extends = steps_extend (suc k) n o;
}

-- and they come to what is deleted at once
abbrev cut_heap : ℕ → Shortened → State → State
cut_heap o cut s = record s { heap = with_object o (λ x. with_rows x cut.rows) s.heap }

abbrev goes_cut : Option ℕ → P (Option ℕ)
goes_cut x s = Goes x s

nothing_cut : (o : ℕ) (p : PlainObject) (x : Option ℕ) (s : State) → slice_get s.heap o ≡ Some p → goes_cut x s ≡ goes_cut x (cut_heap o (record { rows = p.rows; stays = x }) s)
nothing_cut o p x s e = ap (λ (h : List PlainObject). goes_cut x (record s { heap = h })) (sym (same_change o (λ y. with_rows y p.rows) (λ y. y) s.heap p e refl ∙ stays_there o s.heap))

removed_here : (o : ℕ) (key : List ℕ) (heap : List PlainObject) (p : PlainObject) → slice_get heap o ≡ Some p → slice_get (objects.remove o key heap) o ≡ Some (with_rows p (without key p.rows))
removed_here o key heap p e = ap (λ x. slice_get (objects.replaced x o (λ y. with_rows y (without key y.rows)) heap) o) e ∙ set_here heap o (with_rows p (without key p.rows)) p e

steps_if : (b : Bool) (g : P (Option ℕ)) (next : Rows Property → Shortened) (o i : ℕ) (s : State) (p : PlainObject) → slice_get s.heap o ≡ Some p
    → ((t : State) (q : PlainObject) → slice_get t.heap o ≡ Some q → g t ≡ goes_cut (next q.rows).stays (cut_heap o (next q.rows) t)) → step_if b g o i s ≡ goes_cut (deleted_if b next i p.rows).stays (cut_heap o (deleted_if b next i p.rows) s)
steps_if true g next o i s p e h =
    let q = with_rows p (without (element_key i) p.rows) in
    h (record s { heap = objects.remove o (element_key i) s.heap }) q (removed_here o (element_key i) s.heap p e)
    ∙ ap (λ (hs : List PlainObject). goes_cut (next q.rows).stays (record s { heap = hs }))
    (object_twice o (λ y. with_rows y (without (element_key i) y.rows)) (λ y. with_rows y (next q.rows).rows) s.heap)
steps_if false g next o i s p e h = nothing_cut o p (Some i) s e

steps_at : (x : Option (ℕ × Property)) (g : P (Option ℕ)) (next : Rows Property → Shortened) (o : ℕ) (s : State) (p : PlainObject) → slice_get s.heap o ≡ Some p
    → ((t : State) (q : PlainObject) → slice_get t.heap o ≡ Some q → g t ≡ goes_cut (next q.rows).stays (cut_heap o (next q.rows) t)) → step_at x g o s ≡ goes_cut (deleted_at x next p.rows).stays (cut_heap o (deleted_at x next p.rows) s)
steps_at None g next o s p e h = nothing_cut o p None s e
steps_at (Some x) g next o s p e h = steps_if x.1.marks.configurable g next o x.0 s p e h

steps_are : (k n o : ℕ) (s : State) (p : PlainObject) → slice_get s.heap o ≡ Some p → steps k n o s ≡ goes_cut (deleted_within k n p.rows).stays (cut_heap o (deleted_within k n p.rows) s)
steps_are zero n o s p e = nothing_cut o p None s e
steps_are (suc k) n o s p e =
    ap (λ x. step_at (highest n (rows_of x)) (steps k n o) o s) e ∙ steps_at (highest n p.rows) (steps k n o) (deleted_within k n) o s p e (λ t q d. steps_are k n o t q d)

-- ---- attributes, deletions, and the number

abbrev marks_first : Bool → Marks → ℕ → P (Unit {0})
marks_first true marks o s = Goes tt (record s { heap = attributes_set marks length_key o s.heap })
marks_first false marks o s = Goes tt s

abbrev number_last : ℕ → ℕ → Option ℕ → P Value
number_last o n stays s = plain.ended_at stays (record s { heap = body_set true (length_body (length_behind n stays)) length_key o s.heap })

abbrev in_turn : Bool → Marks → ℕ → ℕ → ℕ → P Value
in_turn b marks k o n = marks_first b marks o >>= λ u. (steps k n o >>= number_last o n)

-- the attributes stay as they are
marks_stay : (marks : Marks) (o : ℕ) (heap : List PlainObject) (p : PlainObject) (old : Property) → slice_get heap o ≡ Some p → own length_key p.rows ≡ Some old → marks ≡ old.marks → attributes_set marks length_key o heap ≡ heap
marks_stay marks o heap p old e h m =
    same_change o (λ y. with_rows y (changed length_key (λ q. record q { marks = marks }) y.rows)) (λ y. y) heap p e
    (ap (with_rows p) (changed_found length_key (λ q. record q { marks = marks }) (λ q. q) old p.rows h (ap (λ (x : Marks). record old { marks = x }) m) ∙ unchanged length_key p.rows))
    ∙ stays_there o heap

marked_here : (marks : Marks) (o : ℕ) (heap : List PlainObject) (p : PlainObject) → slice_get heap o ≡ Some p → slice_get (attributes_set marks length_key o heap) o ≡ Some (with_rows p (changed length_key (λ q. record q { marks = marks }) p.rows))
marked_here marks o heap p e =
    ap (λ x. slice_get (objects.replaced x o (λ y. with_rows y (changed length_key (λ q. record q { marks = marks }) y.rows)) heap) o) e ∙ set_here heap o (with_rows p (changed length_key (λ q. record q { marks = marks }) p.rows)) p e

-- behind the attributes
behind_marks : (q : Property) (k o n : ℕ) (s : State) (p : PlainObject) → slice_get s.heap o ≡ Some p
    → and_then (steps k n o (record s { heap = attributes_set q.marks length_key o s.heap })) (number_last o n) ≡ plain.cut_length o n q (deleted_within k n p.rows) s
unfolding plain.cut_length
behind_marks q k o n s p e =
    let set = λ (x : Property). record x { marks = q.marks } in
    let marked = changed length_key set p.rows in
    let t = record s { heap = attributes_set q.marks length_key o s.heap } in
    let cut = deleted_within k n p.rows in
    ap (λ x. and_then x (number_last o n)) (steps_are k n o t (with_rows p marked) (marked_here q.marks o s.heap p e))
    ∙ ap (λ (c : Shortened). number_last o n c.stays (cut_heap o c t)) (cut_within k n set p.rows)
    ∙ ap (λ (h : List PlainObject). plain.ended_at cut.stays (record s { heap = h }))
    (ap (with_object o (λ y. with_rows y (changed length_key (λ x. record x { body = length_body (length_behind n cut.stays) }) y.rows))) (object_twice o (λ y. with_rows y (changed length_key set y.rows)) (λ y. with_rows y (changed length_key set cut.rows)) s.heap)
    ∙ object_twice o (λ y. with_rows y (changed length_key set cut.rows)) (λ y. with_rows y (changed length_key (λ x. record x { body = length_body (length_behind n cut.stays) }) y.rows)) s.heap
    ∙ same_change o (λ y. with_rows y (changed length_key (λ x. record x { body = length_body (length_behind n cut.stays) }) (changed length_key set cut.rows))) (cut_to cut n q) s.heap p e
    (ap (with_rows p) (changed_twice length_key set (λ x. record x { body = length_body (length_behind n cut.stays) }) cut.rows)))

turns_are : (b : Bool) (q : Property) (k o n : ℕ) (s : State) (p : PlainObject) (old : Property) → slice_get s.heap o ≡ Some p → own length_key p.rows ≡ Some old → (b ≡ false → q.marks ≡ old.marks)
    → in_turn b q.marks k o n s ≡ plain.cut_length o n q (deleted_within k n p.rows) s
turns_are true q k o n s p old e h m = behind_marks q k o n s p e
turns_are false q k o n s p old e h m =
    ap (λ (hs : List PlainObject). and_then (steps k n o (record s { heap = hs })) (number_last o n)) (sym (marks_stay q.marks o s.heap p old e h (m refl))) ∙ behind_marks q k o n s p e

-- ---- with labels

last_extends : (o n : ℕ) (stays : Option ℕ) (s : State) → Extends s.lines (number_last o n stays s)
unfolding plain.ended_at
last_extends o n None s = goes_extends _ (record s { heap = _ })
last_extends o n (Some i) s = throws_extends _ (record s { heap = body_set true (length_body (length_behind n (Some i))) length_key o s.heap })

ended_yields : {w : List Mark} (stays : Option ℕ) (place label : Label) (s : scopes.State) → Shaped w s.frames → Yields a_value w (tracked.ended_at stays place label s) (plain.ended_at stays (erased s))
unfolding tracked.ended_at plain.ended_at
ended_yields None place label s r = goes r
ended_yields (Some i) place label s r = throws_yields _ _ s r

ended_extends : (stays : Option ℕ) (s : State) → Extends s.lines (plain.ended_at stays s)
unfolding plain.ended_at
ended_extends None s = goes_extends _ s
ended_extends (Some i) s = throws_extends _ s

cut_lifts : {w : List Mark} (place label : Label) (o n : ℕ) (cut : tracked.Cut) → Lift a_value w (tracked.cut_length place label o n cut) (number_last o n cut.stays)
unfolding tracked.cut_length
cut_lifts {w} place label o n cut = record {
  yields = λ s r. yields_bind _ (λ u. plain.ended_at cut.stays) (set_body_yields true place (length_body (length_behind n cut.stays)) _ o length_key s r)
      (λ u. record { yields = λ t k. ended_yields cut.stays _ _ t k; extends = ended_extends cut.stays }) (λ u t. ended_extends cut.stays t);
  extends = last_extends o n cut.stays;
}

first_yields : {w : List Mark} (b : Bool) (label : Label) (marks : Marks) (o : ℕ) (s : scopes.State) → Shaped w s.frames → Yields One w (tracked.set_marks_if b label marks o length_key s) (marks_first b marks o (erased s))
first_yields true label marks o s r = set_marks_yields label marks o length_key s r
first_yields false label marks o s r = goes r

first_extends : (b : Bool) (marks : Marks) (o : ℕ) (s : State) → Extends s.lines (marks_first b marks o s)
first_extends true marks o s = goes_extends tt (record s { heap = _ })
first_extends false marks o s = goes_extends tt s

turns_lift : {w : List Mark} (b : Bool) (one : Label) (marks : Marks) (k : ℕ) (two place label : Label) (o n : ℕ)
    → Lift a_value w (tracked.set_marks_if b one marks o length_key >>= λ u. (tracked.deleted_within k two o n bottom >>= tracked.cut_length place label o n)) (in_turn b marks k o n)
turns_lift {w} b one marks k two place label o n =
    bind_lifts One a_value w _ (λ u. (steps k n o >>= number_last o n)) (record { yields = first_yields b one marks o; extends = first_extends b marks o })
    (λ u. bind_by (λ stays. record { stays = stays; tested = bottom }) (λ stays. refl) (tracked.cut_length place label o n) (number_last o n) (steps_lift k two o n bottom) (λ cut. cut_lifts place label o n cut))

abbrev number_given : ℕ → GivenMarks → Definition
number_given n marks = record { marks = marks; body = given_value (value.Primitive (Num (Int (pos n)))) }

-- attributes that aren't given stay
abbrev pub KeepsMarks : Bool → GivenMarks → Type 0
KeepsMarks b marks = (old : Property) (n : ℕ) → b ≡ false → (definitions.defined_over old (number_given n marks)).marks ≡ old.marks

pub no_marks_kept : KeepsMarks false no_marks
no_marks_kept old n e = refl

to_yields : {w : List Mark} (b : Bool) (p : Object Label) (place given : Label) (o n : ℕ) (marks : GivenMarks) (old : Option (Slot Label)) (s : scopes.State) → KeepsMarks b marks → slice_get s.heap o ≡ Some p → own length_key p.rows ≡ old → Shaped w s.frames
    → Yields a_value w (tracked.set_length_to b p place given o n (behind_length (property_in old) (number_given n marks)) s) (plain.set_length_to o n (erased_object p) (behind_length (option_map erased_slot old) (number_given n marks)) (erased s))
unfolding tracked.set_length_to plain.set_length_to
to_yields b p place given o n marks None s keeps e h r = throws_yields _ _ s r
to_yields {w} b p place given o n marks (Some x) s keeps e h r = by_kind (definitions.is_accessor x.body)
  where
    q : Property
    q = definitions.defined_over (erased_slot x) (number_given n marks)

    by_case : (c : Bool) → Yields a_value w (tracked.set_length_to b p place given o n (defined_if c q) s) (plain.set_length_to o n (erased_object p) (defined_if c q) (erased s))
    by_case true =
        subst (Yields a_value w (tracked.set_length_to b p place given o n (Some q) s))
        (turns_are b q (length p.rows) o n (erased s) (erased_object p) (erased_slot x) (object_erased s.heap o ∙ ap (λ y. option_map erased_object y) e) (own_erased length_key p.rows ∙ ap (λ y. option_map erased_slot y) h) (keeps (erased_slot x) n)
        ∙ ap (λ k. plain.cut_length o n q (deleted_within k n (erased_rows p.rows)) (erased s)) (sym (rows_length p.rows)))
        ((turns_lift b _ q.marks (length p.rows) _ place _ o n).yields s r)
    by_case false = throws_yields _ _ s r

    by_kind : (c : Bool) → Yields a_value w (tracked.set_length_to b p place given o n (if c then None else defined_if (may_define_over (erased_slot x) (number_given n marks)) q) s)
        (plain.set_length_to o n (erased_object p) (if c then None else defined_if (may_define_over (erased_slot x) (number_given n marks)) q) (erased s))
    by_kind true = throws_yields _ _ s r
    by_kind false = by_case (may_define_over (erased_slot x) (number_given n marks))

in_yields : {w : List Mark} (b : Bool) (p : Option (Object Label)) (place given : Label) (o n : ℕ) (marks : GivenMarks) (s : scopes.State) → KeepsMarks b marks → slice_get s.heap o ≡ p → Shaped w s.frames
    → Yields a_value w (tracked.set_length_in b p place given o marks n s) (plain.set_length_in (option_map erased_object p) o marks n (erased s))
unfolding tracked.set_length_in plain.set_length_in
in_yields b None place given o n marks s keeps e r = throws_yields _ _ s r
in_yields {w} b (Some p) place given o n marks s keeps e r =
    subst (λ x. Yields a_value w (tracked.set_length_in b (Some p) place given o marks n s) (plain.set_length_to o n (erased_object p) (behind_length x (number_given n marks)) (erased s))) (sym (own_erased length_key p.rows))
    (to_yields b p (union place (definition_test length_key (own length_key p.rows) p)) given o n marks (own length_key p.rows) s keeps e refl r)

to_extends : (o n : ℕ) (p : PlainObject) (q : Option Property) (s : State) → Extends s.lines (plain.set_length_to o n p q s)
unfolding plain.set_length_to plain.cut_length
to_extends o n p None s = throws_extends _ s
to_extends o n p (Some q) s = let cut = objects.deleted_down n p.rows in ended_extends cut.stays (record s { heap = with_object o (cut_to cut n q) s.heap })

in_extends : (p : Option PlainObject) (o n : ℕ) (marks : GivenMarks) (s : State) → Extends s.lines (plain.set_length_in p o marks n s)
unfolding plain.set_length_in
in_extends None o n marks s = throws_extends _ s
in_extends (Some p) o n marks s = to_extends o n p _ s

-- the `length` is given a number
pub length_lifts : {w : List Mark} (b : Bool) (place : Label) (o : ℕ) (marks : GivenMarks) (n : ℕ) (given : Label) → KeepsMarks b marks → Lift a_value w (tracked.set_length b place o marks n given) (plain.set_length o marks n)
unfolding tracked.set_length plain.set_length
length_lifts {w} b place o marks n given keeps = record {
  yields = λ s r. subst (λ x. Yields a_value w (tracked.set_length b place o marks n given s) (plain.set_length_in x o marks n (erased s))) (sym (object_erased s.heap o)) (in_yields b (slice_get s.heap o) place given o n marks s keeps refl r);
  extends = λ s. in_extends (slice_get s.heap o) o n marks s;
}
