-- Definitions of properties without their labels: what the rules ask about is done in turn, and comes to what is defined.
use Rattle.std.proofs.Common.{◌≡◌, ℕ, zero, suc, Bool, true, false, ◌&&◌, cond, List, [], ◌∷◌, Option, Some, None, slice_get, set, refl, sym, ◌∙◌, ap, subst, true≢false}
use Rattle.std.specs.Option.{option_map}
use Rattle.std.proofs.lemmas.Option.{same_Some}
use Rattle.origin_labels.specs.Label.{Label}
use Rattle.origin_labels.specs.Names.{same_name}
use Rattle.flow_frames.specs.declared.faults.Rule.TheVariants.{W2, W6}
use Rattle.js_values.specs.declared.property.Body.{Body}
use Rattle.js_values.specs.declared.property.Body.TheVariants.{Data, Accessor}
use Rattle.js_values.specs.declared.property.Marks.{Marks}
use Rattle.js_values.specs.declared.property.Slot.{Slot}
use Rattle.js_values.specs.Objects.{Rows, Property, PlainObject, Object, own, row_or_none, changed}
use Rattle.js_values.specs.Arrays.{is_length}
use Rattle.prototype_walk.specs.Plans as walks
use Rattle.object_heap.specs.Acts as acts
use Rattle.object_heap.specs.Acts.{value_have, existence_have, with_body, with_marks}
use Rattle.native_protocol.specs.declared.request.GivenMarks.{GivenMarks}
use Rattle.es_meaning.specs.Outcomes.{Goes, ret}
use Rattle.es_meaning.specs.Operations.{One, Shape}
use Rattle.es_meaning.specs.Definitions as definitions
use Rattle.es_meaning.specs.Definitions.{GivenBody, no_body, a_value as given_value, accessors, Definition, changes_body, may_define_over, defined_new}
use Rattle.es_meaning.specs.Objects.{replaced, with_object, with_rows, with_added, with_defined, with_defined_over, may_add}
use Rattle.es_meaning.specs.Plain as plain
use Rattle.es_meaning.specs.Plain.{State, choose}
use Rattle.es_meaning.specs.Requested.{defined_if, behind_definition}
use Rattle.flow_meaning.specs.Erased.{erased_slot, erased_rows, erased_object, erased_heap}
use Rattle.flow_meaning.specs.Scopes as scopes
use Rattle.flow_meaning.specs.Requested.{property_in}
use Rattle.flow_meaning.specs.Tracked as tracked
use Rattle.low_equal.proofs.Erased.{Mark, Shaped, cond_true, cond_false, by_test, erased, YieldsBy, Yields, goes, goes_extends, yields_bind, ret_by}
use Rattle.low_equal.proofs.ErasedHeaps.{object_erased, own_erased, Does, act_on_does, change_does, add_does, may_add_erased}
use Rattle.low_equal.proofs.ErasedActs.{throws_yields, acted_by, acted_yields}

-- ---- properties that are changed

-- what is done with a property that is found is done with what it is
pub changed_found : (key : List ℕ) (f g : Property → Property) (p : Property) (rows : Rows Property) → own key rows ≡ Some p → f p ≡ g p → changed key f rows ≡ changed key g rows
changed_found key f g p [] e h = refl
changed_found key f g p (r ∷ rows) e h = by_case (same_name r.0 key) e (changed_found key f g p rows)
  where
    by_case : (b : Bool) → cond b (Some r.1) (own key rows) ≡ Some p → (own key rows ≡ Some p → f p ≡ g p → changed key f rows ≡ changed key g rows)
        → cond b (row_or_none r.0 (Some (f r.1)) rows) (r ∷ changed key f rows) ≡ cond b (row_or_none r.0 (Some (g r.1)) rows) (r ∷ changed key g rows)
    by_case true q ih = let same : f r.1 ≡ g r.1 = subst (λ x. f x ≡ g x) (sym (same_Some r.1 p q)) h in ap (λ (x : Property). (r.0, x) ∷ rows) same
    by_case false q ih = ap (λ (rs : Rows Property). r ∷ rs) (ih q h)

-- a property is changed, and then again
pub changed_twice : (key : List ℕ) (f g : Property → Property) (rows : Rows Property) → changed key g (changed key f rows) ≡ changed key (λ p. g (f p)) rows
changed_twice key f g [] = refl
changed_twice key f g (r ∷ rows) = by_test (same_name r.0 key) here (behind (changed_twice key f g rows))
  where
    here : same_name r.0 key ≡ true → changed key g (changed key f (r ∷ rows)) ≡ changed key (λ p. g (f p)) (r ∷ rows)
    here e = ap (changed key g) (cond_true (same_name r.0 key) ((r.0, f r.1) ∷ rows) (r ∷ changed key f rows) e)
        ∙ cond_true (same_name r.0 key) ((r.0, g (f r.1)) ∷ rows) ((r.0, f r.1) ∷ changed key g rows) e
        ∙ sym (cond_true (same_name r.0 key) ((r.0, g (f r.1)) ∷ rows) (r ∷ changed key (λ p. g (f p)) rows) e)

    behind : changed key g (changed key f rows) ≡ changed key (λ p. g (f p)) rows → same_name r.0 key ≡ false → changed key g (changed key f (r ∷ rows)) ≡ changed key (λ p. g (f p)) (r ∷ rows)
    behind ih e = ap (changed key g) (cond_false (same_name r.0 key) ((r.0, f r.1) ∷ rows) (r ∷ changed key f rows) e)
        ∙ cond_false (same_name r.0 key) ((r.0, g r.1) ∷ changed key f rows) (r ∷ changed key g (changed key f rows)) e
        ∙ ap (λ (rs : Rows Property). r ∷ rs) ih
        ∙ sym (cond_false (same_name r.0 key) ((r.0, g (f r.1)) ∷ rows) (r ∷ changed key (λ p. g (f p)) rows) e)

-- its attributes are set, and its body
set_marks_does : (o : ℕ) (key : List ℕ) (need : Label) (marks : Marks) (heap : List (Object Label))
    → Does erased_heap (with_object o (λ p. with_rows p (changed key (λ q. record q { marks = marks }) p.rows)) (erased_heap heap)) (acts.set_attributes o key need marks heap)
set_marks_does o key need marks heap = act_on_does _ _ o heap (λ p e. change_does W6 existence_have (with_marks marks) (λ q. record q { marks = marks }) key need p (λ s. refl))

set_body_does : (o : ℕ) (key : List ℕ) (need : Label) (body : Body) (label : Label) (heap : List (Object Label))
    → Does erased_heap (with_object o (λ p. with_rows p (changed key (λ q. record q { body = body }) p.rows)) (erased_heap heap)) (acts.set_body o key need body label heap)
set_body_does o key need body label heap = act_on_does _ _ o heap (λ p e. change_does W2 value_have (with_body need body label) (λ q. record q { body = body }) key need p (λ s. refl))

-- ---- an object that is changed

-- in the object that stands there
pub same_change : (o : ℕ) (f g : PlainObject → PlainObject) (heap : List PlainObject) (p : PlainObject) → slice_get heap o ≡ Some p → f p ≡ g p → with_object o f heap ≡ with_object o g heap
same_change o f g heap p e h = ap (λ x. replaced x o f heap) e ∙ ap (λ q. set heap o q) h ∙ sym (ap (λ x. replaced x o g heap) e)

-- behind the first object
further : (o : ℕ) (f : PlainObject → PlainObject) (q : PlainObject) (heap : List PlainObject) → with_object (suc o) f (q ∷ heap) ≡ q ∷ with_object o f heap
further o f q heap = there (slice_get heap o)
  where
    there : (x : Option PlainObject) → replaced x (suc o) f (q ∷ heap) ≡ q ∷ replaced x o f heap
    there None = refl
    there (Some p) = refl

-- changed, and then again
pub object_twice : (o : ℕ) (f g : PlainObject → PlainObject) (heap : List PlainObject) → with_object o g (with_object o f heap) ≡ with_object o (λ p. g (f p)) heap
object_twice o f g [] = refl
object_twice zero f g (q ∷ heap) = refl
object_twice (suc o) f g (q ∷ heap) = ap (with_object (suc o) g) (further o f q heap) ∙ further o g q (with_object o f heap) ∙ ap (λ (ps : List PlainObject). q ∷ ps) (object_twice o f g heap) ∙ sym (further o (λ p. g (f p)) q heap)

-- ---- a property that is defined over another

-- where neither its body is given anew nor its kind is another, it keeps its body
same_body : (old : Body) (given : GivenBody) (writable enumerable configurable : Option Bool) (marks : Marks)
    → changes_body (record { body = old; marks = marks }) (record { marks = record { writable = writable; enumerable = enumerable; configurable = configurable }; body = given }) ≡ false
    → (definitions.defined_over (record { body = old; marks = marks }) (record { marks = record { writable = writable; enumerable = enumerable; configurable = configurable }; body = given })).body ≡ old
same_body (Data v) no_body None e c marks q = refl
same_body (Data v) no_body (Some b) e c marks q = refl
same_body (Data v) (given_value u) w e c marks q = absurd (true≢false q)
same_body (Data v) (accessors (Some f) set) w e c marks q = absurd (true≢false q)
same_body (Data v) (accessors None (Some f)) w e c marks q = absurd (true≢false q)
same_body (Data v) (accessors None None) w e c marks q = absurd (true≢false q)
same_body (Accessor f g) no_body None e c marks q = refl
same_body (Accessor f g) no_body (Some b) e c marks q = absurd (true≢false q)
same_body (Accessor f g) (given_value u) w e c marks q = absurd (true≢false q)
same_body (Accessor f g) (accessors (Some h) set) w e c marks q = absurd (true≢false q)
same_body (Accessor f g) (accessors None (Some h)) w e c marks q = absurd (true≢false q)
same_body (Accessor f g) (accessors None None) w e c marks q = refl

kept_body : (old : Property) (d : Definition) → changes_body old d ≡ false → (definitions.defined_over old d).body ≡ old.body
kept_body old d e = same_body old.body d.body d.marks.writable d.marks.enumerable d.marks.configurable old.marks e

-- the heap behind both acts
abbrev pub attributes_set : Marks → List ℕ → ℕ → List PlainObject → List PlainObject
attributes_set marks key o heap = with_object o (λ p. with_rows p (changed key (λ q. record q { marks = marks }) p.rows)) heap

abbrev pub body_set : Bool → Body → List ℕ → ℕ → List PlainObject → List PlainObject
body_set true body key o heap = with_object o (λ p. with_rows p (changed key (λ q. record q { body = body }) p.rows)) heap
body_set false body key o heap = heap

abbrev definition_made : Property → List ℕ → ℕ → List PlainObject → List PlainObject
definition_made q key o heap = with_object o (with_defined key q) heap

both_set : (old : Property) (d : Definition) (key : List ℕ) (o : ℕ) (heap : List PlainObject) (p : PlainObject) → slice_get heap o ≡ Some p → own key p.rows ≡ Some old → (b : Bool) → changes_body old d ≡ b
    → body_set b (definitions.defined_over old d).body key o (attributes_set (definitions.defined_over old d).marks key o heap) ≡ definition_made (definitions.defined_over old d) key o heap
both_set old d key o heap p e h true c =
    let q = definitions.defined_over old d in
    object_twice o _ _ heap
    ∙ same_change o _ (with_defined key q) heap p e (ap (with_rows p) (changed_twice key _ _ p.rows) ∙ sym (ap (λ x. with_defined_over x key q p) h))
both_set old d key o heap p e h false c =
    let q = definitions.defined_over old d in
    same_change o _ (with_defined key q) heap p e
    (ap (with_rows p) (changed_found key _ (λ x. q) old p.rows h (ap (λ (b : Body). record { body = b; marks = q.marks }) (sym (kept_body old d c)))) ∙ sym (ap (λ x. with_defined_over x key q p) h))

pub set_body_yields : {w : List Mark} (b : Bool) (place : Label) (body : Body) (label : Label) (o : ℕ) (key : List ℕ) (s : scopes.State) → Shaped w s.frames
    → Yields One w (tracked.set_body_if b place body label o key s) (Goes tt (record (erased s) { heap = body_set b body key o (erased_heap s.heap) }))
unfolding tracked.set_body_if
set_body_yields true place body label o key s r = acted_yields One tt s r (set_body_does o key _ body label s.heap)
set_body_yields false place body label o key s r = goes r

pub set_marks_yields : {w : List Mark} (label : Label) (marks : Marks) (o : ℕ) (key : List ℕ) (s : scopes.State) → Shaped w s.frames
    → Yields One w (tracked.set_marks label marks o key s) (Goes tt (record (erased s) { heap = attributes_set marks key o (erased_heap s.heap) }))
unfolding tracked.set_marks
set_marks_yields label marks o key s r = acted_yields One tt s r (set_marks_does o key _ marks s.heap)

-- what a definition comes to, without labels
abbrev pub erased_defining : tracked.Defining → plain.Defining
erased_defining (tracked.is_defined label) = plain.is_defined
erased_defining (tracked.has_length_given label o marks) = plain.has_length_given o marks

redefine_yields : {w : List Mark} (p : Object Label) (x : Slot Label) (d : Definition) (place given : Label) (o : ℕ) (key : List ℕ) (s : scopes.State) → slice_get s.heap o ≡ Some p → own key p.rows ≡ Some x → Shaped w s.frames
    → YieldsBy erased_defining w (tracked.redefine x (definitions.defined_over (erased_slot x) d) d place given o key s) (Goes plain.is_defined (record (erased s) { heap = definition_made (definitions.defined_over (erased_slot x) d) key o (erased_heap s.heap) }))
unfolding tracked.redefine
redefine_yields {w} p x d place given o key s e h r =
    let q = definitions.defined_over (erased_slot x) d in
    let b = changes_body (erased_slot x) d in
    subst (λ heap. YieldsBy erased_defining w (tracked.redefine x q d place given o key s) (Goes plain.is_defined (record (erased s) { heap = heap })))
    (both_set (erased_slot x) d key o (erased_heap s.heap) (erased_object p) (object_erased s.heap o ∙ ap (λ y. option_map erased_object y) e) (own_erased key p.rows ∙ ap (λ y. option_map erased_slot y) h) b refl)
    (yields_bind _ (λ u t. Goes plain.is_defined (record t { heap = body_set b q.body key o t.heap })) (set_marks_yields _ q.marks o key s r)
    (λ u. record {
      yields = λ t k. yields_bind _ (λ v c. Goes plain.is_defined c) (set_body_yields b place q.body _ o key t k) (λ v. ret_by (tracked.is_defined place) plain.is_defined refl) (λ v c. goes_extends plain.is_defined c);
      extends = λ t. goes_extends plain.is_defined (record t { heap = body_set b q.body key o t.heap });
    })
    (λ u t. goes_extends plain.is_defined (record t { heap = body_set b q.body key o t.heap })))

-- ---- a property that is added

-- it is defined where there was none
defined_does : (p : Object Label) (q : Property) (given need : Label) (o : ℕ) (key : List ℕ) (heap : List (Object Label)) → slice_get heap o ≡ Some p → own key p.rows ≡ None
    → Does erased_heap (definition_made q key o (erased_heap heap)) (acts.add o key need q.body given q.marks heap)
defined_does p q given need o key heap e h =
    subst (λ x. Does erased_heap x (acts.add o key need q.body given q.marks heap))
    (same_change o (with_added key q) (with_defined key q) (erased_heap heap) (erased_object p) (object_erased heap o ∙ ap (λ y. option_map erased_object y) e)
    (sym (ap (λ y. with_defined_over y key q (erased_object p)) (own_erased key p.rows ∙ ap (λ y. option_map erased_slot y) h))))
    (add_does o key need q.body given q.marks heap (λ x d. ap (λ (y : Object Label). own key y.rows) (same_Some x p (sym d ∙ e)) ∙ h))

-- ---- a definition

-- the same property comes of it, or it is refused
over_yields : {w : List Mark} (b : Bool) (p : Object Label) (old : Option (Slot Label)) (d : Definition) (place given : Label) (o : ℕ) (key : List ℕ) (s : scopes.State) → slice_get s.heap o ≡ Some p → own key p.rows ≡ old → Shaped w s.frames
    → YieldsBy erased_defining w (tracked.define_over old d place given o key (behind_definition b (property_in old) d) s) (plain.define_by o key (behind_definition b (option_map erased_slot old) d) (erased s))
unfolding tracked.define_over plain.define_by
over_yields true p None d place given o key s e h r = acted_by (tracked.is_defined place) s r (defined_does p (defined_new d) given _ o key s.heap e h)
over_yields false p None d place given o key s e h r = throws_yields _ _ s r
over_yields {w} b p (Some x) d place given o key s e h r = by_case (may_define_over (erased_slot x) d)
  where
    by_case : (b : Bool) → YieldsBy erased_defining w (tracked.define_over (Some x) d place given o key (defined_if b (definitions.defined_over (erased_slot x) d)) s) (plain.define_by o key (defined_if b (definitions.defined_over (erased_slot x) d)) (erased s))
    by_case true = redefine_yields p x d place given o key s e h r
    by_case false = throws_yields _ _ s r

by_yields : {w : List Mark} (b : Bool) (p : Object Label) (marks : GivenMarks) (body : GivenBody) (place given : Label) (o : ℕ) (key : List ℕ) (s : scopes.State) → slice_get s.heap o ≡ Some p → Shaped w s.frames
    → YieldsBy erased_defining w (tracked.define_by b p marks body place given o key s)
    (choose b (ret (plain.has_length_given o marks)) (plain.define_by o key (behind_definition (may_add key (erased_object p)) (own key (erased_rows p.rows)) (record { marks = marks; body = body }))) (erased s))
unfolding tracked.define_by
by_yields true p marks body place given o key s e r = goes r
by_yields {w} false p marks body place given o key s e r =
    let d : Definition = record { marks = marks; body = body } in
    subst (λ b. YieldsBy erased_defining w (tracked.define_by false p marks body place given o key s) (plain.define_by o key (behind_definition b (own key (erased_rows p.rows)) d) (erased s))) (sym (may_add_erased s.heap key p))
    (subst (λ x. YieldsBy erased_defining w (tracked.define_by false p marks body place given o key s) (plain.define_by o key (behind_definition (walks.may_add key p) x d) (erased s))) (sym (own_erased key p.rows))
    (over_yields (walks.may_add key p) p (own key p.rows) d place given o key s e refl r))

pub given_yields : {w : List Mark} (p : Object Label) (marks : GivenMarks) (shape : Shape) (body : Option GivenBody) (place given : Label) (o : ℕ) (key : List ℕ) (s : scopes.State) → slice_get s.heap o ≡ Some p → Shaped w s.frames
    → YieldsBy erased_defining w (tracked.define_given shape.has_value p marks body place given o key s) (plain.define_given (erased_object p) o key marks shape body (erased s))
unfolding tracked.define_given plain.define_given
given_yields p marks shape None place given o key s e r = throws_yields _ _ s r
given_yields p marks shape (Some body) place given o key s e r = by_yields (is_length p.class key && shape.has_value) p marks body place given o key s e r
