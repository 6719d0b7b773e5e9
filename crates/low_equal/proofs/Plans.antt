-- What a put does in two runs.
use Rattle.std.proofs.Common.{◌≡◌, ℕ, Bool, true, false, List, ◌&&◌, ◌||◌, not, if◌then◌else◌, Option, Some, None, slice_get, refl, sym, ◌∙◌, ap, ap₂, subst, true≢false}
use Rattle.origin_labels.specs.Label.{Label, bottom, union}
use Rattle.js_values.specs.declared.ids.ObjId.{ObjId}
use Rattle.js_values.specs.declared.value.Value.{Value}
use Rattle.js_values.specs.declared.property.Marks.{Marks}
use Rattle.js_values.specs.declared.property.Body.{Body}
use Rattle.js_values.specs.declared.property.Body.TheVariants.{Data, Accessor}
use Rattle.js_values.specs.declared.property.Slot.{Slot}
use Rattle.js_values.specs.Arrays.{length_key, element_of, is_past_value, is_past, element_label}
use Rattle.js_values.specs.Chains.{onwards, beginning, chain_within}
use Rattle.js_values.specs.Objects.{Object, number_of, own}
use Rattle.js_values.specs.Walks.{object_chain, Found, find}
use Rattle.object_heap.specs.Formed.{own_in}
use Rattle.prototype_walk.specs.declared.plan.PutPlan.{PutPlan}
use Rattle.prototype_walk.specs.declared.plan.PutPlan.TheVariants.{Write, Add, Setter, Refused}
use Rattle.prototype_walk.specs.Plans.{if_allowed, setter_plan, own_plan, inherited_plan, beyond_plan, gets_element, may_add, absence_label, plan_at, can_put}
use Rattle.low_equal.specs.Observed.{Sees, Hides}
use Rattle.low_equal.specs.LowEqual.{Pairing, Alike, seen, hidden, SameObject, neither, both, SameValue, primitives, objects, BodiesAgree, data_bodies, accessors, ShapesAgree, seen_shape, hidden_shape, HeapsAgree}
use Rattle.low_equal.proofs.Labels.{sees_union, hides_first, hides_second, sees_bottom}
use Rattle.low_equal.proofs.Changes.{SameKind, both_data, MayTake, kind_stays}
use Rattle.low_equal.proofs.Agreement.{alike_map, alike_join}
use Rattle.low_equal.proofs.Rows.{OwnAgree, neither_names, both_name, own_agree}
use Rattle.low_equal.proofs.Additions.{IsNew}
use Rattle.low_equal.proofs.Walks.{own_walk, alike_behind, hidden_behind, OwnCase, at_both, at_none, out_of_sight, own_case, ChainsAgree, no_objects, hidden_link, seen_link, chains_agree, FoundSame, not_found, found, find_agree}

-- the label of a property's value
abbrev pub slot_label : Option (Slot Label) → Label
slot_label None = bottom
slot_label (Some s) = s.label

-- the label on which a plan depends: that of the walk, and where a setter is called the value label of its accessor besides
abbrev pub plan_label : List ℕ → List (Object Label) → PutPlan Label → Label
plan_label key h (Write walk) = walk
plan_label key h (Add walk) = walk
plan_label key h (Setter at walk) = union walk (slot_label (own_in key (slice_get h at.0)))
plan_label key h (Refused walk) = walk

-- two accessors whose setters are paired
pub data SettersAgree (β : Pairing) : Option (Slot Label) → Option (Slot Label) → Type 0 where
  setters_agree : {s t : Slot Label} {a b : Option ObjId} {f k : ObjId} → s.label ≡ t.label → s.body ≡ Accessor a (Some f) → t.body ≡ Accessor b (Some k) → β.objects f.0 k.0 ≡ true → SettersAgree β (Some s) (Some t)

-- both write, both add, both are refused, or both call setters that are paired, of paired objects
pub data PlansSame (β : Pairing) (key : List ℕ) (h g : List (Object Label)) : PutPlan Label → PutPlan Label → Type 0 where
  writes : {l m : Label} → PlansSame β key h g (Write l) (Write m)
  adds : {l m : Label} → PlansSame β key h g (Add l) (Add m)
  refusals : {l m : Label} → PlansSame β key h g (Refused l) (Refused m)
  setters : {o q : ObjId} {l m : Label} → l ≡ m → β.objects o.0 q.0 ≡ true → SettersAgree β (own_in key (slice_get h o.0)) (own_in key (slice_get g q.0)) → PlansSame β key h g (Setter o l) (Setter q m)

-- ---- what a plan says of the object

is_write : PutPlan Label → Bool
is_write (Write l) = true
is_write (Add l) = false
is_write (Setter o l) = false
is_write (Refused l) = false

is_add : PutPlan Label → Bool
is_add (Write l) = false
is_add (Add l) = true
is_add (Setter o l) = false
is_add (Refused l) = false

setter_neither : (o : ℕ) (set : Option ObjId) (label walk : Label) → (is_write (setter_plan o set label walk) ≡ false) × (is_add (setter_plan o set label walk) ≡ false)
unfolding is_write is_add
setter_neither o None label walk = (refl, refl)
setter_neither o (Some f) label walk = (refl, refl)

own_no_add : (o : ℕ) (s : Slot Label) (body : Body) (walk : Label) → is_add (own_plan o s body walk) ≡ false
unfolding is_add
own_no_add o s (Accessor get set) walk = (setter_neither o set s.label walk).1
own_no_add o s (Data v) walk = go s.marks.writable
  where
    go : (b : Bool) → is_add (if_allowed b (Write walk) walk) ≡ false
    go true = refl
    go false = refl

own_data : (o : ℕ) (s : Slot Label) (body : Body) (walk : Label) (v : Value) → is_write (own_plan o s body walk) ≡ true → SameKind body (Data v)
own_data o s (Data u) walk v e = both_data
own_data o s (Accessor get set) walk v e = absurd (true≢false (sym e ∙ (setter_neither o set s.label walk).0))

-- the plan of an object with a property
with_own : (h : List (Object Label)) (o : ℕ) (key : List ℕ) (p : Object Label) (s : Slot Label) → slice_get h o ≡ Some p → own key p.rows ≡ Some s → can_put key (object_chain h o) ≡ own_plan o s s.body s.existence
with_own h o key p s e f =
    ap (λ (x : Option (Object Label)). can_put key (beginning o x (λ a. onwards (number_of a.proto) (chain_within (λ q. number_of q.proto) h o)))) e
    ∙ ap (λ (x : Option (Slot Label)). plan_at key o p x (find key (onwards (number_of p.proto) (chain_within (λ q. number_of q.proto) h o)))) f

-- a plan to write is one of a data property
pub plan_data : (h : List (Object Label)) (o : ℕ) (key : List ℕ) (need walk : Label) (v : Value) → can_put key (object_chain h o) ≡ Write walk → MayTake h o key need (Data v)
unfolding is_write
plan_data h o key need walk v e p s d f = kind_stays (own_data o s s.body s.existence v (ap is_write (sym (with_own h o key p s d f) ∙ e)))

-- and one to add is one of an object that hasn't the key
pub plan_new : (h : List (Object Label)) (o : ℕ) (key : List ℕ) (walk : Label) → can_put key (object_chain h o) ≡ Add walk → IsNew h o key
unfolding is_add
plan_new h o key walk e p d = go (own key p.rows) refl
  where
    go : (x : Option (Slot Label)) → own key p.rows ≡ x → x ≡ None
    go None f = refl
    go (Some s) f = absurd (true≢false (sym (ap is_add (sym (with_own h o key p s d f) ∙ e)) ∙ own_no_add o s s.body s.existence))

-- ---- plans whose labels are hidden

module _ (observer : Label) (key : List ℕ) (h : List (Object Label)) where
  hidden_setter : (o : ℕ) (set : Option ObjId) (label walk : Label) → Hides observer walk → Hides observer (plan_label key h (setter_plan o set label walk))
  hidden_setter o None label walk e = hides_first observer walk label e
  hidden_setter o (Some f) label walk e = hides_first observer walk (slot_label (own_in key (slice_get h o))) e

  -- by the value label of its accessor
  hidden_accessor : (o : ℕ) (set : Option ObjId) (s : Slot Label) (walk : Label) → own_in key (slice_get h o) ≡ Some s → Hides observer s.label → Hides observer (plan_label key h (setter_plan o set s.label walk))
  hidden_accessor o None s walk here e = hides_second observer walk s.label e
  hidden_accessor o (Some f) s walk here e = subst (λ x. Hides observer (union walk (slot_label x))) (sym here) (hides_second observer walk s.label e)

  hidden_if_write : (b : Bool) (walk : Label) → Hides observer walk → Hides observer (plan_label key h (if_allowed b (Write walk) walk))
  hidden_if_write true walk e = e
  hidden_if_write false walk e = e

  hidden_if_add : (b : Bool) (walk : Label) → Hides observer walk → Hides observer (plan_label key h (if_allowed b (Add walk) walk))
  hidden_if_add true walk e = e
  hidden_if_add false walk e = e

  hidden_own : (o : ℕ) (s : Slot Label) (body : Body) (walk : Label) → Hides observer walk → Hides observer (plan_label key h (own_plan o s body walk))
  hidden_own o s (Data v) walk e = hidden_if_write s.marks.writable walk e
  hidden_own o s (Accessor get set) walk e = hidden_setter o set s.label walk e

  hidden_inherited : (extensible : Bool) (o : ℕ) (s : Slot Label) (body : Body) (walk : Label) → Hides observer walk → Hides observer (plan_label key h (inherited_plan extensible o s body walk))
  hidden_inherited extensible o s (Data v) walk e = hidden_if_add (extensible && s.marks.writable) walk e
  hidden_inherited extensible o s (Accessor get set) walk e = hidden_setter o set s.label walk e

  hidden_beyond : (extensible : Bool) (x : Option (ℕ × Slot Label)) (walk : Label) → Hides observer walk → Hides observer (plan_label key h (beyond_plan extensible x walk))
  hidden_beyond extensible None walk e = hidden_if_add extensible walk e
  hidden_beyond extensible (Some f) walk e = hidden_inherited extensible f.0 f.1 f.1.body walk e

  hidden_plan : (o : ℕ) (p : Object Label) (x : Option (Slot Label)) (rest : Found) → Hides observer (own_walk p.structure x) → Hides observer (plan_label key h (plan_at key o p x rest))
  hidden_plan o p None rest e = hidden_beyond (may_add key p) rest.at _ (hides_first observer (absence_label key p) (union p.link rest.walk) (hides_first observer p.structure _ e))
  hidden_plan o p (Some s) rest e = hidden_own o s s.body s.existence e

-- ---- two plans

module _ (observer : Label) (β : Pairing) (key : List ℕ) (h g : List (Object Label)) where
  abbrev pub PlansAgree : PutPlan Label → PutPlan Label → Type 0
  PlansAgree a b = Alike observer (plan_label key h a) (plan_label key g b) (PlansSame β key h g a b)

  if_writes : {a b : Bool} (l m : Label) → a ≡ b → Sees observer l → l ≡ m → PlansAgree (if_allowed a (Write l) l) (if_allowed b (Write m) m)
  if_writes {a} {b} l m e s t = subst (λ z. PlansAgree (if_allowed a (Write l) l) (if_allowed z (Write m) m)) e (same a)
    where
      same : (z : Bool) → PlansAgree (if_allowed z (Write l) l) (if_allowed z (Write m) m)
      same true = seen s t writes
      same false = seen s t refusals

  if_adds : {a b : Bool} (l m : Label) → a ≡ b → Sees observer l → l ≡ m → PlansAgree (if_allowed a (Add l) l) (if_allowed b (Add m) m)
  if_adds {a} {b} l m e s t = subst (λ z. PlansAgree (if_allowed a (Add l) l) (if_allowed z (Add m) m)) e (same a)
    where
      same : (z : Bool) → PlansAgree (if_allowed z (Add l) l) (if_allowed z (Add m) m)
      same true = seen s t adds
      same false = seen s t refusals

  setters_level : {i j : ℕ} {s t : Slot Label} {a b set other : Option ObjId} (l m : Label) → Sees observer l → l ≡ m → β.objects i j ≡ true → own_in key (slice_get h i) ≡ Some s → own_in key (slice_get g j) ≡ Some t
      → s.body ≡ Accessor a set → t.body ≡ Accessor b other → Alike observer s.label t.label (SameObject β a b × SameObject β set other) → PlansAgree (setter_plan i set s.label l) (setter_plan j other t.label m)
  setters_level {i} {j} {s} {t} {set = set} {other = other} l m e f pair x y d c (hidden u v) = hidden (hidden_accessor observer key h i set s l x u) (hidden_accessor observer key g j other t m y v)
  setters_level {i} {j} {s} {t} {a} {b} l m e f pair x y d c (seen u v z) = by_setters d c z.1
    where
      by_setters : {set other : Option ObjId} → s.body ≡ Accessor a set → t.body ≡ Accessor b other → SameObject β set other → PlansAgree (setter_plan i set s.label l) (setter_plan j other t.label m)
      by_setters d c neither = seen (sees_union observer l s.label e u) (ap₂ union f v) refusals
      by_setters d c (both q) = seen
          (subst (λ w. Sees observer (union l (slot_label w))) (sym x) (sees_union observer l s.label e u))
          (ap (λ w. union l (slot_label w)) x ∙ ap₂ union f v ∙ sym (ap (λ w. union m (slot_label w)) y))
          (setters f pair (subst (λ w. SettersAgree β w (own_in key (slice_get g j))) (sym x) (subst (λ w. SettersAgree β (Some s) w) (sym y) (setters_agree v d c q))))

  own_level : {i j : ℕ} {s t : Slot Label} {a b : Body} (l m : Label) → Sees observer l → l ≡ m → β.objects i j ≡ true → own_in key (slice_get h i) ≡ Some s → own_in key (slice_get g j) ≡ Some t → s.marks ≡ t.marks
      → s.body ≡ a → t.body ≡ b → BodiesAgree observer β s.label t.label a b → PlansAgree (own_plan i s a l) (own_plan j t b m)
  own_level l m e f pair x y marks d c (data_bodies r) = if_writes l m (ap (λ (z : Marks). z.writable) marks) e f
  own_level l m e f pair x y marks d c (accessors r) = setters_level l m e f pair x y d c r

  inherited_level : {i j : ℕ} {s t : Slot Label} {a b : Body} {extensible other : Bool} (l m : Label) → Sees observer l → l ≡ m → extensible ≡ other → β.objects i j ≡ true → own_in key (slice_get h i) ≡ Some s → own_in key (slice_get g j) ≡ Some t
      → s.marks ≡ t.marks → s.body ≡ a → t.body ≡ b → BodiesAgree observer β s.label t.label a b → PlansAgree (inherited_plan extensible i s a l) (inherited_plan other j t b m)
  inherited_level l m e f same pair x y marks d c (data_bodies r) = if_adds l m (ap₂ (λ v w. v && w) same (ap (λ (z : Marks). z.writable) marks)) e f
  inherited_level l m e f same pair x y marks d c (accessors r) = setters_level l m e f pair x y d c r

  beyond_level : {extensible other : Bool} {o u : Option (ℕ × Slot Label)} (l m : Label) → Alike observer l m ((extensible ≡ other) × FoundSame observer β h g key o u) → PlansAgree (beyond_plan extensible o l) (beyond_plan other u m)
  beyond_level {extensible} {other} {o} {u} l m (hidden s t) = hidden (hidden_beyond observer key h extensible o l s) (hidden_beyond observer key g other u m t)
  beyond_level l m (seen s t (same, not_found)) = if_adds l m same s t
  beyond_level l m (seen s t (same, found pair x y marks r)) = inherited_level l m s t same pair x y marks refl refl r

  -- ---- whether a key may be added

  past_same : (i : ℕ) {v u : Value} → SameValue β v u → is_past_value i v ≡ is_past_value i u
  past_same i primitives = refl
  past_same i (objects e) = refl

  past_bodies : (i : ℕ) {l m : Label} {a b : Body} → BodiesAgree observer β l m a b → Alike observer l m (not (is_past i a) ≡ not (is_past i b))
  past_bodies i (data_bodies r) = alike_map observer (λ x. ap not (past_same i x)) r
  past_bodies i (accessors r) = alike_map observer (λ x. refl) r

  hidden_element : (i : ℕ) (s : Slot Label) → Hides observer s.existence → Hides observer (element_label (Some i) (Some s))
  hidden_element i s e = by_case s.marks.writable
    where
      by_case : (b : Bool) → Hides observer (if b then s.existence else union s.existence s.label)
      by_case true = e
      by_case false = hides_first observer s.existence s.label e

  seen_element : (i : ℕ) (s t : Slot Label) → Sees observer s.existence → s.existence ≡ t.existence → s.marks ≡ t.marks → BodiesAgree observer β s.label t.label s.body t.body
      → Alike observer (element_label (Some i) (Some s)) (element_label (Some i) (Some t)) (gets_element (Some i) (Some s) ≡ gets_element (Some i) (Some t))
  seen_element i s t e f marks r =
      subst (λ c. Alike observer (if s.marks.writable then s.existence else union s.existence s.label) (if c then t.existence else union t.existence t.label) ((s.marks.writable || not (is_past i s.body)) ≡ (c || not (is_past i t.body))))
      (ap (λ (m : Marks). m.writable) marks) (by_case s.marks.writable)
    where
      by_case : (b : Bool) → Alike observer (if b then s.existence else union s.existence s.label) (if b then t.existence else union t.existence t.label) ((b || not (is_past i s.body)) ≡ (b || not (is_past i t.body)))
      by_case true = seen e f refl
      by_case false = alike_behind observer s.existence t.existence e f (past_bodies i r)

  length_agrees : (i : Option ℕ) {o u : Option (Slot Label)} → OwnAgree observer β o u → Alike observer (element_label i o) (element_label i u) (gets_element i o ≡ gets_element i u)
  length_agrees None r = seen (sees_bottom observer) refl refl
  length_agrees (Some i) neither_names = seen (sees_bottom observer) refl refl
  length_agrees (Some i) (both_name {s = s} {t = t} (seen e f z)) = seen_element i s t e f z.0 z.1
  length_agrees (Some i) (both_name {s = s} {t = t} (hidden e f)) = hidden (hidden_element i s e) (hidden_element i t f)

  pub absence_agrees : {p q : Object Label} → p.class ≡ q.class → ShapesAgree observer β p q → Alike observer (absence_label key p) (absence_label key q) (may_add key p ≡ may_add key q)
  absence_agrees {p} {q} c (seen_shape a b x r) = alike_join observer (λ (y : Unit {0}) z. ap₂ (λ v w. v && w) x z) (seen a b tt)
      (subst (λ k. Alike observer (element_label (element_of p.class key) (own length_key p.rows)) (element_label (element_of k key) (own length_key q.rows)) (gets_element (element_of p.class key) (own length_key p.rows) ≡ gets_element (element_of k key) (own length_key q.rows))) c
      (length_agrees (element_of p.class key) (own_agree observer length_key r)))
  absence_agrees {p} {q} c (hidden_shape a b r) = hidden (hides_first observer p.structure _ a) (hides_first observer q.structure _ b)

  plan_first : {i j : ℕ} {p q : Object Label} {o u : Option (Slot Label)} (a b : Found) → β.objects i j ≡ true → own_in key (slice_get h i) ≡ o → own_in key (slice_get g j) ≡ u → OwnCase observer β p q o u
      → Alike observer (absence_label key p) (absence_label key q) (may_add key p ≡ may_add key q) → Alike observer (union p.link a.walk) (union q.link b.walk) (FoundSame observer β h g key a.at b.at) → PlansAgree (plan_at key i p o a) (plan_at key j q u b)
  plan_first a b pair x y (at_both {s = s} {t = t} e f marks z) absent r = own_level s.existence t.existence e f pair x y marks refl refl z
  plan_first {p = p} {q = q} a b pair x y (at_none s t z) absent r = beyond_level (union (absence_label key p) (union p.link a.walk)) (union (absence_label key q) (union q.link b.walk)) (alike_join observer (λ x y. (x, y)) absent r)
  plan_first {i} {j} {p} {q} a b pair x y (out_of_sight {o = o} {u = u} s t) absent r = hidden (hidden_plan observer key h i p o a s) (hidden_plan observer key g j q u b t)

  plans_agree : {c d : List (ℕ × Object Label)} → ChainsAgree observer β h g c d → PlansAgree (can_put key c) (can_put key d)
  plans_agree no_objects = seen (sees_bottom observer) refl refusals
  plans_agree (hidden_link {p = p} {q = q} {c = c} {d = d} z s t) = plan_first (find key c) (find key d) z.pair (ap (own_in key) z.here) (ap (own_in key) z.there) (own_case observer β key z.distinct z.others z.agree.shapes) (absence_agrees z.agree.class z.agree.shapes)
      (hidden_behind observer p.link q.link (find key c).walk (find key d).walk s t)
  plans_agree (seen_link {p = p} {q = q} {c = c} {d = d} z s t more) = plan_first (find key c) (find key d) z.pair (ap (own_in key) z.here) (ap (own_in key) z.there) (own_case observer β key z.distinct z.others z.agree.shapes) (absence_agrees z.agree.class z.agree.shapes)
      (alike_behind observer p.link q.link s t (find_agree observer β h g key more))

  -- plans of paired objects
  pub level_can_put : {i j : ℕ} → HeapsAgree observer β h g → β.objects i j ≡ true → PlansAgree (can_put key (object_chain h i)) (can_put key (object_chain g j))
  level_can_put r e = plans_agree (chains_agree observer β h g r e)
