-- Values, objects and records that agree: under a pairing that keeps the pairs, and the other way round.
use Rattle.std.proofs.Common.{◌≡◌, ℕ, List, Option, Some, Bool, ⊎_elim, refl, sym, ap₂, subst}
use Rattle.origin_labels.specs.Label.{Label, union}
use Rattle.js_values.specs.declared.value.Value.{Value}
use Rattle.js_values.specs.declared.property.Body.{Body}
use Rattle.js_values.specs.declared.property.Slot.{Slot}
use Rattle.js_values.specs.declared.inner.Inner.{Inner}
use Rattle.js_values.specs.declared.ids.ObjId.{ObjId}
use Rattle.js_values.specs.declared.ids.EnvId.{EnvId}
use Rattle.js_values.specs.Objects.{Rows, Object}
use Rattle.js_values.specs.Records.{Bindings, Record}
use Rattle.flow_meaning.specs.Scopes.{Val, joined}
use Rattle.low_equal.specs.Observed.{Sees, Hides}
use Rattle.low_equal.specs.LowEqual.{Pairing, IsOneToOne, Extends, Alike, seen, hidden, SameValue, primitives, objects, SameObject, neither, both, SameRecord, outermost, within, Agree, AllAgree, none, each, BodiesAgree, data_bodies, accessors, SlotsAgree, RowsAgree, no_rows, row, InnersAgree, plains, scripts, natives, bounds, ShapesAgree, seen_shape, hidden_shape, ObjectsAgree, BindingsAgree, no_bindings, bindings, RecordsAgree, Both, both_stand}
use Rattle.low_equal.proofs.Labels.{not_both, sees_or_hides, sees_union, hides_first, hides_second}

-- ---- pairings

pub extends_refl : (β : Pairing) → Extends β β
extends_refl β = record { objects = λ i j p. p; records = λ i j p. p }

pub extends_trans : {β γ δ : Pairing} → Extends β γ → Extends γ δ → Extends β δ
extends_trans p q = record { objects = λ i j r. q.objects i j (p.objects i j r); records = λ i j r. q.records i j (p.records i j r) }

-- the other way round
abbrev pub flipped : Pairing → Pairing
flipped β = record { objects = λ i j. β.objects j i; records = λ i j. β.records j i }

pub flipped_unique : {pairs : ℕ → ℕ → Bool} → IsOneToOne pairs → IsOneToOne (λ i j. pairs j i)
flipped_unique u i j a b p q = ((u j i b a p q).1, (u j i b a p q).0)

-- ---- what labels cover

module _ (observer : Label) where
  pub alike_map : {l m : Label} {P Q : Type 0} → (P → Q) → Alike observer l m P → Alike observer l m Q
  alike_map f (seen s e p) = seen s e (f p)
  alike_map f (hidden h k) = hidden h k

  pub alike_sym : {l m : Label} {P Q : Type 0} → (P → Q) → Alike observer l m P → Alike observer m l Q
  alike_sym f (seen s e p) = seen (subst (Sees observer) e s) (sym e) (f p)
  alike_sym f (hidden h k) = hidden k h

  pub alike_refl : (l : Label) → Alike observer l l (Unit {0})
  alike_refl l = ⊎_elim (λ p. seen p refl tt) (λ p. hidden p p) (sees_or_hides observer l)

  pub alike_same : {P : Type 0} (l : Label) → P → Alike observer l l P
  alike_same l p = alike_map (λ u. p) (alike_refl l)

  -- two labels on each side
  pub alike_join : {l m a b : Label} {P Q R : Type 0} → (P → Q → R) → Alike observer l m P → Alike observer a b Q → Alike observer (union l a) (union m b) R
  alike_join {l} {m} {a} {b} f (seen s e p) (seen t d q) = seen (sees_union observer l a s t) (ap₂ union e d) (f p q)
  alike_join {l} {m} {a} {b} f (seen s e p) (hidden t d) = hidden (hides_second observer l a t) (hides_second observer m b d)
  alike_join {l} {m} {a} {b} f (hidden h k) q = hidden (hides_first observer l a h) (hides_first observer m b k)

  -- behind a seen label
  pub alike_seen : {l m : Label} {P : Type 0} → Alike observer l m P → Sees observer l → (l ≡ m) × P
  alike_seen (seen s e p) q = (e, p)
  alike_seen {l = l} (hidden h k) q = absurd (not_both observer l q h)

  pub alike_hidden : {l m : Label} {P : Type 0} → Alike observer l m P → Hides observer l → Hides observer m
  alike_hidden {l = l} (seen s e p) h = absurd (not_both observer l s h)
  alike_hidden (hidden h k) q = k

  -- ---- with more pairs

  pub value_more : {β γ : Pairing} {v u : Value} → Extends β γ → SameValue β v u → SameValue γ v u
  value_more h primitives = primitives
  value_more h (objects p) = objects (h.objects _ _ p)

  pub object_more : {β γ : Pairing} {o q : Option ObjId} → Extends β γ → SameObject β o q → SameObject γ o q
  object_more h neither = neither
  object_more h (both p) = both (h.objects _ _ p)

  pub record_more : {β γ : Pairing} {e d : Option EnvId} → Extends β γ → SameRecord β e d → SameRecord γ e d
  record_more h outermost = outermost
  record_more h (within p) = within (h.records _ _ p)

  pub agree_more : {β γ : Pairing} {v u : Val} → Extends β γ → Agree observer β v u → Agree observer γ v u
  agree_more h r = alike_map (value_more h) r

  all_more : {β γ : Pairing} {vs us : List Val} → Extends β γ → AllAgree observer β vs us → AllAgree observer γ vs us
  all_more h none = none
  all_more h (each r q) = each (agree_more h r) (all_more h q)

  body_more : {β γ : Pairing} {l m : Label} {b c : Body} → Extends β γ → BodiesAgree observer β l m b c → BodiesAgree observer γ l m b c
  body_more h (data_bodies r) = data_bodies (alike_map (value_more h) r)
  body_more h (accessors r) = accessors (alike_map (λ x. (object_more h x.0, object_more h x.1)) r)

  slot_more : {β γ : Pairing} {s t : Slot Label} → Extends β γ → SlotsAgree observer β s t → SlotsAgree observer γ s t
  slot_more h r = alike_map (λ x. (x.0, body_more h x.1)) r

  rows_more : {β γ : Pairing} {rs qs : Rows (Slot Label)} → Extends β γ → RowsAgree observer β rs qs → RowsAgree observer γ rs qs
  rows_more h no_rows = no_rows
  rows_more h (row r q) = row (slot_more h r) (rows_more h q)

  inner_more : {β γ : Pairing} {p q : Inner Label} → Extends β γ → InnersAgree observer β p q → InnersAgree observer γ p q
  inner_more h plains = plains
  inner_more h (scripts p) = scripts (h.records _ _ p)
  inner_more h natives = natives
  inner_more h (bounds r v vs) = bounds (alike_map (λ p. h.objects _ _ p) r) (agree_more h v) (all_more h vs)

  shape_more : {β γ : Pairing} {p q : Object Label} → Extends β γ → ShapesAgree observer β p q → ShapesAgree observer γ p q
  shape_more h (seen_shape s e x r) = seen_shape s e x (rows_more h r)
  shape_more h (hidden_shape s t r) = hidden_shape s t (rows_more h r)

  pub objects_more : {β γ : Pairing} {p q : Object Label} → Extends β γ → ObjectsAgree observer β p q → ObjectsAgree observer γ p q
  objects_more h r = record { class = r.class; inner = inner_more h r.inner; links = alike_map (object_more h) r.links; shapes = shape_more h r.shapes }

  bindings_more : {β γ : Pairing} {bs cs : Bindings Val} → Extends β γ → BindingsAgree observer β bs cs → BindingsAgree observer γ bs cs
  bindings_more h no_bindings = no_bindings
  bindings_more h (bindings r q) = bindings (agree_more h r) (bindings_more h q)

  pub records_more : {β γ : Pairing} {r q : Record Val} → Extends β γ → RecordsAgree observer β r q → RecordsAgree observer γ r q
  records_more h r = record { outer = record_more h r.outer; bindings = bindings_more h r.bindings }

  -- ---- the other way round

  value_sym : {β : Pairing} {v u : Value} → SameValue β v u → SameValue (flipped β) u v
  value_sym primitives = primitives
  value_sym (objects p) = objects p

  object_sym : {β : Pairing} {o q : Option ObjId} → SameObject β o q → SameObject (flipped β) q o
  object_sym neither = neither
  object_sym (both p) = both p

  record_sym : {β : Pairing} {e d : Option EnvId} → SameRecord β e d → SameRecord (flipped β) d e
  record_sym outermost = outermost
  record_sym (within p) = within p

  pub agree_sym : {β : Pairing} {v u : Val} → Agree observer β v u → Agree observer (flipped β) u v
  agree_sym r = alike_sym value_sym r

  all_sym : {β : Pairing} {vs us : List Val} → AllAgree observer β vs us → AllAgree observer (flipped β) us vs
  all_sym none = none
  all_sym (each r q) = each (agree_sym r) (all_sym q)

  body_sym : {β : Pairing} {l m : Label} {b c : Body} → BodiesAgree observer β l m b c → BodiesAgree observer (flipped β) m l c b
  body_sym (data_bodies r) = data_bodies (alike_sym value_sym r)
  body_sym (accessors r) = accessors (alike_sym (λ x. (object_sym x.0, object_sym x.1)) r)

  slot_sym : {β : Pairing} {s t : Slot Label} → SlotsAgree observer β s t → SlotsAgree observer (flipped β) t s
  slot_sym r = alike_sym (λ x. (sym x.0, body_sym x.1)) r

  rows_sym : {β : Pairing} {rs qs : Rows (Slot Label)} → RowsAgree observer β rs qs → RowsAgree observer (flipped β) qs rs
  rows_sym no_rows = no_rows
  rows_sym (row r q) = row (slot_sym r) (rows_sym q)

  inner_sym : {β : Pairing} {p q : Inner Label} → InnersAgree observer β p q → InnersAgree observer (flipped β) q p
  inner_sym plains = plains
  inner_sym (scripts p) = scripts p
  inner_sym natives = natives
  inner_sym (bounds r v vs) = bounds (alike_sym (λ p. p) r) (agree_sym v) (all_sym vs)

  shape_sym : {β : Pairing} {p q : Object Label} → ShapesAgree observer β p q → ShapesAgree observer (flipped β) q p
  shape_sym (seen_shape s e x r) = seen_shape (subst (Sees observer) e s) (sym e) (sym x) (rows_sym r)
  shape_sym (hidden_shape s t r) = hidden_shape t s (rows_sym r)

  pub objects_sym : {β : Pairing} {p q : Object Label} → ObjectsAgree observer β p q → ObjectsAgree observer (flipped β) q p
  objects_sym r = record { class = sym r.class; inner = inner_sym r.inner; links = alike_sym object_sym r.links; shapes = shape_sym r.shapes }

  bindings_sym : {β : Pairing} {bs cs : Bindings Val} → BindingsAgree observer β bs cs → BindingsAgree observer (flipped β) cs bs
  bindings_sym no_bindings = no_bindings
  bindings_sym (bindings r q) = bindings (agree_sym r) (bindings_sym q)

  pub records_sym : {β : Pairing} {r q : Record Val} → RecordsAgree observer β r q → RecordsAgree observer (flipped β) q r
  records_sym r = record { outer = record_sym r.outer; bindings = bindings_sym r.bindings }

  -- ---- labels joined to values

  pub agree_joined : {β : Pairing} {l m : Label} {v u : Val} → Alike observer l m (Unit {0}) → Agree observer β v u → Agree observer β (joined l v) (joined m u)
  agree_joined a r = alike_join (λ x y. x) r a

  pub agree_seen : {β : Pairing} {v u : Val} → Agree observer β v u → Sees observer v.label → SameValue β v.value u.value
  agree_seen r p = (alike_seen r p).1

  pub label_alike : {β : Pairing} {v u : Val} → Agree observer β v u → Alike observer v.label u.label (Unit {0})
  label_alike r = alike_map (λ x. tt) r

-- ---- both stand

pub both_map : {A : Type 0} {P Q : A → A → Type 0} {o p : Option A} → ((a b : A) → P a b → Q a b) → Both P o p → Both Q o p
both_map f (both_stand r) = both_stand (f _ _ r)

pub both_sym : {A : Type 0} {P Q : A → A → Type 0} {o p : Option A} → ((a b : A) → P a b → Q b a) → Both P o p → Both Q p o
both_sym f (both_stand r) = both_stand (f _ _ r)

-- the two elements
pub record Two {A : Type 0} (P : A → A → Type 0) (o p : Option A) : Type 0 where
  pub one : A
  pub other : A
  pub is_one : o ≡ Some one
  pub is_other : p ≡ Some other
  pub related : P one other

pub two : {A : Type 0} {P : A → A → Type 0} {o p : Option A} → Both P o p → Two P o p
two (both_stand r) = record { one = _; other = _; is_one = refl; is_other = refl; related = r }

pub both_by : {A : Type 0} (P : A → A → Type 0) {o p : Option A} {a b : A} → o ≡ Some a → p ≡ Some b → P a b → Both P o p
both_by P {o} {p} {a} {b} e f r = subst (λ x. Both P x p) (sym e) (subst (λ x. Both P (Some a) x) (sym f) (both_stand r))
