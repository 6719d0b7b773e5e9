-- Two states that an observer can't tell apart, under a pairing of their objects and records.
use Rattle.std.specs.Prelude.{◌≡◌, ℕ, ◌<◌, length, Bool, true, List, [], ◌∷◌, Option, Some, None, slice_get, slice_index, if◌then◌else◌}
use Rattle.origin_labels.specs.Label.{Label, sees}
use Rattle.flow_policy.specs.declared.policy.Channel.{Channel}
use Rattle.flow_policy.specs.Policies.{Tables}
use Rattle.js_number.specs.declared.primitive.Primitive.{Primitive}
use Rattle.js_values.specs.declared.ids.ObjId.{ObjId}
use Rattle.js_values.specs.declared.ids.EnvId.{EnvId}
use Rattle.js_values.specs.declared.value.Value.{Value}
use Rattle.js_values.specs.declared.value.Value.TheVariants as value
use Rattle.js_values.specs.declared.property.Body.{Body}
use Rattle.js_values.specs.declared.property.Body.TheVariants.{Data, Accessor}
use Rattle.js_values.specs.declared.property.Slot.{Slot}
use Rattle.js_values.specs.declared.inner.Inner.{Inner}
use Rattle.js_values.specs.declared.inner.Inner.TheVariants.{Plain, Script, Native, Bound}
use Rattle.js_values.specs.Objects.{Rows, Object}
use Rattle.js_values.specs.Records.{Bindings, Record}
use Rattle.es_meaning.specs.Start.{start_heap}
use Rattle.flow_meaning.specs.Scopes.{Val, State}
use Rattle.low_equal.specs.Observed.{Sees, Hides, view, SameLines}

-- ---- pairings: which object and which record of one state stands for which of the other

pub record Pairing : Type 0 where
  pub objects : ℕ → ℕ → Bool
  pub records : ℕ → ℕ → Bool

abbrev pub IsOneToOne : (ℕ → ℕ → Bool) → Type 0
IsOneToOne pairs = (i j a b : ℕ) → pairs i j ≡ true → pairs a b ≡ true → (i ≡ a → j ≡ b) × (j ≡ b → i ≡ a)

-- a pairing that keeps the pairs
pub record Extends (β γ : Pairing) : Type 0 where
  pub objects : (i j : ℕ) → β.objects i j ≡ true → γ.objects i j ≡ true
  pub records : (i j : ℕ) → β.records i j ≡ true → γ.records i j ≡ true

-- ---- values

-- both labels are seen, and what they cover is related; or both are hidden. Labels that are seen are equal, which is more than is needed
pub data Alike (observer l m : Label) (P : Type 0) : Type 0 where
  seen : Sees observer l → l ≡ m → P → Alike observer l m P
  hidden : Hides observer l → Hides observer m → Alike observer l m P

pub data SameValue (β : Pairing) : Value → Value → Type 0 where
  primitives : {p : Primitive} → SameValue β (value.Primitive p) (value.Primitive p)
  objects : {o q : ObjId} → β.objects o.0 q.0 ≡ true → SameValue β (value.Object o) (value.Object q)

-- neither has an object, or both have paired ones; and so of records
pub data SameObject (β : Pairing) : Option ObjId → Option ObjId → Type 0 where
  neither : SameObject β None None
  both : {o q : ObjId} → β.objects o.0 q.0 ≡ true → SameObject β (Some o) (Some q)

pub data SameRecord (β : Pairing) : Option EnvId → Option EnvId → Type 0 where
  outermost : SameRecord β None None
  within : {e d : EnvId} → β.records e.0 d.0 ≡ true → SameRecord β (Some e) (Some d)

module _ (observer : Label) (β : Pairing) where
  abbrev pub Agree : Val → Val → Type 0
  Agree v u = Alike observer v.label u.label (SameValue β v.value u.value)

  pub data AllAgree : List Val → List Val → Type 0 where
    none : AllAgree [] []
    each : {v u : Val} {vs us : List Val} → Agree v u → AllAgree vs us → AllAgree (v ∷ vs) (u ∷ us)

  -- ---- objects

  -- both are data or both are accessors, and what they hold agrees under their labels
  pub data BodiesAgree (l m : Label) : Body → Body → Type 0 where
    data_bodies : {v u : Value} → Alike observer l m (SameValue β v u) → BodiesAgree l m (Data v) (Data u)
    accessors : {g f s t : Option ObjId} → Alike observer l m (SameObject β g f × SameObject β s t) → BodiesAgree l m (Accessor g s) (Accessor f t)

  -- existence is seen in both, with the same marks and bodies that agree; or hidden in both
  abbrev pub SlotsAgree : Slot Label → Slot Label → Type 0
  SlotsAgree s t = Alike observer s.existence t.existence ((s.marks ≡ t.marks) × BodiesAgree s.label t.label s.body t.body)

  -- the same keys in the same order
  pub data RowsAgree : Rows (Slot Label) → Rows (Slot Label) → Type 0 where
    no_rows : RowsAgree [] []
    row : {key : List ℕ} {s t : Slot Label} {rs qs : Rows (Slot Label)} → SlotsAgree s t → RowsAgree rs qs → RowsAgree ((key, s) ∷ rs) ((key, t) ∷ qs)

  pub data InnersAgree : Inner Label → Inner Label → Type 0 where
    plains : InnersAgree Plain Plain
    scripts : {n : ℕ} {e d : EnvId} → β.records e.0 d.0 ≡ true → InnersAgree (Script n e) (Script n d)
    natives : {n : ℕ} → InnersAgree (Native n) (Native n)
    bounds : {o q : ObjId} {l m : Label} {this that : Val} {vs us : List Val} → Alike observer l m (β.objects o.0 q.0 ≡ true) → Agree this that → AllAgree vs us
        → InnersAgree (Bound o l this vs) (Bound q m that us)

-- the rows whose existence the observer sees
abbrev pub seen_rows : Label → Rows (Slot Label) → Rows (Slot Label)
seen_rows observer [] = []
seen_rows observer (r ∷ rows) = if sees observer r.1.existence then r ∷ seen_rows observer rows else seen_rows observer rows

module _ (observer : Label) (β : Pairing) where
  -- structure is seen in both, and all keys are the same; or hidden in both, and those whose existence is seen are the same
  pub data ShapesAgree (p q : Object Label) : Type 0 where
    seen_shape : Sees observer p.structure → p.structure ≡ q.structure → p.extensible ≡ q.extensible → RowsAgree observer β p.rows q.rows → ShapesAgree p q
    hidden_shape : Hides observer p.structure → Hides observer q.structure → RowsAgree observer β (seen_rows observer p.rows) (seen_rows observer q.rows) → ShapesAgree p q

  pub record ObjectsAgree (p q : Object Label) : Type 0 where
    pub class : p.class ≡ q.class
    pub inner : InnersAgree observer β p.inner q.inner
    pub links : Alike observer p.link q.link (SameObject β p.proto q.proto)
    pub shapes : ShapesAgree p q

  -- ---- records

  -- the same names in the same order, with the same mutability and values that agree
  pub data BindingsAgree : Bindings Val → Bindings Val → Type 0 where
    no_bindings : BindingsAgree [] []
    bindings : {name : List ℕ} {mutable : Bool} {v u : Val} {bs cs : Bindings Val} → Agree observer β v u → BindingsAgree bs cs
        → BindingsAgree (record { name = name; mutable = mutable; value = v } ∷ bs) (record { name = name; mutable = mutable; value = u } ∷ cs)

  pub record RecordsAgree (r q : Record Val) : Type 0 where
    pub outer : SameRecord β r.outer q.outer
    pub bindings : BindingsAgree r.bindings q.bindings

-- both stand, and agree
pub data Both {A : Type 0} (P : A → A → Type 0) : Option A → Option A → Type 0 where
  both_stand : {a b : A} → P a b → Both P (Some a) (Some b)

-- ---- what is well formed: the numbers of a prototype and of a bound function's target are below the object's, and that of the record outside below the one
-- inside it; no key of an object stands twice

pub data IsAbsent {S : Type 0} (key : List ℕ) : Rows S → Type 0 where
  nowhere : IsAbsent key []
  elsewhere : {other : List ℕ} {s : S} {rows : Rows S} → (other ≡ key → ⊥) → IsAbsent key rows → IsAbsent key ((other, s) ∷ rows)

pub data AreDistinct {S : Type 0} : Rows S → Type 0 where
  no_keys : AreDistinct []
  one_more : {key : List ℕ} {s : S} {rows : Rows S} → IsAbsent key rows → AreDistinct rows → AreDistinct ((key, s) ∷ rows)

-- the target of a bound function, where the observer sees which it is, has a number below its own
abbrev pub TargetBelow : Label → ℕ → Inner Label → Type 0
TargetBelow observer o (Bound target label this args) = Sees observer label → target.0 < o
TargetBelow observer o _ = Unit {0}

pub record IsFormed (observer : Label) (o : ℕ) (p : Object Label) : Type 0 where
  -- where the observer sees which it is
  pub below : Sees observer p.link → (q : ObjId) → p.proto ≡ Some q → q.0 < o
  pub target : TargetBelow observer o p.inner
  pub distinct : AreDistinct p.rows

abbrev pub FormedAt : Label → List (Object Label) → ℕ → Type 0
FormedAt observer heap o = (p : Object Label) → slice_get heap o ≡ Some p → IsFormed observer o p

abbrev pub NestedAt : List (Record Val) → ℕ → Type 0
NestedAt records i = (r : Record Val) → slice_get records i ≡ Some r → (e : EnvId) → r.outer ≡ Some e → e.0 < i

-- ---- states

pub record HeapsAgree (observer : Label) (β : Pairing) (h g : List (Object Label)) : Type 0 where
  -- the standard's own objects, to which acts refer by their numbers, stand for themselves
  pub starts : (o : ℕ) → o < length start_heap → β.objects o o ≡ true
  pub paired : (o q : ℕ) → β.objects o q ≡ true → Both (ObjectsAgree observer β) (slice_get h o) (slice_get g q)
  pub one_to_one : IsOneToOne β.objects
  -- paired objects are well formed. Of the others nothing is asked: one that is made where the context is hidden may be anything
  pub left : (o q : ℕ) → β.objects o q ≡ true → FormedAt observer h o
  pub right : (o q : ℕ) → β.objects o q ≡ true → FormedAt observer g q

pub record ScopesAgree (observer : Label) (β : Pairing) (rs qs : List (Record Val)) : Type 0 where
  pub paired : (i j : ℕ) → β.records i j ≡ true → Both (RecordsAgree observer β) (slice_get rs i) (slice_get qs j)
  pub one_to_one : IsOneToOne β.records
  pub left : (i j : ℕ) → β.records i j ≡ true → NestedAt rs i
  pub right : (i j : ℕ) → β.records i j ≡ true → NestedAt qs j

-- each input channel that the observer sees has the same position
abbrev pub PositionsAgree : Label → Tables → List ℕ → List ℕ → Type 0
PositionsAgree observer tables ps qs = (i : ℕ) (channel : Channel) → slice_get tables.inputs i ≡ Some channel → Sees observer channel.label → slice_index ps i ≡ slice_index qs i

pub record LowEqual (observer : Label) (tables : Tables) (β : Pairing) (s t : State) : Type 0 where
  -- a frame stands in each, as in every run, and both have as many positions
  pub some : 0 < length s.frames
  pub counts : length s.positions ≡ length t.positions
  pub frames : view observer s.frames ≡ view observer t.frames
  pub heap : HeapsAgree observer β s.heap t.heap
  pub records : ScopesAgree observer β s.records t.records
  pub positions : PositionsAgree observer tables s.positions t.positions
  pub lines : SameLines observer tables s.lines t.lines
