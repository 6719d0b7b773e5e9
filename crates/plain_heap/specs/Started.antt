-- What stays true of the objects that a run starts with, while more is made.
use Rattle.std.specs.Prelude.{◌≡◌, ◌≤◌, ℕ, Bool, true, not, ◌||◌, List, [], ◌∷◌, Option, Some, None, length, slice_get}
use Rattle.js_values.specs.declared.inner.Class.TheVariants as class
use Rattle.js_values.specs.Objects.{Rows, Property, PlainObject}
use Rattle.es_meaning.specs.Plain.{may_hold}
use Rattle.es_meaning.specs.Start.{object_prototype, start_heap}

-- a property that may be defined anew, or that no function is put into (ECMA-262 10.5)
abbrev pub is_replaceable : Property → Bool
is_replaceable p = p.marks.configurable || not (may_hold p p.body)

abbrev pub AreReplaceable : Rows Property → Type 0
AreReplaceable [] = Unit {0}
AreReplaceable (r ∷ rows) = (is_replaceable r.1 ≡ true) × AreReplaceable rows

-- the prototype of all objects has none, and the global object has that prototype and is no array
abbrev pub RootStands : Option PlainObject → Type 0
RootStands None = ⊥
RootStands (Some p) = (p.proto ≡ None) × AreReplaceable p.rows

abbrev pub GlobalStands : Option PlainObject → Type 0
GlobalStands None = ⊥
GlobalStands (Some p) = (p.proto ≡ Some object_prototype) × (p.class ≡ class.Object)

pub record IsStarted (objects : List PlainObject) : Type 0 where
  pub root : RootStands (slice_get objects 0)
  pub global : GlobalStands (slice_get objects 1)
  pub many : length start_heap ≤ length objects
