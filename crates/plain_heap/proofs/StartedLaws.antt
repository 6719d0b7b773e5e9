-- What stays true of the objects that a run starts with, where objects and properties are added.
use Rattle.std.proofs.Common.{arith, refl, sym, ◌≡◌, ◌≤◌, ◌+◌, ℕ, zero, suc, Bool, true, false, List, [], ◌∷◌, ◌++◌, length, subst, Option, Some, None, codes, if◌then◌else◌}
use Rattle.std.specs.List.{slice_get}
use Rattle.std.proofs.lemmas.Option.{none-some, same_Some}
use Rattle.std.proofs.lemmas.List.{length-set, length-append}
use Rattle.origin_labels.specs.Names.{same_name}
use Rattle.js_values.specs.Objects.{Rows, Property, PlainObject, own, changed, with_row}
use Rattle.es_meaning.specs.Objects.{defined_over, defined, replaced, with_object, with_rows}
use Rattle.es_meaning.specs.Holders.{in_front, with_first, with_first_of, with_property_of}
use Rattle.es_meaning.specs.Start.{start_heap}
use Rattle.plain_heap.specs.Started.{is_replaceable, AreReplaceable, RootStands, IsStarted}

-- ---- properties that can be replaced

replaceable_at : (test : Bool) (r : List ℕ × Property) (rest : Option Property) (p : Property) → is_replaceable r.1 ≡ true → (rest ≡ Some p → is_replaceable p ≡ true) → (if test then Some r.1 else rest) ≡ Some p → is_replaceable p ≡ true
replaceable_at true r rest p here later is = subst (λ (q : Property). is_replaceable q ≡ true) (same_Some r.1 p is) here
replaceable_at false r rest p here later is = later is

pub own_replaceable : (key : List ℕ) (rows : Rows Property) (p : Property) → AreReplaceable rows → own key rows ≡ Some p → is_replaceable p ≡ true
own_replaceable key [] p all is = absurd (none-some p is)
own_replaceable key (r ∷ rows) p all is = replaceable_at (same_name r.0 key) r (own key rows) p all.0 (own_replaceable key rows p all.1) is

module _ (key : List ℕ) (p : Property) (can : is_replaceable p ≡ true) where
  row_replaceable : (rows : Rows Property) → AreReplaceable rows → AreReplaceable (with_row key p rows)
  row_replaceable [] all = (can, tt)
  row_replaceable (r ∷ rows) all = (all.0, row_replaceable rows all.1)

  changed_at : (test : Bool) (r : List ℕ × Property) (rows more : Rows Property) → AreReplaceable (r ∷ rows) → AreReplaceable more → AreReplaceable (if test then (r.0, p) ∷ rows else r ∷ more)
  changed_at true r rows more all rest = (can, all.1)
  changed_at false r rows more all rest = (all.0, rest)

  changed_replaceable : (rows : Rows Property) → AreReplaceable rows → AreReplaceable (changed key (λ u. p) rows)
  changed_replaceable [] all = tt
  changed_replaceable (r ∷ rows) all = changed_at (same_name r.0 key) r rows (changed key (λ u. p) rows) all (changed_replaceable rows all.1)

  defined_by : (q : Option Property) (rows : Rows Property) → AreReplaceable rows → AreReplaceable (defined_over q key p rows)
  defined_by None rows all = row_replaceable rows all
  defined_by (Some q) rows all = changed_replaceable rows all

  pub defined_replaceable : (rows : Rows Property) → AreReplaceable rows → AreReplaceable (defined key p rows)
  defined_replaceable rows all = defined_by (own key rows) rows all

  -- in front of the others
  front_replaceable : (rows : Rows Property) → AreReplaceable rows → AreReplaceable (in_front key p rows)
  front_replaceable [] all = (can, tt)
  front_replaceable (r ∷ rows) all = at (same_name r.0 (codes "length"))
    where
      at : (test : Bool) → AreReplaceable (if test then r ∷ (key, p) ∷ rows else (key, p) ∷ r ∷ rows)
      at true = (all.0, (can, all.1))
      at false = (can, all)

  first_by : (q : Option Property) (rows : Rows Property) → AreReplaceable rows → AreReplaceable (with_first q key p rows)
  first_by None rows all = front_replaceable rows all
  first_by (Some q) rows all = changed_replaceable rows all

-- ---- the objects

module _ (to : Rows Property → Rows Property) where
  abbrev given_one : PlainObject → PlainObject
  given_one q = with_rows q (to q.rows)

  given_further : (q : Option PlainObject) (o : ℕ) (root global : PlainObject) (others : List PlainObject) → IsStarted (root ∷ global ∷ others) → IsStarted (replaced q (suc (suc o)) given_one (root ∷ global ∷ others))
  given_further None o root global others started = started
  given_further (Some q) o root global others started = record { root = started.root; global = started.global; many = subst (λ n. length start_heap ≤ suc (suc n)) (sym (length-set others o (given_one q))) started.many }

  -- the properties of an object change, on the prototype of all objects to some that can be replaced
  changed_started : (o : ℕ) (objects : List PlainObject) → (o ≡ 0 → (rows : Rows Property) → AreReplaceable rows → AreReplaceable (to rows)) → IsStarted objects → IsStarted (with_object o given_one objects)
  changed_started o [] can started = absurd started.root
  changed_started o (root ∷ []) can started = absurd started.global
  changed_started zero (root ∷ global ∷ others) can started = record { root = (started.root.0, can refl root.rows started.root.1); global = started.global; many = started.many }
  changed_started (suc zero) (root ∷ global ∷ others) can started = record { root = started.root; global = started.global; many = started.many }
  changed_started (suc (suc o)) (root ∷ global ∷ others) can started = given_further (slice_get others o) o root global others started

module _ (key : List ℕ) (p : Property) where
  -- a property is given, which on the prototype of all objects is one that can be replaced
  pub given_started : (o : ℕ) (objects : List PlainObject) → (o ≡ 0 → is_replaceable p ≡ true) → IsStarted objects → IsStarted (with_property_of o key p objects)
  given_started o objects can started = changed_started (defined key p) o objects (λ is. defined_replaceable key p (can is)) started

  -- in front of the others
  pub first_started : (o : ℕ) (objects : List PlainObject) → (o ≡ 0 → is_replaceable p ≡ true) → IsStarted objects → IsStarted (with_first_of o key p objects)
  first_started o objects can started = changed_started (λ rows. with_first (own key rows) key p rows) o objects (λ is rows all. first_by key p (can is) (own key rows) rows all) started

-- further objects are made
pub more_started : (objects more : List PlainObject) → IsStarted objects → IsStarted (objects ++ more)
more_started [] more started = absurd started.root
more_started (root ∷ []) more started = absurd started.global
more_started (root ∷ global ∷ others) more started =
    let long = length-append others more in
    let many = started.many in
    record { root = started.root; global = started.global; many = omega (arith, long, many) }
