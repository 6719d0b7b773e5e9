-- What is done with objects, without labels (ECMA-262 8.12).
use Rattle.std.specs.Prelude.{ℕ, zero, suc, Bool, true, false, ◌&&◌, not, length, List, [], ◌∷◌, ◌++◌, Option, Some, None, slice_get, set, if◌then◌else◌}
use Rattle.origin_labels.specs.Names.{has_name}
use Rattle.js_values.specs.declared.ids.ObjId.{ObjId}
use Rattle.js_values.specs.declared.value.Value.{Value}
use Rattle.js_values.specs.declared.property.Body.{Body}
use Rattle.js_values.specs.declared.property.Body.TheVariants.{Data, Accessor}
use Rattle.js_values.specs.declared.property.Marks.{Marks}
use Rattle.js_values.specs.Arrays.{length_key, length_body, element_of, element_key, is_length, is_past, allows_element, highest}
use Rattle.js_values.specs.Objects.{Rows, Property, PlainObject, own, changed, without, with_row, keys_of}
use Rattle.js_values.specs.Walks.{plain_find}

-- ---- properties

-- the attributes of a property that a script makes (ECMA-262 8.12.5, 11.1.5), and of a variable of the outermost code, which can't be deleted (10.5)
abbrev pub made_by_script : Marks
made_by_script = record { writable = true; enumerable = true; configurable = true }

abbrev pub declared_by_script : Marks
declared_by_script = record { writable = true; enumerable = true; configurable = false }

-- a key is given a property, whether it had one or not
abbrev pub defined_over : {S : Type 0} → Option S → List ℕ → S → Rows S → Rows S
defined_over None key p rows = with_row key p rows
defined_over (Some q) key p rows = changed key (λ s. p) rows

abbrev pub defined : {S : Type 0} → List ℕ → S → Rows S → Rows S
defined key p rows = defined_over (own key rows) key p rows

-- the elements with these numbers are given properties in turn: a number may stand twice
abbrev pub elements_onto : {S : Type 0} → Rows S → List ℕ → List S → Rows S
elements_onto rows (n ∷ ns) (s ∷ ss) = elements_onto (defined (element_key n) s rows) ns ss
elements_onto rows _ _ = rows

-- keys are given properties in turn
abbrev pub defined_all : {S : Type 0} → List (List ℕ) → List S → Rows S → Rows S
defined_all (key ∷ keys) (p ∷ ps) rows = defined_all keys ps (defined key p rows)
defined_all _ _ rows = rows

-- ---- put: what it does with an object and its prototypes (ECMA-262 8.12.4, 8.12.5)

pub data Plan : Type 0 where
  -- the object's own property has another value; the object gets a property; it is refused; or a setter is called
  writes adds refuses : Plan
  calls : ObjId → Plan

abbrev pub if_allowed : Bool → Plan → Plan
if_allowed true plan = plan
if_allowed false plan = refuses

abbrev pub setter_plan : Option ObjId → Plan
setter_plan None = refuses
setter_plan (Some f) = calls f

-- what a property of the object itself allows, and one of a prototype, for an object that is extensible or not
abbrev pub own_plan : Property → Body → Plan
own_plan p (Data v) = if_allowed p.marks.writable writes
own_plan p (Accessor get set) = setter_plan set

abbrev pub inherited_plan : Bool → Property → Body → Plan
inherited_plan extensible p (Data v) = if_allowed (extensible && p.marks.writable) adds
inherited_plan extensible p (Accessor get set) = setter_plan set

abbrev pub beyond_plan : Bool → Option (ℕ × Property) → Plan
beyond_plan extensible None = if_allowed extensible adds
beyond_plan extensible (Some f) = inherited_plan extensible f.1 f.1.body

-- whether an array may get an element that isn't there (ECMA-262 15.4.5.1, step 4.b)
abbrev pub gets_element : Option ℕ → Option Property → Bool
gets_element None length = true
gets_element (Some i) None = true
gets_element (Some i) (Some p) = allows_element i p.marks p.body

-- whether an object may get a property of a key that it hasn't
abbrev pub may_add : List ℕ → PlainObject → Bool
may_add key p = p.extensible && gets_element (element_of p.class key) (own length_key p.rows)

abbrev pub plan_at : List ℕ → PlainObject → Option Property → Option (ℕ × Property) → Plan
plan_at key p (Some q) rest = own_plan q q.body
plan_at key p None rest = beyond_plan (may_add key p) rest

abbrev pub can_put : List ℕ → List (ℕ × PlainObject) → Plan
can_put key [] = refuses
can_put key (e ∷ objects) = plan_at key e.1 (own key e.1.rows) (plain_find key objects)

-- ---- the object with a number, in a heap

abbrev pub with_rows : PlainObject → Rows Property → PlainObject
with_rows p rows = record p { rows = rows }

abbrev pub replaced : Option PlainObject → ℕ → (PlainObject → PlainObject) → List PlainObject → List PlainObject
replaced None o change heap = heap
replaced (Some p) o change heap = set heap o (change p)

abbrev pub with_object : ℕ → (PlainObject → PlainObject) → List PlainObject → List PlainObject
with_object o change heap = replaced (slice_get heap o) o change heap

abbrev pub with_value : Value → Property → Property
with_value v p = record p { body = Data v }

abbrev pub write : ℕ → List ℕ → Value → List PlainObject → List PlainObject
write o key v = with_object o (λ p. with_rows p (changed key (with_value v) p.rows))

-- an element at or above the `length` of an array raises that (ECMA-262 15.4.5.1, step 4.e)
abbrev pub with_length : ℕ → Property → Property
with_length n p = record p { body = length_body n }

abbrev pub stretched : Option ℕ → Option Property → Rows Property → Rows Property
stretched None length rows = rows
stretched (Some i) None rows = rows
stretched (Some i) (Some p) rows = if is_past i p.body then changed length_key (with_length (suc i)) rows else rows

-- an object gets a property of a key that it hasn't, and has another one of a key, whether it had one or not
abbrev pub with_added : List ℕ → Property → PlainObject → PlainObject
with_added key q p = with_rows p (stretched (element_of p.class key) (own length_key p.rows) (with_row key q p.rows))

abbrev pub with_defined_over : Option Property → List ℕ → Property → PlainObject → PlainObject
with_defined_over None key q p = with_added key q p
with_defined_over (Some old) key q p = with_rows p (changed key (λ s. q) p.rows)

abbrev pub with_defined : List ℕ → Property → PlainObject → PlainObject
with_defined key q p = with_defined_over (own key p.rows) key q p

abbrev pub add : ℕ → List ℕ → Value → Marks → List PlainObject → List PlainObject
add o key v marks = with_object o (with_added key (record { body = Data v; marks = marks }))

abbrev pub remove : ℕ → List ℕ → List PlainObject → List PlainObject
remove o key = with_object o (λ p. with_rows p (without key p.rows))

-- whether the key names the `length` of the object, which is an array
abbrev pub is_length_in : List ℕ → Option PlainObject → Bool
is_length_in key None = false
is_length_in key (Some p) = is_length p.class key

-- ---- the elements of an array from the highest one down to a number are deleted (ECMA-262 15.4.5.1, step 3.l). One that can't be configured stays, and ends this

pub record Shortened : Type 0 where
  pub rows : Rows Property
  pub stays : Option ℕ

abbrev pub deleted_if : Bool → (Rows Property → Shortened) → ℕ → Rows Property → Shortened
deleted_if true next i rows = next (without (element_key i) rows)
deleted_if false next i rows = record { rows = rows; stays = Some i }

abbrev pub deleted_at : Option (ℕ × Property) → (Rows Property → Shortened) → Rows Property → Shortened
deleted_at None next rows = record { rows = rows; stays = None }
deleted_at (Some e) next rows = deleted_if e.1.marks.configurable next e.0 rows

-- so many deletions at most
abbrev pub deleted_within : ℕ → ℕ → Rows Property → Shortened
deleted_within zero n rows = record { rows = rows; stays = None }
deleted_within (suc more) n rows = deleted_at (highest n rows) (deleted_within more n) rows

abbrev pub deleted_down : ℕ → Rows Property → Shortened
deleted_down n rows = deleted_within (length rows) n rows

-- the `length` that the array has then: the number, or one more than that of the element that stays
abbrev pub length_behind : ℕ → Option ℕ → ℕ
length_behind n None = n
length_behind n (Some i) = suc i

-- the array without these elements, with another `length`
abbrev pub cut_to : Shortened → ℕ → Property → PlainObject → PlainObject
cut_to cut n q p = with_rows p (changed length_key (λ s. with_length (length_behind n cut.stays) q) cut.rows)

-- what the key names in the object itself
abbrev pub own_in : List ℕ → Option PlainObject → Option Property
own_in key None = None
own_in key (Some p) = own key p.rows

-- ---- the keys that `for in` takes (ECMA-262 12.6.4): the enumerable ones in order, the object's own first, then those of each prototype. A key that
-- was met nearer to the object, enumerable or not, is not taken again

abbrev pub fresh_keys : List (List ℕ) → Rows Property → List (List ℕ)
fresh_keys met [] = []
fresh_keys met (r ∷ rows) = if r.1.marks.enumerable && not (has_name r.0 met) then r.0 ∷ fresh_keys met rows else fresh_keys met rows

abbrev pub keys_after : List (List ℕ) → List (ℕ × PlainObject) → List (List ℕ)
keys_after met [] = []
keys_after met (e ∷ objects) = fresh_keys met e.1.rows ++ keys_after (met ++ keys_of e.1.rows) objects

abbrev pub enumerable_keys : List (ℕ × PlainObject) → List (List ℕ)
enumerable_keys objects = keys_after [] objects
