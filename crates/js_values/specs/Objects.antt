-- Objects (ECMA-262 8.6): a heap is a list of them, and an object's number is its place in it. Their properties stand in the order in which they were added.
use Rattle.std.specs.Prelude.{ℕ, Bool, true, List, [], ◌∷◌, ◌++◌, Option, Some, None, if◌then◌else◌}
use Rattle.std.specs.Option.{option_map}
use Rattle.origin_labels.specs.Names.{same_name}
use Rattle.js_values.specs.declared.ids.ObjId.{ObjId}
use Rattle.js_values.specs.declared.ids.EnvId.{EnvId}
use Rattle.js_values.specs.declared.value.Value.{Value}
use Rattle.js_values.specs.declared.property.Marks.{Marks}
use Rattle.js_values.specs.declared.property.Body.{Body}
use Rattle.js_values.specs.declared.property.Slot.{Slot}
use Rattle.js_values.specs.declared.inner.Class.{Class}
use Rattle.js_values.specs.declared.inner.Inner.{Inner}

-- ---- properties: keys, and what they name

abbrev pub Rows : Type 0 → Type 0
Rows S = List (List ℕ × S)

-- a property without labels
pub record Property : Type 0 where
  pub body : Body
  pub marks : Marks

-- what the key names
abbrev pub own : {S : Type 0} → List ℕ → Rows S → Option S
own key [] = None
own key (r ∷ rows) = if same_name r.0 key then Some r.1 else own key rows

-- the row with another property, or without it
abbrev pub row_or_none : {S : Type 0} → List ℕ → Option S → Rows S → Rows S
row_or_none key None rows = rows
row_or_none key (Some s) rows = (key, s) ∷ rows

-- what the key names is replaced, or removed
abbrev pub altered : {S : Type 0} → List ℕ → (S → Option S) → Rows S → Rows S
altered key change [] = []
altered key change (r ∷ rows) = if same_name r.0 key then row_or_none r.0 (change r.1) rows else r ∷ altered key change rows

abbrev pub changed : {S : Type 0} → List ℕ → (S → S) → Rows S → Rows S
changed key change rows = altered key (λ s. Some (change s)) rows

abbrev pub without : {S : Type 0} → List ℕ → Rows S → Rows S
without key rows = altered key (λ s. None) rows

abbrev pub with_row : {S : Type 0} → List ℕ → S → Rows S → Rows S
with_row key s rows = rows ++ (key, s) ∷ []

abbrev pub keys_of : {S : Type 0} → Rows S → List (List ℕ)
keys_of [] = []
keys_of (r ∷ rows) = r.0 ∷ keys_of rows

-- ---- objects without labels

-- what an object is besides its properties: nothing, a function of the script with the record that it closes over, a built-in, or what
-- a bound function calls, with the `this` and the first arguments of the call
pub data PlainInner : Type 0 where
  plain : PlainInner
  script : ℕ → EnvId → PlainInner
  native : ℕ → PlainInner
  bound : ObjId → Value → List Value → PlainInner

pub record PlainObject : Type 0 where
  pub class : Class
  pub inner : PlainInner
  pub proto : Option ObjId
  pub extensible : Bool
  pub rows : Rows Property

-- ---- objects with labels: `link` is that of the prototype, and `structure` that of which properties there are

pub record Object (T : Type 0) : Type 0 where
  pub class : Class
  pub inner : Inner T
  pub proto : Option ObjId
  pub link : T
  pub structure : T
  pub extensible : Bool
  pub rows : Rows (Slot T)

-- the number of an object that there may be
abbrev pub number_of : Option ObjId → Option ℕ
number_of id = option_map (λ o. o.0) id

-- ---- new objects: they have no properties, and are extensible

abbrev pub fresh_plain : Class → PlainInner → Option ObjId → PlainObject
fresh_plain class inner proto = record { class = class; inner = inner; proto = proto; extensible = true; rows = [] }

abbrev pub fresh_object : {T : Type 0} → Class → Inner T → Option ObjId → T → T → Object T
fresh_object class inner proto link structure = record { class = class; inner = inner; proto = proto; link = link; structure = structure; extensible = true; rows = [] }
