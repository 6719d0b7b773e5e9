-- Properties of primitive values (ECMA-262 8.7.1, 8.7.2): those of the object that the value would be wrapped in.
use Rattle.std.specs.Prelude.{ℕ, List, [], ◌∷◌, pos, length, Option, Some, None, slice_get, if◌then◌else◌}
use Rattle.std.specs.Option.{option_map}
use Rattle.origin_labels.specs.Names.{same_name}
use Rattle.js_number.specs.declared.num.Num.TheVariants.{Int}
use Rattle.js_number.specs.declared.primitive.Primitive.{Primitive}
use Rattle.js_number.specs.declared.primitive.Primitive.TheVariants.{Undefined, Null, Num, Str}
use Rattle.js_number.specs.declared.primitive.Primitive.TheVariants as prims
use Rattle.js_values.specs.declared.ids.ObjId.{ObjId}
use Rattle.js_values.specs.Arrays.{length_key}
use Rattle.js_values.specs.Numerals.{index_of}
use Rattle.es_meaning.specs.Start.{string_prototype, number_prototype, boolean_prototype}

-- a unit of a text (15.5.5.2)
abbrev pub unit_text : ℕ → Primitive
unit_text u = Str (u ∷ [])

abbrev pub unit_at : List ℕ → Option ℕ → Option Primitive
unit_at text None = None
unit_at text (Some i) = option_map unit_text (slice_get text i)

-- its own properties, which are data that can't be changed: a text has its `length` (15.5.5.1) and its units
abbrev pub own_value_of : Primitive → List ℕ → Option Primitive
own_value_of (Str text) key = if same_name key length_key then Some (Num (Int (pos (length text)))) else unit_at text (index_of key)
own_value_of Undefined key = None
own_value_of Null key = None
own_value_of (prims.Bool b) key = None
own_value_of (Num n) key = None

-- its prototype (9.9)
abbrev pub prototype_of_primitive : Primitive → Option ObjId
prototype_of_primitive (Str text) = Some string_prototype
prototype_of_primitive (Num n) = Some number_prototype
prototype_of_primitive (prims.Bool b) = Some boolean_prototype
prototype_of_primitive Undefined = None
prototype_of_primitive Null = None

-- the objects from there on, by the chain of each object
abbrev pub chain_from : {E : Type 0} → (ℕ → List E) → Option ObjId → List E
chain_from chain None = []
chain_from chain (Some o) = chain o.0
