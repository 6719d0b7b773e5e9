-- Functions of Object.prototype (ECMA-262 15.2.4).
use Rattle.std.specs.Prelude.{ℕ, Bool, true, false, if◌then◌else◌, List, ◌++◌, codes, Option, Some, None, is_some}
use Rattle.js_number.specs.declared.primitive.Primitive.TheVariants as prims
use Rattle.js_values.specs.declared.inner.Class.{Class}
use Rattle.js_values.specs.declared.inner.Class.TheVariants as class
use Rattle.native_protocol.specs.declared.registers.Reg.{Reg}
use Rattle.native_protocol.specs.declared.request.Request.TheVariants.{Proto, Same, Return}
use Rattle.native_protocol.specs.declared.request.Seen.{Seen}
use Rattle.native_protocol.specs.declared.request.Seen.TheVariants.{Prim, Object}
use Rattle.native_protocol.specs.Steps.{Steps, ask, look, ends, is_object, reg, text_of_register}
use Rattle.object_functions.specs.declared.registers.Registers.{Registers}
use Rattle.object_functions.specs.Kinds.{this_object}
use Rattle.object_functions.specs.Registers.{registers}
use Rattle.object_functions.specs.Repeating.{repeats}
use Rattle.primitive_natives.specs.Endings.{gives, leaves_by_wrapper}
use Rattle.descriptor_pieces.specs.declared.property.OwnMarks.{OwnMarks}
use Rattle.descriptor_pieces.specs.Fixing.{own_marks}
use Rattle.descriptor_pieces.specs.Looks.{is_true}

-- ---- Object.prototype.toString (15.2.4.2)

-- the name of a class (ECMA-262 8.6.2)
abbrev pub class_name : Class → List ℕ
class_name class.Object = codes "Object"
class_name class.Function = codes "Function"
class_name class.Array = codes "Array"
class_name class.Arguments = codes "Arguments"
class_name class.Error = codes "Error"
class_name class.Math = codes "Math"
class_name class.Json = codes "JSON"
class_name class.String = codes "String"
class_name class.Number = codes "Number"
class_name class.Boolean = codes "Boolean"

abbrev pub described : List ℕ → Reg → Steps
described name to = gives (prims.Str (codes "[object " ++ name ++ codes "]")) to

abbrev pub description_of : Seen → Reg → Steps
description_of (Prim prims.Undefined) to = described (codes "Undefined") to
description_of (Prim prims.Null) to = described (codes "Null") to
description_of (Prim p) to = leaves_by_wrapper
description_of (Object c) to = described (class_name c) to

abbrev pub object_to_string : ℕ → Steps
object_to_string argc = look (reg 0) (λ v. description_of v (registers argc).first)

-- ---- Object.prototype.valueOf (15.2.4.4)

abbrev pub object_value_of : Steps
object_value_of = this_object (ends (Return (reg 0)))

-- ---- hasOwnProperty (15.2.4.5) and propertyIsEnumerable (15.2.4.7): the argument's text, then `this`, then its own property

abbrev pub gives_truth : Bool → Reg → Steps
gives_truth b to = gives (prims.Bool b) to

-- whether it is enumerable, if there is one
abbrev pub is_enumerable : Option OwnMarks → Bool
is_enumerable None = false
is_enumerable (Some m) = m.enumerable

abbrev pub own_tested : (Option OwnMarks → Bool) → Registers → List ℕ → Steps
own_tested test r name = own_marks (reg 0) name r.own (λ found. gives_truth (test found) r.first)

abbrev pub named_tested : (Option OwnMarks → Bool) → Registers → Steps
named_tested test r = text_of_register (reg 2) r.first r.second (λ name at. this_object (own_tested test r name))

abbrev pub has_own_property : ℕ → Steps
has_own_property argc = named_tested (λ found. is_some found) (registers argc)

abbrev pub property_is_enumerable : ℕ → Steps
property_is_enumerable argc = named_tested is_enumerable (registers argc)

-- ---- isPrototypeOf (15.2.4.6)

-- step 3, again and again: V, which is the argument at first, becomes its own prototype, and is compared where it is an object
abbrev pub same_seen : Reg → Steps → Steps
same_seen to again = look to (λ same. if is_true same then gives_truth true to else again)

abbrev pub prototype_seen : Reg → Steps → Steps
prototype_seen to again = look (reg 2) (λ v. if is_object v then ask (Same (reg 0) (reg 2) to) (same_seen to again) else gives_truth false to)

abbrev pub next_prototype : Reg → Steps → Steps
next_prototype to again = ask (Proto (reg 2) (reg 2)) (prototype_seen to again)

abbrev pub is_prototype_of : ℕ → Steps
is_prototype_of argc =
    look (reg 2) (λ v. if is_object v then this_object (repeats (next_prototype (registers argc).first)) else gives_truth false (registers argc).first)
