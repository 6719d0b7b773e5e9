-- Those functions of Object that read, define, seal or freeze properties (ECMA-262 15.2.3).
use Rattle.std.specs.Prelude.{ℕ, nat_le, Bool, true, false, if◌then◌else◌, List, Some}
use Rattle.js_number.specs.declared.primitive.Primitive.TheVariants as prims
use Rattle.js_values.specs.declared.inner.Class.TheVariants as class
use Rattle.native_protocol.specs.declared.registers.Reg.{Reg}
use Rattle.native_protocol.specs.declared.request.Request.TheVariants.{New, Return}
use Rattle.native_protocol.specs.declared.request.Seen.{Seen}
use Rattle.native_protocol.specs.declared.request.Seen.TheVariants.{Prim, Object}
use Rattle.native_protocol.specs.Steps.{Steps, ask, look, ends, reg, text_of_register, throws_type_error}
use Rattle.object_functions.specs.declared.registers.Registers.{Registers}
use Rattle.object_functions.specs.Kinds.{object_argument, to_object}
use Rattle.object_functions.specs.Registers.{registers}
use Rattle.primitive_natives.specs.Endings.{gives}
use Rattle.descriptor_pieces.specs.declared.property.Description.{Description}
use Rattle.descriptor_pieces.specs.declared.property.Integrity.{Integrity}
use Rattle.descriptor_pieces.specs.declared.property.Integrity.TheVariants.{Sealed, Frozen}
use Rattle.descriptor_pieces.specs.Defining.{define_properties}
use Rattle.descriptor_pieces.specs.Descriptors.{to_descriptor, from_descriptor}
use Rattle.descriptor_pieces.specs.Fixing.{own_asked, set_integrity, test_integrity}
use Rattle.descriptor_pieces.specs.Looks.{is_undefined}
use Rattle.descriptor_pieces.specs.Properties.{define}

abbrev pub returns : Reg → Steps
returns from = ends (Return from)

-- the text of the second argument
abbrev pub second_text : Registers → (List ℕ → Steps) → Steps
second_text r next = text_of_register (reg 3) r.first r.second (λ name at. next name)

-- ---- Object.getOwnPropertyDescriptor (15.2.3.3)

abbrev pub own_told : Registers → List ℕ → Steps
own_told r name = ask (own_asked (reg 2) name r.own) (from_descriptor r.own r.first returns)

abbrev pub get_own_property_descriptor : ℕ → Steps
get_own_property_descriptor argc = object_argument (second_text (registers argc) (own_told (registers argc)))

-- ---- Object.defineProperty (15.2.3.6)

abbrev pub defined_and_returned : List ℕ → Description → Steps
defined_and_returned name d = ask (define (reg 2) name d) (returns (reg 2))

abbrev pub described_defined : Registers → List ℕ → Steps
described_defined r name = to_descriptor (reg 4) r.own (defined_and_returned name)

abbrev pub define_property : ℕ → Steps
define_property argc = object_argument (second_text (registers argc) (described_defined (registers argc)))

-- ---- Object.defineProperties (15.2.3.7): the second argument as an object describes the properties of the object in a register

abbrev pub defined_by_second : Reg → Registers → Steps
defined_by_second object r = define_properties object (reg 3) r.first r.second r.third r.free (returns object)

abbrev pub all_defined : Reg → Registers → Steps
all_defined object r = look (reg 3) (λ v. to_object v (defined_by_second object r))

abbrev pub define_all : ℕ → Steps
define_all argc = object_argument (all_defined (reg 2) (registers argc))

-- ---- Object.create (15.2.3.5)

abbrev pub is_object_or_null : Seen → Bool
is_object_or_null (Object c) = true
is_object_or_null (Prim prims.Null) = true
is_object_or_null (Prim p) = false

-- step 4: the properties are those of the second argument, where that was passed and isn't undefined
abbrev pub second_seen : Registers → Seen → Steps
second_seen r v = if is_undefined v then returns r.fourth else to_object v (defined_by_second r.fourth r)

abbrev pub if_passed : Bool → Registers → Steps
if_passed true r = look (reg 3) (second_seen r)
if_passed false r = returns r.fourth

abbrev pub is_second_passed : ℕ → Bool
is_second_passed argc = nat_le 2 argc

abbrev pub created : Bool → Registers → Steps
created passed r = ask (New class.Object (Some (reg 2)) r.fourth) (if_passed passed r)

abbrev pub create : ℕ → Steps
create argc = look (reg 2) (λ v. if is_object_or_null v then created (is_second_passed argc) (registers argc) else throws_type_error)

-- ---- Object.seal (15.2.3.8) and Object.freeze (15.2.3.9)

abbrev pub fixed_and_returned : Integrity → Registers → Steps
fixed_and_returned i r = set_integrity i (reg 2) r.first r.second r.own (returns (reg 2))

abbrev pub seal : ℕ → Steps
seal argc = object_argument (fixed_and_returned Sealed (registers argc))

abbrev pub freeze : ℕ → Steps
freeze argc = object_argument (fixed_and_returned Frozen (registers argc))

-- ---- Object.isSealed (15.2.3.11) and Object.isFrozen (15.2.3.12)

abbrev pub integrity_told : Integrity → Registers → Steps
integrity_told i r = test_integrity i (reg 2) r.first r.second r.own (λ b. gives (prims.Bool b) r.third)

abbrev pub is_sealed : ℕ → Steps
is_sealed argc = object_argument (integrity_told Sealed (registers argc))

abbrev pub is_frozen : ℕ → Steps
is_frozen argc = object_argument (integrity_told Frozen (registers argc))
