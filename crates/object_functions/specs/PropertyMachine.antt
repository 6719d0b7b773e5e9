-- The machine of `getOwnPropertyDescriptor` and `defineProperty`.
use Rattle.std.specs.Prelude.{ℕ, List}
use Rattle.native_protocol.specs.Pieces.{text_begin, text_asks, text_after, text_rest}
use Rattle.native_protocol.specs.Steps.{Steps, reg, seen_in}
use Rattle.native_protocol.specs.declared.progress.Progress.TheVariants.{Going, Ready}
use Rattle.native_protocol.specs.declared.progress.Progress.{Progress}
use Rattle.native_protocol.specs.declared.registers.Reg.{Reg}
use Rattle.native_protocol.specs.declared.request.Answer.{Answer}
use Rattle.native_protocol.specs.declared.request.Request.TheVariants.{Look}
use Rattle.native_protocol.specs.declared.request.Request.{Request}
use Rattle.native_protocol.specs.declared.text_of.HeldText.{HeldText}
use Rattle.native_protocol.specs.declared.text_of.TextOf.{TextOf}
use Rattle.object_functions.specs.Kinds.{object_argument}
use Rattle.object_functions.specs.Needs.{unless_object, ready_or}
use Rattle.object_functions.specs.Properties.{returns, second_text, own_told, described_defined, defined_and_returned, get_own_property_descriptor, define_property}
use Rattle.object_functions.specs.Registers.{registers}
use Rattle.object_functions.specs.declared.property.PropertyCall.{PropertyCall}
use Rattle.object_functions.specs.declared.property.PropertyFunction.TheVariants as function
use Rattle.object_functions.specs.declared.property.PropertyFunction.{PropertyFunction}
use Rattle.object_functions.specs.declared.property.PropertyStage.TheVariants as stage
use Rattle.object_functions.specs.declared.property.PropertyStage.{PropertyStage}
use Rattle.object_functions.specs.declared.registers.Registers.{Registers}
use Rattle.primitive_natives.specs.declared.ending.Ending.TheVariants as ending
use Rattle.primitive_natives.specs.declared.ending.Ending.{Ending}
use Rattle.descriptor_pieces.specs.DescriptorPieces.{descriptor_begin, descriptor_asks, descriptor_after, descriptor_rest}
use Rattle.descriptor_pieces.specs.Fixing.{own_asked}
use Rattle.descriptor_pieces.specs.Properties.{define}
use Rattle.descriptor_pieces.specs.TellingPieces.{telling_begin, telling_asks, telling_after, telling_rest}
use Rattle.descriptor_pieces.specs.declared.from_descriptor.FromDescriptor.{FromDescriptor}
use Rattle.descriptor_pieces.specs.declared.property.Description.{Description}
use Rattle.descriptor_pieces.specs.declared.to_descriptor.ToDescriptor.{ToDescriptor}

abbrev pub property_at : Registers → PropertyStage → PropertyCall
property_at r s = record { registers = r; stage = s }

abbrev pub property_begin : PropertyFunction → ℕ → PropertyCall
property_begin f argc = property_at (registers argc) (stage.LookObject f)

abbrev pub property_asks_in : Registers → PropertyStage → Request
property_asks_in r (stage.LookObject f) = Look (reg 2)
property_asks_in r (stage.Name f name) = text_asks name
property_asks_in r (stage.Own name) = own_asked (reg 2) name r.own
property_asks_in r (stage.Tell telling) = telling_asks telling
property_asks_in r (stage.Read name reading) = descriptor_asks reading
property_asks_in r (stage.Define name d) = define (reg 2) name d

abbrev pub property_asks : PropertyCall → Request
property_asks c = property_asks_in c.registers c.stage

-- the text of the second argument
abbrev pub second_begin : Registers → TextOf
second_begin r = text_begin (reg 3) r.first r.second

abbrev pub named : PropertyFunction → List ℕ → Registers → PropertyStage
named function.GetOwnPropertyDescriptor name r = stage.Own name
named function.DefineProperty name r = stage.Read name (descriptor_begin (reg 4) r.own)

abbrev pub name_read : PropertyFunction → Progress TextOf HeldText → Registers → PropertyStage
name_read f (Going name) r = stage.Name f name
name_read f (Ready held) r = named f held.text r

abbrev pub told_or_on : Registers → Progress FromDescriptor Reg → Progress PropertyCall Ending
told_or_on r (Going telling) = Going (property_at r (stage.Tell telling))
told_or_on r (Ready at) = Ready (ending.Return at)

abbrev pub description_read : List ℕ → Progress ToDescriptor Description → PropertyStage
description_read name (Going reading) = stage.Read name reading
description_read name (Ready d) = stage.Define name d

abbrev pub property_after_in : Registers → PropertyStage → Answer → Progress PropertyCall Ending
property_after_in r (stage.LookObject f) a = ready_or (unless_object (seen_in a)) (property_at r (stage.Name f (second_begin r)))
property_after_in r (stage.Name f name) a = Going (property_at r (name_read f (text_after name a) r))
property_after_in r (stage.Own name) a = Going (property_at r (stage.Tell (telling_begin r.own r.first)))
property_after_in r (stage.Tell telling) a = told_or_on r (telling_after telling a)
property_after_in r (stage.Read name reading) a = Going (property_at r (description_read name (descriptor_after reading a)))
property_after_in r (stage.Define name d) a = Ready (ending.Return (reg 2))

abbrev pub property_after : PropertyCall → Answer → Progress PropertyCall Ending
property_after c a = property_after_in c.registers c.stage a

-- ---- which steps are still to take

abbrev pub named_rest : PropertyFunction → Registers → List ℕ → Steps
named_rest function.GetOwnPropertyDescriptor r name = own_told r name
named_rest function.DefineProperty r name = described_defined r name

abbrev pub held_rest : PropertyFunction → Registers → HeldText → Steps
held_rest f r held = named_rest f r held.text

abbrev pub property_rest_in : Registers → PropertyStage → Steps
property_rest_in r (stage.LookObject f) = object_argument (second_text r (named_rest f r))
property_rest_in r (stage.Name f name) = text_rest name (held_rest f r)
property_rest_in r (stage.Own name) = own_told r name
property_rest_in r (stage.Tell telling) = telling_rest telling returns
property_rest_in r (stage.Read name reading) = descriptor_rest reading (defined_and_returned name)
property_rest_in r (stage.Define name d) = defined_and_returned name d

abbrev pub property_rest : PropertyCall → Steps
property_rest c = property_rest_in c.registers c.stage

-- the clause of each
abbrev pub property_clause : PropertyFunction → ℕ → Steps
property_clause function.GetOwnPropertyDescriptor argc = get_own_property_descriptor argc
property_clause function.DefineProperty argc = define_property argc
