-- The machine of `hasOwnProperty` and `propertyIsEnumerable`.
use Rattle.std.specs.Prelude.{ℕ, Bool, Option, is_some}
use Rattle.js_number.specs.declared.primitive.Primitive.TheVariants as prims
use Rattle.native_protocol.specs.Pieces.{text_begin, text_asks, text_after, text_rest}
use Rattle.native_protocol.specs.Steps.{Steps, reg, seen_in}
use Rattle.native_protocol.specs.declared.progress.Progress.TheVariants.{Going, Ready}
use Rattle.native_protocol.specs.declared.progress.Progress.{Progress}
use Rattle.native_protocol.specs.declared.request.Answer.{Answer}
use Rattle.native_protocol.specs.declared.request.Request.TheVariants.{Look}
use Rattle.native_protocol.specs.declared.request.Request.{Request}
use Rattle.native_protocol.specs.declared.text_of.HeldText.{HeldText}
use Rattle.native_protocol.specs.declared.text_of.TextOf.{TextOf}
use Rattle.object_functions.specs.Kinds.{this_object}
use Rattle.object_functions.specs.Needs.{unless_converted, ready_or}
use Rattle.object_functions.specs.Prototypes.{gives_truth, is_enumerable, own_tested, has_own_property, property_is_enumerable}
use Rattle.object_functions.specs.Registers.{registers}
use Rattle.object_functions.specs.declared.own_test.OwnTest.TheVariants as test
use Rattle.object_functions.specs.declared.own_test.OwnTest.{OwnTest}
use Rattle.object_functions.specs.declared.own_test.OwnTestCall.{OwnTestCall}
use Rattle.object_functions.specs.declared.own_test.OwnTestStage.TheVariants as stage
use Rattle.object_functions.specs.declared.own_test.OwnTestStage.{OwnTestStage}
use Rattle.object_functions.specs.declared.registers.Registers.{Registers}
use Rattle.primitive_natives.specs.declared.ending.Ending.TheVariants as ending
use Rattle.primitive_natives.specs.declared.ending.Ending.{Ending}
use Rattle.descriptor_pieces.specs.Fixing.{own_asked, marks_seen}
use Rattle.descriptor_pieces.specs.Properties.{marks_in}
use Rattle.descriptor_pieces.specs.declared.property.OwnMarks.{OwnMarks}

abbrev pub tested : OwnTest → Option OwnMarks → Bool
tested test.There found = is_some found
tested test.Enumerable found = is_enumerable found

abbrev pub testing : OwnTest → Registers → OwnTestStage → OwnTestCall
testing t r s = record { test = t; registers = r; stage = s }

abbrev pub own_test_begin : OwnTest → ℕ → OwnTestCall
own_test_begin t argc = testing t (registers argc) (stage.Name (text_begin (reg 2) (registers argc).first (registers argc).second))

abbrev pub own_test_asks_in : Registers → OwnTestStage → Request
own_test_asks_in r (stage.Name name) = text_asks name
own_test_asks_in r (stage.This name) = Look (reg 0)
own_test_asks_in r (stage.Own name) = own_asked (reg 0) name r.own
own_test_asks_in r stage.LookMarks = Look r.own.marks

abbrev pub own_test_asks : OwnTestCall → Request
own_test_asks c = own_test_asks_in c.registers c.stage

abbrev pub name_read : Progress TextOf HeldText → OwnTestStage
name_read (Going name) = stage.Name name
name_read (Ready held) = stage.This held.text

abbrev pub own_test_after_in : OwnTest → Registers → OwnTestStage → Answer → Progress OwnTestCall Ending
own_test_after_in t r (stage.Name name) a = Going (testing t r (name_read (text_after name a)))
own_test_after_in t r (stage.This name) a = ready_or (unless_converted (seen_in a)) (testing t r (stage.Own name))
own_test_after_in t r (stage.Own name) a = Going (testing t r stage.LookMarks)
own_test_after_in t r stage.LookMarks a = Ready (ending.Give (prims.Bool (tested t (marks_in (seen_in a)))) r.first)

abbrev pub own_test_after : OwnTestCall → Answer → Progress OwnTestCall Ending
own_test_after c a = own_test_after_in c.test c.registers c.stage a

-- ---- which steps are still to take

abbrev pub tested_told : OwnTest → Registers → Option OwnMarks → Steps
tested_told t r found = gives_truth (tested t found) r.first

abbrev pub this_tested : OwnTest → Registers → HeldText → Steps
this_tested t r held = this_object (own_tested (tested t) r held.text)

abbrev pub own_test_rest_in : OwnTest → Registers → OwnTestStage → Steps
own_test_rest_in t r (stage.Name name) = text_rest name (this_tested t r)
own_test_rest_in t r (stage.This name) = this_object (own_tested (tested t) r name)
own_test_rest_in t r (stage.Own name) = own_tested (tested t) r name
own_test_rest_in t r stage.LookMarks = marks_seen r.own (tested_told t r)

abbrev pub own_test_rest : OwnTestCall → Steps
own_test_rest c = own_test_rest_in c.test c.registers c.stage

-- the clause of each
abbrev pub own_test_clause : OwnTest → ℕ → Steps
own_test_clause test.There argc = has_own_property argc
own_test_clause test.Enumerable argc = property_is_enumerable argc
