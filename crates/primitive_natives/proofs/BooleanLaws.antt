-- The machine of Boolean's built-ins takes their steps.
use Rattle.std.proofs.Common.{◌≡◌, ℕ, Bool, true, false, List, refl}
use Rattle.js_number.specs.declared.primitive.Primitive.TheVariants as prims
use Rattle.js_values.specs.declared.inner.Class.TheVariants as class
use Rattle.native_protocol.specs.declared.registers.Reg.{Reg}
use Rattle.native_protocol.specs.declared.request.Answer.{Answer}
use Rattle.native_protocol.specs.declared.request.Seen.{Seen}
use Rattle.native_protocol.specs.declared.request.Seen.TheVariants.{Prim, Object}
use Rattle.native_protocol.specs.Steps.{reg}
use Rattle.primitive_natives.specs.declared.boolean.BooleanFunction.{BooleanFunction}
use Rattle.primitive_natives.specs.declared.boolean.BooleanFunction.TheVariants as function
use Rattle.primitive_natives.specs.BooleanMachine.{boolean_begin, boolean_asks, boolean_ends, this_boolean_ends, boolean_after, boolean_rest, boolean_clause}
use Rattle.primitive_natives.specs.Booleans.{boolean_in}
use Rattle.primitive_natives.specs.Machines.{ending_rest, until_end, IsMachine}
use Rattle.primitive_natives.specs.Registers.{scratch}
use Rattle.primitive_natives.proofs.EndingLaws.{look_same}

pub boolean_machine : IsMachine boolean_asks boolean_after boolean_rest
boolean_machine = record { first = λ c. refl; others = λ c a answers. refl }

this_ends : (f : BooleanFunction) (to : Reg) (v : Seen) (answers : List Answer) → ending_rest (this_boolean_ends f v to) answers ≡ boolean_in v (λ b. ending_rest (boolean_ends f b to)) answers
this_ends f to (Prim (prims.Bool b)) answers = refl
this_ends f to (Prim p) answers = refl
this_ends f to (Object class.Boolean) answers = refl
this_ends f to (Object c) answers = refl

pub boolean_begins : (f : BooleanFunction) (argc : ℕ) (construct : Bool) (answers : List Answer) → until_end boolean_rest (boolean_begin f argc construct) answers ≡ boolean_clause f argc construct answers
boolean_begins function.Boolean argc true answers = refl
boolean_begins function.Boolean argc false answers = refl
boolean_begins function.ToString argc construct answers =
    look_same (reg 0) _ (λ v. boolean_in v (λ b. ending_rest (boolean_ends function.ToString b (scratch argc).first))) (this_ends function.ToString (scratch argc).first) answers
boolean_begins function.ValueOf argc construct answers =
    look_same (reg 0) _ (λ v. boolean_in v (λ b. ending_rest (boolean_ends function.ValueOf b (scratch argc).first))) (this_ends function.ValueOf (scratch argc).first) answers
