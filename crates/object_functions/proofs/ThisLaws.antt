-- The machine of `toString` and `valueOf` takes their steps.
use Rattle.std.proofs.Common.{◌≡◌, ℕ, List, refl}
use Rattle.js_number.specs.declared.primitive.Primitive.TheVariants as prims
use Rattle.native_protocol.specs.Steps.{ends, reg}
use Rattle.native_protocol.specs.declared.registers.Reg.{Reg}
use Rattle.native_protocol.specs.declared.request.Answer.{Answer}
use Rattle.native_protocol.specs.declared.request.Request.TheVariants.{Return}
use Rattle.native_protocol.specs.declared.request.Seen.TheVariants.{Prim, Object}
use Rattle.native_protocol.specs.declared.request.Seen.{Seen}
use Rattle.object_functions.specs.Kinds.{to_object}
use Rattle.object_functions.specs.Prototypes.{description_of}
use Rattle.object_functions.specs.Registers.{registers}
use Rattle.object_functions.specs.ThisMachine.{this_begin, this_asks, this_after, this_rest, this_clause, text_ends, value_ends}
use Rattle.object_functions.specs.declared.this.ThisFunction.TheVariants as function
use Rattle.object_functions.specs.declared.this.ThisFunction.{ThisFunction}
use Rattle.primitive_natives.proofs.EndingLaws.{look_same}
use Rattle.primitive_natives.specs.Machines.{ending_rest, IsMachine}

pub this_machine : IsMachine this_asks this_after this_rest
this_machine = record { first = λ c. refl; others = λ c a answers. refl }

text_same : (to : Reg) (v : Seen) (answers : List Answer) → ending_rest (text_ends v to) answers ≡ description_of v to answers
text_same to (Prim prims.Undefined) answers = refl
text_same to (Prim prims.Null) answers = refl
text_same to (Prim p) answers = refl
text_same to (Object c) answers = refl

value_same : (v : Seen) (answers : List Answer) → ending_rest (value_ends v) answers ≡ to_object v (ends (Return (reg 0))) answers
value_same (Prim prims.Undefined) answers = refl
value_same (Prim prims.Null) answers = refl
value_same (Prim p) answers = refl
value_same (Object c) answers = refl

pub this_begins : (f : ThisFunction) (argc : ℕ) (answers : List Answer) → this_rest (this_begin f argc) answers ≡ this_clause f argc answers
this_begins function.ToString argc answers = look_same (reg 0) _ (λ v. description_of v (registers argc).first) (text_same (registers argc).first) answers
this_begins function.ValueOf argc answers = look_same (reg 0) _ (λ v. to_object v (ends (Return (reg 0)))) value_same answers
