-- The machine of `toString` and `valueOf` of Object.prototype.
use Rattle.std.specs.Prelude.{ℕ, List, ◌++◌, codes}
use Rattle.js_number.specs.declared.primitive.Primitive.TheVariants as prims
use Rattle.native_protocol.specs.Steps.{Steps, look, reg, seen_in}
use Rattle.native_protocol.specs.declared.progress.Progress.TheVariants.{Ready}
use Rattle.native_protocol.specs.declared.progress.Progress.{Progress}
use Rattle.native_protocol.specs.declared.registers.Reg.{Reg}
use Rattle.native_protocol.specs.declared.request.Answer.{Answer}
use Rattle.native_protocol.specs.declared.request.ErrorKind.TheVariants as error
use Rattle.native_protocol.specs.declared.request.Request.TheVariants.{Look}
use Rattle.native_protocol.specs.declared.request.Request.{Request}
use Rattle.native_protocol.specs.declared.request.Seen.TheVariants.{Prim, Object}
use Rattle.native_protocol.specs.declared.request.Seen.{Seen}
use Rattle.object_functions.specs.Prototypes.{class_name, object_to_string, object_value_of}
use Rattle.object_functions.specs.Registers.{registers}
use Rattle.object_functions.specs.declared.this.ThisCall.{ThisCall}
use Rattle.object_functions.specs.declared.this.ThisFunction.TheVariants as function
use Rattle.object_functions.specs.declared.this.ThisFunction.{ThisFunction}
use Rattle.primitive_natives.specs.Machines.{ending_rest}
use Rattle.primitive_natives.specs.declared.ending.Ending.TheVariants as ending
use Rattle.primitive_natives.specs.declared.ending.Ending.{Ending}
use Rattle.primitive_natives.specs.declared.ending.Left.TheVariants as why

abbrev pub this_begin : ThisFunction → ℕ → ThisCall
this_begin f argc = record { function = f; to = (registers argc).first }

abbrev pub this_asks : ThisCall → Request
this_asks c = Look (reg 0)

abbrev pub description_ends : List ℕ → Reg → Ending
description_ends name to = ending.Give (prims.Str (codes "[object " ++ name ++ codes "]")) to

abbrev pub text_ends : Seen → Reg → Ending
text_ends (Prim prims.Undefined) to = description_ends (codes "Undefined") to
text_ends (Prim prims.Null) to = description_ends (codes "Null") to
text_ends (Prim p) to = ending.Leave why.Wrapper
text_ends (Object c) to = description_ends (class_name c) to

abbrev pub value_ends : Seen → Ending
value_ends (Prim prims.Undefined) = ending.Throw error.TypeError
value_ends (Prim prims.Null) = ending.Throw error.TypeError
value_ends (Prim p) = ending.Leave why.Wrapper
value_ends (Object c) = ending.Return (reg 0)

abbrev pub this_ends : ThisFunction → Seen → Reg → Ending
this_ends function.ToString v to = text_ends v to
this_ends function.ValueOf v to = value_ends v

abbrev pub this_after : ThisCall → Answer → Progress ThisCall Ending
this_after c a = Ready (this_ends c.function (seen_in a) c.to)

abbrev pub this_rest : ThisCall → Steps
this_rest c = look (reg 0) (λ v. ending_rest (this_ends c.function v c.to))

-- the clause of each
abbrev pub this_clause : ThisFunction → ℕ → Steps
this_clause function.ToString argc = object_to_string argc
this_clause function.ValueOf argc = object_value_of
