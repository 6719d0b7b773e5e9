-- The machine of the built-ins of Boolean: one look at a register, and the ending.
use Rattle.std.specs.Prelude.{ℕ, Bool, true, false}
use Rattle.js_number.specs.declared.primitive.Primitive.TheVariants as prims
use Rattle.js_number.specs.Conversions.{text_of}
use Rattle.js_values.specs.declared.inner.Class.TheVariants as class
use Rattle.native_protocol.specs.declared.progress.Progress.{Progress}
use Rattle.native_protocol.specs.declared.progress.Progress.TheVariants.{Going, Ready}
use Rattle.native_protocol.specs.declared.registers.Reg.{Reg}
use Rattle.native_protocol.specs.declared.request.Answer.{Answer}
use Rattle.native_protocol.specs.declared.request.ErrorKind.TheVariants as error
use Rattle.native_protocol.specs.declared.request.Request.{Request}
use Rattle.native_protocol.specs.declared.request.Request.TheVariants.{Look}
use Rattle.native_protocol.specs.declared.request.Seen.{Seen}
use Rattle.native_protocol.specs.declared.request.Seen.TheVariants.{Prim, Object}
use Rattle.native_protocol.specs.Steps.{Steps, look, reg, seen_in}
use Rattle.primitive_natives.specs.declared.boolean.BooleanCall.{BooleanCall}
use Rattle.primitive_natives.specs.declared.boolean.BooleanFunction.{BooleanFunction}
use Rattle.primitive_natives.specs.declared.boolean.BooleanFunction.TheVariants as function
use Rattle.primitive_natives.specs.declared.ending.Ending.{Ending}
use Rattle.primitive_natives.specs.declared.ending.Ending.TheVariants as ending
use Rattle.primitive_natives.specs.declared.ending.Left.TheVariants as why
use Rattle.primitive_natives.specs.Booleans.{truth_of, boolean, boolean_to_string, boolean_value_of}
use Rattle.primitive_natives.specs.Machines.{ending_rest}
use Rattle.primitive_natives.specs.Registers.{scratch}

abbrev pub boolean_call : BooleanFunction → Reg → BooleanCall
boolean_call f to = record { function = f; to = to }

abbrev pub boolean_begin : BooleanFunction → ℕ → Bool → Progress BooleanCall Ending
boolean_begin function.Boolean argc true = Ready (ending.Leave why.Wrapper)
boolean_begin function.Boolean argc false = Going (boolean_call function.Boolean (scratch argc).first)
boolean_begin function.ToString argc construct = Going (boolean_call function.ToString (scratch argc).first)
boolean_begin function.ValueOf argc construct = Going (boolean_call function.ValueOf (scratch argc).first)

abbrev pub looked_at : BooleanFunction → Reg
looked_at function.Boolean = reg 2
looked_at function.ToString = reg 0
looked_at function.ValueOf = reg 0

abbrev pub boolean_asks : BooleanCall → Request
boolean_asks c = Look (looked_at c.function)

-- how it ends where `this` is that Boolean value
abbrev pub boolean_ends : BooleanFunction → Bool → Reg → Ending
boolean_ends function.Boolean b to = ending.Give (prims.Bool b) to
boolean_ends function.ToString b to = ending.Give (prims.Str (text_of (prims.Bool b))) to
boolean_ends function.ValueOf b to = ending.Return (reg 0)

abbrev pub this_boolean_ends : BooleanFunction → Seen → Reg → Ending
this_boolean_ends f (Prim (prims.Bool b)) to = boolean_ends f b to
this_boolean_ends f (Prim p) to = ending.Throw error.TypeError
this_boolean_ends f (Object class.Boolean) to = ending.Leave why.Wrapper
this_boolean_ends f (Object c) to = ending.Throw error.TypeError

abbrev pub boolean_seen : BooleanFunction → Seen → Reg → Ending
boolean_seen function.Boolean v to = boolean_ends function.Boolean (truth_of v) to
boolean_seen function.ToString v to = this_boolean_ends function.ToString v to
boolean_seen function.ValueOf v to = this_boolean_ends function.ValueOf v to

abbrev pub boolean_after : BooleanCall → Answer → Progress BooleanCall Ending
boolean_after c a = Ready (boolean_seen c.function (seen_in a) c.to)

abbrev pub boolean_rest : BooleanCall → Steps
boolean_rest c = look (looked_at c.function) (λ v. ending_rest (boolean_seen c.function v c.to))

-- the clause of each
abbrev pub boolean_clause : BooleanFunction → ℕ → Bool → Steps
boolean_clause function.Boolean argc construct = boolean argc construct
boolean_clause function.ToString argc construct = boolean_to_string argc
boolean_clause function.ValueOf argc construct = boolean_value_of
