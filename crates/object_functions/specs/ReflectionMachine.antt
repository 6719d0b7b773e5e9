-- The machine of the functions of Object that ask one thing of an object.
use Rattle.std.specs.Prelude.{ℕ, true, false}
use Rattle.native_protocol.specs.Steps.{Steps, reg, seen_in}
use Rattle.native_protocol.specs.declared.progress.Progress.TheVariants.{Ready}
use Rattle.native_protocol.specs.declared.progress.Progress.{Progress}
use Rattle.native_protocol.specs.declared.registers.Reg.{Reg}
use Rattle.native_protocol.specs.declared.request.Answer.{Answer}
use Rattle.native_protocol.specs.declared.request.Request.TheVariants.{Look, Proto, Extensible, Prevent, Keys}
use Rattle.native_protocol.specs.declared.request.Request.{Request}
use Rattle.object_functions.specs.Kinds.{object_argument}
use Rattle.object_functions.specs.Needs.{unless_object, ready_or}
use Rattle.object_functions.specs.Objects.{gives_asked, get_prototype_of, get_own_property_names, prevent_extensions, is_extensible, keys}
use Rattle.object_functions.specs.Registers.{registers}
use Rattle.object_functions.specs.declared.reflection.ReflectionCall.TheVariants as call
use Rattle.object_functions.specs.declared.reflection.ReflectionCall.{ReflectionCall}
use Rattle.object_functions.specs.declared.reflection.ReflectionFunction.TheVariants as function
use Rattle.object_functions.specs.declared.reflection.ReflectionFunction.{ReflectionFunction}
use Rattle.primitive_natives.specs.declared.ending.Ending.TheVariants as ending
use Rattle.primitive_natives.specs.declared.ending.Ending.{Ending}

abbrev pub reflection_begin : ReflectionFunction → ℕ → ReflectionCall
reflection_begin f argc = call.Look f (registers argc).first

abbrev pub asked : ReflectionFunction → Reg → Request
asked function.GetPrototypeOf to = Proto (reg 2) to
asked function.GetOwnPropertyNames to = Keys (reg 2) true to
asked function.PreventExtensions to = Prevent (reg 2)
asked function.IsExtensible to = Extensible (reg 2) to
asked function.Keys to = Keys (reg 2) false to

-- the register that holds what the call gives
abbrev pub told : ReflectionFunction → Reg → Reg
told function.GetPrototypeOf to = to
told function.GetOwnPropertyNames to = to
told function.PreventExtensions to = reg 2
told function.IsExtensible to = to
told function.Keys to = to

abbrev pub reflection_asks : ReflectionCall → Request
reflection_asks (call.Look f to) = Look (reg 2)
reflection_asks (call.Ask f to) = asked f to

abbrev pub reflection_after : ReflectionCall → Answer → Progress ReflectionCall Ending
reflection_after (call.Look f to) a = ready_or (unless_object (seen_in a)) (call.Ask f to)
reflection_after (call.Ask f to) a = Ready (ending.Return (told f to))

abbrev pub asked_rest : ReflectionFunction → Reg → Steps
asked_rest f to = gives_asked (asked f to) (told f to)

abbrev pub reflection_rest : ReflectionCall → Steps
reflection_rest (call.Look f to) = object_argument (asked_rest f to)
reflection_rest (call.Ask f to) = asked_rest f to

-- the clause of each
abbrev pub reflection_clause : ReflectionFunction → ℕ → Steps
reflection_clause function.GetPrototypeOf argc = get_prototype_of argc
reflection_clause function.GetOwnPropertyNames argc = get_own_property_names argc
reflection_clause function.PreventExtensions argc = prevent_extensions
reflection_clause function.IsExtensible argc = is_extensible argc
reflection_clause function.Keys argc = keys argc
