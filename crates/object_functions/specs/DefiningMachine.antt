-- The machine of `defineProperties` and `create`.
use Rattle.std.specs.Prelude.{ℕ, Bool, true, false, if◌then◌else◌, Some}
use Rattle.js_values.specs.declared.inner.Class.TheVariants as class
use Rattle.native_protocol.specs.Steps.{Steps, ask, look, reg, seen_in, throws_type_error}
use Rattle.native_protocol.specs.declared.progress.Progress.TheVariants.{Going, Ready}
use Rattle.native_protocol.specs.declared.progress.Progress.{Progress}
use Rattle.native_protocol.specs.declared.registers.Reg.{Reg}
use Rattle.native_protocol.specs.declared.request.Answer.{Answer}
use Rattle.native_protocol.specs.declared.request.ErrorKind.TheVariants as error
use Rattle.native_protocol.specs.declared.request.Request.TheVariants.{Look, New}
use Rattle.native_protocol.specs.declared.request.Request.{Request}
use Rattle.native_protocol.specs.declared.request.Seen.{Seen}
use Rattle.object_functions.specs.Kinds.{object_argument, to_object}
use Rattle.object_functions.specs.Needs.{unless_object, unless_converted, ready_or}
use Rattle.object_functions.specs.Properties.{returns, defined_by_second, all_defined, define_all, is_object_or_null, is_second_passed, create}
use Rattle.object_functions.specs.Registers.{registers}
use Rattle.object_functions.specs.declared.defining.DefiningCall.{DefiningCall}
use Rattle.object_functions.specs.declared.defining.DefiningFunction.TheVariants as function
use Rattle.object_functions.specs.declared.defining.DefiningFunction.{DefiningFunction}
use Rattle.object_functions.specs.declared.defining.DefiningStage.TheVariants as stage
use Rattle.object_functions.specs.declared.defining.DefiningStage.{DefiningStage}
use Rattle.object_functions.specs.declared.registers.Registers.{Registers}
use Rattle.primitive_natives.specs.declared.ending.Ending.TheVariants as ending
use Rattle.primitive_natives.specs.declared.ending.Ending.{Ending}
use Rattle.descriptor_pieces.specs.DefiningPieces.{defining_begin, defining_asks, defining_after, defining_rest}
use Rattle.descriptor_pieces.specs.Looks.{is_undefined}
use Rattle.descriptor_pieces.specs.declared.define_properties.DefineProperties.{DefineProperties}

abbrev pub defining_at : Reg → Registers → DefiningStage → DefiningCall
defining_at object r s = record { object = object; registers = r; stage = s }

abbrev pub defining_call_begin : DefiningFunction → ℕ → DefiningCall
defining_call_begin function.DefineProperties argc = defining_at (reg 2) (registers argc) stage.LookObject
defining_call_begin function.Create argc = defining_at (registers argc).fourth (registers argc) (stage.LookPrototype (is_second_passed argc))

abbrev pub defining_asks_in : Reg → DefiningStage → Request
defining_asks_in object stage.LookObject = Look (reg 2)
defining_asks_in object (stage.LookPrototype passed) = Look (reg 2)
defining_asks_in object (stage.New passed) = New class.Object (Some (reg 2)) object
defining_asks_in object stage.LookProperties = Look (reg 3)
defining_asks_in object stage.LookPassed = Look (reg 3)
defining_asks_in object (stage.Define properties) = defining_asks properties

abbrev pub defining_call_asks : DefiningCall → Request
defining_call_asks c = defining_asks_in c.object c.stage

abbrev pub properties_begin : Reg → Registers → DefineProperties
properties_begin object r = defining_begin object (reg 3) r.first r.second r.third r.free

-- the properties that an object describes are defined, or it ends
abbrev pub properties_seen : Seen → Reg → Registers → Progress DefiningCall Ending
properties_seen v object r = ready_or (unless_converted v) (defining_at object r (stage.Define (properties_begin object r)))

abbrev pub prototype_seen : Bool → Reg → Registers → Bool → Progress DefiningCall Ending
prototype_seen passed object r is = if is then Going (defining_at object r (stage.New passed)) else Ready (ending.Throw error.TypeError)

abbrev pub new_made : Bool → Reg → Registers → Progress DefiningCall Ending
new_made passed object r = if passed then Going (defining_at object r stage.LookPassed) else Ready (ending.Return object)

abbrev pub passed_seen : Seen → Reg → Registers → Progress DefiningCall Ending
passed_seen v object r = if is_undefined v then Ready (ending.Return object) else properties_seen v object r

abbrev pub defined_or_on : Reg → Registers → Progress DefineProperties (Unit {0}) → Progress DefiningCall Ending
defined_or_on object r (Going properties) = Going (defining_at object r (stage.Define properties))
defined_or_on object r (Ready u) = Ready (ending.Return object)

abbrev pub defining_after_in : Reg → Registers → DefiningStage → Answer → Progress DefiningCall Ending
defining_after_in object r stage.LookObject a = ready_or (unless_object (seen_in a)) (defining_at object r stage.LookProperties)
defining_after_in object r (stage.LookPrototype passed) a = prototype_seen passed object r (is_object_or_null (seen_in a))
defining_after_in object r (stage.New passed) a = new_made passed object r
defining_after_in object r stage.LookProperties a = properties_seen (seen_in a) object r
defining_after_in object r stage.LookPassed a = passed_seen (seen_in a) object r
defining_after_in object r (stage.Define properties) a = defined_or_on object r (defining_after properties a)

abbrev pub defining_call_after : DefiningCall → Answer → Progress DefiningCall Ending
defining_call_after c a = defining_after_in c.object c.registers c.stage a

-- ---- which steps are still to take, where the object is in a register

abbrev pub passed_rest : Reg → Registers → Seen → Steps
passed_rest object r v = if is_undefined v then returns object else to_object v (defined_by_second object r)

abbrev pub made_rest : Bool → Reg → Registers → Steps
made_rest true object r = look (reg 3) (passed_rest object r)
made_rest false object r = returns object

abbrev pub new_rest : Bool → Reg → Registers → Steps
new_rest passed object r = ask (New class.Object (Some (reg 2)) object) (made_rest passed object r)

abbrev pub defining_rest_in : Reg → Registers → DefiningStage → Steps
defining_rest_in object r stage.LookObject = object_argument (all_defined object r)
defining_rest_in object r (stage.LookPrototype passed) = look (reg 2) (λ v. if is_object_or_null v then new_rest passed object r else throws_type_error)
defining_rest_in object r (stage.New passed) = new_rest passed object r
defining_rest_in object r stage.LookProperties = all_defined object r
defining_rest_in object r stage.LookPassed = look (reg 3) (passed_rest object r)
defining_rest_in object r (stage.Define properties) = defining_rest properties (λ u. returns object)

abbrev pub defining_call_rest : DefiningCall → Steps
defining_call_rest c = defining_rest_in c.object c.registers c.stage

-- the clause of each
abbrev pub defining_clause : DefiningFunction → ℕ → Steps
defining_clause function.DefineProperties argc = define_all argc
defining_clause function.Create argc = create argc
