-- The machine of `defineProperties` and `create` takes their steps.
use Rattle.std.proofs.Common.{◌≡◌, ℕ, Bool, true, false, if◌then◌else◌, List, [], ◌∷◌, refl, ◌∙◌}
use Rattle.native_protocol.specs.Running.{carried_on}
use Rattle.native_protocol.specs.Steps.{look, reg, seen_in, throws_type_error}
use Rattle.native_protocol.specs.declared.progress.Progress.TheVariants.{Going, Ready}
use Rattle.native_protocol.specs.declared.progress.Progress.{Progress}
use Rattle.native_protocol.specs.declared.registers.Reg.{Reg}
use Rattle.native_protocol.specs.declared.request.Answer.{Answer}
use Rattle.native_protocol.specs.declared.request.Seen.{Seen}
use Rattle.object_functions.proofs.NeedsLaws.{object_needed, converted_needed}
use Rattle.object_functions.specs.DefiningMachine.{defining_at, defining_call_begin, defining_asks_in, defining_call_asks, properties_begin, properties_seen, prototype_seen, new_made, defined_or_on, defining_after_in, defining_call_after, made_rest, new_rest, defining_rest_in, defining_call_rest, defining_clause}
use Rattle.object_functions.specs.Kinds.{to_object}
use Rattle.object_functions.specs.Properties.{returns, defined_by_second, is_object_or_null, is_second_passed, created}
use Rattle.object_functions.specs.Registers.{registers}
use Rattle.object_functions.specs.declared.defining.DefiningFunction.TheVariants as function
use Rattle.object_functions.specs.declared.defining.DefiningFunction.{DefiningFunction}
use Rattle.object_functions.specs.declared.defining.DefiningStage.TheVariants as stage
use Rattle.object_functions.specs.declared.defining.DefiningStage.{DefiningStage}
use Rattle.object_functions.specs.declared.registers.Registers.{Registers}
use Rattle.primitive_natives.specs.declared.ending.Ending.TheVariants as ending
use Rattle.primitive_natives.specs.Machines.{until_end, IsMachine}
use Rattle.descriptor_pieces.proofs.DefiningLaws.{defining_is}
use Rattle.descriptor_pieces.specs.DefiningPieces.{defining_after, defining_rest}
use Rattle.descriptor_pieces.specs.Looks.{is_undefined}
use Rattle.descriptor_pieces.specs.declared.define_properties.DefineProperties.{DefineProperties}

first_asked : (object : Reg) (r : Registers) (s : DefiningStage) → defining_rest_in object r s [] ≡ defining_asks_in object s
first_asked object r stage.LookObject = refl
first_asked object r (stage.LookPrototype passed) = refl
first_asked object r (stage.New passed) = refl
first_asked object r stage.LookProperties = refl
first_asked object r stage.LookPassed = refl
first_asked object r (stage.Define properties) = defining_is.first properties (λ u. returns object)

prototype_joins : (passed : Bool) (object : Reg) (r : Registers) (is : Bool) (answers : List Answer) → (if is then new_rest passed object r else throws_type_error) answers ≡ until_end defining_call_rest (prototype_seen passed object r is) answers
prototype_joins passed object r true answers = refl
prototype_joins passed object r false answers = refl

made_joins : (passed : Bool) (object : Reg) (r : Registers) (answers : List Answer) → made_rest passed object r answers ≡ until_end defining_call_rest (new_made passed object r) answers
made_joins true object r answers = refl
made_joins false object r answers = refl

properties_join : (v : Seen) (object : Reg) (r : Registers) (answers : List Answer) → to_object v (defined_by_second object r) answers ≡ until_end defining_call_rest (properties_seen v object r) answers
properties_join v object r answers = converted_needed defining_call_rest v (defining_at object r (stage.Define (properties_begin object r))) answers

passed_joins : (is : Bool) (v : Seen) (object : Reg) (r : Registers) (answers : List Answer) → (if is then returns object else to_object v (defined_by_second object r)) answers ≡ until_end defining_call_rest (if is then Ready (ending.Return object) else properties_seen v object r) answers
passed_joins true v object r answers = refl
passed_joins false v object r answers = properties_join v object r answers

defined_joins : (object : Reg) (r : Registers) (p : Progress DefineProperties (Unit {0})) (answers : List Answer) → carried_on defining_rest p (λ u. returns object) answers ≡ until_end defining_call_rest (defined_or_on object r p) answers
defined_joins object r (Going properties) answers = refl
defined_joins object r (Ready u) answers = refl

others_asked : (object : Reg) (r : Registers) (s : DefiningStage) (a : Answer) (answers : List Answer) → defining_rest_in object r s (a ∷ answers) ≡ until_end defining_call_rest (defining_after_in object r s a) answers
others_asked object r stage.LookObject a answers = object_needed defining_call_rest (seen_in a) (defining_at object r stage.LookProperties) answers
others_asked object r (stage.LookPrototype passed) a answers = prototype_joins passed object r (is_object_or_null (seen_in a)) answers
others_asked object r (stage.New passed) a answers = made_joins passed object r answers
others_asked object r stage.LookProperties a answers = properties_join (seen_in a) object r answers
others_asked object r stage.LookPassed a answers = passed_joins (is_undefined (seen_in a)) (seen_in a) object r answers
others_asked object r (stage.Define properties) a answers = defining_is.others properties (λ u. returns object) a answers ∙ defined_joins object r (defining_after properties a) answers

pub defining_machine : IsMachine defining_call_asks defining_call_after defining_call_rest
defining_machine = record { first = λ c. first_asked c.object c.registers c.stage; others = λ c a answers. others_asked c.object c.registers c.stage a answers }

create_begins : (passed : Bool) (r : Registers) (answers : List Answer) → look (reg 2) (λ v. if is_object_or_null v then new_rest passed r.fourth r else throws_type_error) answers ≡ look (reg 2) (λ v. if is_object_or_null v then created passed r else throws_type_error) answers
create_begins true r answers = refl
create_begins false r answers = refl

pub defining_begins : (f : DefiningFunction) (argc : ℕ) (answers : List Answer) → defining_call_rest (defining_call_begin f argc) answers ≡ defining_clause f argc answers
defining_begins function.DefineProperties argc answers = refl
defining_begins function.Create argc answers = create_begins (is_second_passed argc) (registers argc) answers
