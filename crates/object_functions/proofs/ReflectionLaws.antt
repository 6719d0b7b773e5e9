-- The machine of the functions that ask one thing of an object takes their steps.
use Rattle.std.proofs.Common.{◌≡◌, ℕ, List, [], ◌∷◌, refl}
use Rattle.native_protocol.specs.Steps.{seen_in}
use Rattle.native_protocol.specs.declared.request.Answer.{Answer}
use Rattle.object_functions.proofs.NeedsLaws.{object_needed}
use Rattle.object_functions.specs.ReflectionMachine.{reflection_begin, reflection_asks, reflection_after, reflection_rest, reflection_clause}
use Rattle.object_functions.specs.declared.reflection.ReflectionCall.TheVariants as call
use Rattle.object_functions.specs.declared.reflection.ReflectionCall.{ReflectionCall}
use Rattle.object_functions.specs.declared.reflection.ReflectionFunction.TheVariants as function
use Rattle.object_functions.specs.declared.reflection.ReflectionFunction.{ReflectionFunction}
use Rattle.primitive_natives.specs.Machines.{until_end, IsMachine}

first_asked : (c : ReflectionCall) → reflection_rest c [] ≡ reflection_asks c
first_asked (call.Look f to) = refl
first_asked (call.Ask f to) = refl

others_asked : (c : ReflectionCall) (a : Answer) (answers : List Answer) → reflection_rest c (a ∷ answers) ≡ until_end reflection_rest (reflection_after c a) answers
others_asked (call.Look f to) a answers = object_needed reflection_rest (seen_in a) (call.Ask f to) answers
others_asked (call.Ask f to) a answers = refl

pub reflection_machine : IsMachine reflection_asks reflection_after reflection_rest
reflection_machine = record { first = first_asked; others = others_asked }

pub reflection_begins : (f : ReflectionFunction) (argc : ℕ) (answers : List Answer) → reflection_rest (reflection_begin f argc) answers ≡ reflection_clause f argc answers
reflection_begins function.GetPrototypeOf argc answers = refl
reflection_begins function.GetOwnPropertyNames argc answers = refl
reflection_begins function.PreventExtensions argc answers = refl
reflection_begins function.IsExtensible argc answers = refl
reflection_begins function.Keys argc answers = refl
