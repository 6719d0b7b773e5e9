-- A call takes the steps of its built-in.
use Rattle.std.proofs.Common.{◌≡◌, ℕ, suc, zero, ◌<◌, Bool, List, [], ◌∷◌, map, length, get_or, refl, sym, ◌∙◌, ap, arith}
use Rattle.native_protocol.proofs.RunningLaws.{asks_rest}
use Rattle.native_protocol.specs.Running.{behind, Follows}
use Rattle.native_protocol.specs.Sets.{SeenEntry}
use Rattle.native_protocol.specs.Steps.{Steps, leaves}
use Rattle.native_protocol.specs.declared.progress.Progress.TheVariants.{Going, Ready}
use Rattle.native_protocol.specs.declared.progress.Progress.{Progress}
use Rattle.native_protocol.specs.declared.request.Answer.TheVariants as answer
use Rattle.native_protocol.specs.declared.request.Answer.{Answer}
use Rattle.object_functions.proofs.AncestorLaws.{ancestor_machine, ancestor_begins}
use Rattle.object_functions.proofs.DefiningLaws.{defining_machine, defining_begins}
use Rattle.object_functions.proofs.IntegrityLaws.{integrity_machine, integrity_begins}
use Rattle.object_functions.proofs.ObjectLaws.{object_machine, object_begins}
use Rattle.object_functions.proofs.OwnTestLaws.{own_test_machine, own_test_begins}
use Rattle.object_functions.proofs.PropertyLaws.{property_machine, property_begins}
use Rattle.object_functions.proofs.ReflectionLaws.{reflection_machine, reflection_begins}
use Rattle.object_functions.proofs.ThisLaws.{this_machine, this_begins}
use Rattle.object_functions.specs.AncestorMachine.{ancestor_after, ancestor_rest}
use Rattle.object_functions.specs.DefiningMachine.{defining_call_after, defining_call_rest}
use Rattle.object_functions.specs.IntegrityMachine.{integrity_after, integrity_rest}
use Rattle.object_functions.specs.ObjectMachine.{object_after, object_rest}
use Rattle.object_functions.specs.OwnTestMachine.{own_test_after, own_test_rest}
use Rattle.object_functions.specs.PropertyMachine.{property_after, property_rest}
use Rattle.object_functions.specs.ReflectionMachine.{reflection_after, reflection_rest}
use Rattle.object_functions.specs.ThisMachine.{this_after, this_rest}
use Rattle.object_natives.specs.Dispatch.{built_ins, wrapped, call_begin, call_asks, call_after, call_rest, entry_at, built_in_at, state_begin, state_asks, state_after, clause_of}
use Rattle.object_natives.specs.Table.{rows, entries, none, steps}
use Rattle.object_natives.specs.declared.call.Call.TheVariants as call
use Rattle.object_natives.specs.declared.call.Call.{Call}
use Rattle.object_natives.specs.declared.call.ObjectState.TheVariants as state
use Rattle.object_natives.specs.declared.table.BuiltIn.TheVariants as built_in
use Rattle.object_natives.specs.declared.table.BuiltIn.{BuiltIn}
use Rattle.primitive_natives.proofs.BooleanLaws.{boolean_machine, boolean_begins}
use Rattle.primitive_natives.proofs.EndingLaws.{endings}
use Rattle.primitive_natives.proofs.MathLaws.{math_machine, math_begins}
use Rattle.primitive_natives.proofs.NumberLaws.{number_machine, number_begins}
use Rattle.primitive_natives.specs.BooleanMachine.{boolean_begin, boolean_after, boolean_rest}
use Rattle.primitive_natives.specs.Machines.{until_end}
use Rattle.primitive_natives.specs.MathMachine.{math_begin, math_after, math_rest}
use Rattle.primitive_natives.specs.NumberMachine.{number_call_begin, number_call_after, number_call_rest}
use Rattle.primitive_natives.specs.declared.ending.Ending.{Ending}

-- ---- the machine of a call

wrapped_joins : {State : Type 0} (rest : State → Steps) (in_call : State → Call) → ((s : State) → call_rest (in_call s) ≡ rest s) → (p : Progress State Ending) (answers : List Answer) → until_end rest p answers ≡ call_rest (wrapped in_call p) answers
wrapped_joins rest in_call is (Going s) answers = ap (λ (f : Steps). f answers) (sym (is s))
wrapped_joins rest in_call is (Ready e) answers = refl

first_asked : (c : Call) → call_rest c [] ≡ call_asks c
first_asked (call.Ancestor c) = ancestor_machine.first c
first_asked (call.Boolean c) = boolean_machine.first c
first_asked (call.Defining c) = defining_machine.first c
first_asked (call.Integrity c) = integrity_machine.first c
first_asked (call.Math c) = math_machine.first c
first_asked (call.Number c) = number_machine.first c
first_asked (call.Object c) = object_machine.first c
first_asked (call.OwnTest c) = own_test_machine.first c
first_asked (call.Property c) = property_machine.first c
first_asked (call.Reflection c) = reflection_machine.first c
first_asked (call.This c) = this_machine.first c
first_asked (call.LeftOut name) = refl
first_asked (call.Ends e) = endings.first e

others_asked : (c : Call) (a : Answer) (answers : List Answer) → call_rest c (a ∷ answers) ≡ call_rest (call_after c a) answers
others_asked (call.Ancestor c) a answers = ancestor_machine.others c a answers ∙ wrapped_joins ancestor_rest call.Ancestor (λ s. refl) (ancestor_after c a) answers
others_asked (call.Boolean c) a answers = boolean_machine.others c a answers ∙ wrapped_joins boolean_rest call.Boolean (λ s. refl) (boolean_after c a) answers
others_asked (call.Defining c) a answers = defining_machine.others c a answers ∙ wrapped_joins defining_call_rest call.Defining (λ s. refl) (defining_call_after c a) answers
others_asked (call.Integrity c) a answers = integrity_machine.others c a answers ∙ wrapped_joins integrity_rest call.Integrity (λ s. refl) (integrity_after c a) answers
others_asked (call.Math c) a answers = math_machine.others c a answers ∙ wrapped_joins math_rest call.Math (λ s. refl) (math_after c a) answers
others_asked (call.Number c) a answers = number_machine.others c a answers ∙ wrapped_joins number_call_rest call.Number (λ s. refl) (number_call_after c a) answers
others_asked (call.Object c) a answers = object_machine.others c a answers ∙ wrapped_joins object_rest call.Object (λ s. refl) (object_after c a) answers
others_asked (call.OwnTest c) a answers = own_test_machine.others c a answers ∙ wrapped_joins own_test_rest call.OwnTest (λ s. refl) (own_test_after c a) answers
others_asked (call.Property c) a answers = property_machine.others c a answers ∙ wrapped_joins property_rest call.Property (λ s. refl) (property_after c a) answers
others_asked (call.Reflection c) a answers = reflection_machine.others c a answers ∙ wrapped_joins reflection_rest call.Reflection (λ s. refl) (reflection_after c a) answers
others_asked (call.This c) a answers = this_machine.others c a answers ∙ wrapped_joins this_rest call.This (λ s. refl) (this_after c a) answers
others_asked (call.LeftOut name) a answers = refl
others_asked (call.Ends e) a answers = endings.others e a answers

call_follows : Follows call_asks call_after call_rest
call_follows = record { first = first_asked; others = others_asked }

-- ---- where it begins

begins : (b : BuiltIn) (e : SeenEntry) (argc : ℕ) (construct : Bool) (answers : List Answer) → call_rest (call_begin b e argc construct) answers ≡ clause_of b e argc construct answers
begins built_in.LeftOut e argc construct answers = refl
begins built_in.Object e argc construct answers = object_begins argc answers
begins (built_in.Boolean f) e argc construct answers = sym (wrapped_joins boolean_rest call.Boolean (λ s. refl) (boolean_begin f argc construct) answers) ∙ boolean_begins f argc construct answers
begins (built_in.Number f) e argc construct answers = sym (wrapped_joins number_call_rest call.Number (λ s. refl) (number_call_begin f argc construct) answers) ∙ number_begins f argc construct answers
begins (built_in.Math f) e argc construct answers = sym (wrapped_joins math_rest call.Math (λ s. refl) (math_begin f argc) answers) ∙ math_begins f argc answers
begins (built_in.Reflection f) e argc construct answers = reflection_begins f argc answers
begins (built_in.Property f) e argc construct answers = property_begins f argc answers
begins (built_in.Defining f) e argc construct answers = defining_begins f argc answers
begins (built_in.Integrity f) e argc construct answers = integrity_begins f argc answers
begins (built_in.This f) e argc construct answers = this_begins f argc answers
begins (built_in.OwnTest f) e argc construct answers = own_test_begins f argc answers
begins built_in.IsPrototypeOf e argc construct answers = ancestor_begins argc answers

-- ---- the table: each row's clause is that of its built-in

zipped : List BuiltIn → List SeenEntry → List (ℕ → Bool → Steps)
zipped (b ∷ bs) (e ∷ es) = clause_of b e ∷ zipped bs es
zipped [] es = []
zipped (b ∷ bs) [] = []

same_clauses : zipped built_ins entries ≡ map (λ r. r.clause) rows
unfolding zipped entries
same_clauses = refl

zipped_at : (bs : List BuiltIn) (es : List SeenEntry) (which : ℕ) → which < length es → length bs ≡ length es → get_or (zipped bs es) which (λ argc construct. leaves []) ≡ clause_of (get_or bs which built_in.LeftOut) (get_or es which none)
unfolding zipped
zipped_at [] [] which less same = absurd (omega arith)
zipped_at [] (e ∷ es) which less same = absurd (omega arith)
zipped_at (b ∷ bs) [] which less same = absurd (omega arith)
zipped_at (b ∷ bs) (e ∷ es) zero less same = refl
zipped_at (b ∷ bs) (e ∷ es) (suc which) less same = zipped_at bs es which (omega arith) (omega arith)

clause_is : (which argc : ℕ) (construct : Bool) → which < length entries → clause_of (built_in_at which) (entry_at which) argc construct ≡ steps which argc construct
unfolding entries entry_at built_in_at
clause_is which argc construct less =
    ap (λ (f : ℕ → Bool → Steps). f argc construct) (sym (zipped_at built_ins entries which less refl) ∙ ap (λ (fs : List (ℕ → Bool → Steps)). get_or fs which (λ n b. leaves [])) same_clauses)

-- ---- and all together

running : (c : Call) (answers : List Answer) → state_asks (behind state_after (state.Running c) answers) ≡ call_asks (behind call_after c answers)
running c [] = refl
running c (a ∷ answers) = running (call_after c a) answers

pub all_follow : (which argc : ℕ) (construct : Bool) (answers : List Answer) → which < length entries → state_asks (behind state_after (state_begin which argc construct) (answer.Begin ∷ answers)) ≡ steps which argc construct answers
all_follow which argc construct answers less =
    let c = call_begin (built_in_at which) (entry_at which) argc construct in
    running c answers ∙ asks_rest call_follows c answers ∙ begins (built_in_at which) (entry_at which) argc construct answers ∙ ap (λ (f : Steps). f answers) (clause_is which argc construct less)
