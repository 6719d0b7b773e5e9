-- What the built-ins of this set are, and the call of any of them.
use Rattle.std.specs.Prelude.{ℕ, Bool, List, [], ◌∷◌, Option, Some, None, get_or}
use Rattle.native_protocol.specs.Sets.{SeenEntry}
use Rattle.native_protocol.specs.Steps.{Steps}
use Rattle.native_programs.specs.declared.line.Line.{Line}
use Rattle.native_programs.specs.declared.program.ProgramCall.{ProgramCall}
use Rattle.native_programs.specs.Programs.{program_begin}
use Rattle.native_programs.specs.Tables.{none, left_out}
use Rattle.function_natives.specs.declared.errors.TheConstants.{ERROR, ERROR_TEXT}
use Rattle.function_natives.specs.declared.functions.TheConstants.{APPLY, CALL, BIND}
use Rattle.function_natives.specs.declared.table.BuiltIn.TheVariants as built_in
use Rattle.function_natives.specs.declared.table.BuiltIn.{BuiltIn}
use Rattle.function_natives.specs.Errors.{error, error_to_string}
use Rattle.function_natives.specs.Functions.{apply, call, bind}
use Rattle.function_natives.specs.Table.{entries}

-- what each is
abbrev pub built_ins : List BuiltIn
built_ins =
    built_in.LeftOut ∷
    built_in.Error ∷ built_in.Error ∷ built_in.Error ∷ built_in.Error ∷ built_in.Error ∷ built_in.Error ∷ built_in.Error ∷
    built_in.Apply ∷
    built_in.Call ∷
    built_in.Bind ∷
    built_in.LeftOut ∷
    built_in.ErrorText ∷ []

unfoldable pub entry_at : ℕ → SeenEntry
entry_at which = get_or entries which none

unfoldable pub built_in_at : ℕ → BuiltIn
built_in_at which = get_or built_ins which built_in.LeftOut

-- its lines, where it is offered
abbrev pub lines_of : BuiltIn → Option (List Line)
lines_of built_in.LeftOut = None
lines_of built_in.Apply = Some APPLY
lines_of built_in.Call = Some CALL
lines_of built_in.Bind = Some BIND
lines_of built_in.Error = Some ERROR
lines_of built_in.ErrorText = Some ERROR_TEXT

abbrev pub begin : ℕ → ℕ → Bool → ProgramCall
begin which argc construct = program_begin (lines_of (built_in_at which)) (entry_at which) argc construct

-- the clause of each
abbrev pub clause_of : BuiltIn → SeenEntry → ℕ → Bool → Steps
clause_of built_in.LeftOut e argc construct = left_out e
clause_of built_in.Apply e argc construct = apply argc
clause_of built_in.Call e argc construct = call argc
clause_of built_in.Bind e argc construct = bind argc
clause_of built_in.Error e argc construct = error argc
clause_of built_in.ErrorText e argc construct = error_to_string argc
