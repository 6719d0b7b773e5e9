-- What the built-ins of this set are, and the call of any of them.
use Rattle.std.specs.Prelude.{ℕ, Bool, List, [], ◌∷◌, ◌++◌, replicate, get_or, Option, Some, None}
use Rattle.native_protocol.specs.Sets.{SeenEntry}
use Rattle.native_protocol.specs.Steps.{Steps}
use Rattle.native_programs.specs.Programs.{program_begin}
use Rattle.native_programs.specs.Tables.{left_out, none}
use Rattle.native_programs.specs.declared.line.Line.{Line}
use Rattle.native_programs.specs.declared.program.ProgramCall.{ProgramCall}
use Rattle.string_natives.specs.declared.table.BuiltIn.{BuiltIn}
use Rattle.string_natives.specs.declared.table.BuiltIn.TheVariants as built_in
use Rattle.string_natives.specs.declared.constructor.TheConstants.{STRING, FROM_CHAR_CODE, VALUE}
use Rattle.string_natives.specs.declared.numbers.TheConstants.{PARSE_INT, IS_NAN, NUMBER_TO_STRING}
use Rattle.string_natives.specs.declared.parts.TheConstants.{TEXT_CONCAT, TEXT_SLICE, SPLIT, SUBSTRING, TO_LOWER_CASE, TO_UPPER_CASE, TRIM}
use Rattle.string_natives.specs.declared.places.TheConstants.{CHAR_AT, CHAR_CODE_AT, TEXT_INDEX_OF, TEXT_LAST_INDEX_OF}
use Rattle.string_natives.specs.Numbers.{parse_int, is_not_a_number, number_to_string}
use Rattle.string_natives.specs.Parts.{concat, slice, substring, to_lower_case, to_upper_case, trim}
use Rattle.string_natives.specs.Pieces.{split}
use Rattle.string_natives.specs.Places.{char_at, char_code_at, index_of, last_index_of}
use Rattle.string_natives.specs.Table.{entries}
use Rattle.string_natives.specs.Values.{string, from_char_code, value_of_text}

-- what each is, in the order of their numbers
abbrev pub built_ins : List BuiltIn
built_ins =
    (built_in.ParseInt ∷
    built_in.String ∷
    built_in.IsNan ∷
    built_in.FromCharCode ∷
    built_in.Value ∷
    built_in.Value ∷
    built_in.CharAt ∷
    built_in.CharCodeAt ∷
    built_in.Concat ∷
    built_in.IndexOf ∷
    built_in.LastIndexOf ∷
    built_in.Slice ∷
    built_in.Split ∷
    built_in.Substring ∷
    built_in.ToLowerCase ∷
    built_in.ToUpperCase ∷
    built_in.Trim ∷ []) ++
    replicate 6 built_in.LeftOut ++
    (built_in.NumberToString ∷ [])

unfoldable pub entry_at : ℕ → SeenEntry
entry_at which = get_or entries which none

unfoldable pub built_in_at : ℕ → BuiltIn
built_in_at which = get_or built_ins which built_in.LeftOut

-- the lines of those that are offered
abbrev pub lines_of : BuiltIn → Option (List Line)
lines_of built_in.LeftOut = None
lines_of built_in.ParseInt = Some PARSE_INT
lines_of built_in.String = Some STRING
lines_of built_in.IsNan = Some IS_NAN
lines_of built_in.FromCharCode = Some FROM_CHAR_CODE
lines_of built_in.Value = Some VALUE
lines_of built_in.CharAt = Some CHAR_AT
lines_of built_in.CharCodeAt = Some CHAR_CODE_AT
lines_of built_in.Concat = Some TEXT_CONCAT
lines_of built_in.IndexOf = Some TEXT_INDEX_OF
lines_of built_in.LastIndexOf = Some TEXT_LAST_INDEX_OF
lines_of built_in.Slice = Some TEXT_SLICE
lines_of built_in.Split = Some SPLIT
lines_of built_in.Substring = Some SUBSTRING
lines_of built_in.ToLowerCase = Some TO_LOWER_CASE
lines_of built_in.ToUpperCase = Some TO_UPPER_CASE
lines_of built_in.Trim = Some TRIM
lines_of built_in.NumberToString = Some NUMBER_TO_STRING

-- the clause of each
abbrev pub clause_of : BuiltIn → SeenEntry → ℕ → Bool → Steps
clause_of built_in.LeftOut e argc construct = left_out e
clause_of built_in.ParseInt e argc construct = parse_int argc
clause_of built_in.String e argc construct = string argc construct
clause_of built_in.IsNan e argc construct = is_not_a_number argc
clause_of built_in.FromCharCode e argc construct = from_char_code argc
clause_of built_in.Value e argc construct = value_of_text
clause_of built_in.CharAt e argc construct = char_at argc
clause_of built_in.CharCodeAt e argc construct = char_code_at argc
clause_of built_in.Concat e argc construct = concat argc
clause_of built_in.IndexOf e argc construct = index_of argc
clause_of built_in.LastIndexOf e argc construct = last_index_of argc
clause_of built_in.Slice e argc construct = slice argc
clause_of built_in.Split e argc construct = split argc
clause_of built_in.Substring e argc construct = substring argc
clause_of built_in.ToLowerCase e argc construct = to_lower_case argc
clause_of built_in.ToUpperCase e argc construct = to_upper_case argc
clause_of built_in.Trim e argc construct = trim argc
clause_of built_in.NumberToString e argc construct = number_to_string argc

abbrev pub begin : ℕ → ℕ → Bool → ProgramCall
begin which argc construct = program_begin (lines_of (built_in_at which)) (entry_at which) argc construct
