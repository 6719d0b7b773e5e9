-- What the built-ins of this set are, and the call of any of them.
use Rattle.std.specs.Prelude.{ℕ, Bool, List, [], ◌∷◌, Option, Some, None, get_or}
use Rattle.native_protocol.specs.Sets.{SeenEntry}
use Rattle.native_protocol.specs.Steps.{Steps}
use Rattle.native_programs.specs.declared.line.Line.{Line}
use Rattle.native_programs.specs.declared.program.ProgramCall.{ProgramCall}
use Rattle.native_programs.specs.Programs.{program_begin}
use Rattle.native_programs.specs.Tables.{left_out, none}
use Rattle.array_natives.specs.declared.constructor.TheConstants.{ARRAY_OF, IS_ARRAY}
use Rattle.array_natives.specs.declared.ends.TheConstants.{POP, PUSH, SHIFT, UNSHIFT}
use Rattle.array_natives.specs.declared.iterating.TheConstants.{EVERY, SOME, FOR_EACH, MAP, FILTER, REDUCE, REDUCE_RIGHT}
use Rattle.array_natives.specs.declared.searching.TheConstants.{INDEX_OF, LAST_INDEX_OF}
use Rattle.array_natives.specs.declared.splice.TheConstants.{SPLICE}
use Rattle.array_natives.specs.declared.whole.TheConstants.{TO_STRING, CONCAT, JOIN, REVERSE, SLICE}
use Rattle.array_natives.specs.declared.table.BuiltIn.{BuiltIn}
use Rattle.array_natives.specs.declared.table.BuiltIn.TheVariants as built_in
use Rattle.array_natives.specs.Constructor.{array_of, array_test}
use Rattle.array_natives.specs.Ends.{pop, push, shift, unshift}
use Rattle.array_natives.specs.Iterating.{every, some, for_each, map_all, filter, reduce, reduce_right}
use Rattle.array_natives.specs.Searching.{index_of, last_index_of}
use Rattle.array_natives.specs.Splicing.{splice}
use Rattle.array_natives.specs.Table.{entries}
use Rattle.array_natives.specs.Whole.{concat, join, reverse, slice, to_string}

-- what each is, in the order of their numbers
abbrev pub built_ins : List BuiltIn
built_ins =
    built_in.Array ∷
    built_in.IsArray ∷
    built_in.ToString ∷
    built_in.Concat ∷
    built_in.Join ∷
    built_in.Pop ∷
    built_in.Push ∷
    built_in.Reverse ∷
    built_in.Shift ∷
    built_in.Slice ∷
    built_in.Splice ∷
    built_in.Unshift ∷
    built_in.IndexOf ∷
    built_in.LastIndexOf ∷
    built_in.Every ∷
    built_in.Some ∷
    built_in.ForEach ∷
    built_in.Map ∷
    built_in.Filter ∷
    built_in.Reduce ∷
    built_in.ReduceRight ∷
    built_in.LeftOut ∷
    built_in.LeftOut ∷ []

unfoldable pub entry_at : ℕ → SeenEntry
entry_at which = get_or entries which none

unfoldable pub built_in_at : ℕ → BuiltIn
built_in_at which = get_or built_ins which built_in.LeftOut

-- its lines, where it is offered
abbrev pub lines_of : BuiltIn → Option (List Line)
lines_of built_in.LeftOut = None
lines_of built_in.Array = Some ARRAY_OF
lines_of built_in.IsArray = Some IS_ARRAY
lines_of built_in.ToString = Some TO_STRING
lines_of built_in.Concat = Some CONCAT
lines_of built_in.Join = Some JOIN
lines_of built_in.Pop = Some POP
lines_of built_in.Push = Some PUSH
lines_of built_in.Reverse = Some REVERSE
lines_of built_in.Shift = Some SHIFT
lines_of built_in.Slice = Some SLICE
lines_of built_in.Splice = Some SPLICE
lines_of built_in.Unshift = Some UNSHIFT
lines_of built_in.IndexOf = Some INDEX_OF
lines_of built_in.LastIndexOf = Some LAST_INDEX_OF
lines_of built_in.Every = Some EVERY
lines_of built_in.Some = Some SOME
lines_of built_in.ForEach = Some FOR_EACH
lines_of built_in.Map = Some MAP
lines_of built_in.Filter = Some FILTER
lines_of built_in.Reduce = Some REDUCE
lines_of built_in.ReduceRight = Some REDUCE_RIGHT

-- its clause
abbrev pub clause_of : BuiltIn → SeenEntry → ℕ → Bool → Steps
clause_of built_in.LeftOut e argc construct = left_out e
clause_of built_in.Array e argc construct = array_of argc
clause_of built_in.IsArray e argc construct = array_test argc
clause_of built_in.ToString e argc construct = to_string argc
clause_of built_in.Concat e argc construct = concat argc
clause_of built_in.Join e argc construct = join argc
clause_of built_in.Pop e argc construct = pop argc
clause_of built_in.Push e argc construct = push argc
clause_of built_in.Reverse e argc construct = reverse argc
clause_of built_in.Shift e argc construct = shift argc
clause_of built_in.Slice e argc construct = slice argc
clause_of built_in.Splice e argc construct = splice argc
clause_of built_in.Unshift e argc construct = unshift argc
clause_of built_in.IndexOf e argc construct = index_of argc
clause_of built_in.LastIndexOf e argc construct = last_index_of argc
clause_of built_in.Every e argc construct = every argc
clause_of built_in.Some e argc construct = some argc
clause_of built_in.ForEach e argc construct = for_each argc
clause_of built_in.Map e argc construct = map_all argc
clause_of built_in.Filter e argc construct = filter argc
clause_of built_in.Reduce e argc construct = reduce argc
clause_of built_in.ReduceRight e argc construct = reduce_right argc

abbrev pub begin : ℕ → ℕ → Bool → ProgramCall
begin which argc construct = program_begin (lines_of (built_in_at which)) (entry_at which) argc construct
