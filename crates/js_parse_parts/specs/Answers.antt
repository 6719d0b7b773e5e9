-- How the code answers: as the parser on lists, unless memory ran out.
use Rattle.std.specs.Prelude.{◌≡◌, ℕ, ◌<◌, List, Result, Ok, Err}
use Rattle.js_ast.specs.declared.token.Token.{Token}
use Rattle.js_list_parser.specs.Reading as reading
use Rattle.js_list_parser.specs.Reading.{Refusal, refused, syntax, with_statement, nesting, Read, again, done}
use Rattle.js_parse_parts.specs.declared.reading.Fault.{Fault}
use Rattle.js_parse_parts.specs.declared.reading.Fault.TheVariants as fault
use Rattle.js_parse_parts.specs.declared.reading.ReadFault.{ReadFault}
use Rattle.js_parse_parts.specs.declared.reading.ReadFault.TheVariants.{Refused, OutOfMemory}
use Rattle.js_parse_parts.specs.declared.reading.Turn.{Turn}
use Rattle.js_parse_parts.specs.declared.reading.Turn.TheVariants.{Again, Done}

-- why a token is refused
abbrev pub fault_of : Fault → reading.Fault
fault_of fault.Syntax = syntax
fault_of fault.With = with_statement
fault_of fault.Nesting = nesting

-- nothing was read: the parser on lists refuses the same token
abbrev pub Fails : {Y : Type 0} → ReadFault → Result Y Refusal → Type 0
Fails (Refused f rest) plain = plain ≡ Err (refused (fault_of f) rest.now)
Fails OutOfMemory plain = Unit {0}

-- what was read, as it is seen, is what the parser on lists gives: a value and the tokens behind it, or those alone
abbrev pub Gives : {X Y : Type 0} → (X → Y) → Result X ReadFault → Result Y Refusal → Type 0
Gives view (Ok x) plain = plain ≡ Ok (view x)
Gives view (Err e) plain = Fails e plain

-- what was read, and the tokens behind it
abbrev pub found : {A : Type 0} → A → List Token → Read A
found a ts = Ok (a, ts)

-- the number beside a tree is its depth, and below the limit
abbrev pub Deep : ℕ → ℕ → ℕ → Type 0
Deep limit depth n = (n ≡ depth) × (n < limit)

-- a turn of a loop, as it is seen
abbrev pub turn_of : {S A T B : Type 0} → (S → T) → (A → B) → Turn S A → reading.Turn T B
turn_of state value (Again s) = again (state s)
turn_of state value (Done a) = done (value a)

-- what holds of a turn's state, and of what it ends with
abbrev pub TurnIs : {S A : Type 0} → (S → Type 0) → (A → Type 0) → Turn S A → Type 0
TurnIs State Value (Again s) = State s
TurnIs State Value (Done a) = Value a
