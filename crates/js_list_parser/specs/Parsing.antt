-- The parser on lists: by the depth of what is read. Trees of one depth are read from the parsers of those of less depth.
use Rattle.std.specs.Prelude.{ℕ, zero, suc, Bool, true, if◌then◌else◌, List, [], ◌∷◌, Ok, Err}
use Rattle.js_ast.specs.declared.token.Token.{Token}
use Rattle.js_ast.specs.Trees.{Expr, Statements}
use Rattle.js_ast.specs.Grammar.{closes}
use Rattle.js_list_parser.specs.Reading.{syntax, nesting, refused, Read, ◌>>=◌, Parsers}
use Rattle.js_list_parser.specs.ExpressionParsing.{expression_at, operand_at, primary, further_at}
use Rattle.js_list_parser.specs.StatementParsing.{statement_at, statements_at}

-- trees whose depth is below the number
unfoldable pub parsers : ℕ → Parsers
parsers zero = record { expression = λ wanted free ts. Err (refused nesting ts); operand = λ wanted free ts. Err (refused nesting ts); first = λ wanted free ts. Err (refused nesting ts); further = λ free e s ts. Err (refused nesting ts); statement = λ ts. Err (refused nesting ts); statements = λ outer ts. Err (refused nesting ts) }
parsers (suc d) = record { expression = expression_at (parsers d) d; operand = operand_at (parsers d) d; first = primary (parsers d) d; further = further_at (parsers d) d; statement = statement_at (parsers d) d; statements = statements_at (parsers d) d }

unfoldable pub to_end : Statements → List Token → Read Statements
to_end ss [] = Ok (ss, [])
to_end ss (t ∷ ts) = Err (refused syntax (t ∷ ts))

-- the statements of a program, whose depth is below the number, to the end of the tokens
unfoldable pub program_at : ℕ → List Token → Read Statements
program_at n ts = (parsers n).statements true ts >>= λ ss. to_end ss.0 ss.1

unfoldable pub to_close : Statements → List Token → Read Statements
to_close ss ts = if closes ts then Ok (ss, ts) else Err (refused syntax ts)

-- the statements of a program or a body, to the end of the tokens or to a `}`
unfoldable pub list_at : ℕ → List Token → Read Statements
list_at n ts = (parsers n).statements true ts >>= λ ss. to_close ss.0 ss.1

-- the longest expression
unfoldable pub longest_at : Bool → ℕ → List Token → Read Expr
longest_at free n ts = (parsers n).expression 0 free ts
