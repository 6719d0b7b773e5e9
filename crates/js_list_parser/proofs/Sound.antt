-- What the parsers read is valid, its depth is below their number, and the tokens that were taken are its spelling. With completeness a program is
-- read if and only if it is all that.
use Rattle.std.proofs.Common.{ℕ, zero, suc, ◌<◌, true, List, [], ◌∷◌}
use Rattle.js_ast.specs.declared.token.Token.{Token}
use Rattle.js_ast.specs.Trees.{Statements}
use Rattle.js_ast.specs.Grammar.{SpellsProgram}
use Rattle.js_ast.specs.Validity.{ValidProgram}
use Rattle.js_ast.specs.Depth.{depth_statements}
use Rattle.js_list_parser.specs.Parsing.{parsers, to_end, program_at}
use Rattle.js_list_parser.specs.Laws.{ParsesExactly}
use Rattle.js_list_parser.proofs.Soundness.{FoundStatements, SoundBelow}
use Rattle.js_list_parser.proofs.ExpressionSound.{primary_sound, further_sound, expression_sound}
use Rattle.js_list_parser.proofs.OperandSound.{operand_found}
use Rattle.js_list_parser.proofs.Gives.{Gives, gives-ok, gives-err, gives-bind}
use Rattle.js_list_parser.proofs.StatementSound.{StatementsSound, statement_sound, statements_sound}
use Rattle.js_list_parser.proofs.Complete.{program_reads}

-- by induction on the number
pub all_sound : (n : ℕ) → SoundBelow n (parsers n) × StatementsSound n (parsers n)
unfolding parsers
all_sound zero = (
  record { expression = λ wanted free ts e z le h. absurd cc; operand = λ wanted free ts e z le h. absurd cc; first = λ wanted free ts e z le h. absurd cc; further = λ l wanted free start e ts x z le f a h. absurd cc; bodies = λ ts ss z h. absurd cc },
  record { statement = λ ts s z h. absurd cc; statements = λ outer ts ss z h. absurd cc },
)
all_sound (suc d) = let (b, c) = all_sound d in (
  record {
    expression = λ wanted free ts e z le h. expression_sound b wanted free ts e z le h;
    operand = λ wanted free ts e z le h. operand_found d (parsers d) b wanted le free ts e z h;
    first = λ wanted free ts e z le h. primary_sound d (parsers d) b wanted le free ts e z h;
    further = λ l wanted free start e ts x z le f a h. further_sound d (parsers d) b wanted le free l start e ts x z f a h;
    bodies = λ ts ss z h. (statements_sound d (parsers d) b c true ts).is (ss, z) h;
  },
  record {
    statement = λ ts s z h. (statement_sound d (parsers d) b c ts).is (s, z) h;
    statements = λ outer ts ss z h. (statements_sound d (parsers d) b c outer ts).is (ss, z) h;
  },
)

-- a program that is read to its end is valid, and spelled by all the tokens
found : (n : ℕ) (ts : List Token) (ss : Statements) (z : List Token) → FoundStatements n true ss ts z → Gives (to_end ss z) (λ x. ValidProgram x.0 × (depth_statements x.0 < n) × SpellsProgram x.0 ts)
unfolding to_end
found n ts ss [] f = gives-ok (f.valid, f.shallow, f.reads)
found n ts ss (t ∷ z) f = gives-err

-- what is read as a program is valid, and spelled by all the tokens
pub program_sound : (n : ℕ) (ts : List Token) → Gives (program_at n ts) (λ x. ValidProgram x.0 × (depth_statements x.0 < n) × SpellsProgram x.0 ts)
unfolding program_at
program_sound n ts = gives-bind (record { is = λ x e. (all_sound n).1.statements true ts x.0 x.1 e }) (λ x f. found n ts x.0 x.1 f)

-- the two directions
pub parses_exactly : ParsesExactly
parses_exactly n ts ss = (λ e. (program_sound n ts).is (ss, []) e, λ h. program_reads n ss ts h.0 h.1 h.2)
