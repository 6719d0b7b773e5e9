-- Each valid tree is read, by the parsers of a number above its depth, and so each list of tokens is spelled by one valid program at most.
use Rattle.std.proofs.Common.{◌≡◌, ℕ, zero, suc, ◌<◌, max, inl, inr, true, List, [], Ok, refl, sym, ap, ◌∙◌, arith}
use Rattle.js_ast.specs.declared.token.Token.{Token}
use Rattle.js_ast.specs.Trees.{Expr, Statements}
use Rattle.js_ast.specs.Grammar.{SpellsProgram}
use Rattle.js_ast.specs.Validity.{ValidProgram}
use Rattle.js_ast.specs.Depth.{depth_statements}
use Rattle.js_list_parser.specs.Reading.{Read}
use Rattle.js_list_parser.specs.Parsing.{parsers, to_end, program_at}
use Rattle.js_list_parser.specs.Laws.{OneTree}
use Rattle.js_list_parser.proofs.ExpressionComplete.{expression_complete, primary_reads, further_reads}
use Rattle.js_list_parser.proofs.OperandComplete.{operand_complete}
use Rattle.js_list_parser.proofs.Completeness.{CompleteBelow}
use Rattle.js_list_parser.proofs.Grown.{Changeable}
use Rattle.js_list_parser.proofs.StatementComplete.{StatementsBelow, statement_reads, statements_read}

-- no operand has a depth below 0
changeable_pos : (e : Expr) → Changeable 0 e → ⊥
changeable_pos e (inl h) = let lt = h.1 in omega arith
changeable_pos e (inr h) = omega arith

-- by induction on the number
pub all_below : (n : ℕ) → CompleteBelow n (parsers n) × StatementsBelow n (parsers n)
unfolding parsers
all_below zero = (
  record {
    expression = λ wanted free e ts z v lt. absurd (omega arith);
    operand = λ wanted free e ts z c. absurd (changeable_pos e c);
    first = λ wanted free e ts z lt. absurd (omega arith);
    further = λ wanted free e ts z lt. absurd (omega arith);
    bodies = λ ss ts z v lt. absurd (omega arith);
  },
  record {
    statement = λ s ts z v lt. absurd (omega arith);
    statements = λ outer ss ts z v lt. absurd (omega arith);
  },
)
all_below (suc d) = let (c, b) = all_below d in (
  record {
    expression = λ wanted free e ts z v lt. expression_complete c wanted free e ts z v (omega arith);
    operand = λ wanted free e ts z h s a. operand_complete c wanted free e ts z h s a;
    first = λ wanted free e ts z lt g s. primary_reads d (parsers d) c wanted free ts e z (omega arith) g s;
    further = λ wanted free e ts z lt g s. further_reads d (parsers d) c wanted free ts e z (omega arith) g s;
    bodies = λ ss ts z v lt r w. statements_read d (parsers d) c b true ss ts z v (omega arith) r (rw w refl);
  },
  record {
    statement = λ s ts z v lt. statement_reads d (parsers d) c b s ts z v (omega arith);
    statements = λ outer ss ts z v lt. statements_read d (parsers d) c b outer ss ts z v (omega arith);
  },
)

-- a valid program is read to its end
pub program_reads : (n : ℕ) (ss : Statements) (ts : List Token) → ValidProgram ss → depth_statements ss < n → SpellsProgram ss ts → program_at n ts ≡ Ok (ss, [])
unfolding program_at to_end
program_reads n ss ts v lt h = rw ((all_below n).1.statements true ss ts [] v lt h refl) refl

-- what is read is one list
same : (a b : Statements) (z : List Token) → (let r : Read Statements = Ok (a, z) in r ≡ Ok (b, z)) → a ≡ b
same a b z e = let p : (let t : Statements × List Token = (a, z) in t ≡ (b, z)) = cc in ap (λ (t : Statements × List Token). t.0) p

-- two valid programs with one spelling are one
pub one_tree : OneTree
one_tree ts p q v r w s =
    let n = suc (max (depth_statements p) (depth_statements q)) in
    same p q [] (sym (program_reads n p ts v (omega arith) r) ∙ program_reads n q ts w (omega arith) s)
