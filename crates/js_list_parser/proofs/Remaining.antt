-- No parser leaves more tokens than it is given.
use Rattle.std.proofs.Common.{◌≡◌, ℕ, zero, suc, ◌≤◌, List, length, Ok, Err, refl, arith}
use Rattle.js_ast.specs.declared.token.Token.{Token}
use Rattle.js_list_parser.specs.Reading.{Read}
use Rattle.js_list_parser.specs.Parsing.{parsers}
use Rattle.js_list_parser.proofs.Lengths.{statement_shortens, statements_keep}
use Rattle.js_list_parser.proofs.Turns.{Within}
use Rattle.js_list_parser.proofs.ExpressionTurns.{NoLonger, primary_within, further_within, operand_within, expression_within}
use Rattle.js_list_parser.proofs.Sound.{all_sound}

-- what is left of what is read is no more
within_read : {A : Type 0} (n : ℕ) (r : Read A) → ((a : A) (z : List Token) → r ≡ Ok (a, z) → length z ≤ n) → Within n r
within_read n (Ok x) h = h x.0 x.1 refl
within_read n (Err e) h = tt

-- by induction on the number; of statements since what is taken is their spelling
pub no_longer : (n : ℕ) → NoLonger (parsers n)
unfolding parsers
no_longer zero = record {
  expression = λ wanted free n ts le. tt;
  operand = λ wanted free n ts le. tt;
  first = λ wanted free n ts le. tt;
  further = λ free e s n ts le. tt;
  statement = λ n ts le. tt;
  statements = λ outer n ts le. tt;
}
no_longer (suc d) = record {
  expression = λ wanted free n ts le. expression_within (parsers d) (no_longer d) d wanted free n ts le;
  operand = λ wanted free n ts le. operand_within (parsers d) (no_longer d) d wanted free n ts le;
  first = λ wanted free n ts le. primary_within (parsers d) (no_longer d) d wanted free n ts le;
  further = λ free e s n ts le. further_within (parsers d) (no_longer d) d free e s n ts le;
  statement = λ n ts le. within_read n _ (λ s z e. omega (arith, statement_shortens s ts z ((all_sound (suc d)).1.statement ts s z e).reads));
  statements = λ outer n ts le. within_read n _ (λ ss z e. omega (arith, statements_keep ss ts z ((all_sound (suc d)).1.statements outer ts ss z e).reads));
}
