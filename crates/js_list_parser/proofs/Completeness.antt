-- What the parsers of parts complete.
use Rattle.std.proofs.Common.{◌≡◌, ℕ, ◌<◌, Bool, true, false, List, Some, Ok}
use Rattle.js_ast.specs.declared.token.Token.{Token}
use Rattle.js_ast.specs.declared.words.Sign.TheVariants as sign
use Rattle.js_ast.specs.Words.{a_sign}
use Rattle.js_ast.specs.Trees.{Expr, Statements}
use Rattle.js_ast.specs.Grammar.{Reads, ReadsStatements}
use Rattle.js_ast.specs.Validity.{Valid, ValidStatements, no_in}
use Rattle.js_ast.specs.Depth.{depth, depth_statements}
use Rattle.js_list_parser.specs.Reading.{word_at, Parsers}
use Rattle.js_list_parser.specs.ExpressionParsing.{applies, Reaches, Stops}
use Rattle.js_list_parser.proofs.Grown.{is_grown, left_of, suffix_by, middle_of, Stands, Changeable}

-- each valid tree whose depth is below a number is read, where what follows doesn't go on with it
pub record CompleteBelow (d : ℕ) (sub : Parsers) : Type 0 where
  pub expression : (wanted : ℕ) (free : Bool) (e : Expr) (ts z : List Token) → Valid e → depth e < d → Reaches wanted e → (free ≡ false → no_in e ≡ true) → Reads e ts z → Stops wanted free e z
      → sub.expression wanted free ts ≡ Ok (e, z)
  pub operand : (wanted : ℕ) (free : Bool) (e : Expr) (ts z : List Token) → Changeable d e → Stands wanted free e ts z → applies wanted free e z ≡ false → sub.operand wanted free ts ≡ Ok (e, z)
  pub first : (wanted : ℕ) (free : Bool) (e : Expr) (ts z : List Token) → depth e < d → is_grown e ≡ false → Stands wanted free e ts z → sub.first wanted free ts ≡ Ok (e, z)
  pub further : (wanted : ℕ) (free : Bool) (e : Expr) (ts z : List Token) → depth e < d → is_grown e ≡ true → (s : Stands wanted free e ts z)
      → sub.further free (left_of e) (suffix_by e) (middle_of e ts z s.reads) ≡ Ok (e, z)
  pub bodies : (ss : Statements) (ts z : List Token) → ValidStatements true ss → depth_statements ss < d → ReadsStatements ss ts z → word_at z ≡ Some (a_sign sign.CloseBrace) → sub.statements true ts ≡ Ok (ss, z)
