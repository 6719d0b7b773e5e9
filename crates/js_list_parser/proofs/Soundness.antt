-- What the parsers of parts promise of what they read.
use Rattle.std.proofs.Common.{◌≡◌, ℕ, ◌<◌, ◌≤◌, Bool, true, false, List, Ok}
use Rattle.js_ast.specs.declared.token.Token.{Token}
use Rattle.js_ast.specs.Trees.{Expr, Statements}
use Rattle.js_ast.specs.Levels.{is_bare_new}
use Rattle.js_ast.specs.Grammar.{Reads, ReadsStatements}
use Rattle.js_ast.specs.Validity.{Valid, ValidStatements, no_in}
use Rattle.js_ast.specs.Depth.{depth, depth_statements}
use Rattle.js_list_parser.specs.Reading.{Parsers}
use Rattle.js_list_parser.specs.ExpressionParsing.{is_call, suffix_at, applies, Reaches}
use Rattle.js_list_parser.proofs.Grown.{Changeable}

-- a valid expression whose depth is below a number, that may stand where the level is wanted, and the tokens up to z are its spelling; what is
-- left has no arguments of a `new` without arguments
pub record FoundExpression (limit wanted : ℕ) (free : Bool) (e : Expr) (ts z : List Token) : Type 0 where
  pub valid : Valid e
  pub shallow : depth e < limit
  pub reaches : Reaches wanted e
  pub without_in : free ≡ false → no_in e ≡ true
  pub reads : Reads e ts z
  pub no_arguments : is_bare_new e ≡ true → is_call (suffix_at z) ≡ false

-- valid statements whose depth is below a number, and the tokens up to z are their spelling
pub record FoundStatements (limit : ℕ) (outer : Bool) (ss : Statements) (ts z : List Token) : Type 0 where
  pub valid : ValidStatements outer ss
  pub shallow : depth_statements ss < limit
  pub reads : ReadsStatements ss ts z

-- what is read is valid, its depth is below a number, and the tokens that were taken are its spelling
pub record SoundBelow (d : ℕ) (sub : Parsers) : Type 0 where
  pub expression : (wanted : ℕ) (free : Bool) (ts : List Token) (e : Expr) (z : List Token) → wanted ≤ 16 → sub.expression wanted free ts ≡ Ok (e, z) → FoundExpression d wanted free e ts z
  pub operand : (wanted : ℕ) (free : Bool) (ts : List Token) (e : Expr) (z : List Token) → wanted ≤ 16 → sub.operand wanted free ts ≡ Ok (e, z) → FoundExpression d wanted free e ts z × Changeable d e
  pub first : (wanted : ℕ) (free : Bool) (ts : List Token) (e : Expr) (z : List Token) → wanted ≤ 16 → sub.first wanted free ts ≡ Ok (e, z) → FoundExpression d wanted free e ts z
  pub further : (l wanted : ℕ) (free : Bool) (start : List Token) (e : Expr) (ts : List Token) (x : Expr) (z : List Token) → wanted ≤ 16 → FoundExpression l wanted free e start ts → applies wanted free e ts ≡ true
      → sub.further free e (suffix_at ts) ts ≡ Ok (x, z) → FoundExpression d wanted free x start z
  pub bodies : (ts : List Token) (ss : Statements) (z : List Token) → sub.statements true ts ≡ Ok (ss, z) → FoundStatements d true ss ts z
