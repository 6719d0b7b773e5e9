-- What stands behind an expression that begins a statement, by the label that it is.
use Rattle.std.proofs.Common.{◌≡◌, ℕ, List, Option, Some, None, Ok, refl}
use Rattle.js_ast.specs.declared.token.Token.{Token}
use Rattle.js_ast.specs.declared.words.Sign.TheVariants as sign
use Rattle.js_ast.specs.Words.{Word, a_sign}
use Rattle.js_ast.specs.Trees.{Expr, name, expression, labelled, Statement}
use Rattle.js_list_parser.specs.Reading.{Read, ◌>>=◌, behind, room, Parsers}
use Rattle.js_list_parser.specs.StatementParsing.{ending, expression_rest}
use Rattle.js_parse_parts.specs.Labels.{label_of}

-- the statement behind a label, or the end behind an expression
abbrev pub behind_label : Parsers → ℕ → ℕ → Expr → Option (List ℕ) → List Token → Read Statement
behind_label sub d at e (Some text) ts = room d 0 ts (sub.statement (behind ts) >>= λ s. Ok (labelled at text s.0, s.1))
behind_label sub d at e None ts = ending (Some e) ts >>= λ n. Ok (expression at e n.0, n.1)

pub rest_by_label : (sub : Parsers) (d at : ℕ) (e : Expr) (w : Option Word) (ts : List Token) → expression_rest sub d at e w ts ≡ behind_label sub d at e (label_of e w) ts
unfolding expression_rest
rest_by_label sub d at (name place text) (Some (a_sign sign.Colon)) ts = refl
rest_by_label sub d at e w ts = refl
