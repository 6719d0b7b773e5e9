-- Labels of statements.
use Rattle.std.specs.Prelude.{ℕ, List, Option, Some, None}
use Rattle.js_ast.specs.declared.words.Sign.TheVariants as sign
use Rattle.js_ast.specs.Words.{Word, a_sign}
use Rattle.js_ast.specs.Trees.{Expr, name}

-- the label that an expression is: a lone name before a colon (ECMA-262 12.12)
abbrev pub label_of : Expr → Option Word → Option (List ℕ)
label_of (name at text) (Some (a_sign sign.Colon)) = Some text
label_of e w = None
