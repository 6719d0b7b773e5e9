-- The program that tokens are, and why tokens are none.
use Rattle.std.specs.Prelude.{◌≡◌, ℕ, suc, ◌≤◌, List, None}
use Rattle.js_ast.specs.declared.token.Token.{Token}
use Rattle.js_ast.specs.Trees.{Statements}
use Rattle.js_ast.specs.Validity.{ValidProgram}
use Rattle.js_ast.specs.Grammar.{SpellsProgram}
use Rattle.js_ast.specs.Depth.{depth_statements}
use Rattle.js_list_parser.specs.Refusals.{a_program}
use Rattle.js_parse_expr.specs.declared.fault.ParseFault.{ParseFault}
use Rattle.js_parse_expr.specs.Parsed.{IsFault as IsFaultOf}
use Rattle.js_parse_expr.specs.Parts.{depth_limit, bad_directive}

-- the tokens spell these statements, which are a valid program within the depth
pub record IsTree (tokens : List Token) (program : Statements) : Type 0 where
  pub valid : ValidProgram program
  pub shallow : depth_statements program ≤ depth_limit
  pub spelled : SpellsProgram program tokens

-- the tokens are this program
pub record IsProgram (tokens : List Token) (program : Statements) : Type 0 where
  pub tree : IsTree tokens program
  pub formed : bad_directive program ≡ None

-- why the tokens are no program; that memory ran out says nothing of them
abbrev pub IsFault : List Token → ℕ → ParseFault → Type 0
IsFault tokens end f = IsFaultOf a_program bad_directive (suc depth_limit) tokens 0 end f
