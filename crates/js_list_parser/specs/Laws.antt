-- What the grammar promises: each list of tokens is spelled by one valid tree at most. And what the parser on lists promises: it reads a program
-- exactly where the tokens spell a valid one within the depth.
use Rattle.std.specs.Prelude.{◌≡◌, ℕ, ◌<◌, ◌↔◌, List, [], Ok}
use Rattle.js_ast.specs.declared.token.Token.{Token}
use Rattle.js_ast.specs.Trees.{Statements}
use Rattle.js_ast.specs.Validity.{ValidProgram}
use Rattle.js_ast.specs.Grammar.{SpellsProgram}
use Rattle.js_ast.specs.Depth.{depth_statements}
use Rattle.js_list_parser.specs.Parsing.{program_at}

abbrev pub OneTree : Type 0
OneTree = (ts : List Token) (p q : Statements) → ValidProgram p → SpellsProgram p ts → ValidProgram q → SpellsProgram q ts → p ≡ q

-- for each number that the depth is to stay below
abbrev pub ParsesExactly : Type 0
ParsesExactly = (n : ℕ) (ts : List Token) (ss : Statements) → (program_at n ts ≡ Ok (ss, [])) ↔ (ValidProgram ss × (depth_statements ss < n) × SpellsProgram ss ts)
