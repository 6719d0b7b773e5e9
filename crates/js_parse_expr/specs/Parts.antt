-- Expressions and lists of statements as parts of a program.
use Rattle.std.specs.Prelude.{ℕ, suc, ◌-◌, List, Bool, not, Option}
use Rattle.js_ast.specs.declared.token.Token.{Token}
use Rattle.js_ast.specs.Trees.{Expr, Statements}
use Rattle.js_list_parser.specs.Refusals.{a_list, an_expression}
use Rattle.js_faults.specs.declared.directives.BadDirective.{BadDirective}
use Rattle.js_faults.specs.Scopes.{outermost}
use Rattle.js_faults.specs.Directives.{directives, by_place}
use Rattle.js_faults.specs.Faults.{in_expr, in_statements, first_by}
use Rattle.js_parse_expr.specs.declared.fault.ParseFault.{ParseFault}
use Rattle.js_parse_expr.specs.Parsed.{IsParsed, IsFault}

-- the greatest depth of a program
abbrev pub depth_limit : ℕ
depth_limit = 200

-- the depth of a part is below this, where so much is open round it
abbrev pub depths_left : ℕ → ℕ
depths_left deep = suc depth_limit - deep

-- the first upgrade directive that hasn't the form of one
abbrev pub bad_directive_in_expr : Expr → Option BadDirective
bad_directive_in_expr e = first_by by_place (in_expr directives e)

abbrev pub bad_directive : Statements → Option BadDirective
bad_directive ss = first_by by_place (in_statements directives outermost ss)

-- the tokens from one to another are the longest expression, where `in` is no operator outside brackets, or is one
abbrev pub IsExpression : List Token → ℕ → ℕ → Bool → Expr → ℕ → Type 0
IsExpression tokens from deep no_in e to = IsParsed (an_expression (not no_in)) bad_directive_in_expr (depths_left deep) tokens from e to

abbrev pub IsNoExpression : List Token → ℕ → ℕ → Bool → ℕ → ParseFault → Type 0
IsNoExpression tokens from deep no_in end f = IsFault (an_expression (not no_in)) bad_directive_in_expr (depths_left deep) tokens from end f

-- the tokens from one to another are the statements up to a `}` that closes none of them, or to the end
abbrev pub AreStatements : List Token → ℕ → ℕ → Statements → ℕ → Type 0
AreStatements tokens from deep ss to = IsParsed a_list bad_directive (depths_left deep) tokens from ss to

abbrev pub AreNoStatements : List Token → ℕ → ℕ → ℕ → ParseFault → Type 0
AreNoStatements tokens from deep end f = IsFault a_list bad_directive (depths_left deep) tokens from end f
