-- How statements are read (ECMA-262 12, 13). Each function looks at the word of the first token, and goes on behind it. The parsers of trees
-- whose depth is below the number d are given; what is read here has that depth at most.
use Rattle.std.specs.Prelude.{ℕ, Bool, true, false, ◌||◌, leb, if◌then◌else◌, List, [], ◌∷◌, Option, Some, None, Ok, Err}
use Rattle.js_ast.specs.declared.token.Token.{Token}
use Rattle.js_ast.specs.declared.words.Keyword.TheVariants as key
use Rattle.js_ast.specs.declared.words.Sign.TheVariants as sign
use Rattle.js_ast.specs.Words.{Word, a_key, a_sign, word_of}
use Rattle.js_ast.specs.Trees.{Ident, Semi, written, elided, Expr, name, MaybeExpr, absent, present, Declarations, one_declaration, more_declarations, First, first_expr, first_var, Target, target_expr, target_var, Clauses, no_clauses, case, default, Block, block_of, Statement, block, var, empty, expression, if_then, if_else, do_while, while, for, for_in, continue, break, return, throw, switch, labelled, try_catch, try_finally, try_both, debugger, function_declaration, function_of, Statements, no_statements, more_statements}
use Rattle.js_ast.specs.Joined.{joined_declarations, joined_statements, joined_clauses}
use Rattle.js_ast.specs.Levels.{is_target}
use Rattle.js_ast.specs.Validity.{defaults}
use Rattle.js_ast.specs.Grammar.{place_of, on_line, is_close_brace, is_semicolon, may_elide, last_initialiser}
use Rattle.js_list_parser.specs.Reading.{syntax, with_statement, refused, Read, ◌>>=◌, word_at, behind, Turn, again, done, loop, room, Parsers}
use Rattle.js_list_parser.specs.ExpressionParsing.{is_open_paren, is_close_paren, is_open_brace, is_colon, expect, taken, ident_at, function_rest, expression_at}

abbrev pub is_while : Word → Bool
is_while (a_key key.While) = true
is_while w = false

-- ---- the end of a statement

abbrev pub semicolon_here : List Token → Bool
semicolon_here [] = false
semicolon_here (t ∷ ts) = is_semicolon (word_of t)

-- a semicolon, or where one may be left out nothing; the statement ends with this expression, or with none
unfoldable pub ending : Option Expr → List Token → Read Semi
ending before ts = if semicolon_here ts then Ok (written, behind ts) else if may_elide before ts then Ok (elided, ts) else Err (refused syntax ts)

-- ---- parts of statements

-- an expression in parentheses
unfoldable pub condition : Parsers → List Token → Read Expr
condition sub ts = expect is_open_paren ts >>= λ inner. sub.expression 0 true inner >>= λ e. expect is_close_paren e.1 >>= λ rest. Ok (e.0, rest)

-- the initialiser of a variable, or none
unfoldable pub initialiser_by : Parsers → Bool → Option Word → List Token → Read MaybeExpr
initialiser_by sub free (Some (a_sign sign.Assign)) ts = sub.expression 1 free (behind ts) >>= λ e. Ok (present e.0, e.1)
initialiser_by sub free w ts = Ok (absent, ts)

unfoldable pub initialiser : Parsers → Bool → List Token → Read MaybeExpr
initialiser sub free ts = initialiser_by sub free (word_at ts) ts

-- behind a comma
unfoldable pub next_declaration : Parsers → Bool → Declarations → List Token → Read (Turn Declarations Declarations)
next_declaration sub free ds ts = taken (ident_at ts) ts >>= λ i. initialiser sub free i.1 >>= λ e. Ok (again (joined_declarations ds (one_declaration i.0 e.0)), e.1)

-- a further variable behind a comma, or the end of the variables
unfoldable pub declaration_step_by : Parsers → Bool → Declarations → Option Word → List Token → Read (Turn Declarations Declarations)
declaration_step_by sub free ds (Some (a_sign sign.Comma)) ts = next_declaration sub free ds (behind ts)
declaration_step_by sub free ds w ts = Ok (done ds, ts)

unfoldable pub declaration_step : Parsers → Bool → Declarations → List Token → Read (Turn Declarations Declarations)
declaration_step sub free ds ts = declaration_step_by sub free ds (word_at ts) ts

-- the variables of which the first has this name
unfoldable pub declarations_from : Parsers → Bool → Ident → List Token → Read Declarations
declarations_from sub free i ts = initialiser sub free ts >>= λ e. loop (declaration_step sub free) (one_declaration i e.0) e.1

-- variables
unfoldable pub declarations : Parsers → Bool → List Token → Read Declarations
declarations sub free ts = taken (ident_at ts) ts >>= λ i. declarations_from sub free i.0 i.1

-- a block that is a part of a statement: a statement of less depth, which begins with a brace
unfoldable pub block_in : Statement → List Token → Read Block
block_in (block b) ts = Ok (b, ts)
block_in s ts = Err (refused syntax ts)

unfoldable pub inner_block_by : Parsers → Option Word → List Token → Read Block
inner_block_by sub (Some (a_sign sign.OpenBrace)) ts = sub.statement ts >>= λ s. block_in s.0 s.1
inner_block_by sub w ts = Err (refused syntax ts)

unfoldable pub inner_block : Parsers → List Token → Read Block
inner_block sub ts = inner_block_by sub (word_at ts) ts

-- ---- statements, behind the word that they begin with; the place is that of this word

-- ECMA-262 12.2
unfoldable pub var_rest : Parsers → ℕ → List Token → Read Statement
var_rest sub at ts = declarations sub true ts >>= λ ds. ending (last_initialiser ds.0) ds.1 >>= λ n. Ok (var at ds.0 n.0, n.1)

-- ECMA-262 12.5: an `else` belongs to the last `if` that it can belong to
unfoldable pub else_by : Parsers → ℕ → Expr → Statement → Option Word → List Token → Read Statement
else_by sub at e s (Some (a_key key.Else)) ts = sub.statement (behind ts) >>= λ u. Ok (if_else at e s u.0, u.1)
else_by sub at e s w ts = Ok (if_then at e s, ts)

unfoldable pub if_rest : Parsers → ℕ → List Token → Read Statement
if_rest sub at ts = condition sub ts >>= λ e. sub.statement e.1 >>= λ s. else_by sub at e.0 s.0 (word_at s.1) s.1

-- ECMA-262 12.6.1
unfoldable pub do_rest : Parsers → ℕ → List Token → Read Statement
do_rest sub at ts = sub.statement ts >>= λ s. expect is_while s.1 >>= λ test. condition sub test >>= λ e. ending None e.1 >>= λ n. Ok (do_while at s.0 e.0 n.0, n.1)

-- ECMA-262 12.6.2
unfoldable pub while_rest : Parsers → ℕ → List Token → Read Statement
while_rest sub at ts = condition sub ts >>= λ e. sub.statement e.1 >>= λ s. Ok (while at e.0 s.0, s.1)

-- a part of a `for` header (ECMA-262 12.6.3), which may be missing
unfoldable pub header_part_by : Parsers → Option Word → List Token → Read MaybeExpr
header_part_by sub (Some (a_sign sign.Semicolon)) ts = Ok (absent, ts)
header_part_by sub (Some (a_sign sign.CloseParen)) ts = Ok (absent, ts)
header_part_by sub w ts = sub.expression 0 true ts >>= λ e. Ok (present e.0, e.1)

unfoldable pub header_part : Parsers → List Token → Read MaybeExpr
header_part sub ts = header_part_by sub (word_at ts) ts

-- from the first semicolon of the header on
unfoldable pub for_steps : Parsers → ℕ → First → List Token → Read Statement
for_steps sub at first ts = expect is_semicolon ts >>= λ second. header_part sub second >>= λ test. expect is_semicolon test.1 >>= λ third. header_part sub third >>= λ step. expect is_close_paren step.1 >>= λ rest. sub.statement rest
    >>= λ s. Ok (for at first test.0 step.0 s.0, s.1)

-- behind the word `in` of the header (ECMA-262 12.6.4)
unfoldable pub for_each : Parsers → ℕ → Target → List Token → Read Statement
for_each sub at target ts = sub.expression 0 true ts >>= λ e. expect is_close_paren e.1 >>= λ rest. sub.statement rest >>= λ s. Ok (for_in at target e.0 s.0, s.1)

-- behind the first variable's name
unfoldable pub for_variable_by : Parsers → ℕ → Ident → Option Word → List Token → Read Statement
for_variable_by sub at i (Some (a_key key.In)) ts = for_each sub at (target_var i) (behind ts)
for_variable_by sub at i w ts = declarations_from sub false i ts >>= λ ds. for_steps sub at (first_var ds.0) ds.1

-- a header that begins with `var`, behind that
unfoldable pub for_variable : Parsers → ℕ → List Token → Read Statement
for_variable sub at ts = taken (ident_at ts) ts >>= λ i. for_variable_by sub at i.0 (word_at i.1) i.1

-- behind the first expression
unfoldable pub for_expression_by : Parsers → ℕ → Expr → Option Word → List Token → Read Statement
for_expression_by sub at e (Some (a_key key.In)) ts = if is_target e then for_each sub at (target_expr e) (behind ts) else Err (refused syntax ts)
for_expression_by sub at e w ts = for_steps sub at (first_expr (present e)) ts

-- a header that begins with an expression, in which the operator `in` isn't allowed
unfoldable pub for_expression : Parsers → ℕ → List Token → Read Statement
for_expression sub at ts = sub.expression 0 false ts >>= λ e. for_expression_by sub at e.0 (word_at e.1) e.1

unfoldable pub for_header_by : Parsers → ℕ → Option Word → List Token → Read Statement
for_header_by sub at (Some (a_sign sign.Semicolon)) ts = for_steps sub at (first_expr absent) ts
for_header_by sub at (Some (a_key key.Var)) ts = for_variable sub at (behind ts)
for_header_by sub at w ts = for_expression sub at ts

unfoldable pub for_rest : Parsers → ℕ → List Token → Read Statement
for_rest sub at ts = expect is_open_paren ts >>= λ inner. for_header_by sub at (word_at inner) inner

-- a label on the same line, or none
unfoldable pub label_by : Bool → Option Ident → List Token → Read (Option Ident)
label_by true (Some i) ts = Ok (Some i, behind ts)
label_by same_line i ts = Ok (None, ts)

unfoldable pub label : List Token → Read (Option Ident)
label ts = label_by (on_line ts) (ident_at ts) ts

-- ECMA-262 12.7
unfoldable pub continue_rest : ℕ → List Token → Read Statement
continue_rest at ts = label ts >>= λ l. ending None l.1 >>= λ n. Ok (continue at l.0 n.0, n.1)

-- ECMA-262 12.8
unfoldable pub break_rest : ℕ → List Token → Read Statement
break_rest at ts = label ts >>= λ l. ending None l.1 >>= λ n. Ok (break at l.0 n.0, n.1)

-- behind the word `return`, with a value
unfoldable pub return_value : Parsers → ℕ → List Token → Read Statement
return_value sub at ts = sub.expression 0 true ts >>= λ e. ending (Some e.0) e.1 >>= λ n. Ok (return at (present e.0) n.0, n.1)

-- and with none
unfoldable pub return_nothing : ℕ → List Token → Read Statement
return_nothing at ts = ending None ts >>= λ n. Ok (return at absent n.0, n.1)

-- ECMA-262 12.9: the value stands on the same line
unfoldable pub return_rest : Parsers → ℕ → List Token → Read Statement
return_rest sub at ts = if semicolon_here ts || may_elide None ts then return_nothing at ts else return_value sub at ts

unfoldable pub throw_value : Parsers → ℕ → List Token → Read Statement
throw_value sub at ts = sub.expression 0 true ts >>= λ e. ending (Some e.0) e.1 >>= λ n. Ok (throw at e.0 n.0, n.1)

-- ECMA-262 12.13: so it does here, and must be there
unfoldable pub throw_rest : Parsers → ℕ → List Token → Read Statement
throw_rest sub at ts = if on_line ts then throw_value sub at ts else Err (refused syntax ts)

-- behind the word `case`
unfoldable pub case_rest : Parsers → Clauses → List Token → Read (Turn Clauses Clauses)
case_rest sub cs ts = sub.expression 0 true ts >>= λ e. expect is_colon e.1 >>= λ inner. sub.statements false inner >>= λ ss. Ok (again (joined_clauses cs (case e.0 ss.0 no_clauses)), ss.1)

-- behind the word `default`
unfoldable pub default_rest : Parsers → Clauses → List Token → Read (Turn Clauses Clauses)
default_rest sub cs ts = expect is_colon ts >>= λ inner. sub.statements false inner >>= λ ss. Ok (again (joined_clauses cs (default ss.0 no_clauses)), ss.1)

-- a further clause, of which one at most is `default`, or the end of the clauses
unfoldable pub clause_step_by : Parsers → Clauses → Option Word → List Token → Read (Turn Clauses Clauses)
clause_step_by sub cs (Some (a_key key.Case)) ts = case_rest sub cs (behind ts)
clause_step_by sub cs (Some (a_key key.Default)) ts = if leb 1 (defaults cs) then Err (refused syntax ts) else default_rest sub cs (behind ts)
clause_step_by sub cs w ts = Ok (done cs, ts)

unfoldable pub clause_step : Parsers → Clauses → List Token → Read (Turn Clauses Clauses)
clause_step sub cs ts = clause_step_by sub cs (word_at ts) ts

-- ECMA-262 12.11
unfoldable pub switch_rest : Parsers → ℕ → List Token → Read Statement
switch_rest sub at ts = condition sub ts >>= λ e. expect is_open_brace e.1 >>= λ inner. loop (clause_step sub) no_clauses inner >>= λ cs. expect is_close_brace cs.1 >>= λ rest. Ok (switch at e.0 cs.0, rest)

-- behind a handler
unfoldable pub finally_by : Parsers → ℕ → Block → Ident → Block → Option Word → List Token → Read Statement
finally_by sub at b i handler (Some (a_key key.Finally)) ts = inner_block sub (behind ts) >>= λ final. Ok (try_both at b i handler final.0, final.1)
finally_by sub at b i handler w ts = Ok (try_catch at b i handler, ts)

-- behind the word `catch`
unfoldable pub catch_rest : Parsers → ℕ → Block → List Token → Read Statement
catch_rest sub at b ts = expect is_open_paren ts >>= λ inner. taken (ident_at inner) inner >>= λ i. expect is_close_paren i.1 >>= λ rest. inner_block sub rest >>= λ handler. finally_by sub at b i.0 handler.0 (word_at handler.1) handler.1

-- behind the first block
unfoldable pub handler_by : Parsers → ℕ → Block → Option Word → List Token → Read Statement
handler_by sub at b (Some (a_key key.Catch)) ts = catch_rest sub at b (behind ts)
handler_by sub at b (Some (a_key key.Finally)) ts = inner_block sub (behind ts) >>= λ final. Ok (try_finally at b final.0, final.1)
handler_by sub at b w ts = Err (refused syntax ts)

-- ECMA-262 12.14
unfoldable pub try_rest : Parsers → ℕ → List Token → Read Statement
try_rest sub at ts = inner_block sub ts >>= λ b. handler_by sub at b.0 (word_at b.1) b.1

-- ECMA-262 12.15
unfoldable pub debugger_rest : ℕ → List Token → Read Statement
debugger_rest at ts = ending None ts >>= λ n. Ok (debugger at n.0, n.1)

-- behind an expression: a lone name before a colon is a label (ECMA-262 12.4, 12.12)
unfoldable pub expression_rest : Parsers → ℕ → ℕ → Expr → Option Word → List Token → Read Statement
expression_rest sub d at (name place text) (Some (a_sign sign.Colon)) ts = room d 0 ts (sub.statement (behind ts) >>= λ s. Ok (labelled at text s.0, s.1))
expression_rest sub d at e w ts = ending (Some e) ts >>= λ n. Ok (expression at e n.0, n.1)

unfoldable pub expression_statement : Parsers → ℕ → List Token → Read Statement
expression_statement sub d ts = expression_at sub d 0 true ts >>= λ e. expression_rest sub d (place_of ts) e.0 (word_at e.1) e.1

-- ECMA-262 12.1
unfoldable pub block_rest : Parsers → ℕ → List Token → Read Block
block_rest sub at ts = sub.statements false ts >>= λ ss. expect is_close_brace ss.1 >>= λ rest. Ok (block_of at ss.0, rest)

unfoldable pub block_by : Parsers → ℕ → Option Word → List Token → Read Block
block_by sub d (Some (a_sign sign.OpenBrace)) ts = room d 0 ts (block_rest sub (place_of ts) (behind ts))
block_by sub d w ts = Err (refused syntax ts)

unfoldable pub block_at : Parsers → ℕ → List Token → Read Block
block_at sub d ts = block_by sub d (word_at ts) ts

-- a statement that is no function declaration
unfoldable pub statement_by : Parsers → ℕ → Option Word → List Token → Read Statement
statement_by sub d (Some (a_sign sign.OpenBrace)) ts = block_at sub d ts >>= λ b. Ok (block b.0, b.1)
statement_by sub d (Some (a_sign sign.Semicolon)) ts = room d 0 ts (Ok (empty (place_of ts), behind ts))
statement_by sub d (Some (a_key key.Var)) ts = room d 0 ts (var_rest sub (place_of ts) (behind ts))
statement_by sub d (Some (a_key key.If)) ts = room d 0 ts (if_rest sub (place_of ts) (behind ts))
statement_by sub d (Some (a_key key.Do)) ts = room d 0 ts (do_rest sub (place_of ts) (behind ts))
statement_by sub d (Some (a_key key.While)) ts = room d 0 ts (while_rest sub (place_of ts) (behind ts))
statement_by sub d (Some (a_key key.For)) ts = room d 0 ts (for_rest sub (place_of ts) (behind ts))
statement_by sub d (Some (a_key key.Continue)) ts = room d 0 ts (continue_rest (place_of ts) (behind ts))
statement_by sub d (Some (a_key key.Break)) ts = room d 0 ts (break_rest (place_of ts) (behind ts))
statement_by sub d (Some (a_key key.Return)) ts = room d 0 ts (return_rest sub (place_of ts) (behind ts))
statement_by sub d (Some (a_key key.Throw)) ts = room d 0 ts (throw_rest sub (place_of ts) (behind ts))
statement_by sub d (Some (a_key key.Switch)) ts = room d 0 ts (switch_rest sub (place_of ts) (behind ts))
statement_by sub d (Some (a_key key.Try)) ts = room d 1 ts (try_rest sub (place_of ts) (behind ts))
statement_by sub d (Some (a_key key.Debugger)) ts = room d 0 ts (debugger_rest (place_of ts) (behind ts))
statement_by sub d (Some (a_key key.Function)) ts = Err (refused syntax ts)
statement_by sub d (Some (a_key key.With)) ts = Err (refused with_statement ts)
statement_by sub d w ts = expression_statement sub d ts

unfoldable pub statement_at : Parsers → ℕ → List Token → Read Statement
statement_at sub d ts = statement_by sub d (word_at ts) ts

-- ---- lists of statements

-- ECMA-262 13
unfoldable pub function_declaration_rest : Parsers → ℕ → List Token → Read Statement
function_declaration_rest sub at ts = taken (ident_at ts) ts >>= λ i. function_rest sub i.1 >>= λ f. Ok (function_declaration at (function_of at (Some i.0) f.0.0 f.0.1), f.1)

-- a statement of a list, where function declarations stand or not
unfoldable pub element_by : Parsers → ℕ → Bool → Option Word → List Token → Read Statement
element_by sub d true (Some (a_key key.Function)) ts = room d 0 ts (function_declaration_rest sub (place_of ts) (behind ts))
element_by sub d outer w ts = statement_by sub d w ts

-- a further statement of a list
unfoldable pub next_statement : Parsers → ℕ → Bool → Statements → Option Word → List Token → Read (Turn Statements Statements)
next_statement sub d outer ss w ts = element_by sub d outer w ts >>= λ s. Ok (again (joined_statements ss (more_statements s.0 no_statements)), s.1)

-- what ends a list of statements
abbrev pub ends_list : Option Word → Bool
ends_list None = true
ends_list (Some (a_sign sign.CloseBrace)) = true
ends_list (Some (a_key key.Case)) = true
ends_list (Some (a_key key.Default)) = true
ends_list w = false

unfoldable pub statements_step : Parsers → ℕ → Bool → Statements → List Token → Read (Turn Statements Statements)
statements_step sub d outer ss ts = if ends_list (word_at ts) then Ok (done ss, ts) else next_statement sub d outer ss (word_at ts) ts

-- the statements of a program or a body (true), or of any other list
unfoldable pub statements_at : Parsers → ℕ → Bool → List Token → Read Statements
statements_at sub d outer ts = loop (statements_step sub d outer) no_statements ts
