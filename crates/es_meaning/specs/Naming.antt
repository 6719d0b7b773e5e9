-- Whether code names its `arguments` object (ECMA-262 10.6). A function in it has its own. Nothing else reaches the object, so it is made only where it is named.
use Rattle.std.specs.Prelude.{ℕ, Bool, false, ◌||◌, List, codes}
use Rattle.origin_labels.specs.Names.{same_name}
use Rattle.js_ast.specs.Trees.{Expr, name, number, string, this, null, boolean, paren, array, object, function, member, index, new_with, new_bare, call, postfix, unary, binary, conditional, assign, comma, Exprs, no_exprs, more_exprs, MaybeExpr, absent, present, Items, no_items, hole, item, value, getter, setter, Properties, no_properties, more_properties, Declarations, one_declaration, more_declarations, First, first_expr, first_var, Target, target_expr, target_var, Clauses, no_clauses, case, default, Block, block_of, Statement, block, var, empty, expression, if_then, if_else, do_while, while, for, for_in, continue, break, return, throw, switch, labelled, try_catch, try_finally, try_both, debugger, function_declaration, Statements, no_statements, more_statements}

abbrev pub arguments_name : List ℕ
arguments_name = codes "arguments"

unfoldable mutual
  pub names_in_expr : Expr → Bool
  names_in_expr (name at text) = same_name text arguments_name
  names_in_expr (number at n) = false
  names_in_expr (string at text v) = false
  names_in_expr (this at) = false
  names_in_expr (null at) = false
  names_in_expr (boolean at b) = false
  names_in_expr (paren at e) = names_in_expr e
  names_in_expr (array at items final) = names_in_items items
  names_in_expr (object at ps final) = names_in_properties ps
  names_in_expr (function at f) = false
  names_in_expr (member at e text) = names_in_expr e
  names_in_expr (index at e n) = names_in_expr e || names_in_expr n
  names_in_expr (new_with at e es) = names_in_expr e || names_in_exprs es
  names_in_expr (new_bare at e) = names_in_expr e
  names_in_expr (call at e es) = names_in_expr e || names_in_exprs es
  names_in_expr (postfix at e o) = names_in_expr e
  names_in_expr (unary at o e) = names_in_expr e
  names_in_expr (binary at l o r) = names_in_expr l || names_in_expr r
  names_in_expr (conditional at c a b) = names_in_expr c || (names_in_expr a || names_in_expr b)
  names_in_expr (assign at l o r) = names_in_expr l || names_in_expr r
  names_in_expr (comma at l r) = names_in_expr l || names_in_expr r

  pub names_in_exprs : Exprs → Bool
  names_in_exprs no_exprs = false
  names_in_exprs (more_exprs e es) = names_in_expr e || names_in_exprs es

  pub names_in_items : Items → Bool
  names_in_items no_items = false
  names_in_items (hole items) = names_in_items items
  names_in_items (item e items) = names_in_expr e || names_in_items items

  -- a getter and a setter are functions
  pub names_in_properties : Properties → Bool
  names_in_properties no_properties = false
  names_in_properties (more_properties (value at key e) ps) = names_in_expr e || names_in_properties ps
  names_in_properties (more_properties (getter at key f) ps) = names_in_properties ps
  names_in_properties (more_properties (setter at key f) ps) = names_in_properties ps

abbrev pub names_in_maybe : MaybeExpr → Bool
names_in_maybe absent = false
names_in_maybe (present e) = names_in_expr e

abbrev pub names_in_declarations : Declarations → Bool
names_in_declarations (one_declaration ident init) = names_in_maybe init
names_in_declarations (more_declarations ident init ds) = names_in_maybe init || names_in_declarations ds

abbrev pub names_in_first : First → Bool
names_in_first (first_expr e) = names_in_maybe e
names_in_first (first_var ds) = names_in_declarations ds

abbrev pub names_in_target : Target → Bool
names_in_target (target_expr e) = names_in_expr e
names_in_target (target_var ident) = false

unfoldable mutual
  pub names_in_block : Block → Bool
  names_in_block (block_of at ss) = names_in_statements ss

  pub names_in_clauses : Clauses → Bool
  names_in_clauses no_clauses = false
  names_in_clauses (case e ss cs) = names_in_expr e || (names_in_statements ss || names_in_clauses cs)
  names_in_clauses (default ss cs) = names_in_statements ss || names_in_clauses cs

  pub names_in_statement : Statement → Bool
  names_in_statement (block b) = names_in_block b
  names_in_statement (var at ds semi) = names_in_declarations ds
  names_in_statement (empty at) = false
  names_in_statement (expression at e semi) = names_in_expr e
  names_in_statement (if_then at e s) = names_in_expr e || names_in_statement s
  names_in_statement (if_else at e s t) = names_in_expr e || (names_in_statement s || names_in_statement t)
  names_in_statement (do_while at s e semi) = names_in_statement s || names_in_expr e
  names_in_statement (while at e s) = names_in_expr e || names_in_statement s
  names_in_statement (for at first test update s) = names_in_first first || (names_in_maybe test || (names_in_maybe update || names_in_statement s))
  names_in_statement (for_in at target e s) = names_in_target target || (names_in_expr e || names_in_statement s)
  names_in_statement (continue at label semi) = false
  names_in_statement (break at label semi) = false
  names_in_statement (return at e semi) = names_in_maybe e
  names_in_statement (throw at e semi) = names_in_expr e
  names_in_statement (switch at e cs) = names_in_expr e || names_in_clauses cs
  names_in_statement (labelled at text s) = names_in_statement s
  names_in_statement (try_catch at b ident handler) = names_in_block b || names_in_block handler
  names_in_statement (try_finally at b final) = names_in_block b || names_in_block final
  names_in_statement (try_both at b ident handler final) = names_in_block b || (names_in_block handler || names_in_block final)
  names_in_statement (debugger at semi) = false
  names_in_statement (function_declaration at f) = false

  pub names_in_statements : Statements → Bool
  names_in_statements no_statements = false
  names_in_statements (more_statements s ss) = names_in_statement s || names_in_statements ss
