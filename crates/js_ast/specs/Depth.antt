-- How deep a tree is.
use Rattle.std.specs.Prelude.{ℕ, suc, max}
use Rattle.js_ast.specs.Trees.{Expr, name, number, string, this, null, boolean, paren, array, object, function, member, index, new_with, new_bare, call, postfix, unary, binary, conditional, assign, comma, Exprs, no_exprs, more_exprs, MaybeExpr, absent, present, Items, no_items, hole, item, Property, value, getter, setter, Properties, no_properties, more_properties, Declarations, one_declaration, more_declarations, First, first_expr, first_var, Target, target_expr, target_var, Clauses, no_clauses, case, default, Block, block_of, Statement, block, var, empty, expression, if_then, if_else, do_while, while, for, for_in, continue, break, return, throw, switch, labelled, try_catch, try_finally, try_both, debugger, function_declaration, Statements, no_statements, more_statements, Function, function_of}

-- a name and a literal have 0, each other expression 1 more than the deepest of its parts; an expression statement has the depth of its
-- expression, each other statement 1 more than the deepest of its parts; parts that are no nodes of their own add nothing
abbrev mutual
  pub depth : Expr → ℕ
  depth (name at text) = 0
  depth (number at n) = 0
  depth (string at text v) = 0
  depth (this at) = 0
  depth (null at) = 0
  depth (boolean at b) = 0
  depth (paren at e) = suc (depth e)
  depth (array at items final) = suc (depth_items items)
  depth (object at properties final) = suc (depth_properties properties)
  depth (function at f) = suc (depth_function f)
  depth (member at e text) = suc (depth e)
  depth (index at e i) = suc (max (depth e) (depth i))
  depth (new_with at e args) = suc (max (depth e) (depth_exprs args))
  depth (new_bare at e) = suc (depth e)
  depth (call at e args) = suc (max (depth e) (depth_exprs args))
  depth (postfix at e o) = suc (depth e)
  depth (unary at o e) = suc (depth e)
  depth (binary at l o r) = suc (max (depth l) (depth r))
  depth (conditional at c a b) = suc (max (depth c) (max (depth a) (depth b)))
  depth (assign at l o r) = suc (max (depth l) (depth r))
  depth (comma at l r) = suc (max (depth l) (depth r))

  pub depth_exprs : Exprs → ℕ
  depth_exprs no_exprs = 0
  depth_exprs (more_exprs e es) = max (depth e) (depth_exprs es)

  pub depth_maybe : MaybeExpr → ℕ
  depth_maybe absent = 0
  depth_maybe (present e) = depth e

  pub depth_items : Items → ℕ
  depth_items no_items = 0
  depth_items (hole items) = depth_items items
  depth_items (item e items) = max (depth e) (depth_items items)

  pub depth_property : Property → ℕ
  depth_property (value at k e) = depth e
  depth_property (getter at k f) = depth_function f
  depth_property (setter at k f) = depth_function f

  pub depth_properties : Properties → ℕ
  depth_properties no_properties = 0
  depth_properties (more_properties p ps) = max (depth_property p) (depth_properties ps)

  pub depth_function : Function → ℕ
  depth_function (function_of at ident params body) = depth_statements body

  pub depth_declarations : Declarations → ℕ
  depth_declarations (one_declaration ident init) = depth_maybe init
  depth_declarations (more_declarations ident init ds) = max (depth_maybe init) (depth_declarations ds)

  pub depth_first : First → ℕ
  depth_first (first_expr e) = depth_maybe e
  depth_first (first_var ds) = depth_declarations ds

  pub depth_target : Target → ℕ
  depth_target (target_expr e) = depth e
  depth_target (target_var ident) = 0

  pub depth_clauses : Clauses → ℕ
  depth_clauses no_clauses = 0
  depth_clauses (case e body clauses) = max (depth e) (max (depth_statements body) (depth_clauses clauses))
  depth_clauses (default body clauses) = max (depth_statements body) (depth_clauses clauses)

  pub depth_block : Block → ℕ
  depth_block (block_of at body) = suc (depth_statements body)

  pub depth_statement : Statement → ℕ
  depth_statement (block b) = depth_block b
  depth_statement (var at ds semi) = suc (depth_declarations ds)
  depth_statement (empty at) = 1
  depth_statement (expression at e semi) = depth e
  depth_statement (if_then at e s) = suc (max (depth e) (depth_statement s))
  depth_statement (if_else at e s u) = suc (max (depth e) (max (depth_statement s) (depth_statement u)))
  depth_statement (do_while at s e semi) = suc (max (depth_statement s) (depth e))
  depth_statement (while at e s) = suc (max (depth e) (depth_statement s))
  depth_statement (for at first test step s) = suc (max (max (depth_first first) (depth_maybe test)) (max (depth_maybe step) (depth_statement s)))
  depth_statement (for_in at target e s) = suc (max (depth_target target) (max (depth e) (depth_statement s)))
  depth_statement (continue at label semi) = 1
  depth_statement (break at label semi) = 1
  depth_statement (return at e semi) = suc (depth_maybe e)
  depth_statement (throw at e semi) = suc (depth e)
  depth_statement (switch at e clauses) = suc (max (depth e) (depth_clauses clauses))
  depth_statement (labelled at text s) = suc (depth_statement s)
  depth_statement (try_catch at b ident handler) = suc (max (depth_block b) (depth_block handler))
  depth_statement (try_finally at b final) = suc (max (depth_block b) (depth_block final))
  depth_statement (try_both at b ident handler final) = suc (max (depth_block b) (max (depth_block handler) (depth_block final)))
  depth_statement (debugger at semi) = 1
  depth_statement (function_declaration at f) = suc (depth_function f)

  pub depth_statements : Statements → ℕ
  depth_statements no_statements = 0
  depth_statements (more_statements s ss) = max (depth_statement s) (depth_statements ss)
