-- What code declares, in the order in which it stands (ECMA-262 10.5): the names of its variables (12.2), and its functions (13). What functions in it declare is no part of it.
use Rattle.std.specs.Prelude.{ℕ, List, [], ◌∷◌, ◌++◌}
use Rattle.js_ast.specs.Trees.{Declarations, one_declaration, more_declarations, First, first_expr, first_var, Target, target_expr, target_var, Clauses, no_clauses, case, default, Block, block_of, Statement, block, var, if_then, if_else, do_while, while, for, for_in, switch, labelled, try_catch, try_finally, try_both, function_declaration, Function, Statements, no_statements, more_statements}

abbrev pub declared_in : Declarations → List (List ℕ)
declared_in (one_declaration ident init) = ident.text ∷ []
declared_in (more_declarations ident init ds) = ident.text ∷ declared_in ds

abbrev pub declared_first : First → List (List ℕ)
declared_first (first_expr e) = []
declared_first (first_var ds) = declared_in ds

abbrev pub declared_target : Target → List (List ℕ)
declared_target (target_expr e) = []
declared_target (target_var ident) = ident.text ∷ []

abbrev mutual
  pub declared_block : Block → List (List ℕ)
  declared_block (block_of at body) = declared_statements body

  pub declared_clauses : Clauses → List (List ℕ)
  declared_clauses no_clauses = []
  declared_clauses (case e body clauses) = declared_statements body ++ declared_clauses clauses
  declared_clauses (default body clauses) = declared_statements body ++ declared_clauses clauses

  pub declared_statement : Statement → List (List ℕ)
  declared_statement (block b) = declared_block b
  declared_statement (var at ds semi) = declared_in ds
  declared_statement (if_then at e s) = declared_statement s
  declared_statement (if_else at e s u) = declared_statement s ++ declared_statement u
  declared_statement (do_while at s e semi) = declared_statement s
  declared_statement (while at e s) = declared_statement s
  declared_statement (for at first test update s) = declared_first first ++ declared_statement s
  declared_statement (for_in at target e s) = declared_target target ++ declared_statement s
  declared_statement (switch at e clauses) = declared_clauses clauses
  declared_statement (labelled at text s) = declared_statement s
  declared_statement (try_catch at b ident handler) = declared_block b ++ declared_block handler
  declared_statement (try_finally at b final) = declared_block b ++ declared_block final
  declared_statement (try_both at b ident handler final) = declared_block b ++ (declared_block handler ++ declared_block final)
  declared_statement _ = []

  pub declared_statements : Statements → List (List ℕ)
  declared_statements no_statements = []
  declared_statements (more_statements s ss) = declared_statement s ++ declared_statements ss

-- functions are declared directly in the code alone
abbrev pub declared_functions : Statements → List Function
declared_functions no_statements = []
declared_functions (more_statements (function_declaration at f) ss) = f ∷ declared_functions ss
declared_functions (more_statements s ss) = declared_functions ss
