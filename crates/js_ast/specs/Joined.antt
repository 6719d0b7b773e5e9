-- Nodes behind others: two lists of trees as one.
use Rattle.js_ast.specs.Trees.{Exprs, no_exprs, more_exprs, Items, no_items, hole, item, Properties, no_properties, more_properties, Declarations, one_declaration, more_declarations, Clauses, no_clauses, case, default, Statements, no_statements, more_statements}

-- arguments behind others
abbrev pub joined_exprs : Exprs → Exprs → Exprs
joined_exprs no_exprs fs = fs
joined_exprs (more_exprs e es) fs = more_exprs e (joined_exprs es fs)

-- items behind others
abbrev pub joined_items : Items → Items → Items
joined_items no_items js = js
joined_items (hole is) js = hole (joined_items is js)
joined_items (item e is) js = item e (joined_items is js)

-- properties behind others
abbrev pub joined_properties : Properties → Properties → Properties
joined_properties no_properties qs = qs
joined_properties (more_properties p ps) qs = more_properties p (joined_properties ps qs)

-- variables, and then others
abbrev pub joined_declarations : Declarations → Declarations → Declarations
joined_declarations (one_declaration ident init) others = more_declarations ident init others
joined_declarations (more_declarations ident init ds) others = more_declarations ident init (joined_declarations ds others)

-- statements, and then others
abbrev pub joined_statements : Statements → Statements → Statements
joined_statements no_statements others = others
joined_statements (more_statements s ss) others = more_statements s (joined_statements ss others)

-- clauses, and then others
abbrev pub joined_clauses : Clauses → Clauses → Clauses
joined_clauses no_clauses others = others
joined_clauses (case e body cs) others = case e body (joined_clauses cs others)
joined_clauses (default body cs) others = default body (joined_clauses cs others)
