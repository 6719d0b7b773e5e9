-- How deep a list is with one more node.
use Rattle.std.proofs.Common.{◌≡◌, max, refl, arith}
use Rattle.js_ast.specs.Trees.{Ident, Expr, Exprs, no_exprs, more_exprs, MaybeExpr, Items, no_items, hole, item, Property, Properties, no_properties, more_properties, Declarations, one_declaration, more_declarations, Clauses, no_clauses, case, default, Statement, Statements, no_statements, more_statements}
use Rattle.js_ast.specs.Depth.{depth, depth_exprs, depth_maybe, depth_items, depth_property, depth_properties, depth_declarations, depth_clauses, depth_statement, depth_statements}
use Rattle.js_ast.specs.Joined.{joined_exprs, joined_items, joined_properties, joined_declarations, joined_clauses, joined_statements}

-- an argument
pub joined_exprs_depth : (es : Exprs) (e : Expr) → depth_exprs (joined_exprs es (more_exprs e no_exprs)) ≡ max (depth_exprs es) (depth e)
joined_exprs_depth no_exprs e = omega arith
joined_exprs_depth (more_exprs x es) e = omega (arith, joined_exprs_depth es e)

-- an expression of an array
pub joined_item_depth : (is : Items) (e : Expr) → depth_items (joined_items is (item e no_items)) ≡ max (depth_items is) (depth e)
joined_item_depth no_items e = omega arith
joined_item_depth (hole is) e = joined_item_depth is e
joined_item_depth (item x is) e = omega (arith, joined_item_depth is e)

-- a hole of an array
pub joined_hole_depth : (is : Items) → depth_items (joined_items is (hole no_items)) ≡ depth_items is
joined_hole_depth no_items = omega arith
joined_hole_depth (hole is) = joined_hole_depth is
joined_hole_depth (item x is) = omega (arith, joined_hole_depth is)

-- a property
pub joined_properties_depth : (ps : Properties) (p : Property) → depth_properties (joined_properties ps (more_properties p no_properties)) ≡ max (depth_properties ps) (depth_property p)
joined_properties_depth no_properties p = omega arith
joined_properties_depth (more_properties x ps) p = omega (arith, joined_properties_depth ps p)

-- a variable
pub joined_declarations_depth : (ds : Declarations) (i : Ident) (e : MaybeExpr) → depth_declarations (joined_declarations ds (one_declaration i e)) ≡ max (depth_declarations ds) (depth_maybe e)
joined_declarations_depth (one_declaration j f) i e = refl
joined_declarations_depth (more_declarations j f ds) i e = rw (joined_declarations_depth ds i e) (omega arith)

-- a statement
pub joined_statements_depth : (ss : Statements) (s : Statement) → depth_statements (joined_statements ss (more_statements s no_statements)) ≡ max (depth_statements ss) (depth_statement s)
joined_statements_depth no_statements s = omega arith
joined_statements_depth (more_statements t ss) s = rw (joined_statements_depth ss s) (omega arith)

-- a clause with a test
pub joined_case_depth : (cs : Clauses) (e : Expr) (ss : Statements) → depth_clauses (joined_clauses cs (case e ss no_clauses)) ≡ max (depth_clauses cs) (max (depth e) (depth_statements ss))
joined_case_depth no_clauses e ss = omega arith
joined_case_depth (case f ts cs) e ss = rw (joined_case_depth cs e ss) (omega arith)
joined_case_depth (default ts cs) e ss = rw (joined_case_depth cs e ss) (omega arith)

-- the clause with none
pub joined_default_depth : (cs : Clauses) (ss : Statements) → depth_clauses (joined_clauses cs (default ss no_clauses)) ≡ max (depth_clauses cs) (depth_statements ss)
joined_default_depth no_clauses ss = omega arith
joined_default_depth (case f ts cs) ss = rw (joined_default_depth cs ss) (omega arith)
joined_default_depth (default ts cs) ss = rw (joined_default_depth cs ss) (omega arith)
