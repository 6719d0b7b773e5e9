-- Lists of nodes: what a walk tells of them is told node by node.
use Rattle.std.proofs.Common.{refl, sym, ap, ◌∙◌, ◌≡◌, List, [], ◌∷◌, ◌++◌}
use Rattle.js_ast.specs.declared.trees.Expr.{Expr}
use Rattle.js_ast.specs.declared.trees.Item.{Item}
use Rattle.js_ast.specs.declared.trees.Item as an_item
use Rattle.js_ast.specs.declared.trees.Property.{Property}
use Rattle.js_ast.specs.declared.trees.Declaration.{Declaration, out-Declaration}
use Rattle.js_ast.specs.declared.trees.Declarations.{Declarations, out-Declarations}
use Rattle.js_ast.specs.declared.trees.Clause.{Clause, out-Clause}
use Rattle.js_ast.specs.declared.trees.Stmt.{Stmt}
use Rattle.js_ast.specs.Nodes.{nodes_of}
use Rattle.js_ast.specs.Trees.{Ident, MaybeExpr, absent, present, no_items, Clauses, Statements}
use Rattle.js_ast.specs.Views.{view_maybe_expr, view_expr, view_exprs, view_expr_kind, view_item, view_items, view_property, view_properties, view_declaration, view_declarations, view_other_declarations, declarations_from, clause_by, view_clauses, view_stmt, view_stmts}
use Rattle.js_ast.proofs.ViewLaws.{parts_declarations, parts_clause}
use Rattle.js_faults.specs.Scopes.{Scope}
use Rattle.js_faults.specs.Faults.{Own, Order, earlier_by, first_by, in_expr, in_exprs, in_maybe, in_items, in_property, in_properties, in_declarations, in_clauses, in_statement, in_statements}
use Rattle.js_faults.proofs.Told.{first_by_append, earlier_by_assoc}
use Rattle.js_faults.proofs.Loops.{none_behind}
use Rattle.js_faults.proofs.Bound.{part_value}

-- ---- a node in front of others

-- the values of variables
abbrev pub values_in : {F : Type 0} → Own F → List (Ident × MaybeExpr) → List F
values_in own [] = []
values_in own (d ∷ ds) = in_maybe own d.1 ++ values_in own ds

module _ {F : Type 0} (own : Own F) (order : Order F) where
  pub step_exprs : (e : Expr) (es : List Expr) → first_by order (in_exprs own (view_exprs (e ∷ es))) ≡ earlier_by order (first_by order (in_expr own (view_expr e))) (first_by order (in_exprs own (view_exprs es)))
  step_exprs e es = first_by_append order (in_expr own (view_expr e)) (in_exprs own (view_exprs es))

  pub step_items : (i : Item) (is : List Item) → first_by order (in_items own (view_items (i ∷ is))) ≡ earlier_by order (first_by order (in_items own (view_item i no_items))) (first_by order (in_items own (view_items is)))
  step_items an_item.Hole is = refl
  step_items (an_item.Value' a p e) is = first_by_append order (in_expr own (view_expr_kind a e)) (in_items own (view_items is)) ∙ ap (λ told. earlier_by order told (first_by order (in_items own (view_items is)))) (sym (first_by_append order (in_expr own (view_expr_kind a e)) [] ∙ none_behind order (first_by order (in_expr own (view_expr_kind a e)))))

  pub step_properties : (p : Property) (ps : List Property)
      → first_by order (in_properties own (view_properties (p ∷ ps))) ≡ earlier_by order (first_by order (in_property own (view_property p))) (first_by order (in_properties own (view_properties ps)))
  step_properties p ps = first_by_append order (in_property own (view_property p)) (in_properties own (view_properties ps))

  pub step_statements : (s : Scope) (t : Stmt) (ts : List Stmt)
      → first_by order (in_statements own s (view_stmts (t ∷ ts))) ≡ earlier_by order (first_by order (in_statement own s (view_stmt t))) (first_by order (in_statements own s (view_stmts ts)))
  step_statements s t ts = first_by_append order (in_statement own s (view_stmt t)) (in_statements own s (view_stmts ts))

  -- a clause, with a test or without one
  by_test : (s : Scope) (e : MaybeExpr) (body : Statements) (rest : Clauses)
      → first_by order (in_clauses own s (clause_by e body rest)) ≡ earlier_by order (earlier_by order (first_by order (in_maybe own e)) (first_by order (in_statements own s body))) (first_by order (in_clauses own s rest))
  by_test s absent body rest = first_by_append order (in_statements own s body) (in_clauses own s rest)
  by_test s (present e) body rest = first_by_append order (in_expr own e) (in_statements own s body ++ in_clauses own s rest) ∙ ap (earlier_by order (first_by order (in_expr own e))) (first_by_append order (in_statements own s body) (in_clauses own s rest))
      ∙ earlier_by_assoc order (first_by order (in_expr own e)) (first_by order (in_statements own s body)) (first_by order (in_clauses own s rest))

  pub step_clauses : (s : Scope) (cl : Clause) (cls : List Clause) → first_by order (in_clauses own s (view_clauses (cl ∷ cls)))
      ≡ earlier_by order (earlier_by order (first_by order (in_maybe own (view_maybe_expr (out-Clause cl).test))) (first_by order (in_statements own s (view_stmts (nodes_of (out-Clause cl).body))))) (first_by order (in_clauses own s (view_clauses cls)))
  step_clauses s cl cls = ap (λ cl. first_by order (in_clauses own s cl)) (parts_clause cl (view_clauses cls)) ∙ by_test s (view_maybe_expr (out-Clause cl).test) (view_stmts (nodes_of (out-Clause cl).body)) (view_clauses cls)

  values_from : (d : Ident × MaybeExpr) (ds : List (Ident × MaybeExpr)) → first_by order (in_declarations own (declarations_from d ds)) ≡ earlier_by order (first_by order (in_maybe own d.1)) (first_by order (values_in own ds))
  values_from d [] = sym (none_behind order (first_by order (in_maybe own d.1)))
  values_from d (e ∷ es) = first_by_append order (in_maybe own d.1) (in_declarations own (declarations_from e es)) ∙ ap (earlier_by order (first_by order (in_maybe own d.1))) (values_from e es ∙ sym (first_by_append order (in_maybe own e.1) (values_in own es)))

  pub step_values : (d : Declaration) (ds : List Declaration) → first_by order (values_in own (view_other_declarations (d ∷ ds)))
      ≡ earlier_by order (first_by order (in_maybe own (view_maybe_expr (out-Declaration d).value))) (first_by order (values_in own (view_other_declarations ds)))
  step_values d ds = first_by_append order (in_maybe own (view_declaration d).1) (values_in own (view_other_declarations ds)) ∙ ap (λ e. earlier_by order (first_by order (in_maybe own e)) (first_by order (values_in own (view_other_declarations ds)))) (part_value d)

  pub whole_values : (ds : Declarations) → first_by order (in_declarations own (view_declarations ds))
      ≡ earlier_by order (first_by order (in_maybe own (view_maybe_expr (out-Declaration (out-Declarations ds).first).value))) (first_by order (values_in own (view_other_declarations (nodes_of (out-Declarations ds).others))))
  whole_values ds = ap (λ ds. first_by order (in_declarations own ds)) (parts_declarations ds) ∙ values_from (view_declaration (out-Declarations ds).first) (view_other_declarations (nodes_of (out-Declarations ds).others))
      ∙ ap (λ e. earlier_by order (first_by order (in_maybe own e)) (first_by order (values_in own (view_other_declarations (nodes_of (out-Declarations ds).others))))) (part_value (out-Declarations ds).first)
