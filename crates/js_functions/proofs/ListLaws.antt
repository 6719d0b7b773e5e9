-- The lists of the trees, node by node.
use Rattle.std.proofs.Common.{refl, sym, ap, ◌∙◌, ◌≡◌, Bool, List, [], ◌∷◌, ◌++◌, append-nil, append_assoc}
use Rattle.js_ast.specs.declared.trees.Item.{Item}
use Rattle.js_ast.specs.declared.trees.Item as an_item
use Rattle.js_ast.specs.declared.trees.Clause.{Clause, Clause'}
use Rattle.js_ast.specs.Trees as trees
use Rattle.js_ast.specs.Trees.{more_exprs, no_items, more_properties, no_clauses, more_statements}
use Rattle.js_ast.specs.Joined.{joined_items, joined_clauses}
use Rattle.js_ast.specs.Views.{view_expr, view_expr_kind, view_held_expr, view_exprs, view_item, view_items, view_property, view_properties, view_declaration, view_other_declarations, clause_by, view_clause, view_clauses, view_stmt, view_stmts, view_stmt_row}
use Rattle.js_ast.proofs.ViewLaws.{items_append, clauses_append}
use Rattle.js_ast.specs.Functions.{functions_of_expr, functions_of_exprs, functions_of_maybe, functions_of_items, functions_of_property, functions_of_properties, functions_of_others, functions_of_clauses, functions_of_statement, functions_of_statements}
use Rattle.js_ast.specs.Held.{held_in_expr, held_in_exprs, held_in_item, held_in_items, held_in_property, held_in_properties, held_in_declaration, held_in_other_declarations, held_in_clause, held_in_clauses, held_in_stmt, held_in_stmts}
use Rattle.js_functions.proofs.Loops.{IsRow}

pub exprs_row : (s : Bool) → IsRow view_exprs held_in_exprs (functions_of_exprs s) held_in_expr (λ e. functions_of_expr s (view_expr e))
exprs_row s = record { congruent = λ y ys zs e. ap (more_exprs (view_expr y)) e; no_marks = refl; first_marks = λ y ys. refl; no_functions = refl; first_functions = λ y ys. refl }

-- an item in front of others
first_item : (s : Bool) (i : Item) (rest : trees.Items) → functions_of_items s (view_item i rest) ≡ functions_of_items s (view_item i no_items) ++ functions_of_items s rest
first_item s an_item.Hole rest = refl
first_item s (an_item.Value' a p e) rest = ap (λ fs. fs ++ functions_of_items s rest) (sym (append-nil (functions_of_expr s (view_expr_kind a e))))

pub items_row : (s : Bool) → IsRow view_items held_in_items (functions_of_items s) held_in_item (λ i. functions_of_items s (view_item i no_items))
items_row s = record { congruent = λ y ys zs e. ap (view_item y) e; no_marks = refl; first_marks = λ y ys. refl; no_functions = refl; first_functions = λ y ys. first_item s y (view_items ys) }

-- items that show the same show the same in front of others
pub same_item : (i j : Item) (rest : List Item) → view_item i no_items ≡ view_item j no_items → view_items (i ∷ rest) ≡ view_items (j ∷ rest)
same_item i j rest e = items_append (i ∷ []) rest ∙ ap (λ is. joined_items is (view_items rest)) e ∙ sym (items_append (j ∷ []) rest)

pub properties_row : (s : Bool) → IsRow view_properties held_in_properties (functions_of_properties s) held_in_property (λ p. functions_of_property s (view_property p))
properties_row s = record { congruent = λ y ys zs e. ap (more_properties (view_property y)) e; no_marks = refl; first_marks = λ y ys. refl; no_functions = refl; first_functions = λ y ys. refl }

pub others_row : (s : Bool) → IsRow view_other_declarations held_in_other_declarations (functions_of_others s) held_in_declaration (λ d. functions_of_maybe s (view_declaration d).1)
others_row s = record { congruent = λ y ys zs e. ap (λ ds. view_declaration y ∷ ds) e; no_marks = refl; first_marks = λ y ys. refl; no_functions = refl; first_functions = λ y ys. refl }

-- a clause in front of others, by its test
by_test : (s : Bool) (e : trees.MaybeExpr) (body : trees.Statements) (rest : trees.Clauses) → functions_of_clauses s (clause_by e body rest) ≡ functions_of_clauses s (clause_by e body no_clauses) ++ functions_of_clauses s rest
by_test s trees.absent body rest = ap (λ fs. fs ++ functions_of_clauses s rest) (sym (append-nil (functions_of_statements s body)))
by_test s (trees.present e) body rest = sym (append_assoc (functions_of_expr s e) (functions_of_statements s body) (functions_of_clauses s rest)) ∙ ap (λ fs. (functions_of_expr s e ++ fs) ++ functions_of_clauses s rest) (sym (append-nil (functions_of_statements s body)))

first_clause : (s : Bool) (c : Clause) (rest : trees.Clauses) → functions_of_clauses s (view_clause c rest) ≡ functions_of_clauses s (view_clause c no_clauses) ++ functions_of_clauses s rest
first_clause s (Clause' e shape ss order) rest = by_test s (view_held_expr e) (view_stmt_row ss) rest

pub clauses_row : (s : Bool) → IsRow view_clauses held_in_clauses (functions_of_clauses s) held_in_clause (λ c. functions_of_clauses s (view_clause c no_clauses))
clauses_row s = record { congruent = λ y ys zs e. ap (view_clause y) e; no_marks = refl; first_marks = λ y ys. refl; no_functions = refl; first_functions = λ y ys. first_clause s y (view_clauses ys) }

-- clauses that show the same show the same in front of others
pub same_clause : (c d : Clause) (rest : List Clause) → view_clause c no_clauses ≡ view_clause d no_clauses → view_clauses (c ∷ rest) ≡ view_clauses (d ∷ rest)
same_clause c d rest e = clauses_append (c ∷ []) rest ∙ ap (λ cs. joined_clauses cs (view_clauses rest)) e ∙ sym (clauses_append (d ∷ []) rest)

pub statements_row : (s : Bool) → IsRow view_stmts held_in_stmts (functions_of_statements s) held_in_stmt (λ t. functions_of_statement s (view_stmt t))
statements_row s = record { congruent = λ y ys zs e. ap (more_statements (view_stmt y)) e; no_marks = refl; first_marks = λ y ys. refl; no_functions = refl; first_functions = λ y ys. refl }
