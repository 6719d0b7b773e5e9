-- The variables and the functions that statements declare.
use Rattle.std.proofs.Common.{refl, ap, ◌∙◌, ◌≡◌, ℕ, List, [], ◌∷◌, ◌++◌}
use Rattle.std.proofs.lemmas.List.{map-append}
use Rattle.js_ast.specs.declared.trees.Clause.{Clause, out-Clause}
use Rattle.js_ast.specs.declared.trees.Declaration.{Declaration, out-Declaration}
use Rattle.js_ast.specs.declared.trees.Declarations.{Declarations, out-Declarations}
use Rattle.js_ast.specs.declared.trees.Stmt.{Stmt}
use Rattle.js_ast.specs.Nodes.{nodes_of}
use Rattle.js_ast.specs.Trees as trees
use Rattle.js_ast.specs.Trees.{name_of}
use Rattle.js_ast.specs.Views.{view_maybe_expr, view_declaration, view_other_declarations, view_declarations, declarations_from, clause_by, view_clauses, view_stmt, view_stmts}
use Rattle.js_ast.proofs.ViewLaws.{parts_declaration, parts_declarations, parts_clause}
use Rattle.es_meaning.specs.Declared.{declared_in, declared_clauses, declared_functions, declared_statements}
use Rattle.es_meaning.specs.Functions.{name_text}
use Rattle.call_records.specs.Declarations.{declared_by}
use Rattle.call_records.specs.Planned.{function_names}
use Rattle.call_records.proofs.DeclarationLaws.{declared_front}

-- ---- variables of a `var`

-- the names of variables behind the first
abbrev pub names_in : List Declaration → List (List ℕ)
names_in [] = []
names_in (d ∷ ds) = (out-Declaration d).name.text ∷ names_in ds

abbrev seen_names : List (trees.Ident × trees.MaybeExpr) → List (List ℕ)
seen_names [] = []
seen_names (d ∷ ds) = d.0.text ∷ seen_names ds

declared_from : (d : trees.Ident × trees.MaybeExpr) (ds : List (trees.Ident × trees.MaybeExpr)) → declared_in (declarations_from d ds) ≡ d.0.text ∷ seen_names ds
declared_from d [] = refl
declared_from d (e ∷ es) = ap (λ names. d.0.text ∷ names) (declared_from e es)

name_seen : (d : Declaration) → (view_declaration d).0.text ≡ (out-Declaration d).name.text
name_seen d = ap (λ (p : trees.Ident × trees.MaybeExpr). p.0.text) (parts_declaration d)

names_seen : (ds : List Declaration) → seen_names (view_other_declarations ds) ≡ names_in ds
names_seen [] = refl
names_seen (d ∷ ds) = ap (λ text. text ∷ seen_names (view_other_declarations ds)) (name_seen d) ∙ ap (λ names. (out-Declaration d).name.text ∷ names) (names_seen ds)

-- the first variable, and then the others
pub declared_whole : (ds : Declarations) → declared_in (view_declarations ds) ≡ (out-Declaration (out-Declarations ds).first).name.text ∷ names_in (nodes_of (out-Declarations ds).others)
declared_whole ds =
    let first = (out-Declarations ds).first in
    let others = nodes_of (out-Declarations ds).others in
    ap declared_in (parts_declarations ds) ∙ declared_from (view_declaration first) (view_other_declarations others)
    ∙ ap (λ text. text ∷ seen_names (view_other_declarations others)) (name_seen first) ∙ ap (λ names. (out-Declaration first).name.text ∷ names) (names_seen others)

-- ---- clauses

by_test : (e : trees.MaybeExpr) (body : trees.Statements) (rest : trees.Clauses) → declared_clauses (clause_by e body rest) ≡ declared_statements body ++ declared_clauses rest
by_test trees.absent body rest = refl
by_test (trees.present e) body rest = refl

pub step_clauses : (c : Clause) (rest : List Clause) → declared_clauses (view_clauses (c ∷ rest)) ≡ declared_statements (view_stmts (nodes_of (out-Clause c).body)) ++ declared_clauses (view_clauses rest)
step_clauses c rest = ap declared_clauses (parts_clause c (view_clauses rest)) ∙ by_test (view_maybe_expr (out-Clause c).test) (view_stmts (nodes_of (out-Clause c).body)) (view_clauses rest)

-- ---- functions

names_of_both : (fs gs : List trees.Function) → function_names (fs ++ gs) ≡ function_names fs ++ function_names gs
names_of_both fs gs = map-append (λ f. name_text (name_of f)) fs gs

-- what a statement declares, and then what the others do
pub step_functions : (s : Stmt) (rest : List Stmt) → function_names (declared_functions (view_stmts (s ∷ rest))) ≡ function_names (declared_by (view_stmt s)) ++ function_names (declared_functions (view_stmts rest))
step_functions s rest = ap function_names (declared_front (view_stmt s) (view_stmts rest)) ∙ names_of_both (declared_by (view_stmt s)) (declared_functions (view_stmts rest))
