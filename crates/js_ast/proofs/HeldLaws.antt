-- The functions that lists and nodes hold in memory, part by part.
use Rattle.std.proofs.Common.{refl, sym, ap, ◌∙◌, ◌≡◌, ℕ, Bool, List, ◌∷◌, ◌++◌, Option, Some, None}
use Rattle.js_ast.specs.declared.node_list.NodeList.{NodeList}
use Rattle.js_ast.specs.declared.trees.Ident.{Ident}
use Rattle.js_ast.specs.declared.trees.Expr.{Expr}
use Rattle.js_ast.specs.declared.trees.Item.{Item}
use Rattle.js_ast.specs.declared.trees.Property.{Property}
use Rattle.js_ast.specs.declared.trees.Function.{Function, out-Function, roll-Function, roll-out-Function, rolls-Function', Function'}
use Rattle.js_ast.specs.declared.trees.Stmt.{Stmt}
use Rattle.js_ast.specs.declared.trees.Declaration.{Declaration, out-Declaration, roll-Declaration, roll-out-Declaration, rolls-Declaration'}
use Rattle.js_ast.specs.declared.trees.Declarations.{Declarations, out-Declarations, roll-Declarations, roll-out-Declarations, rolls-Declarations'}
use Rattle.js_ast.specs.declared.trees.Block.{Block, out-Block, roll-Block, roll-out-Block, rolls-Block'}
use Rattle.js_ast.specs.declared.trees.Clause.{Clause, out-Clause, roll-Clause, roll-out-Clause, rolls-Clause'}
use Rattle.js_ast.specs.declared.trees.ExprKind.TheBlock.{back-ForFirst-Expr-0, Row_of-Item, end_of-Item, more_of-Item, items-the_row-Item, hidden-the_row-Item-0, items_hidden-the_row-Item-0, Row_of-Property, end_of-Property, more_of-Property, items-the_row-Property, hidden-the_row-Property-1, items_hidden-the_row-Property-1, Row_of-Expr, end_of-Expr, more_of-Expr, items-the_row-Expr, hidden-the_row-Expr-2, items_hidden-the_row-Expr-2, Row_of-Stmt, end_of-Stmt, more_of-Stmt, items-the_row-Stmt, hidden-the_row-Stmt-3, items_hidden-the_row-Stmt-3, Row_of-Clause, end_of-Clause, more_of-Clause, items-the_row-Clause, hidden-the_row-Clause-4, items_hidden-the_row-Clause-4, Row_of-Declaration, end_of-Declaration, more_of-Declaration, items-the_row-Declaration, hidden-the_row-Declaration-5, items_hidden-the_row-Declaration-5}
use Rattle.js_ast.specs.Nodes.{nodes_of}
use Rattle.js_ast.specs.Functions.{FunctionCode}
use Rattle.js_ast.specs.Lent.{filled}
use Rattle.js_ast.proofs.Filling.{filled_append}
use Rattle.js_ast.specs.Held.{held, held_in_expr_kind, held_in_expr_row, held_in_held_expr, held_in_item, held_in_item_row, held_in_property_kind, held_in_property_row, held_in_function, held_in_declaration, held_in_declaration_row, held_in_clause, held_in_clause_row, held_in_block, held_in_declarations, held_in_stmt_kind, held_in_stmt_row, held_in_maybe_expr, held_in_exprs, held_in_items, held_in_properties, held_in_other_declarations, held_in_clauses, held_in_stmts}

-- ---- lists as the trees in memory hold them

row_exprs : {n : _} (k : Row_of-Expr n) → held_in_expr_row k ≡ held_in_exprs (items-the_row-Expr n k)
row_exprs end_of-Expr = refl
row_exprs (more_of-Expr a p e es) = ap (λ more. held_in_expr_kind e ++ more) (row_exprs es)

row_items : {n : _} (k : Row_of-Item n) → held_in_item_row k ≡ held_in_items (items-the_row-Item n k)
row_items end_of-Item = refl
row_items (more_of-Item i is) = ap (λ more. held_in_item i ++ more) (row_items is)

row_properties : {n : _} (k : Row_of-Property n) → held_in_property_row k ≡ held_in_properties (items-the_row-Property n k)
row_properties end_of-Property = refl
row_properties (more_of-Property at k p ps) = ap (λ more. held_in_property_kind p ++ more) (row_properties ps)

row_declarations : {n : _} (k : Row_of-Declaration n) → held_in_declaration_row k ≡ held_in_other_declarations (items-the_row-Declaration n k)
row_declarations end_of-Declaration = refl
row_declarations (more_of-Declaration d ds) = ap (λ more. held_in_declaration d ++ more) (row_declarations ds)

row_clauses : {n : _} (k : Row_of-Clause n) → held_in_clause_row k ≡ held_in_clauses (items-the_row-Clause n k)
row_clauses end_of-Clause = refl
row_clauses (more_of-Clause c cs) = ap (λ more. held_in_clause c ++ more) (row_clauses cs)

row_stmts : {n : _} (k : Row_of-Stmt n) → held_in_stmt_row k ≡ held_in_stmts (items-the_row-Stmt n k)
row_stmts end_of-Stmt = refl
row_stmts (more_of-Stmt a p s ss) = ap (λ more. held_in_stmt_kind s ++ more) (row_stmts ss)

pub lent_exprs : (l : NodeList Expr) → held_in_expr_row (hidden-the_row-Expr-2 l.nodes) ≡ held_in_exprs (nodes_of l)
lent_exprs l = row_exprs (hidden-the_row-Expr-2 l.nodes) ∙ ap held_in_exprs (items_hidden-the_row-Expr-2 l.nodes)

pub lent_items : (l : NodeList Item) → held_in_item_row (hidden-the_row-Item-0 l.nodes) ≡ held_in_items (nodes_of l)
lent_items l = row_items (hidden-the_row-Item-0 l.nodes) ∙ ap held_in_items (items_hidden-the_row-Item-0 l.nodes)

pub lent_properties : (l : NodeList Property) → held_in_property_row (hidden-the_row-Property-1 l.nodes) ≡ held_in_properties (nodes_of l)
lent_properties l = row_properties (hidden-the_row-Property-1 l.nodes) ∙ ap held_in_properties (items_hidden-the_row-Property-1 l.nodes)

pub lent_other_declarations : (l : NodeList Declaration) → held_in_declaration_row (hidden-the_row-Declaration-5 l.nodes) ≡ held_in_other_declarations (nodes_of l)
lent_other_declarations l = row_declarations (hidden-the_row-Declaration-5 l.nodes) ∙ ap held_in_other_declarations (items_hidden-the_row-Declaration-5 l.nodes)

pub lent_clauses : (l : NodeList Clause) → held_in_clause_row (hidden-the_row-Clause-4 l.nodes) ≡ held_in_clauses (nodes_of l)
lent_clauses l = row_clauses (hidden-the_row-Clause-4 l.nodes) ∙ ap held_in_clauses (items_hidden-the_row-Clause-4 l.nodes)

pub lent_stmts : (l : NodeList Stmt) → held_in_stmt_row (hidden-the_row-Stmt-3 l.nodes) ≡ held_in_stmts (nodes_of l)
lent_stmts l = row_stmts (hidden-the_row-Stmt-3 l.nodes) ∙ ap held_in_stmts (items_hidden-the_row-Stmt-3 l.nodes)

pub lent_expr : (o : Option Expr) → held_in_held_expr (back-ForFirst-Expr-0 o) ≡ held_in_maybe_expr o
lent_expr None = refl
lent_expr (Some e) = refl

-- ---- structs by their parts

-- a function, and then those in its body
pub lent_function : (f : Function) → held_in_function f ≡ held f ∷ held_in_stmts (nodes_of (out-Function f).body)
lent_function f = parts f ∙ ap (λ more. held f ∷ more) (ap body_of (sym (roll-out-Function f)) ∙ rolled (out-Function f).at (out-Function f).number (out-Function f).strict (out-Function f).name (out-Function f).params (out-Function f).body)
  where
    body_of : Function → List (ℕ × FunctionCode)
    body_of (Function' at n strict name params shape ss order) = held_in_stmt_row ss

    parts : (f : Function) → held_in_function f ≡ held f ∷ body_of f
    parts (Function' at n strict name params shape ss order) = refl

    rolled : (at n : ℕ) (strict : Bool) (name : Option Ident) (params : NodeList Ident) (body : NodeList Stmt) → body_of (roll-Function (record { at = at; number = n; strict = strict; name = name; params = params; body = body })) ≡ held_in_stmts (nodes_of body)
    rolled at n strict name params body = rw rolls-Function' (lent_stmts body)

pub lent_block : (at : ℕ) (body : NodeList Stmt) → held_in_block (roll-Block (record { at = at; body = body })) ≡ held_in_stmts (nodes_of body)
lent_block at body = rw rolls-Block' (lent_stmts body)

-- statements between braces that are held
pub lent_in_block : (b : Block) → held_in_block b ≡ held_in_stmts (nodes_of (out-Block b).body)
lent_in_block b = ap held_in_block (sym (roll-out-Block b)) ∙ lent_block (out-Block b).at (out-Block b).body

-- variables that are held
pub lent_declarations : (ds : Declarations) → held_in_declarations ds ≡ held_in_declaration (out-Declarations ds).first ++ held_in_other_declarations (nodes_of (out-Declarations ds).others)
lent_declarations ds = ap held_in_declarations (sym (roll-out-Declarations ds)) ∙ rw rolls-Declarations' (ap (λ more. held_in_declaration (out-Declarations ds).first ++ more) (lent_other_declarations (out-Declarations ds).others))

-- a variable that is held
pub lent_declaration : (d : Declaration) → held_in_declaration d ≡ held_in_maybe_expr (out-Declaration d).value
lent_declaration d = ap held_in_declaration (sym (roll-out-Declaration d)) ∙ rw rolls-Declaration' (lent_expr (out-Declaration d).value)

-- the first variable takes its slots, and then the others
pub declared : (first : ℕ) (slots middle last : List (Option (ℕ × FunctionCode))) (ds : Declarations) (others : List Declaration) → others ≡ nodes_of (out-Declarations ds).others
    → middle ≡ filled first slots (held_in_maybe_expr (out-Declaration (out-Declarations ds).first).value) → last ≡ filled first middle (held_in_other_declarations others)
    → last ≡ filled first slots (held_in_declarations ds)
declared first slots middle last ds others is one more =
    let value = held_in_maybe_expr (out-Declaration (out-Declarations ds).first).value in
    let rest = held_in_other_declarations (nodes_of (out-Declarations ds).others) in
    more ∙ ap (λ os. filled first middle (held_in_other_declarations os)) is ∙ ap (λ s. filled first s rest) one ∙ sym (filled_append first slots value rest)
    ∙ sym (ap (filled first slots) (lent_declarations ds ∙ ap (λ fs. fs ++ rest) (lent_declaration (out-Declarations ds).first)))

-- a clause that is held
pub lent_clause : (c : Clause) → held_in_clause c ≡ held_in_maybe_expr (out-Clause c).test ++ held_in_stmts (nodes_of (out-Clause c).body)
lent_clause c = ap held_in_clause (sym (roll-out-Clause c)) ∙ rw (rolls-Clause', lent_expr (out-Clause c).test, lent_stmts (out-Clause c).body) refl

-- the lists and the missing parts that a node holds
pub ruleset held_functions = (lent_exprs, lent_items, lent_properties, lent_other_declarations, lent_clauses, lent_stmts, lent_expr, lent_function, lent_block)
