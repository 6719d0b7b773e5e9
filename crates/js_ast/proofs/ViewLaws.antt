-- Views of what is built: a node added behind others is joined behind them, and a node's view is made of its parts' views.
use Rattle.std.proofs.Common.{◌≡◌, ℕ, Bool, List, [], ◌∷◌, ◌++◌, Option, Some, None, refl, sym, ap, ◌∙◌}
use Rattle.std.proofs.lemmas.List.{map-append}
use Rattle.js_ast.specs.declared.node_list.NodeList.{NodeList}
use Rattle.js_ast.specs.declared.trees.Ident.{Ident}
use Rattle.js_ast.specs.declared.trees.Expr.{Expr}
use Rattle.js_ast.specs.declared.trees.Item.{Item}
use Rattle.js_ast.specs.declared.trees.Item as an_item
use Rattle.js_ast.specs.declared.trees.Property.{Property}
use Rattle.js_ast.specs.declared.trees.Function.{Function, out-Function, roll-Function, roll-out-Function, rolls-Function'}
use Rattle.js_ast.specs.declared.trees.Stmt.{Stmt}
use Rattle.js_ast.specs.declared.trees.Declaration.{Declaration, out-Declaration, roll-Declaration, roll-out-Declaration, rolls-Declaration'}
use Rattle.js_ast.specs.declared.trees.Declarations.{Declarations, out-Declarations, roll-Declarations, roll-out-Declarations, rolls-Declarations'}
use Rattle.js_ast.specs.declared.trees.Block.{Block, out-Block, roll-Block, roll-out-Block, rolls-Block'}
use Rattle.js_ast.specs.declared.trees.Clause.{Clause, Clause', out-Clause, roll-Clause, roll-out-Clause, rolls-Clause'}
use Rattle.js_ast.specs.declared.trees.ExprKind.TheBlock.{back-ForFirst-Expr-0, Row_of-Item, end_of-Item, more_of-Item, items-the_row-Item, hidden-the_row-Item-0, items_hidden-the_row-Item-0, Row_of-Property, end_of-Property, more_of-Property, items-the_row-Property, hidden-the_row-Property-1, items_hidden-the_row-Property-1, Row_of-Expr, end_of-Expr, more_of-Expr, items-the_row-Expr, hidden-the_row-Expr-2, items_hidden-the_row-Expr-2, Row_of-Stmt, end_of-Stmt, more_of-Stmt, items-the_row-Stmt, hidden-the_row-Stmt-3, items_hidden-the_row-Stmt-3, Row_of-Clause, end_of-Clause, more_of-Clause, items-the_row-Clause, hidden-the_row-Clause-4, items_hidden-the_row-Clause-4, Row_of-Declaration, end_of-Declaration, more_of-Declaration, items-the_row-Declaration, hidden-the_row-Declaration-5, items_hidden-the_row-Declaration-5}
use Rattle.js_ast.specs.Nodes.{nodes_of}
use Rattle.js_ast.specs.Trees as trees
use Rattle.js_ast.specs.Trees.{more_exprs, more_properties, function_of, more_declarations, block_of, case, default, more_statements}
use Rattle.js_ast.specs.Joined.{joined_exprs, joined_items, joined_properties, joined_declarations, joined_clauses, joined_statements}
use Rattle.js_ast.specs.Views.{view_ident, view_idents, declarations_from, clause_by, view_expr_kind, view_expr_row, view_held_expr, view_item, view_item_row, view_property_kind, view_property_row, view_function, view_name, view_declarations, view_block, view_stmt_kind, view_declaration, view_declaration_row, view_clause, view_clause_row, view_stmt_row, view_expr, view_property, view_stmt, view_maybe_expr, view_exprs, view_items, view_properties, view_other_declarations, view_clauses, view_stmts}

-- ---- nodes behind others

-- names behind others
pub idents_append : (is js : List Ident) → view_idents (is ++ js) ≡ view_idents is ++ view_idents js
idents_append is js = map-append view_ident is js

-- expressions behind others
pub exprs_append : (es fs : List Expr) → view_exprs (es ++ fs) ≡ joined_exprs (view_exprs es) (view_exprs fs)
exprs_append [] fs = refl
exprs_append (e ∷ es) fs = ap (more_exprs (view_expr e)) (exprs_append es fs)

-- an item in front of joined ones
item_joined : (i : Item) (is js : trees.Items) → view_item i (joined_items is js) ≡ joined_items (view_item i is) js
item_joined an_item.Hole is js = refl
item_joined (an_item.Value' a p e) is js = refl

-- items behind others
pub items_append : (is js : List Item) → view_items (is ++ js) ≡ joined_items (view_items is) (view_items js)
items_append [] js = refl
items_append (i ∷ is) js = ap (view_item i) (items_append is js) ∙ item_joined i (view_items is) (view_items js)

-- properties behind others
pub properties_append : (ps qs : List Property) → view_properties (ps ++ qs) ≡ joined_properties (view_properties ps) (view_properties qs)
properties_append [] qs = refl
properties_append (p ∷ ps) qs = ap (more_properties (view_property p)) (properties_append ps qs)

-- variables behind others, seen
declarations_from_append : (d : trees.Ident × trees.MaybeExpr) (ds : List (trees.Ident × trees.MaybeExpr)) (e : trees.Ident × trees.MaybeExpr) (es : List (trees.Ident × trees.MaybeExpr))
    → declarations_from d (ds ++ e ∷ es) ≡ joined_declarations (declarations_from d ds) (declarations_from e es)
declarations_from_append d [] e es = refl
declarations_from_append d (c ∷ ds) e es = ap (more_declarations d.0 d.1) (declarations_from_append c ds e es)

-- a variable behind a first and others
pub declarations_append : (d : Declaration) (ds : List Declaration) (e : Declaration) (es : List Declaration)
    → declarations_from (view_declaration d) (view_other_declarations (ds ++ e ∷ es))
    ≡ joined_declarations (declarations_from (view_declaration d) (view_other_declarations ds)) (declarations_from (view_declaration e) (view_other_declarations es))
declarations_append d ds e es = ap (declarations_from (view_declaration d)) (map-append view_declaration ds (e ∷ es)) ∙ declarations_from_append (view_declaration d) (view_other_declarations ds) (view_declaration e) (view_other_declarations es)

-- a clause in front of joined ones, by its test
clause_by_joined : (e : trees.MaybeExpr) (body : trees.Statements) (cs ds : trees.Clauses) → clause_by e body (joined_clauses cs ds) ≡ joined_clauses (clause_by e body cs) ds
clause_by_joined trees.absent body cs ds = refl
clause_by_joined (trees.present e) body cs ds = refl

-- a clause in front of joined ones
clause_joined : (c : Clause) (cs ds : trees.Clauses) → view_clause c (joined_clauses cs ds) ≡ joined_clauses (view_clause c cs) ds
clause_joined (Clause' e shape ss order) cs ds = clause_by_joined (view_held_expr e) (view_stmt_row ss) cs ds

-- clauses behind others
pub clauses_append : (cs ds : List Clause) → view_clauses (cs ++ ds) ≡ joined_clauses (view_clauses cs) (view_clauses ds)
clauses_append [] ds = refl
clauses_append (c ∷ cs) ds = ap (view_clause c) (clauses_append cs ds) ∙ clause_joined c (view_clauses cs) (view_clauses ds)

-- statements behind others
pub stmts_append : (ss us : List Stmt) → view_stmts (ss ++ us) ≡ joined_statements (view_stmts ss) (view_stmts us)
stmts_append [] us = refl
stmts_append (s ∷ ss) us = ap (more_statements (view_stmt s)) (stmts_append ss us)

-- ---- lists as the trees in memory hold them

-- expressions
pub row_exprs : {n : _} (k : Row_of-Expr n) → view_expr_row k ≡ view_exprs (items-the_row-Expr n k)
row_exprs end_of-Expr = refl
row_exprs (more_of-Expr a p e es) = ap (more_exprs (view_expr_kind a e)) (row_exprs es)

-- items
pub row_items : {n : _} (k : Row_of-Item n) → view_item_row k ≡ view_items (items-the_row-Item n k)
row_items end_of-Item = refl
row_items (more_of-Item i is) = ap (view_item i) (row_items is)

-- properties
pub row_properties : {n : _} (k : Row_of-Property n) → view_property_row k ≡ view_properties (items-the_row-Property n k)
row_properties end_of-Property = refl
row_properties (more_of-Property at k p ps) = ap (more_properties (view_property_kind at k p)) (row_properties ps)

-- variables behind the first
pub row_declarations : {n : _} (k : Row_of-Declaration n) → view_declaration_row k ≡ view_other_declarations (items-the_row-Declaration n k)
row_declarations end_of-Declaration = refl
row_declarations (more_of-Declaration d ds) = ap (λ more. view_declaration d ∷ more) (row_declarations ds)

-- clauses
pub row_clauses : {n : _} (k : Row_of-Clause n) → view_clause_row k ≡ view_clauses (items-the_row-Clause n k)
row_clauses end_of-Clause = refl
row_clauses (more_of-Clause c cs) = ap (view_clause c) (row_clauses cs)

-- statements
pub row_stmts : {n : _} (k : Row_of-Stmt n) → view_stmt_row k ≡ view_stmts (items-the_row-Stmt n k)
row_stmts end_of-Stmt = refl
row_stmts (more_of-Stmt a p s ss) = ap (more_statements (view_stmt_kind a s)) (row_stmts ss)

-- expressions of a list
pub held_exprs : (l : NodeList Expr) → view_expr_row (hidden-the_row-Expr-2 l.nodes) ≡ view_exprs (nodes_of l)
held_exprs l = row_exprs (hidden-the_row-Expr-2 l.nodes) ∙ ap view_exprs (items_hidden-the_row-Expr-2 l.nodes)

-- items of a list
pub held_items : (l : NodeList Item) → view_item_row (hidden-the_row-Item-0 l.nodes) ≡ view_items (nodes_of l)
held_items l = row_items (hidden-the_row-Item-0 l.nodes) ∙ ap view_items (items_hidden-the_row-Item-0 l.nodes)

-- properties of a list
pub held_properties : (l : NodeList Property) → view_property_row (hidden-the_row-Property-1 l.nodes) ≡ view_properties (nodes_of l)
held_properties l = row_properties (hidden-the_row-Property-1 l.nodes) ∙ ap view_properties (items_hidden-the_row-Property-1 l.nodes)

-- variables of a list, behind the first
pub held_declarations : (l : NodeList Declaration) → view_declaration_row (hidden-the_row-Declaration-5 l.nodes) ≡ view_other_declarations (nodes_of l)
held_declarations l = row_declarations (hidden-the_row-Declaration-5 l.nodes) ∙ ap view_other_declarations (items_hidden-the_row-Declaration-5 l.nodes)

-- clauses of a list
pub held_clauses : (l : NodeList Clause) → view_clause_row (hidden-the_row-Clause-4 l.nodes) ≡ view_clauses (nodes_of l)
held_clauses l = row_clauses (hidden-the_row-Clause-4 l.nodes) ∙ ap view_clauses (items_hidden-the_row-Clause-4 l.nodes)

-- statements of a list
pub held_stmts : (l : NodeList Stmt) → view_stmt_row (hidden-the_row-Stmt-3 l.nodes) ≡ view_stmts (nodes_of l)
held_stmts l = row_stmts (hidden-the_row-Stmt-3 l.nodes) ∙ ap view_stmts (items_hidden-the_row-Stmt-3 l.nodes)

-- an expression that may be missing
pub held_expr : (o : Option Expr) → view_held_expr (back-ForFirst-Expr-0 o) ≡ view_maybe_expr o
held_expr None = refl
held_expr (Some e) = refl

-- ---- structs by their parts

-- a function
pub seen_function : (at n : ℕ) (strict : Bool) (name : Option Ident) (params : NodeList Ident) (body : NodeList Stmt)
    → view_function (roll-Function (record { at = at; number = n; strict = strict; name = name; params = params; body = body })) ≡ function_of at (view_name name) (view_idents (nodes_of params)) (view_stmts (nodes_of body))
seen_function at n strict name params body = rw rolls-Function' (ap (function_of at (view_name name) (view_idents (nodes_of params))) (held_stmts body))

-- a function that is held
pub parts_function : (f : Function) → view_function f ≡ function_of (out-Function f).at (view_name (out-Function f).name) (view_idents (nodes_of (out-Function f).params)) (view_stmts (nodes_of (out-Function f).body))
parts_function f = ap view_function (sym (roll-out-Function f)) ∙ seen_function (out-Function f).at (out-Function f).number (out-Function f).strict (out-Function f).name (out-Function f).params (out-Function f).body

-- statements between braces
pub seen_block_of : (at : ℕ) (body : NodeList Stmt) → view_block (roll-Block (record { at = at; body = body })) ≡ block_of at (view_stmts (nodes_of body))
seen_block_of at body = rw rolls-Block' (ap (block_of at) (held_stmts body))

-- statements between braces that are held
pub parts_block : (b : Block) → view_block b ≡ block_of (out-Block b).at (view_stmts (nodes_of (out-Block b).body))
parts_block b = ap view_block (sym (roll-out-Block b)) ∙ seen_block_of (out-Block b).at (out-Block b).body

-- a variable
pub seen_declaration : (name : Ident) (init : Option Expr) → view_declaration (roll-Declaration (record { name = name; value = init })) ≡ (view_ident name, view_maybe_expr init)
seen_declaration name init = rw rolls-Declaration' (ap (λ e. (view_ident name, e)) (held_expr init))

-- a variable that is held
pub parts_declaration : (d : Declaration) → view_declaration d ≡ (view_ident (out-Declaration d).name, view_maybe_expr (out-Declaration d).value)
parts_declaration d = ap view_declaration (sym (roll-out-Declaration d)) ∙ seen_declaration (out-Declaration d).name (out-Declaration d).value

-- variables
pub seen_declarations : (d : Declaration) (others : NodeList Declaration) → view_declarations (roll-Declarations (record { first = d; others = others })) ≡ declarations_from (view_declaration d) (view_other_declarations (nodes_of others))
seen_declarations d others = rw rolls-Declarations' (ap (declarations_from (view_declaration d)) (held_declarations others))

-- variables that are held
pub parts_declarations : (ds : Declarations) → view_declarations ds ≡ declarations_from (view_declaration (out-Declarations ds).first) (view_other_declarations (nodes_of (out-Declarations ds).others))
parts_declarations ds = ap view_declarations (sym (roll-out-Declarations ds)) ∙ seen_declarations (out-Declarations ds).first (out-Declarations ds).others

-- a clause in front of others
seen_clause : (test : Option Expr) (body : NodeList Stmt) (cs : trees.Clauses) → view_clause (roll-Clause (record { test = test; body = body })) cs ≡ clause_by (view_maybe_expr test) (view_stmts (nodes_of body)) cs
seen_clause test body cs = rw (rolls-Clause', held_expr test, held_stmts body) refl

-- a clause that is held
pub parts_clause : (c : Clause) (cs : trees.Clauses) → view_clause c cs ≡ clause_by (view_maybe_expr (out-Clause c).test) (view_stmts (nodes_of (out-Clause c).body)) cs
parts_clause c cs = ap (λ c. view_clause c cs) (sym (roll-out-Clause c)) ∙ seen_clause (out-Clause c).test (out-Clause c).body cs

-- a clause with a test
pub seen_case : (test : Expr) (body : NodeList Stmt) (cs : trees.Clauses) → view_clause (roll-Clause (record { test = Some test; body = body })) cs ≡ case (view_expr test) (view_stmts (nodes_of body)) cs
seen_case test body cs = seen_clause (Some test) body cs

-- the clause with none
pub seen_default : (body : NodeList Stmt) (cs : trees.Clauses) → view_clause (roll-Clause (record { test = None; body = body })) cs ≡ default (view_stmts (nodes_of body)) cs
seen_default body cs = seen_clause None body cs

-- the lists and the missing parts that a node holds
pub ruleset held = (held_exprs, held_items, held_properties, held_declarations, held_clauses, held_stmts, held_expr, seen_function, seen_block_of, seen_declaration, seen_declarations, parts_declarations, seen_case, seen_default)

-- nodes behind others
pub ruleset appended = (idents_append, exprs_append, items_append, properties_append, declarations_append, clauses_append, stmts_append)
