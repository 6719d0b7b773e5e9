-- Nodes that are structs, by their parts.
use Rattle.std.proofs.Common.{sym, ap, ◌≡◌, ℕ, Bool, List, [], ◌∷◌, ◌++◌, Option, append-nil}
use Rattle.js_ast.specs.declared.node_list.NodeList.{NodeList}
use Rattle.js_ast.specs.declared.trees.Ident.{Ident}
use Rattle.js_ast.specs.declared.trees.Expr.{Expr}
use Rattle.js_ast.specs.declared.trees.Stmt.{Stmt}
use Rattle.js_ast.specs.declared.trees.Function.{Function, out-Function, roll-Function, out-roll-Function}
use Rattle.js_ast.specs.declared.trees.Declaration.{Declaration}
use Rattle.js_ast.specs.declared.trees.Declarations.{Declarations, out-Declarations, roll-Declarations, out-roll-Declarations}
use Rattle.js_ast.specs.declared.trees.Clause.{Clause, out-Clause, roll-Clause, out-roll-Clause}
use Rattle.js_ast.specs.declared.trees.Block.{Block, out-Block, roll-Block, out-roll-Block}
use Rattle.js_ast.specs.Nodes.{nodes_of}
use Rattle.js_ast.specs.Trees as trees
use Rattle.js_ast.specs.Trees.{no_clauses}
use Rattle.js_ast.specs.Views.{view_function, declarations_from, clause_by}
use Rattle.js_ast.proofs.ViewLaws.{parts_function, parts_block, parts_declarations, parts_clause}
use Rattle.js_ast.specs.Functions.{functions_of_expr, functions_of_maybe, functions_of_others, functions_of_declarations, functions_of_clauses, functions_of_statements}
use Rattle.js_ast.specs.Held.{held_in_maybe_expr, held_in_function, held_in_declaration, held_in_declarations, held_in_other_declarations, held_in_clause, held_in_block, held_in_stmts}
use Rattle.js_ast.proofs.HeldLaws.{lent_function, lent_in_block, lent_declarations, lent_clause}

-- a function
pub function_out : (at n : ℕ) (strict : Bool) (name : Option Ident) (params : NodeList Ident) (body : NodeList Stmt)
    → out-Function (roll-Function (record { at = at; number = n; strict = strict; name = name; params = params; body = body })) ≡ record { at = at; number = n; strict = strict; name = name; params = params; body = body }
function_out at n strict name params body = out-roll-Function (record { at = at; number = n; strict = strict; name = name; params = params; body = body })

pub function_held : (f : Function) → held_in_function f ≡ ((out-Function f).number, record { function = view_function f; strict = (out-Function f).strict }) ∷ held_in_stmts (nodes_of (out-Function f).body)
function_held f = lent_function f

-- statements between braces
pub block_out : (at : ℕ) (body : NodeList Stmt) → out-Block (roll-Block (record { at = at; body = body })) ≡ record { at = at; body = body }
block_out at body = out-roll-Block (record { at = at; body = body })

pub block_marks : (b : Block) → held_in_block b ≡ held_in_stmts (nodes_of (out-Block b).body)
block_marks b = lent_in_block b

-- variables
pub declarations_out : (d : Declaration) (others : NodeList Declaration) → out-Declarations (roll-Declarations (record { first = d; others = others })) ≡ record { first = d; others = others }
declarations_out d others = out-roll-Declarations (record { first = d; others = others })

pub declarations_marks : (ds : Declarations) → held_in_declarations ds ≡ held_in_declaration (out-Declarations ds).first ++ held_in_other_declarations (nodes_of (out-Declarations ds).others)
declarations_marks ds = lent_declarations ds

pub declarations_functions : (s : Bool) (d : trees.Ident × trees.MaybeExpr) (ds : List (trees.Ident × trees.MaybeExpr)) → functions_of_declarations s (declarations_from d ds) ≡ functions_of_maybe s d.1 ++ functions_of_others s ds
declarations_functions s d [] = sym (append-nil (functions_of_maybe s d.1))
declarations_functions s d (e ∷ es) = ap (λ fs. functions_of_maybe s d.1 ++ fs) (declarations_functions s e es)

-- a clause
pub clause_out : (test : Option Expr) (body : NodeList Stmt) → out-Clause (roll-Clause (record { test = test; body = body })) ≡ record { test = test; body = body }
clause_out test body = out-roll-Clause (record { test = test; body = body })

pub clause_marks : (c : Clause) → held_in_clause c ≡ held_in_maybe_expr (out-Clause c).test ++ held_in_stmts (nodes_of (out-Clause c).body)
clause_marks c = lent_clause c

pub clause_functions : (s : Bool) (e : trees.MaybeExpr) (body : trees.Statements) → functions_of_clauses s (clause_by e body no_clauses) ≡ functions_of_maybe s e ++ functions_of_statements s body
clause_functions s trees.absent body = append-nil (functions_of_statements s body)
clause_functions s (trees.present e) body = ap (λ fs. functions_of_expr s e ++ fs) (append-nil (functions_of_statements s body))

pub ruleset function = (function_out, parts_function, function_held)

pub ruleset block = (block_out, parts_block, block_marks)

pub ruleset declarations = (declarations_out, parts_declarations, declarations_marks, declarations_functions)

pub ruleset clause = (clause_out, parts_clause, clause_marks, clause_functions)
