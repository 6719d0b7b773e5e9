-- Views of lists, as the code builds them and takes them apart.
use Rattle.std.proofs.Common.{◌≡◌, suc, ◌-◌, leb, List, [], ◌∷◌, ◌++◌, max, length, get_or, Option, Some, None, option_map, refl, sym, ap, ◌∙◌, arith, Bor}
use Rattle.std.proofs.lemmas.Option.{slice_get-get_or}
use Rattle.js_ast.specs.declared.trees.Expr.{Expr}
use Rattle.js_ast.specs.declared.trees.Ident.{Ident}
use Rattle.js_ast.specs.declared.trees.Declaration.{Declaration, out-Declaration, roll-Declaration}
use Rattle.js_ast.specs.declared.trees.Declarations.{Declarations, out-Declarations, roll-Declarations}
use Rattle.js_ast.specs.Trees as trees
use Rattle.std.specs.Option.{option_copied}
use Rattle.js_ast.specs.Depth.{depth_clauses, depth_statements}
use Rattle.js_ast.specs.Grammar.{as_option, last_initialiser}
use Rattle.std.specs.List.{list_any}
use Rattle.std.proofs.lemmas.Bool.Decides.{nat_tests}
use Rattle.js_ast.specs.declared.node_list.NodeList.{NodeList}
use Rattle.js_ast.specs.declared.trees.Stmt.{Stmt}
use Rattle.js_ast.specs.declared.trees.Clause.{Clause, Clause', roll-Clause}
use Rattle.js_ast.specs.declared.trees.ExprKind.TheBlock.{ForFirst-Expr-0-None', ForFirst-Expr-0-Some'}
use Rattle.js_ast.specs.Nodes.{nodes_of}
use Rattle.js_ast.specs.Joined.{joined_clauses, joined_declarations}
use Rattle.js_ast.specs.Trees.{no_clauses, default, one_declaration}
use Rattle.js_ast.specs.Validity.{defaults}
use Rattle.js_ast.specs.Views.{view_ident, view_expr, view_maybe_expr, declarations_from, view_declaration, view_other_declarations, view_declarations, view_clauses, view_stmts}
use Rattle.js_parse_parts.specs.Clauses.{is_default}
use Rattle.js_parse_parts.proofs.DepthLaws.{joined_default_depth}
use Rattle.js_ast.proofs.ViewLaws.{clauses_append, declarations_append, parts_declaration, parts_declarations, seen_declaration, seen_declarations, seen_default}

-- a clause with no test behind others
pub default_behind : (cs ds : List Clause) (body : NodeList Stmt) → ds ≡ cs ++ roll-Clause (record { test = None; body = body }) ∷ [] → view_clauses ds ≡ joined_clauses (view_clauses cs) (default (view_stmts (nodes_of body)) no_clauses)
default_behind cs ds body e = ap view_clauses e ∙ clauses_append cs (roll-Clause (record { test = None; body = body }) ∷ []) ∙ ap (joined_clauses (view_clauses cs)) (seen_default body no_clauses)

-- how deep it makes them
pub default_deepens : (cs ds : List Clause) (body : NodeList Stmt) → ds ≡ cs ++ roll-Clause (record { test = None; body = body }) ∷ [] → depth_clauses (view_clauses ds) ≡ max (depth_clauses (view_clauses cs)) (depth_statements (view_stmts (nodes_of body)))
default_deepens cs ds body e = ap depth_clauses (default_behind cs ds body e) ∙ joined_default_depth (view_clauses cs) (view_stmts (nodes_of body))

-- whether one clause of several has no test
pub any_default : (cs : List Clause) → list_any is_default cs ≡ leb 1 (defaults (view_clauses cs))
any_default [] = refl
any_default (Clause' ForFirst-Expr-0-None' shape ss order ∷ cs) = grind (arith, nat_tests)
any_default (Clause' (ForFirst-Expr-0-Some' a p e) shape ss order ∷ cs) = any_default cs

-- the last of some elements, or a first one before them, as the last of one more
last_more : {X : Type 0} (d e : X) (es : List X) → get_or (e ∷ es) (length (e ∷ es) - 1) d ≡ get_or es (length es - 1) e
last_more d e [] = refl
last_more d e (f ∷ fs) =
    let n : length (e ∷ f ∷ fs) - 1 ≡ suc (length fs) = omega arith in
    let m : length (f ∷ fs) - 1 ≡ length fs = omega arith in
    rw (n, m) (cc (slice_get-get_or (f ∷ fs) (length fs) d (omega arith), slice_get-get_or (f ∷ fs) (length fs) e (omega arith)))

-- the initialiser of the last variable, which is the first where it is alone
pub last_seen : (d : Declaration) (ds : List Declaration) → last_initialiser (declarations_from (view_declaration d) (view_other_declarations ds)) ≡ as_option (view_declaration (get_or ds (length ds - 1) d)).1
last_seen d [] = refl
last_seen d (e ∷ es) = rw (last_more d e es) (last_seen e es)

-- an expression that may be missing, as an option and as it is borrowed
option_seen : (o : Option Expr) → option_map view_expr o ≡ as_option (view_maybe_expr o)
option_seen None = refl
option_seen (Some e) = refl

borrowed_seen : (r : Option (Bor Expr)) → option_map (λ e. view_expr e.now) r ≡ option_map view_expr (option_copied r)
borrowed_seen None = refl
borrowed_seen (Some e) = refl

-- the initialiser of a variable
pub value_seen : (d : Declaration) (r : Option (Bor Expr)) → option_copied r ≡ (out-Declaration d).value → option_map (λ e. view_expr e.now) r ≡ as_option (view_declaration d).1
value_seen d r h = borrowed_seen r ∙ ap (option_map view_expr) h ∙ option_seen (out-Declaration d).value ∙ sym (ap (λ (v : trees.Ident × trees.MaybeExpr). as_option v.1) (parts_declaration d))

-- a variable behind others
pub declared_behind : (l : Declarations) (others : NodeList Declaration) (name : Ident) (init : Option Expr) → nodes_of others ≡ nodes_of (out-Declarations l).others ++ roll-Declaration (record { name = name; value = init }) ∷ []
    → view_declarations (roll-Declarations (record { first = (out-Declarations l).first; others = others })) ≡ joined_declarations (view_declarations l) (one_declaration (view_ident name) (view_maybe_expr init))
declared_behind l others name init e =
    let first = (out-Declarations l).first in
    let one = roll-Declaration (record { name = name; value = init }) in
    seen_declarations first others ∙ ap (λ ds. declarations_from (view_declaration first) (view_other_declarations ds)) e ∙ declarations_append first (nodes_of (out-Declarations l).others) one [] ∙ rw (parts_declarations l, seen_declaration name init) refl
