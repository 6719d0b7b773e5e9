-- What is told of names that are bound in turn: variables and parameters.
use Rattle.std.proofs.Common.{refl, sym, ap, ◌∙◌, ◌≡◌, List, [], ◌∷◌, ◌++◌, append_assoc}
use Rattle.js_ast.specs.declared.trees.Ident as held
use Rattle.js_ast.specs.declared.trees.Declaration.{Declaration, out-Declaration}
use Rattle.js_ast.specs.declared.trees.Declarations.{Declarations, out-Declarations}
use Rattle.js_ast.specs.Nodes.{nodes_of}
use Rattle.js_ast.specs.Trees.{Ident, MaybeExpr}
use Rattle.js_ast.specs.Views.{view_ident, view_idents, view_maybe_expr, view_declaration, view_declarations, view_other_declarations, declarations_from}
use Rattle.js_ast.proofs.ViewLaws.{idents_append, parts_declaration, parts_declarations}
use Rattle.js_faults.specs.declared.fault.EarlyError.{EarlyError}
use Rattle.js_faults.specs.declared.fault.EarlyErrorKind.TheVariants as kind
use Rattle.js_faults.specs.Early.{fault_if, has_text, of_bound, of_declarations, of_parameters}
use Rattle.js_faults.specs.Faults.{earlier, first_of}
use Rattle.js_faults.proofs.Told.{first_of_append}
use Rattle.js_faults.proofs.Loops.{last_none}

-- a parameter behind others
abbrev pub of_parameter : List Ident → Ident → List EarlyError
of_parameter earlier i = of_bound i ++ fault_if (has_text i.text earlier) i.at kind.RepeatedParameter

pub parameters_step : (front : List held.Ident) (i : held.Ident) (is : List held.Ident) → first_of (of_parameters (view_idents front) (view_idents (i ∷ is)))
    ≡ earlier (first_of (of_parameter (view_idents front) (view_ident i))) (first_of (of_parameters (view_idents (front ++ i ∷ [])) (view_idents is)))
unfolding of_parameters
parameters_step front i is = rw (idents_append front (i ∷ []))
    (ap first_of (sym (append_assoc (of_bound (view_ident i)) (fault_if (has_text i.text (view_idents front)) i.at kind.RepeatedParameter) (of_parameters (view_idents front ++ view_ident i ∷ []) (view_idents is))))
    ∙ first_of_append (of_parameter (view_idents front) (view_ident i)) (of_parameters (view_idents front ++ view_ident i ∷ []) (view_idents is)))

pub no_parameters : (front : List Ident) → of_parameters front [] ≡ []
unfolding of_parameters
no_parameters front = refl

-- the parts of a variable
pub part_name : (d : Declaration) → (view_declaration d).0 ≡ view_ident (out-Declaration d).name
part_name d = ap (λ d. d.0) (parts_declaration d)

pub part_value : (d : Declaration) → (view_declaration d).1 ≡ view_maybe_expr (out-Declaration d).value
part_value d = ap (λ d. d.1) (parts_declaration d)

-- names that are bound
abbrev pub bound_in : List (Ident × MaybeExpr) → List EarlyError
bound_in [] = []
bound_in (d ∷ ds) = of_bound d.0 ++ bound_in ds

bound_from : (d : Ident × MaybeExpr) (ds : List (Ident × MaybeExpr)) → first_of (of_declarations (declarations_from d ds)) ≡ earlier (first_of (of_bound d.0)) (first_of (bound_in ds))
unfolding of_declarations
bound_from d [] = sym (last_none (first_of (of_bound d.0)))
bound_from d (e ∷ es) = first_of_append (of_bound d.0) (of_declarations (declarations_from e es)) ∙ ap (earlier (first_of (of_bound d.0))) (bound_from e es ∙ sym (first_of_append (of_bound e.0) (bound_in es)))

pub bound_step : (d : Declaration) (ds : List Declaration) → first_of (bound_in (view_other_declarations (d ∷ ds)))
    ≡ earlier (first_of (of_bound (view_ident (out-Declaration d).name))) (first_of (bound_in (view_other_declarations ds)))
bound_step d ds = first_of_append (of_bound (view_declaration d).0) (bound_in (view_other_declarations ds)) ∙ ap (λ i. earlier (first_of (of_bound i)) (first_of (bound_in (view_other_declarations ds)))) (part_name d)

pub bound_whole : (ds : Declarations) → first_of (of_declarations (view_declarations ds))
    ≡ earlier (first_of (of_bound (view_ident (out-Declaration (out-Declarations ds).first).name))) (first_of (bound_in (view_other_declarations (nodes_of (out-Declarations ds).others))))
bound_whole ds = ap (λ ds. first_of (of_declarations ds)) (parts_declarations ds) ∙ bound_from (view_declaration (out-Declarations ds).first) (view_other_declarations (nodes_of (out-Declarations ds).others))
    ∙ ap (λ i. earlier (first_of (of_bound i)) (first_of (bound_in (view_other_declarations (nodes_of (out-Declarations ds).others))))) (part_name (out-Declarations ds).first)
