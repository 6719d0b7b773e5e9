-- Variables in their order: those without an initialiser are passed over.
use Rattle.std.proofs.Common.{refl, ap, ◌∙◌, ◌≡◌, ℕ, List, [], ◌∷◌, Some, None}
use Rattle.flow_policy.specs.Policies.{Tables}
use Rattle.flow_policy.specs.Inputs.{Given}
use Rattle.js_ast.specs.Functions.{FunctionCode}
use Rattle.js_ast.specs.Trees.{Ident, Expr, MaybeExpr, absent, present}
use Rattle.js_ast.specs.declared.trees.Expr as code
use Rattle.js_ast.specs.declared.trees.Declaration.{Declaration, out-Declaration}
use Rattle.js_ast.specs.declared.trees.Declarations.{Declarations, out-Declarations}
use Rattle.js_ast.specs.Nodes.{nodes_of}
use Rattle.js_ast.specs.Views.{declarations_from, view_expr, view_ident, view_maybe_expr, view_declaration, view_declarations, view_other_declarations}
use Rattle.js_ast.proofs.ViewLaws.{parts_declaration, parts_declarations}
use Rattle.es_meaning.specs.BuiltIns.{BuiltIns}
use Rattle.es_meaning.specs.Plain.{undefined}
use Rattle.es_meaning.specs.Evaluation.{variable_list, variables, more_variables}
use Rattle.flow_meaning.specs.Erased.{unlabelled}
use Rattle.flow_meaning.specs.Scopes.{State}
use Rattle.flow_meaning.specs.Planned.{Give, gave, planned, asking}
use Rattle.continuations.specs.Settings.{entrance}
use Rattle.step_references.specs.Variables.{Variable, first_given, initialised}

module _ (tables : Tables) (inputs : Given) (set : BuiltIns) (functions : List FunctionCode) (i : ℕ) (s : State) where
  given_step : (ident : Ident) (e : Expr) (ds : List (Ident × MaybeExpr)) → variables (planned tables inputs set functions) (entrance tables inputs set functions) (asking tables inputs set functions) ((ident, present e) ∷ ds) i s ≡ initialised tables inputs set functions (ident.text, e, ds) i s
  unfolding variables more_variables
  given_step ident e ds = refl

  absent_step : (ident : Ident) (ds : List (Ident × MaybeExpr)) → variables (planned tables inputs set functions) (entrance tables inputs set functions) (asking tables inputs set functions) ((ident, absent) ∷ ds) i s ≡ variables (planned tables inputs set functions) (entrance tables inputs set functions) (asking tables inputs set functions) ds i s
  unfolding variables
  absent_step ident ds = refl

  none_step : variables (planned tables inputs set functions) (entrance tables inputs set functions) (asking tables inputs set functions) [] i s ≡ Give (gave (unlabelled undefined)) s
  unfolding variables
  none_step = refl

  pub variables_given : (ds : List (Ident × MaybeExpr)) (v : Variable) → first_given ds ≡ Some v → variables (planned tables inputs set functions) (entrance tables inputs set functions) (asking tables inputs set functions) ds i s ≡ initialised tables inputs set functions v i s
  variables_given [] v e = absurd cc e
  variables_given ((ident, absent) ∷ ds) v e = absent_step ident ds ∙ variables_given ds v e
  variables_given ((ident, present init) ∷ ds) v e = let same : (ident.text, init, ds) ≡ v = cc e in given_step ident init ds ∙ ap (λ w. initialised tables inputs set functions w i s) same

  pub variables_none : (ds : List (Ident × MaybeExpr)) → first_given ds ≡ None → variables (planned tables inputs set functions) (entrance tables inputs set functions) (asking tables inputs set functions) ds i s ≡ Give (gave (unlabelled undefined)) s
  variables_none [] e = none_step
  variables_none ((ident, absent) ∷ ds) e = absent_step ident ds ∙ variables_none ds e
  variables_none ((ident, present init) ∷ ds) e = absurd cc e

-- ---- as they stand in memory

pub given_here : (d : Declaration) (ds : List Declaration) (e : code.Expr) → (out-Declaration d).value ≡ Some e → first_given (view_other_declarations (d ∷ ds)) ≡ Some ((out-Declaration d).name.text, view_expr e, view_other_declarations ds)
given_here d ds e has = ap (λ p. first_given (p ∷ view_other_declarations ds)) (parts_declaration d) ∙ ap (λ o. first_given ((view_ident (out-Declaration d).name, view_maybe_expr o) ∷ view_other_declarations ds)) has

all_from : (d : Ident × MaybeExpr) (ds : List (Ident × MaybeExpr)) → variable_list (declarations_from d ds) ≡ d ∷ ds
all_from d [] = refl
all_from d (c ∷ ds) = ap (λ more. d ∷ more) (all_from c ds)

-- the variables of a list are the first and those behind it
pub declared : (ds : Declarations) → variable_list (view_declarations ds) ≡ view_other_declarations ((out-Declarations ds).first ∷ nodes_of (out-Declarations ds).others)
declared ds = ap variable_list (parts_declarations ds) ∙ all_from (view_declaration (out-Declarations ds).first) (view_other_declarations (nodes_of (out-Declarations ds).others))

-- a variable without an initialiser is passed over
pub variables_behind : (tables : Tables) (inputs : Given) (set : BuiltIns) (functions : List FunctionCode) (i : ℕ) (s : State) (d : Declaration) (ds : List Declaration) → (out-Declaration d).value ≡ None
    → variables (planned tables inputs set functions) (entrance tables inputs set functions) (asking tables inputs set functions) (view_other_declarations (d ∷ ds)) i s ≡ variables (planned tables inputs set functions) (entrance tables inputs set functions) (asking tables inputs set functions) (view_other_declarations ds) i s
variables_behind tables inputs set functions i s d ds has =
    ap (λ p. variables (planned tables inputs set functions) (entrance tables inputs set functions) (asking tables inputs set functions) (p ∷ view_other_declarations ds) i s) (parts_declaration d ∙ ap (λ o. (view_ident (out-Declaration d).name, view_maybe_expr o)) has)
    ∙ absent_step tables inputs set functions i s (view_ident (out-Declaration d).name) (view_other_declarations ds)
