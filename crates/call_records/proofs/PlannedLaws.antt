-- What is planned of a function.
use Rattle.std.proofs.Common.{sym, ap, ap₂, subst, ◌∙◌, ◌≡◌, ℕ, Bool, false, List, [], ◌++◌, Option}
use Rattle.js_ast.specs.declared.trees.Function.{Function as Node, out-Function}
use Rattle.js_ast.specs.declared.trees.Ident.{Ident}
use Rattle.js_ast.specs.Nodes.{nodes_of}
use Rattle.js_ast.specs.Trees as trees
use Rattle.js_ast.specs.Trees.{function_of, body_of}
use Rattle.js_ast.specs.Views.{view_function, view_name, view_idents, view_stmts}
use Rattle.js_ast.proofs.ViewLaws.{parts_function}
use Rattle.env_records.specs.Layouts.{LaidName}
use Rattle.es_meaning.specs.Declared.{declared_functions, declared_statements}
use Rattle.es_meaning.specs.Functions.{this_name, function_name}
use Rattle.es_meaning.specs.Naming.{names_in_statements}
use Rattle.call_records.specs.Planned.{names, with_names, with_arguments_name, arguments_place, parameter_names, function_names, Adds, IsPlanned}
use Rattle.call_records.proofs.NameLaws.{Keeps, kept_names, kept_arguments, are_kept}

module _ (first second third fourth last : List LaidName) (places function_places : List ℕ) (own : Option ℕ) (named : Bool) where
  planned_by : (at : ℕ) (ident : Option trees.Ident) (params : List trees.Ident) (body : trees.Statements) → first ≡ names false this_name ++ names false function_name → Adds (parameter_names params) first second [] places
      → Adds (function_names (declared_functions body)) second third [] function_places → named ≡ names_in_statements body → fourth ≡ with_arguments_name named third → own ≡ arguments_place named third → last ≡ with_names (declared_statements body) fourth
      → IsPlanned (function_of at ident params body) named last places function_places own
  planned_by at ident params body begins parameters functions names_it arguments there variables =
      let before : third ≡ with_names (function_names (declared_functions body)) (with_names (parameter_names params) (names false this_name ++ names false function_name)) =
      functions.names ∙ ap (with_names (function_names (declared_functions body))) (parameters.names ∙ ap (with_names (parameter_names params)) begins) in
      let keeps_last : Keeps fourth last = subst (Keeps fourth) (sym variables) (kept_names (declared_statements body) fourth) in
      let keeps_arguments : Keeps third fourth = subst (Keeps third) (sym arguments) (kept_arguments named third) in
      let keeps_functions : Keeps second third = subst (Keeps second) (sym functions.names) (kept_names (function_names (declared_functions body)) second) in
      record {
        named = names_it;
        names = variables ∙ ap (with_names (declared_statements body)) (arguments ∙ ap₂ (λ b ns. with_arguments_name b ns) names_it before);
        parameters = are_kept second last (λ name p is. keeps_last name p (keeps_arguments name p (keeps_functions name p is))) (parameter_names params) places (parameters.places [] tt);
        functions = are_kept third last (λ name p is. keeps_last name p (keeps_arguments name p is)) (function_names (declared_functions body)) function_places (functions.places [] tt);
        arguments = there ∙ ap₂ (λ b ns. arguments_place b ns) names_it before;
      }

  pub planned : (f : Node) (params : List Ident) → params ≡ nodes_of (out-Function f).params → first ≡ names false this_name ++ names false function_name → Adds (parameter_names (view_idents params)) first second [] places
      → Adds (function_names (declared_functions (view_stmts (nodes_of (out-Function f).body)))) second third [] function_places → named ≡ names_in_statements (body_of (view_function f)) → fourth ≡ with_arguments_name named third → own ≡ arguments_place named third
      → last ≡ with_names (declared_statements (view_stmts (nodes_of (out-Function f).body))) fourth → IsPlanned (view_function f) named last places function_places own
  planned f params listed begins parameters functions names_it arguments there variables =
      subst (λ g. IsPlanned g named last places function_places own) (sym (parts_function f))
      (planned_by (out-Function f).at (view_name (out-Function f).name) (view_idents (nodes_of (out-Function f).params)) (view_stmts (nodes_of (out-Function f).body)) begins
      (subst (λ ps. Adds (parameter_names (view_idents ps)) first second [] places) listed parameters) functions (names_it ∙ ap (λ g. names_in_statements (body_of g)) (parts_function f)) arguments there variables)
