use Rattle.std.proofs.Common.{refl, sym, ap, ◌∙◌, ◌≡◌, ◌∷◌, Some}
use Rattle.js_ast.specs.Nodes.{nodes_of}
use Rattle.js_ast.specs.Views.{view_expr, view_other_declarations}
use Rattle.js_ast.specs.declared.trees.Declaration.{out-Declaration}
use Rattle.js_ast.specs.declared.trees.Declarations.{out-Declarations}
use Rattle.es_meaning.specs.Evaluation.{variables}
use Rattle.flow_meaning.specs.Planned.{asking, planned}
use Rattle.continuations.specs.Settings.{entrance}
use Rattle.step_references.specs.Variables.{Variable, first_given}
use Rattle.step_references.proofs.Begun.{begun_there}
use Rattle.step_references.proofs.VariableLaws.{declared, given_here, variables_behind, variables_given}
use Rattle.step_references.proofs.variables.declare.Goals as goal

pub returns-in-Some-clause-goes_on : goal.returns-in-Some-clause-goes_on
returns-in-Some-clause-goes_on g c =
    let l = c.args.list.now in
    let d = (out-Declarations l).first in
    let others = nodes_of (out-Declarations l).others in
    let v : Variable = ((out-Declaration d).name.text, view_expr c.in-Some.value, view_other_declarations c.items.result.now) in
    let is : first_given (view_other_declarations (d ∷ others)) ≡ Some v = given_here d others c.in-Some.value c.in-Some.is ∙ ap (λ ys. Some ((out-Declaration d).name.text, view_expr c.in-Some.value, view_other_declarations ys)) (sym c.items.ensures) in
    begun_there c.initialise.ensures.goes_on refl (λ tables inputs set functions reading f s read. sym (ap (λ ds. variables (planned tables inputs set functions) (entrance tables inputs set functions) (asking tables inputs set functions) ds f.env.place s) (declared l) ∙ variables_given tables inputs set functions f.env.place s (view_other_declarations (d ∷ others)) v is))

pub returns-in-None-clause-goes_on : goal.returns-in-None-clause-goes_on
returns-in-None-clause-goes_on g c =
    let l = c.args.list.now in
    let d = (out-Declarations l).first in
    let others = nodes_of (out-Declarations l).others in
    begun_there c.declare_others.ensures.goes_on refl (λ tables inputs set functions reading f s read. sym (ap (λ ds. variables (planned tables inputs set functions) (entrance tables inputs set functions) (asking tables inputs set functions) ds f.env.place s) (declared l) ∙ variables_behind tables inputs set functions f.env.place s d others c.in-None.is ∙ ap (λ ys. variables (planned tables inputs set functions) (entrance tables inputs set functions) (asking tables inputs set functions) (view_other_declarations ys) f.env.place s) (sym c.items-in-None.ensures)))
