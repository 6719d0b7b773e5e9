use Rattle.std.proofs.Common.{refl, sym, ◌≡◌, Some, None}
use Rattle.js_ast.specs.Views.{view_expr, view_other_declarations}
use Rattle.step_references.specs.Variables.{Variable, first_given}
use Rattle.step_references.proofs.Begun.{begun_here, begun_laid, begun_there}
use Rattle.step_references.proofs.VariableLaws.{variables_given, variables_none}
use Rattle.step_references.proofs.variables.declare_others.Goals as goal

pub returns-in-Some-clause-goes_on : goal.returns-in-Some-clause-goes_on
returns-in-Some-clause-goes_on g c =
    let ds = view_other_declarations c.args.list.now in
    let v : Variable = (c.in-Some.name.now, view_expr c.in-Some.value.now, view_other_declarations c.in-Some.rest.now) in
    let is : first_given ds ≡ Some v = sym (rw c.in-Some.is at c.first_given.ensures) in
    begun_there c.initialise.ensures.goes_on refl (λ tables inputs set functions reading f s read. sym (variables_given tables inputs set functions f.env.place s ds v is))

pub returns-in-None-clause-goes_on : goal.returns-in-None-clause-goes_on
returns-in-None-clause-goes_on g c =
    let ds = view_other_declarations c.args.list.now in
    let is : first_given ds ≡ None = sym (rw c.in-None.is at c.first_given.ensures) in
    begun_here (begun_laid refl (λ tables inputs set functions reading f s read. sym (variables_none tables inputs set functions f.env.place s ds is)))
