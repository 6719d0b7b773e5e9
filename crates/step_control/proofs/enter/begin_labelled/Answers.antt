use Rattle.std.proofs.Common.{sym}
use Rattle.js_ast.specs.Views.{view_stmt}
use Rattle.step_control.proofs.NamedLaws.{passed_one}
use Rattle.step_control.proofs.enter.begin_labelled.Goals as goal

pub returns-in-Some-clause-plan : goal.returns-in-Some-clause-plan
returns-in-Some-clause-plan c tables inputs set functions vs e s at there =
    passed_one tables inputs set functions c.args.passed (view_stmt c.args.of.now) e.env s c.in-Some.passed _ at c.args.label.now (view_stmt c.args.body.now) c.in-Some.ensures.1 (sym c.if-carries_labels.ensures) there
