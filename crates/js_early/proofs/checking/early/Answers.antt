use Rattle.std.proofs.Common.{[], sym, subst, ◌≤◌, ◌∙◌}
use Rattle.js_ast.specs.Views.{view_program}
use Rattle.js_faults.specs.declared.fault.EarlyError.{EarlyError}
use Rattle.js_faults.proofs.Placed.{early_in_statements}
use Rattle.js_early.proofs.checking.early.Goals as goal

pub returns-in-Some-clause-place : goal.returns-in-Some-clause-place
returns-in-Some-clause-place c = λ tokens end spelled all.
    subst (λ (f : EarlyError). f.at ≤ end) (sym c.early_fault.ensures) (early_in_statements end tokens [] all (view_program c.args.program.now) spelled c.in-Some.fault (sym c.early_error.ensures ∙ c.in-Some.is))
