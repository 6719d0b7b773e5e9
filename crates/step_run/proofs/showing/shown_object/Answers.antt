use Rattle.std.proofs.Common.{◌≡◌, ◌≤◌, ℕ, List, IfOk, length, subst, ◌∙◌, arith}
use Rattle.step_run.proofs.Words.{object_units}
use Rattle.step_run.proofs.Walking.{shown_nowhere}
use Rattle.step_run.proofs.showing.shown_object.Goals as goal

pub returns-else-o-len : goal.returns-else-o-len
returns-else-o-len g c =
    let past : length c.args.heap.now ≤ c.args.o.0 = omega (arith, c.len.ensures.length, c.if-o-len.false) in
    subst (λ (w : List ℕ). IfOk c.spelled.result (λ t. t ≡ w)) (object_units ∙ shown_nowhere c.args.heap.now c.args.o past) c.spelled.ensures
