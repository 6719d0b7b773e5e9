use Rattle.std.proofs.Common.{ℕ, List, ◌++◌, ap, ap₂, ◌∙◌}
use Rattle.step_run.proofs.Words.{object_units}
use Rattle.step_run.proofs.Walking.{shown_there}
use Rattle.step_run.proofs.showing.object_text.Goals as goal

pub returns : goal.returns
returns g c =
    c.in_ok-push_units.ensures.ok
    ∙ ap₂ (λ (a b : List ℕ). a ++ b) (c.in_ok-all.ensures ∙ ap (λ (w : List ℕ). w ++ c.in_ok-class.class) object_units) c.units.ensures
    ∙ shown_there c.args.heap.now c.args.o c.shape.result c.in_ok-class.class c.in_ok-name.name c.shape.ensures c.in_ok-class.ensures c.in_ok-name.ensures
