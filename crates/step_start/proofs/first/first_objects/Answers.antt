use Rattle.std.proofs.Common.{ap, ◌∙◌, [], ◌∷◌}
use Rattle.es_meaning.specs.Start.{prototype_of_functions}
use Rattle.plain_heap.specs.PlainObjects.{PlainObjects, with_more}
use Rattle.step_start.specs.FirstObjects.{first_two, prototypes_of_errors, holders, accessors}
use Rattle.step_start.proofs.first.first_objects.Goals as goal

pub returns : goal.returns
returns g c =
    c.in_ok-make_accessors.ensures
    ∙ ap (with_more accessors) (c.in_ok-make_holders.ensures.ok
    ∙ ap (with_more holders) (c.in_ok-make_function_prototype.ensures.ok
    ∙ ap (with_more (prototype_of_functions ∷ [])) (c.in_ok-make_errors.ensures.ok
    ∙ ap (with_more prototypes_of_errors) (c.in_ok-make_global.ensures.ok
    ∙ ap (λ (h : PlainObjects g.row.T.Denot). record { label = h.label; objects = first_two }) c.new-heap.ensures))))
