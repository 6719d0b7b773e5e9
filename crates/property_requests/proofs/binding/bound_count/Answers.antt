use Rattle.std.proofs.Common.{pos, ◌-◌, ap, ◌∙◌}
use Rattle.std.specs.List.{slice_get}
use Rattle.std.specs.Option.{option_map}
use Rattle.object_heap.specs.Formed.{own_in}
use Rattle.es_meaning.specs.Requested.{count_in}
use Rattle.flow_meaning.specs.Erased.{erased_slot}
use Rattle.property_requests.proofs.BindingLaws.{count_taken}
use Rattle.property_requests.proofs.binding.bound_count.Goals as goal

pub returns : goal.returns
returns g c =
    c.number_of.ensures
    ∙ ap (λ n. pos n) (c.saturating_sub.ensures
    ∙ ap (λ n. n - c.args.given) (c.own_count-own.ensures.number ∙ ap (λ key. count_in (option_map erased_slot (own_in key (slice_get c.args.heap.now c.args.o.0)))) c.requires.key)
    ∙ count_taken c.args.heap.now c.args.o.0 c.args.given)
