use Rattle.std.proofs.Common.{ap, ◌∙◌}
use Rattle.std.specs.Option.{option_map}
use Rattle.es_meaning.specs.Requested.{count_in}
use Rattle.flow_meaning.specs.Erased.{erased_slot}
use Rattle.property_requests.proofs.binding.own_count.Goals as goal

pub returns-in-None-clause-number : goal.returns-in-None-clause-number
returns-in-None-clause-number g c = ap (λ s. count_in (option_map erased_slot s)) c.in-None.ensures

pub returns-in-Some-clause-number : goal.returns-in-Some-clause-number
returns-in-Some-clause-number g c = c.count_in.ensures.number ∙ ap (λ s. count_in (option_map erased_slot s)) c.in-Some.ensures
