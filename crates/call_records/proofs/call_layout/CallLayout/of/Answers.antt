use Rattle.std.proofs.Common.{◌∙◌}
use Rattle.call_records.proofs.PlannedLaws.{planned}
use Rattle.call_records.proofs.call_layout.CallLayout.of.Goals as goal

pub invariant_of-result : goal.invariant_of-result
invariant_of-result c =
    planned c.in_ok-names.names c.place_parameters.new.layout c.place_functions.new.layout c.place_arguments.new.layout c.in_ok-names-2.names.value c.in_ok-parameters.parameters.items c.in_ok-functions.functions.items c.in_ok-arguments.arguments c.names_arguments-names_arguments.result
    c.args.f.now c.items.result.now c.items.ensures c.in_ok-names.ensures c.in_ok-parameters.ensures c.in_ok-functions.ensures c.names_arguments-names_arguments.ensures c.in_ok-arguments.ensures.names c.in_ok-arguments.ensures.place (c.in_ok-names-2.ensures.ok ∙ c.in_ok-in_list.ensures)
