use Rattle.std.proofs.Common.{arith, ◌≤◌, length, ◌∙◌}
use Rattle.property_requests.proofs.ErasedLaws.{function_nowhere, function_shaped}
use Rattle.property_requests.proofs.descriptor.is_callable.Goals as goal

pub returns-then-o-len : goal.returns-then-o-len
returns-then-o-len g c =
    let past : length c.args.heap.now ≤ c.args.o.0 = omega (arith, c.len.ensures.length, c.if-o-len.true) in
    function_nowhere c.args.heap.now c.args.o.0 past

pub returns : goal.returns
returns g c = c.can_be_called.ensures ∙ function_shaped c.args.heap.now c.args.o.0 c.shape-shape.result c.shape-shape.ensures
