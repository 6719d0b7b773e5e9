use Rattle.std.proofs.Common.{arith, ◌≤◌, length}
use Rattle.property_access.proofs.HeldLaws.{structure_has}
use Rattle.property_requests.proofs.ExtendingLaws.{extensible_nowhere, extensible_found}
use Rattle.property_requests.proofs.extending.extensible_in.Goals as goal

pub returns-then-o-len-clause-finds : goal.returns-then-o-len-clause-finds
returns-then-o-len-clause-finds g c =
    let past : length c.args.world.now.heap ≤ c.args.o.0 = omega (arith, c.len.ensures.length, c.if-o-len.true) in
    extensible_nowhere g.L.Labels.made g.L.Labels.meaning c.args.labels.now c.args.world.now.heap c.args.o.0 c.args.label past

pub join-requires-clause-second : goal.join-requires-clause-second
join-requires-clause-second g c = structure_has c.args.world.now.heap c.args.o.0 (g.L.Labels.made c.args.labels.now) c.shape-shape.result c.requires.belongs.heap c.shape-shape.ensures

pub returns-clause-finds : goal.returns-clause-finds
returns-clause-finds g c = extensible_found g.L.Labels.made g.L.Labels.meaning c.join.new.labels c.args.world.now.heap c.args.o.0 c.args.label c.shape-shape.result c.shape-shape.ensures c.in_ok-depends.depends c.in_ok-depends.ensures.means
