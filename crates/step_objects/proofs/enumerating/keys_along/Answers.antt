use Rattle.std.proofs.Common.{arith, ◌≤◌, length}
use Rattle.step_objects.proofs.TakingLaws.{no_keys_along}
use Rattle.step_objects.proofs.enumerating.keys_along.Goals as goal

pub returns-clause-keys : goal.returns-clause-keys
returns-clause-keys g c =
    let past : length c.args.world.now.heap ≤ c.args.o.0 = omega (arith, c.len.ensures.length, c.if-o-len.false) in
    no_keys_along g.L.Labels.made g.L.Labels.meaning c.args.labels.now c.args.world.now.heap c.args.o.0 past c.no_keys.result c.no_keys.ensures.keys c.no_keys.ensures.made c.no_keys.ensures.meaning
