use Rattle.std.proofs.Common.{arith, ◌≤◌, length, sym}
use Rattle.channel_requests.proofs.ObjectRaises.{no_existence_past}
use Rattle.channel_requests.proofs.raising.existence_of.Goals as goal

pub returns-then-o-len : goal.returns-then-o-len
returns-then-o-len g c =
    let past : length c.args.world.now.heap ≤ c.args.o.0 = omega (arith, c.len.ensures.length, c.if-o-len.true) in
    sym (no_existence_past c.args.world.now.heap c.args.o.0 c.args.key.now past)
