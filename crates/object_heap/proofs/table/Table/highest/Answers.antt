use Rattle.std.proofs.Common.{◌≤◌, arith}
use Rattle.object_heap.proofs.BoundLaws.{bound_more}
use Rattle.object_heap.proofs.table.Table.highest.Goals as goal

pub returns-then-self-n : goal.returns-then-self-n
returns-then-self-n g c =
    let le : c.self.inside.bound ≤ c.args.n = omega (arith, c.if-self-n.true) in
    bound_more c.self.inside.bound c.args.n c.args.self.now c.self.inside.rows.items c.self.view_is le c.self.invariant.1
