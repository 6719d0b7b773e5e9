use Rattle.std.proofs.Common.{◌≡◌, ◌+◌, suc, option_map, arith}
use Rattle.object_heap.proofs.BoundLaws.{highest_next, highest_done}
use Rattle.object_heap.proofs.table.highest_listed.Goals as goal

pub loop-row-preserved : goal.loop-row-preserved
loop-row-preserved g c =
    let i = c.loop-row.row-index in
    let next : i + 1 ≡ suc i = omega arith in
    highest_next c.args.n c.args.rows.now i (i + 1) c.row-item.result (option_map (λ e. (e.0, e.1.now)) c.loop-row.found) (option_map (λ e. (e.0, e.1.now)) c.higher-found.result) c.loop-row-test.true c.row-item.is next c.higher-found.ensures c.loop-row.invariant

pub returns : goal.returns
returns g c =
    highest_done c.args.n c.args.rows.now c.loop-row.row-index (option_map (λ e. (e.0, e.1.now)) c.loop-row.found) (omega (arith, c.loop-row-test.false)) c.loop-row.invariant
