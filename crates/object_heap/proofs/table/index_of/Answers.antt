use Rattle.std.proofs.Common.{◌+◌, ◌++◌, ◌∷◌, [], take, ap, sym, ◌∙◌, ◌≡◌, suc, ℕ, List, arith}
use Rattle.js_values.specs.Objects.{keys_of}
use Rattle.object_heap.proofs.TableLaws.{agrees, keys_next}
use Rattle.object_heap.proofs.table.index_of.Goals as goal

pub loop-row-preserved : goal.loop-row-preserved
loop-row-preserved g c =
    let i = c.loop-row.row-index in
    let keys = keys_of (take i c.args.rows.now) in
    let next : i + 1 ≡ suc i = omega arith in
    agrees c.insert_key.new.index (keys ++ c.key.result.now ∷ []) (keys_of (take (i + 1) c.args.rows.now))
    (keys_next c.args.rows.now i (i + 1) c.row-item.result c.loop-row-test.true c.row-item.is next ∙ ap (λ (k : List ℕ). keys ++ k ∷ []) (sym c.key.ensures))
    (c.in_ok-insert_key.ensures.ok keys c.loop-row.invariant)
