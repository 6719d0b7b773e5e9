use Rattle.std.proofs.Common.{◌≡◌, ◌+◌, take, sym, ◌∙◌}
use Rattle.std.proofs.lemmas.List.{take_more}
use Rattle.js_parse_parts.proofs.ListLaws.{last_item}
use Rattle.js_parse_parts.proofs.node_lists.ends_with_item.Goals as goal

pub loop-item-preserved : goal.loop-item-preserved
loop-item-preserved c =
    let items = c.items-item-items.result.now in
    let e : take (c.loop-item.item-index + 1) items ≡ _ = take_more items c.loop-item.item-index c.item-item.result c.loop-item-test.true in
    rw (e, ← c.item-item.is) (c.is_value-ends.ensures ∙ sym (last_item (take c.loop-item.item-index items) c.item-item.result))
