use Rattle.js_ast.proofs.SortLaws.{sorted_places}
use Rattle.js_ast.proofs.orders.order_of_names.Goals as goal

pub returns : goal.returns
returns c = rw (c.in_ok-order.ensures, c.deref.ensures.value)
    (sorted_places (λ k. k.0.now) (λ k. k.1) _ _ _ c.in_ok-keyed.ensures c.sort_unstable.ensures.permutation c.sort_unstable.ensures.sorted)
