use Rattle.std.proofs.Common.{rules}
use Rattle.js_ast.specs.Keys.{key_text}
use Rattle.js_ast.specs.Views.{view_key}
use Rattle.js_ast.proofs.SortLaws.{sorted_by_key, sorted_places}
use Rattle.js_ast.proofs.orders.order_of_properties.Goals as goal

pub returns : goal.returns
returns c = rw (c.in_ok-order.ensures, c.deref.ensures.value)
    (sorted_places (λ k. key_text (view_key k.0.now)) (λ k. k.1) _ _ _ c.in_ok-keyed.ensures c.sort_unstable_by.ensures.permutation
    (sorted_by_key (λ k. key_text (view_key k.0.now)) (λ k. k.1) _ c.sort_unstable_by.ensures.sorted (λ a r q k. search rules)))
