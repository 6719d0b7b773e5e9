use Rattle.std.proofs.Common.{◌≡◌, map, take}
use Rattle.js_ast.proofs.orders.places.Given as goal

abbrev pub invariant-keyed : goal.invariant-keyed
invariant-keyed g l = l.order.items ≡ map (λ k. k.1) (take l.place-index l.keyed)
