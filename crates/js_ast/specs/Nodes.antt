-- What a list of nodes shows.
use Rattle.std.specs.Prelude.{ℕ, List}
use Rattle.js_ast.specs.declared.node_list.NodeList.{NodeList}

-- its nodes in their order
abbrev pub nodes_of : {T : Type 0} → NodeList T → List T
nodes_of l = l.nodes.items

-- the places of its nodes in an order that was set, if one was
abbrev pub order_of : {T : Type 0} → NodeList T → List ℕ
order_of l = l.order.items
