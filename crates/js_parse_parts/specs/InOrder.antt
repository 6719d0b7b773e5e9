-- Objects whose properties go with their order.
use Rattle.std.specs.Prelude.{◌≡◌, ◌≤◌, Bool, length}
use Rattle.js_ast.specs.declared.node_list.NodeList.{NodeList}
use Rattle.js_ast.specs.declared.trees.Expr.{Expr}
use Rattle.js_ast.specs.declared.trees.ExprKind.TheVariants as expr
use Rattle.js_ast.specs.declared.trees.Property.{Property}
use Rattle.js_ast.specs.Nodes.{nodes_of}
use Rattle.js_ast.specs.Named.{name_of}
use Rattle.js_ast.specs.Orders.{KeepsOrder}

-- an object, and where it has eight properties or more, the list of them keeps their order
pub record IsOrderedObject (e : Expr) : Type 0 where
  pub list : NodeList Property
  pub comma : Bool
  pub is : e.kind.value ≡ expr.Object list comma
  pub order : 8 ≤ length (nodes_of list) → KeepsOrder name_of list
