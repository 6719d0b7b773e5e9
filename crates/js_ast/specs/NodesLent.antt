-- What a list of nodes ends as where its nodes are lent.
use Rattle.std.specs.Prelude.{List}
use Rattle.std.specs.Borrow.{Lends, MutBor, Fml, RattleType, Array}
use Rattle.std.specs.Vec.{with_items}
use Rattle.js_ast.specs.declared.node_list.NodeList.{NodeList}
use Rattle.js_ast.specs.contracts.node_list.NodeList.{the_row}

-- the list with other nodes
abbrev pub with_nodes : {T : Type 0} → NodeList T → List T → NodeList T
with_nodes l nodes = record l { nodes = with_items l.nodes nodes }

-- the list ends with what its nodes end as
abbrev pub LendsNodes : (T : RattleType) → MutBor (the_row T).Denot → MutBor (List T.Denot) → Fml
LendsNodes T l r = Lends (the_row T) (Array T 0) l r (with_nodes l.now)
