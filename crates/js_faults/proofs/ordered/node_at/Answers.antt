use Rattle.js_faults.proofs.Walking.{names_node}
use Rattle.js_faults.proofs.ordered.node_at.Goals as goal

pub node-requires : goal.node-requires
node-requires g c = names_node g.T.Keyed.entry c.args.nodes.now c.args.order.now c.args.p c.requires.order c.requires.place
