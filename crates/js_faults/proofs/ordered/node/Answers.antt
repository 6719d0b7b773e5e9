use Rattle.js_faults.proofs.Walking.{shown_at}
use Rattle.js_faults.proofs.ordered.node.Goals as goal

pub returns : goal.returns
returns g c = shown_at g.T.Keyed.entry c.args.nodes.now c.args.i c.index-nodes-i.result c.requires c.index-nodes-i.is
