use Rattle.prototype_walk.proofs.HeldLaws.{shape_has}
use Rattle.prototype_walk.proofs.KeyLaws.{own_listed}
use Rattle.prototype_walk.proofs.enumeration.own_keys.Goals as goal

pub join_existences-requires-clause-walk : goal.join_existences-requires-clause-walk
join_existences-requires-clause-walk g c = (shape_has (g.L.Labels.made c.args.labels.now) c.args.heap.now c.args.o.0 c.shape-shape.result c.requires.belongs c.shape-shape.ensures).0

pub returns-clause-keys : goal.returns-clause-keys
returns-clause-keys g c =
    own_listed g.L.Labels.made g.L.Labels.meaning c.join_existences.new.labels c.args.heap.now c.args.o.0 c.args.all (record { keys = c.in_ok-keys.keys; walk = c.in_ok-walk.walk }) c.shape-shape.result c.shape-shape.ensures c.in_ok-keys.ensures c.in_ok-walk.ensures.means
