use Rattle.property_access.proofs.PropertyLaws.{held_value, held_getter}
use Rattle.property_access.proofs.properties.held.Goals as goal

pub returns-in_ok-value-in-Data-clause-access : goal.returns-in_ok-value-in-Data-clause-access
returns-in_ok-value-in-Data-clause-access g c = held_value g.L.Labels.made g.L.Labels.meaning c.join.new.labels c.args.label c.args.slot.now.label c.args.this c.args.slot.now.body c.in_ok-whole.whole c.in_ok-whole.ensures.means c.in-Data.value c.in_ok-value-in-Data.value c.in-Data.is c.in_ok-value-in-Data.ensures

pub returns-in-Accessor-clause-access : goal.returns-in-Accessor-clause-access
returns-in-Accessor-clause-access g c = held_getter g.L.Labels.made g.L.Labels.meaning c.join.new.labels c.args.label c.args.slot.now.label c.args.this c.args.slot.now.body c.in_ok-whole.whole c.in_ok-whole.ensures.means c.in-Accessor.get c.in-Accessor.set c.getter.result c.in-Accessor.is c.getter.ensures (c.join.ensures.kept.labels c.args.this.label c.requires.this).0
