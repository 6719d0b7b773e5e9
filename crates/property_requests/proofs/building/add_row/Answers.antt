use Rattle.property_requests.proofs.BuildingLaws.{unstopped}
use Rattle.property_requests.proofs.building.add_row.Goals as goal

pub unreachable-requires : goal.unreachable-requires
unreachable-requires g c =
    let stops = rw c.in-Err-Stop.field-0-is at c.in-Err-Stop.ensures.acts.stops in
    unstopped g.L.Labels.made g.L.Labels.meaning g.L.Labels.room g.L.Labels.firm c.args.labels.now c.add.new.labels c.add.ensures.kept c.args.context c.args.label c.args.o.0 c.args.key c.args.body c.args.marks c.args.heap.now c.requires.opened c.in-Err-Stop.field-0-0 stops.2

pub returns-in-Ok-clause-adds : goal.returns-in-Ok-clause-adds
returns-in-Ok-clause-adds g c = record { says = c.in-Ok.ensures.acts.does }
