use Rattle.std.proofs.Common.{refl, get_or, set}
use Rattle.call_records.proofs.JoinedLaws.{placing_goes, placing_ends}
use Rattle.call_records.proofs.entry.put_arguments.Goals as goal

pub places-preserved : goal.places-preserved
places-preserved g c =
    placing_goes g.L.Labels.made g.L.Labels.meaning g.L.Labels.room g.L.Labels.firm c.args.context c.args.labels.now c.args.args.now c.args.missing.now c.args.places.now c.args.all.now c.places.number c.places.labels c.next_argument.new.labels c.places.all
    (set c.places.all (get_or c.args.places.now c.places.number 0) c.in_ok-all.field-0) c.in_ok-all.field-0 c.places-test.true refl c.places.invariant c.next_argument.ensures.kept c.in_ok-all.ensures.next

pub returns-clause-placed : goal.returns-clause-placed
returns-clause-placed g c = placing_ends g.L.Labels.made g.L.Labels.meaning g.L.Labels.room g.L.Labels.firm c.args.context c.args.labels.now c.args.args.now c.args.missing.now c.args.places.now c.args.all.now c.places.number c.places.labels c.places.all c.places-test.false c.places.invariant
