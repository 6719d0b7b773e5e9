use Rattle.call_records.proofs.JoinedLaws.{Placing}
use Rattle.call_records.proofs.entry.put_arguments.Given as goal

abbrev pub invariant-places : goal.invariant-places
invariant-places g l = Placing g.L.Labels.made g.L.Labels.meaning g.L.Labels.room g.L.Labels.firm l.context l.initial.labels l.args l.missing l.places l.initial.all l.number l.labels l.all
