use Rattle.step_start.proofs.EntryLaws.{SoFar}
use Rattle.step_start.proofs.entries.start_objects.Given as goal

abbrev pub invariant-entries : goal.invariant-entries
invariant-entries g l = SoFar l.fn.label (g.N.Natives.entries l.natives) l.which l.heap
