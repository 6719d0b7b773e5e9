use Rattle.std.proofs.Common.{◌≡◌, ◌≤◌, false}
use Rattle.origin_labels.specs.Stores.{IsKept}
use Rattle.es_meaning.specs.BuiltIns.{built_ins_of}
use Rattle.step_core.specs.Machines.{Runs, ahead}
use Rattle.step_run.proofs.PutLaws.{SoFar}
use Rattle.step_run.proofs.putting.put_lines.Given as goal

-- what was printed so far was put, and the run goes on from the machine
abbrev pub invariant-steps : goal.invariant-steps
invariant-steps g l =
    let store = g.L.Labels in
    let sink = g.K.Sink in
    let N = g.N.Natives in
    let set = built_ins_of (N.entries l.natives) (N.begin l.natives) (N.after l.natives) (N.asks l.natives) in
    record {
      so_far : SoFar set (N.after l.natives) (N.asks l.natives) store.made store.meaning l.show l.policy l.fn.machine l.labels l.machine (sink.taken l.fn.sink) (sink.taken l.sink);
      runs : Runs store.made store.meaning store.room l.labels l.machine;
      policy : l.machine.policy.now ≡ l.policy;
      kept : IsKept store.made store.meaning store.room store.firm l.fn.labels l.labels;
      open_sink : sink.shut l.sink ≡ false;
      faults : sink.faults l.fn.sink ≤ sink.faults l.sink;
    }

abbrev pub decreases-steps : goal.decreases-steps
decreases-steps g l = ahead l.machine
