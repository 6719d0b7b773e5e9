use Rattle.std.proofs.Common.{◌≡◌, ◌≤◌, List}
use Rattle.origin_labels.specs.Stores.{IsKept}
use Rattle.origin_labels.specs.Label.{Label}
use Rattle.js_values.specs.Readings.{IsReading}
use Rattle.es_meaning.specs.BuiltIns.{built_ins_of}
use Rattle.flow_meaning.specs.Scopes.{LabelledLine}
use Rattle.function_table.specs.Tables.{table}
use Rattle.run_state.specs.Worlds.{Grows}
use Rattle.step_core.specs.RemainingRun.{ahead, remaining_run}
use Rattle.step_core.specs.Stepping.{StandsBefore}
use Rattle.step_core.proofs.stepping.run_on.Given as goal

-- what is left of the run is what the run comes to
abbrev pub invariant-steps : goal.invariant-steps
invariant-steps g l =
    let L = g.L.Labels in
    let N = g.N.Natives in
    let set = built_ins_of (N.entries l.natives) (N.begin l.natives) (N.after l.natives) (N.asks l.natives) in
    record {
      comes : (reading : g.row.L-Label.Denot → Label) (told : List LabelledLine) → IsReading L.made L.meaning l.labels reading → remaining_run l.policy l.inputs set (table l.functions) (N.after l.natives) (N.asks l.natives) reading l.fn.progress l.fn.first told ≡ remaining_run l.policy l.inputs set (table l.functions) (N.after l.natives) (N.asks l.natives) reading l.progress l.next told;
      standing : StandsBefore L.made L.meaning l.labels l.progress l.next;
      less : ahead l.progress l.next ≤ ahead l.fn.progress l.fn.first;
      grows : Grows l.fn.progress.world l.progress.world;
      kept : IsKept L.made L.meaning L.room L.firm l.fn.labels l.labels;
    }

abbrev pub decreases-steps : goal.decreases-steps
decreases-steps g l = ahead l.progress l.next
