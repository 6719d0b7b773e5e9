use Rattle.std.proofs.Common.{◌≡◌, ◌+◌, length}
use Rattle.std.specs.List.{All}
use Rattle.origin_labels.specs.Stores.{IsKept}
use Rattle.js_values.specs.Readings.{HasValue}
use Rattle.run_state.specs.Worlds.{Belongs, Grows}
use Rattle.step_statements.specs.Visiting.{VisitsAlike}
use Rattle.step_statements.proofs.visits.next_visit.Given as goal

-- the visits of all keys are, from the state now, those of the keys that are left
abbrev pub invariant-loop-left : goal.invariant-loop-left
invariant-loop-left g l = record {
  tasks : l.stack.tasks ≡ l.fn.stack.tasks;
  size : length l.stack.loose ≡ l.left + 1;
  made : All (HasValue (g.L.Labels.made l.labels)) l.stack.loose;
  alike : VisitsAlike g.L.Labels.made g.L.Labels.meaning l.labels l.enumeration l.count l.fn.stack.loose l.fn.world l.left l.stack.loose l.world;
  level : length l.world.frames.frames ≡ length l.fn.world.frames.frames;
  belongs : Belongs g.L.Labels.made g.L.Labels.meaning l.labels l.world;
  grows : Grows l.fn.world l.world;
  kept : IsKept g.L.Labels.made g.L.Labels.meaning g.L.Labels.room g.L.Labels.firm l.fn.labels l.labels;
}

abbrev pub decreases-loop-left : goal.decreases-loop-left
decreases-loop-left g l = l.left
