use Rattle.std.proofs.Common.{◌≡◌, length}
use Rattle.std.specs.List.{All}
use Rattle.origin_labels.specs.Stores.{IsKept}
use Rattle.js_values.specs.Readings.{HasValue}
use Rattle.function_table.specs.Tables.{table}
use Rattle.run_state.specs.Worlds.{Belongs, Grows}
use Rattle.step_literals.specs.Building.{Made}
use Rattle.step_literals.proofs.objects.object.Given as goal

-- what is left of the literal from here on is what was to be done
abbrev pub invariant-along : goal.invariant-along
invariant-along g l = record {
  loose : length l.stack.loose ≡ l.done;
  tasks : l.stack.tasks ≡ l.fn.stack.tasks;
  has : All (HasValue (g.L.Labels.made l.labels)) l.stack.loose;
  frames : length l.world.frames.frames ≡ length l.fn.world.frames.frames;
  belongs : Belongs g.L.Labels.made g.L.Labels.meaning l.labels l.world;
  grows : Grows l.fn.world l.world;
  kept : IsKept g.L.Labels.made g.L.Labels.meaning g.L.Labels.room g.L.Labels.firm l.fn.labels l.labels;
  makes : Made g.L.Labels.made g.L.Labels.meaning l.labels (table l.functions) l.at.0 l.list l.fn.count l.done l.fn.stack.loose l.stack.loose l.fn.world l.world;
}
