use Rattle.std.proofs.Common.{map}
use Rattle.function_table.specs.Tables.{table}
use Rattle.js_values.specs.Readings.{read_value}
use Rattle.step_natives.specs.Framed.{steps_at}
use Rattle.run_state.specs.Worlds.{state_of}
use Rattle.continuations.specs.Going.{here}
use Rattle.continuations.specs.Pending.{setting_above}
use Rattle.continuations.specs.Settings.{setting_of}
use Rattle.step_core.proofs.Adding.{adds_lines}
use Rattle.step_core.proofs.laws.only_adds.Goals as goal

pub returns : goal.returns
returns g c = λ set tells asks reading m told.
    let stack = m.progress.stack in
    let e = setting_of (steps_at tells asks m.progress.natives m.next) here in
    adds_lines m.policy.now m.inputs.now set (table m.functions) reading stack.tasks e (setting_above stack.tasks e) m.next (map (read_value reading) stack.loose) (state_of reading m.progress.world told m.progress.turns)
