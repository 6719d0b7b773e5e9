use Rattle.std.proofs.Common.{◌≡◌, ◌++◌, take}
use Rattle.step_requests.proofs.entering.lay_all.Given as goal

-- so many values were laid
abbrev pub invariant-loop-value : goal.invariant-loop-value
invariant-loop-value g l = record {
  tasks : l.stack.tasks ≡ l.initial.stack.tasks;
  laid : l.stack.loose ≡ l.initial.stack.loose ++ take l.value-index l.values;
}
