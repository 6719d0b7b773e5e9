use Rattle.std.proofs.Common.{◌≡◌, ◌++◌, take}
use Rattle.step_calling.proofs.lists.append.Given as goal

-- so many values were appended
abbrev pub invariant-loop-value : goal.invariant-loop-value
invariant-loop-value g l = l.list ≡ l.initial.list ++ take l.value-index l.values
