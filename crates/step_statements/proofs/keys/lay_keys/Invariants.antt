use Rattle.std.proofs.Common.{◌≡◌, ◌≤◌, ◌++◌, length}
use Rattle.step_statements.specs.Visiting.{laid_keys}
use Rattle.step_statements.proofs.keys.lay_keys.Given as goal

-- the keys that lie there, and those that are to be laid, are all
abbrev pub invariant-loop-left : goal.invariant-loop-left
invariant-loop-left g l = record {
  tasks : l.stack.tasks ≡ l.fn.stack.tasks;
  laid : l.stack.loose ++ laid_keys l.none l.left ≡ l.fn.stack.loose ++ laid_keys l.none l.keys;
  fewer : length l.left ≤ l.count;
}

abbrev pub decreases-loop-left : goal.decreases-loop-left
decreases-loop-left g l = length l.left
