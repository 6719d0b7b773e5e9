use Rattle.std.proofs.Common.{◌≡◌, ◌++◌, replicate}
use Rattle.es_meaning.specs.Plain.{undefined}
use Rattle.continuations.proofs.registers.lay_undefined.Given as goal

-- so many were laid
abbrev pub invariant-loop : goal.invariant-loop
invariant-loop g l = record {
  tasks : l.stack.tasks ≡ l.fn.stack.tasks;
  laid : l.stack.loose ≡ l.fn.stack.loose ++ replicate l.counter (record { value = undefined; label = l.none });
}
