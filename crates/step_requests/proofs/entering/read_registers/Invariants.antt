use Rattle.step_requests.proofs.Held.{Reading}
use Rattle.step_requests.proofs.entering.read_registers.Given as goal

-- so many were read
abbrev pub invariant-registers : goal.invariant-registers
invariant-registers g l = Reading g.L.Labels.made g.L.Labels.meaning l.labels l.stack.loose l.registers l.register-index l.values.items
