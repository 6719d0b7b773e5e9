-- Faults of lines as faults of the whole.
use Rattle.std.specs.Prelude.{ℕ}
use Rattle.flow_policy.specs.declared.fault.LineFault.{LineFault}
use Rattle.flow_policy.specs.declared.fault.LineFault.TheVariants as line
use Rattle.flow_policy.specs.declared.fault.PolicyFault.{PolicyFault}
use Rattle.flow_policy.specs.declared.fault.PolicyFault.TheVariants as policy

-- the fault of the line with this number
abbrev pub fault_at : ℕ → LineFault → PolicyFault
fault_at number (line.Bad kind) = policy.Bad number kind
fault_at number line.OutOfMemory = policy.OutOfMemory
