-- The registers that the functions of Object use besides `this` and their arguments.
use Rattle.std.specs.Prelude.{ℕ, ◌+◌}
use Rattle.native_protocol.specs.Steps.{reg, first_free}
use Rattle.object_functions.specs.declared.registers.Registers.{Registers}
use Rattle.descriptor_pieces.specs.Properties.{registers_from}

-- those from a number on: four for a property, four more, and all behind them
abbrev pub registers_at : ℕ → Registers
registers_at n = record { own = registers_from n; first = reg (n + 4); second = reg (n + 5); third = reg (n + 6); fourth = reg (n + 7); free = n + 8 }

-- those behind so many arguments
abbrev pub registers : ℕ → Registers
registers argc = registers_at (first_free argc)
