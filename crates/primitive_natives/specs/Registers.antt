-- The registers that a built-in uses besides `this` and its arguments.
use Rattle.std.specs.Prelude.{ℕ, ◌+◌}
use Rattle.native_protocol.specs.Steps.{reg, first_free}
use Rattle.primitive_natives.specs.declared.scratch.Scratch.{Scratch}

-- four behind the arguments
abbrev pub scratch : ℕ → Scratch
scratch argc = record { first = reg (first_free argc); second = reg (first_free argc + 1); third = reg (first_free argc + 2); fourth = reg (first_free argc + 3) }
