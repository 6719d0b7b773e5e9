-- Answers of calls that may want memory.
use Rattle.std.specs.Prelude.{◌≡◌, ℕ, List, Result, Ok, Err}
use Rattle.std.specs.Str.{IsUtf8, IsValidUpTo}
use Rattle.flow_text.specs.declared.text.TextFault.{TextFault}
use Rattle.flow_text.specs.declared.text.TextFault.TheVariants.{BadUtf8, OutOfMemory}

-- what reading gave is what it should give, unless memory ran out
abbrev pub GivesText : Result (List ℕ) TextFault → Result (List ℕ) ℕ → Type 0
GivesText (Ok text) read = read ≡ Ok text
GivesText (Err (BadUtf8 at)) read = read ≡ Err at
GivesText (Err OutOfMemory) read = Unit {0}

-- the bytes aren't UTF-8, and their first `at` are the longest front that is; memory is only wanted for bytes that are
abbrev pub IsFaultOf : List ℕ → TextFault → Type 0
IsFaultOf bytes (BadUtf8 at) = ¬ (IsUtf8 bytes) × IsValidUpTo bytes at
IsFaultOf bytes OutOfMemory = IsUtf8 bytes
