-- The numbers of the statuses, which the program ends with.
use Rattle.std.specs.Prelude.{ℕ}
use Rattle.js_shell.specs.declared.status.Status.{Status}
use Rattle.js_shell.specs.declared.status.Status.TheVariants.{Done, Threw, Usage, Source, Policy, Stopped, Left, OutOfTurns, ReadFault, WriteFault, OutOfMemory, Unfinished}

abbrev pub number_of : Status → ℕ
number_of Done = 0
number_of Threw = 1
number_of Usage = 2
number_of Source = 3
number_of Policy = 4
number_of Stopped = 5
number_of Left = 6
number_of OutOfTurns = 7
number_of ReadFault = 8
number_of WriteFault = 9
number_of OutOfMemory = 10
number_of Unfinished = 11
