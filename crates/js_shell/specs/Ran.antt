-- What a run puts on a sink.
use Rattle.std.specs.Prelude.{Bool, false, Option, Some, None, is_some}
use Rattle.origin_labels.specs.Label.{Label}
use Rattle.step_run.specs.declared.ending.Show.{Show}
use Rattle.step_run.specs.declared.ending.Show.TheVariants as show
use Rattle.step_run.specs.declared.ending.Ending as code
use Rattle.step_run.specs.declared.ending.Ending.TheVariants as ending
use Rattle.step_run.specs.Ran.{told_by}
use Rattle.js_shell.specs.declared.status.Status.{Status}
use Rattle.js_shell.specs.declared.status.Status.TheVariants as status

-- which lines of a task are shown
abbrev pub show_of : Option Label → Show
show_of None = show.All
show_of (Some observer) = show.Only observer

-- whether a report follows the lines of a run: not for an observer, and not where a fault or want of memory ended the run early
abbrev pub has_report : Option Label → code.Ending → Bool
has_report None e = is_some (told_by e)
has_report (Some observer) e = false

-- the status of a run that the code ends so
abbrev pub ended : code.Ending → Status
ended ending.Done = status.Done
ended (ending.Threw shown) = status.Threw
ended (ending.Stopped rule need have) = status.Stopped
ended (ending.Left why) = status.Left
ended ending.OutOfTurns = status.OutOfTurns
ended ending.WriteFault = status.WriteFault
ended ending.OutOfMemory = status.OutOfMemory
