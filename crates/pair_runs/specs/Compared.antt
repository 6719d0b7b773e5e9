-- How a pair ends with runs whose endings are known.
use Rattle.std.specs.Prelude.{Bool, false, ◌&&◌, Option, Some, None, is_some, Result, Ok, Err, if◌then◌else◌}
use Rattle.es_meaning.specs.Outcomes.{Ending}
use Rattle.flow_meaning.specs.Scopes.{Halt}
use Rattle.step_run.specs.declared.ending.Ending as code
use Rattle.step_run.specs.Ran.{told_by}
use Rattle.pair_runs.specs.declared.pairing.PairEnd.{PairEnd}
use Rattle.pair_runs.specs.declared.pairing.PairEnd.TheVariants as pair_end
use Rattle.pair_runs.specs.Pairs.{is_finished}

-- whether an ending is known, and is that of a finished run
abbrev pub known_finished : Option (Ending Halt) → Bool
known_finished None = false
known_finished (Some ending) = is_finished ending

-- no fault and no want of memory ended a run early
abbrev pub are_told : code.Ending → code.Ending → Bool
are_told first second = is_some (told_by first) && is_some (told_by second)

abbrev pub both_finished : code.Ending → code.Ending → Bool
both_finished first second = known_finished (told_by first) && known_finished (told_by second)

-- both runs are finished, or how the pair ends without a view
unfoldable pub compared : code.Ending → code.Ending → Result (Unit {0}) PairEnd
compared first second =
    if are_told first second
    then (if both_finished first second then Ok tt else Err (pair_end.Unfinished first second))
    else Err pair_end.OutOfMemory
