-- Which of a run's lines are shown.
use Rattle.std.specs.Prelude.{ℕ, Bool, true, List, map}
use Rattle.origin_labels.specs.Label.{sees}
use Rattle.flow_policy.specs.declared.policy.Channel.{Channel}
use Rattle.flow_policy.specs.Policies.{Tables}
use Rattle.flow_meaning.specs.Scopes.{LabelledLine}
use Rattle.flow_meaning.specs.Written.{lines_bytes}
use Rattle.low_equal.specs.Observed.{seen_lines}
use Rattle.step_run.specs.declared.ending.Show.{Show}
use Rattle.step_run.specs.declared.ending.Show.TheVariants as show

-- whether the lines of a channel are shown: all are, or those on the channels that an observer sees
abbrev pub shows : Show → Channel → Bool
shows show.All channel = true
shows (show.Only observer) channel = sees observer channel.label

-- the lines that are shown
abbrev pub shown_lines : Show → Tables → List LabelledLine → List LabelledLine
shown_lines show.All tables lines = lines
shown_lines (show.Only observer) tables lines = seen_lines observer tables lines

-- what a run puts of its lines
abbrev pub shown_bytes : Show → Tables → List LabelledLine → List ℕ
shown_bytes show tables lines = lines_bytes (map (λ l. l.line) (shown_lines show tables lines))
