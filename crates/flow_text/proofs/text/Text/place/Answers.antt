use Rattle.std.proofs.Common.{rules}
use Rattle.flow_text.proofs.Lines.{first_line, first_column, line_after_end, line_goes_on, column_after_end, column_goes_on}
use Rattle.flow_text.proofs.text.Text.place.Goals as goal

pub loop-i-init : goal.loop-i-init
loop-i-init c = search (rules, first_line, first_column)

pub loop-i-preserved : goal.loop-i-preserved
loop-i-preserved c = search (rules, line_after_end, line_goes_on, column_after_end, column_goes_on)
