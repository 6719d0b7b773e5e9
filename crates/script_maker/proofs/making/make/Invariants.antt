use Rattle.std.proofs.Common.{◌≡◌, ◌+◌, ◌++◌}
use Rattle.std.specs.Prelude.{flat_map}
use Rattle.std.specs.List.{range_with_len}
use Rattle.script_maker.specs.Made.{first_line, call_line}
use Rattle.script_maker.proofs.Lines.{calls_left}
use Rattle.script_maker.proofs.making.make.Given as goal

abbrev pub invariant-loop-k : goal.invariant-loop-k
invariant-loop-k l = l.bytes.items ++ calls_left l.k (l.number + 1) ≡ first_line ++ flat_map call_line (range_with_len 1 l.number)
