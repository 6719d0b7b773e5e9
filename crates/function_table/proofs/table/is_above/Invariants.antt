use Rattle.std.proofs.Common.{◌≡◌, drop}
use Rattle.function_table.specs.Tables.{rises_after}
use Rattle.function_table.proofs.TableLaws.{codes}
use Rattle.function_table.proofs.table.is_above.Given as goal

abbrev pub invariant-loop-f : goal.invariant-loop-f
invariant-loop-f l = rises_after l.last (codes (λ f. f.now) (drop l.f-index l.list)) ≡ rises_after l.first (codes (λ f. f.now) l.list)
