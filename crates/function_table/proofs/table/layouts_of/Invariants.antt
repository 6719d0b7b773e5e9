use Rattle.std.proofs.Common.{◌≡◌, map, take}
use Rattle.function_table.proofs.table.layouts_of.Given as goal

abbrev pub invariant-loop-f : goal.invariant-loop-f
invariant-loop-f l = l.layouts.items ≡ map (λ f. f.now) (take l.f-index l.list)
