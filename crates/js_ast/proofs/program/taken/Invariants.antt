use Rattle.std.proofs.Common.{◌≡◌, map, option_map, take}
use Rattle.js_ast.specs.Held.{held}
use Rattle.js_ast.specs.Lent.{taken}
use Rattle.js_ast.proofs.program.taken.Given as goal

abbrev pub invariant-loop-slot : goal.invariant-loop-slot
invariant-loop-slot l = map (λ f. held f.now) l.list.items ≡ taken (map (option_map (λ f. held f.now)) (take l.slot-index l.slots))
