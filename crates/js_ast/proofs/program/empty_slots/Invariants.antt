use Rattle.std.proofs.Common.{◌≡◌, map, option_map, replicate, ◌-◌, None}
use Rattle.js_ast.specs.Held.{held}
use Rattle.js_ast.proofs.program.empty_slots.Given as goal

abbrev pub invariant-loop : goal.invariant-loop
invariant-loop l = map (option_map (λ f. held f.now)) l.slots.items ≡ replicate l.counter None
