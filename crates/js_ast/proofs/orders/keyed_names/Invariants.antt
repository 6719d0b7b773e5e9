use Rattle.std.proofs.Common.{◌≡◌, map, take}
use Rattle.std.specs.List.{enumerate_from}
use Rattle.js_ast.specs.Named.{text_of}
use Rattle.js_ast.proofs.orders.keyed_names.Given as goal

abbrev pub invariant-names : goal.invariant-names
invariant-names l = map (λ k. (k.1, k.0.now)) l.keyed.items ≡ take l.i (enumerate_from 0 (map text_of l.names))
