use Rattle.std.proofs.Common.{◌≡◌, map, take}
use Rattle.std.specs.List.{enumerate_from}
use Rattle.js_ast.specs.Keys.{key_text}
use Rattle.js_ast.specs.Views.{view_key}
use Rattle.js_ast.specs.Named.{name_of}
use Rattle.js_ast.proofs.orders.keyed_properties.Given as goal

abbrev pub invariant-properties : goal.invariant-properties
invariant-properties l = map (λ k. (k.1, key_text (view_key k.0.now))) l.keyed.items ≡ take l.i (enumerate_from 0 (map name_of l.properties))
