use Rattle.std.proofs.Common.{◌≡◌, map, length}
use Rattle.js_ast.specs.Words.{in_table}
use Rattle.js_parse_parts.proofs.words.in_table.Given as goal

abbrev pub invariant-loop-rows : goal.invariant-loop-rows
invariant-loop-rows g l = in_table (map (λ row. (row.0.now, row.1)) l.rows) l.text ≡ in_table (map (λ row. (row.0.now, row.1)) l.table) l.text

abbrev pub decreases-loop-rows : goal.decreases-loop-rows
decreases-loop-rows g l = length l.rows
