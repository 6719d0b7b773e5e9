-- The ends of comments, as they are read (ECMA-262 7.4). The laws of `proofs/CommentLaws` tie them to comments.
use Rattle.std.specs.Prelude.{ℕ, ◌+◌, List, [], ◌∷◌, not, ◌==◌, ◌&&◌, Option, Some, None, if◌then◌else◌}
use Rattle.std.specs.List.{prefix_len}
use Rattle.js_scan.specs.Units.{is_line_terminator, begins_with}

-- how many units stand in front of the first line terminator
unfoldable pub line_length : List ℕ → ℕ
line_length us = prefix_len (λ u. not (is_line_terminator u)) us

-- where `*/` first stands, where so many units stand before these
unfoldable pub close_from : ℕ → List ℕ → Option ℕ
close_from at [] = None
close_from at (u ∷ us) = if u == 42 && begins_with 47 us then Some at else close_from (at + 1) us
