use Rattle.std.proofs.Common.{◌+◌, ◌≤◌, arith, length, drop, ap}
use Rattle.std.proofs.lemmas.List.{take_rest, length-take, length-drop}
use Rattle.js_scan.proofs.CommentLaws.{closes_at, closes_within, block_found, block_open}
use Rattle.js_scan.proofs.comments.block_comment.Goals as goal
use Rattle.js_scan.proofs.comments.block_comment.Goals.{In_ok-length}

pub returns-in_err-length : goal.returns-in_err-length
returns-in_err-length c = rw c.from_residual.ensures (block_open c.args.units.now c.requires.0 c.requires.1 (rw take_rest at c.in_err-length.ensures))

-- `*/` is within the units
within : (c : In_ok-length) → c.in_ok-length.length + 2 ≤ length (drop 2 c.args.units.now)
within c = closes_within _ _ (closes_at (drop 2 c.args.units.now) c.in_ok-length.length (rw take_rest at c.in_ok-length.ensures))

pub overflow_add-result : goal.overflow_add-result
overflow_add-result c = omega (arith, within c, length-drop 2 c.args.units.now, ap length c.requires.1)

pub slice_bounds-holds_line_terminator-end : goal.slice_bounds-holds_line_terminator-end
slice_bounds-holds_line_terminator-end c = rw take_rest (omega (arith, within c, length-take c.in_ok-length.length (drop 2 c.args.units.now)))

pub returns : goal.returns
returns c =
    rw (c.holds_line_terminator.ensures, take_rest) (block_found c.args.units.now c.requires.0 c.in_ok-length.length c.requires.1 (rw take_rest at c.in_ok-length.ensures))
