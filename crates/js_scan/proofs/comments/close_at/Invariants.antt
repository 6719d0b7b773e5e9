use Rattle.std.proofs.Common.{◌≡◌, drop}
use Rattle.js_scan.specs.CommentReading.{close_from}
use Rattle.js_scan.proofs.comments.close_at.Given as goal

abbrev pub invariant-loop-at : goal.invariant-loop-at
invariant-loop-at l = close_from l.at (drop l.at l.units) ≡ close_from 0 l.units
