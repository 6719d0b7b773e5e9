use Rattle.std.proofs.Common.{Some}
use Rattle.std.proofs.lemmas.Bool.{le-leb}
use Rattle.std.proofs.lemmas.List.{map-set}
use Rattle.js_ast.proofs.lending.place.Goals as goal

pub returns-then-at-slots : goal.returns-then-at-slots
returns-then-at-slots c = rw (le-leb _ _ c.if-f-first.false) (map-set _ c.args.slots.now _ _)
