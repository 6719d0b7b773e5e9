use Rattle.std.proofs.Common.{sym, ◌∙◌, le-ltb}
use Rattle.std.proofs.lemmas.Nat.Bits.{shr_and_one}
use Rattle.origin_labels.proofs.MaskLaws.{has-origins_of, has-origins_of_above}
use Rattle.origin_labels.proofs.masks.MasksLabels.has.Goals as goal

pub returns-then-origin-lt64 : goal.returns-then-origin-lt64
returns-then-origin-lt64 c = rw (shr_and_one c.args.a.0 c.args.origin) (sym (has-origins_of c.args.origin c.args.a.0 c.if-origin-lt64.true))

pub returns-else-origin-lt64 : goal.returns-else-origin-lt64
returns-else-origin-lt64 c = le-ltb c.args.origin 64 c.if-origin-lt64.false ∙ sym (has-origins_of_above c.args.origin c.args.a.0 c.if-origin-lt64.false)
