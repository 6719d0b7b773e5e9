use Rattle.std.proofs.Common.{◌≤◌, sym, arith, ⊎_elim}
use Rattle.js_scan.proofs.UnitLaws.{surrogate_category}
use Rattle.js_scan.proofs.units.category.Goals as goal

pub returns-in-None : goal.returns-in-None
returns-in-None c =
    sym (⊎_elim (λ h. surrogate_category c.args.unit (omega arith) (omega arith)) (λ (h : 0x11_0000 ≤ c.from.result). absurd (omega arith)) c.in-None.ensures.cases)
