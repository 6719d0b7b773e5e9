use Rattle.std.proofs.Common.{sym, ◌∙◌, ap, is_some}
use Rattle.origin_labels.proofs.NameLaws.{place_found, place_none, has_name-place_of}
use Rattle.origin_labels.proofs.origins.Origins.index_of.Goals as goal

pub returns-then-eq : goal.returns-then-eq
returns-then-eq c =
    let found = place_found c.args.name.now c.deref-other-items.result.now c.args.self.now (c.deref-other-items.ensures.value ∙ c.self.view_is) c.loop-i.i c.other-item.result c.loop-i-test.true c.loop-i.invariant c.other-item.is (sym c.if-eq.ensures) in
    record { place = sym found; known = ap is_some (sym found) ∙ has_name-place_of c.args.name.now c.args.self.now }

pub returns : goal.returns
returns c =
    let none = place_none c.args.name.now c.deref-other-items.result.now c.args.self.now (c.deref-other-items.ensures.value ∙ c.self.view_is) c.loop-i.i c.loop-i-test.false c.loop-i.invariant in
    record { place = sym none; known = ap is_some (sym none) ∙ has_name-place_of c.args.name.now c.args.self.now }
