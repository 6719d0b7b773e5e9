use Rattle.std.proofs.Common.{arith, ap, sym, ◌∙◌}
use Rattle.env_records.specs.Layouts.{first_place}
use Rattle.env_records.proofs.LayoutLaws.{first_read, first_none}
use Rattle.env_records.proofs.layout.Layout.listed.Goals as goal

pub returns-then-is_named : goal.returns-then-is_named
returns-then-is_named c =
    first_read c.args.name.now c.deref-laid-items.result.now c.loop-i.i c.laid-item.result c.loop-i-test.true c.loop-i.invariant c.laid-item.is (sym c.is_named.ensures ∙ c.if-is_named.true)
    ∙ ap (first_place c.args.name.now) (c.deref-laid-items.ensures.value ∙ c.self.view_is)

pub returns : goal.returns
returns c =
    first_none c.args.name.now c.deref-laid-items.result.now (λ k d lt. c.loop-i.invariant k d (omega (arith, lt, c.loop-i-test.false)))
    ∙ ap (first_place c.args.name.now) (c.deref-laid-items.ensures.value ∙ c.self.view_is)
