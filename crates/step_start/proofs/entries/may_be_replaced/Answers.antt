use Rattle.std.proofs.Common.{sym, ◌∙◌}
use Rattle.step_start.proofs.NameLaws.{is_first, is_second, is_third}
use Rattle.step_start.proofs.entries.may_be_replaced.Goals as goal

pub returns-then-is_named : goal.returns-then-is_named
returns-then-is_named c = is_first c.args.name.now _ _ _ (sym c.is_named.ensures ∙ c.if-is_named.true)

pub returns-then-is_named-2 : goal.returns-then-is_named-2
returns-then-is_named-2 c = is_second c.args.name.now _ _ _ (sym c.is_named.ensures ∙ c.if-is_named.false) (sym c.is_named-2.ensures ∙ c.if-is_named-2.true)

pub returns : goal.returns
returns c = is_third c.args.name.now _ _ _ (sym c.is_named.ensures ∙ c.if-is_named.false) (sym c.is_named-2.ensures ∙ c.if-is_named-2.false) c.is_named-3.ensures
