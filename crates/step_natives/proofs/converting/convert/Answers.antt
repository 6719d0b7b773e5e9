use Rattle.std.proofs.Common.{refl, sym, ◌∙◌}
use Rattle.step_natives.proofs.ConvertingLaws.{object_begins, primitive_begins}
use Rattle.step_natives.proofs.ValueLists.{one_lies}
use Rattle.step_natives.proofs.converting.convert.Goals as goal

pub returns-then-not-object-clause-begins : goal.returns-then-not-object-clause-begins
returns-then-not-object-clause-begins g c tables inputs set functions tells asks =
    primitive_begins g.L.Labels.made g.L.Labels.meaning c.args.labels.now tables inputs set functions tells asks c.args.states.now c.args.states.now c.args.hint c.args.stack.now c.args.world.now c.leading-value.result.now
    (one_lies c.args.stack.now.loose c.leading-value.result.now c.requires.standing.values c.leading-value.ensures) (sym c.is_object-object.ensures ∙ c.if-not-object.true) refl

pub returns-clause-begins : goal.returns-clause-begins
returns-clause-begins g c tables inputs set functions tells asks =
    object_begins g.L.Labels.made g.L.Labels.meaning c.begin_conversion.new.labels tables inputs set functions tells asks c.args.states.now c.begin_conversion.new.states c.args.hint c.args.stack.now c.begin_conversion.new.stack c.args.world.now c.begin_conversion.new.world c.leading-value.result.now
    (one_lies c.args.stack.now.loose c.leading-value.result.now c.requires.standing.values c.leading-value.ensures) (sym c.is_object-object.ensures ∙ c.if-not-object.false) c.in_ok-next.next (c.in_ok-next.ensures.converts tables inputs set functions tells asks)
