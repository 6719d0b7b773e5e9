use Rattle.std.proofs.Common.{sym, ◌∙◌}
use Rattle.property_requests.proofs.LengthLaws.{over_accessor, over_defined, over_refused}
use Rattle.property_requests.proofs.lengths.marks_over.Goals as goal

pub returns-then-is_accessor : goal.returns-then-is_accessor
returns-then-is_accessor g c = over_accessor c.args.slot.now c.args.how c.args.number (sym c.is_accessor.ensures ∙ c.if-is_accessor.true)

pub returns-then-not-may_define_over : goal.returns-then-not-may_define_over
returns-then-not-may_define_over g c =
    over_refused c.args.slot.now c.args.how c.args.number (sym c.is_accessor.ensures ∙ c.if-is_accessor.false) c.given_by-marks.result c.given_by-marks.ensures c.number_value.result c.number_value.ensures (sym c.may_define_over.ensures ∙ c.if-not-may_define_over.true)

pub returns : goal.returns
returns g c =
    over_defined c.args.slot.now c.args.how c.args.number (sym c.is_accessor.ensures ∙ c.if-is_accessor.false) c.given_by-marks.result c.given_by-marks.ensures c.number_value.result c.number_value.ensures (sym c.may_define_over.ensures ∙ c.if-not-may_define_over.false)
    c.marks_of_kind.result c.marks_of_kind.ensures
