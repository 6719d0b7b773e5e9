use Rattle.std.proofs.Common.{sym, ◌∙◌}
use Rattle.call_records.proofs.NameLaws.{arguments_stay, arguments_elsewhere, arguments_added, arguments_at_end}
use Rattle.call_records.proofs.placing.place_arguments.Goals as goal

pub returns-then-is_some-clause-names : goal.returns-then-is_some-clause-names
returns-then-is_some-clause-names c =
    arguments_stay c.args.names_arguments c.args.layout.now c.in_ok-name.name c.place.result c.if-not-names_arguments.false c.in_ok-name.ensures c.place.ensures (sym c.is_some.ensures ∙ c.if-is_some.true)

pub returns-then-is_some-clause-place : goal.returns-then-is_some-clause-place
returns-then-is_some-clause-place c =
    arguments_elsewhere c.args.names_arguments c.args.layout.now c.in_ok-name.name c.place.result c.if-not-names_arguments.false c.in_ok-name.ensures c.place.ensures (sym c.is_some.ensures ∙ c.if-is_some.true)

pub returns-clause-names : goal.returns-clause-names
returns-clause-names c =
    arguments_added c.args.names_arguments c.args.layout.now c.in_ok-name.name c.place.result c.if-not-names_arguments.false c.in_ok-name.ensures c.place.ensures c.push.new.self (sym c.is_some.ensures ∙ c.if-is_some.false) c.in_ok-push.ensures.ok

pub returns-clause-place : goal.returns-clause-place
returns-clause-place c =
    arguments_at_end c.args.names_arguments c.args.layout.now c.in_ok-name.name c.place.result c.if-not-names_arguments.false c.in_ok-name.ensures c.place.ensures c.len-place.result (sym c.is_some.ensures ∙ c.if-is_some.false) c.len-place.ensures
