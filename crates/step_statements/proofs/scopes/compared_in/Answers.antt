use Rattle.std.proofs.Common.{◌∙◌, ap, get_or}
use Rattle.js_values.specs.Readings.{HasValue}
use Rattle.continuations.proofs.EndLaws.{last_has}
use Rattle.step_statements.proofs.CompareLaws.{case_goes, case_there, fronts_below, none_goes, none_there}
use Rattle.step_statements.proofs.scopes.compared_in.Goals as goal

pub raise_by_both-requires-clause-right : goal.raise_by_both-requires-clause-right
raise_by_both-requires-clause-right g c = last_has (HasValue (g.L.Labels.made c.args.labels.now)) c.pop-value.new.self.loose c.args.stack.now.loose c.pop-value.result c.pop-value.ensures.top c.requires.made

pub returns-in_default-clause-goes_on : goal.returns-in_default-clause-goes_on
returns-in_default-clause-goes_on g c =
    none_goes g.L.Labels.made g.L.Labels.meaning c.args.labels.now c.args.clauses c.args.number c.args.stack.now c.pop-value.new.self c.test_from.new.stack c.pop-value.result c.in_ok-next.next c.args.frames.now.frames
    c.pop-value.ensures.top c.pop-value.ensures.tasks (none_there c.args.number c.items.result.now _ c.items.ensures c.in_default.ensures.none) c.in_ok-next.ensures.goes_on

pub returns-in_default-clause-fronts : goal.returns-in_default-clause-fronts
returns-in_default-clause-fronts g c = fronts_below c.args.stack.now c.pop-value.new.self c.test_from.new.stack c.pop-value.result c.in_ok-next.next c.pop-value.ensures.top c.pop-value.ensures.tasks c.in_ok-next.ensures.fronts

pub returns-clause-goes_on : goal.returns-clause-goes_on
returns-clause-goes_on g c =
    case_goes g.L.Labels.made g.L.Labels.meaning c.raise_by_both.new.labels c.args.clauses c.args.number c.args.stack.now c.pop-value.new.self c.choose.new.stack c.pop-value.result c.in_ok-next-2.next
    c.in-Some.left.now c.same-equal.result c.index-loose-0.result c.args.frames.now.frames c.raise_by_both.new.frames.frames
    c.pop-value.ensures.top c.pop-value.ensures.tasks
    (λ value loose. c.index-loose-0.is ∙ ap (λ vs. get_or vs 0 c.index-loose-0.result) (c.loose.ensures ∙ loose))
    c.same-equal.ensures c.in_ok-raise_by_both.ensures.raised
    (case_there c.args.number c.in-Some.left.now c.items.result.now _ c.items.ensures c.in-Some.ensures.found)
    c.in_ok-next-2.ensures.goes_on

pub returns-clause-fronts : goal.returns-clause-fronts
returns-clause-fronts g c = fronts_below c.args.stack.now c.pop-value.new.self c.choose.new.stack c.pop-value.result c.in_ok-next-2.next c.pop-value.ensures.top c.pop-value.ensures.tasks c.in_ok-next-2.ensures.fronts
