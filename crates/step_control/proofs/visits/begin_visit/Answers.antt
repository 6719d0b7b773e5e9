use Rattle.std.proofs.Common.{◌∙◌}
use Rattle.js_values.proofs.ReadingLaws.{IsReading-earlier}
use Rattle.step_control.proofs.VisitLaws.{visit_begins}
use Rattle.step_control.proofs.visits.begin_visit.Goals as goal

pub returns-clause-goes_on : goal.returns-clause-goes_on
returns-clause-goes_on g c =
    visit_begins g.L.Labels.made g.L.Labels.meaning c.enter.new.labels c.args.enumeration c.args.count
    c.args.stack.now c.pop-key.new.self c.push.new.self c.push-2.new.self c.push-3.new.self c.lay.new.self c.pop-key.result c.args.frames.now.frames c.enter.new.frames.frames c.len-depth.result c.bottom-none.result c.given_key.result
    c.requires.loose c.pop-key.ensures.top c.pop-key.ensures.tasks c.in_ok-push.ensures.ok c.in_ok-push-2.ensures.ok c.in_ok-push-3.ensures.ok c.lay.ensures.tasks c.in_ok-lay.ensures.laid c.len-depth.ensures.length c.in_ok-enter.ensures.entered
    (λ reading read. (IsReading-earlier g.L.Labels.made g.L.Labels.meaning g.L.Labels.room g.L.Labels.firm c.args.labels.now c.enter.new.labels reading c.enter.ensures.kept read).agrees c.bottom-none.result c.bottom-none.ensures.made ∙ c.bottom-none.ensures.meaning)
    c.given_key.ensures.plan
