use Rattle.std.proofs.Common.{◌∙◌}
use Rattle.js_values.proofs.ReadingLaws.{IsReading-earlier}
use Rattle.step_control.proofs.VisitLaws.{enumeration_begins}
use Rattle.step_control.proofs.visits.begin_enumeration.Goals as goal

pub returns-clause-goes_on : goal.returns-clause-goes_on
returns-clause-goes_on g c =
    enumeration_begins g.L.Labels.made g.L.Labels.meaning c.enter.new.labels c.args.enumeration
    c.args.stack.now c.pop-object.new.self c.push.new.self c.lay.new.self c.pop-object.result c.args.frames.now.frames c.enter.new.frames.frames c.len-depth.result c.bottom-none.result
    c.requires.loose c.pop-object.ensures.top c.pop-object.ensures.tasks c.in_ok-push.ensures.ok c.lay.ensures.tasks c.in_ok-lay.ensures.laid c.len-depth.ensures.length c.in_ok-enter.ensures.entered
    (λ reading read. (IsReading-earlier g.L.Labels.made g.L.Labels.meaning g.L.Labels.room g.L.Labels.firm c.args.labels.now c.enter.new.labels reading c.enter.ensures.kept read).agrees c.bottom-none.result c.bottom-none.ensures.made ∙ c.bottom-none.ensures.meaning)
