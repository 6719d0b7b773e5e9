use Rattle.std.proofs.Common.{refl, ap₂, ◌∙◌}
use Rattle.js_values.specs.declared.value.Value.TheVariants as value
use Rattle.js_values.proofs.ReadingLaws.{IsReading-earlier}
use Rattle.continuations.specs.declared.continuation.Control.TheVariants as control
use Rattle.step_jumps.proofs.CallLaws.{at_end, at_inner, construction_done, one_popped, standing_answered}
use Rattle.step_jumps.proofs.calls.end_construction.Goals as goal

pub answer_with-requires-clause-frame : goal.answer_with-requires-clause-frame
answer_with-requires-clause-frame g c = at_end g.L.Labels.made g.L.Labels.meaning c.args.labels.now c.args.stack.now c.args.world.now c.args.depth c.requires.standing

pub answer_with-requires-clause-inner : goal.answer_with-requires-clause-inner
answer_with-requires-clause-inner g c = at_inner g.L.Labels.made g.L.Labels.meaning c.args.labels.now c.args.stack.now c.args.world.now c.args.depth control.Value c.requires.standing

pub returns-clause-resumes : goal.returns-clause-resumes
returns-clause-resumes g c tables inputs set functions natives =
    construction_done g.L.Labels.made g.L.Labels.meaning c.answer_with.new.labels c.args.depth (record { value = value.Object c.made.result; label = c.bottom-none.result }) c.pop-fresh.new.self c.answer_with.new.stack c.args.world.now c.answer_with.new.world c.in_ok-next.next c.in_ok-next.ensures.answers tables inputs set functions natives c.args.own c.args.stack.now c.pop-fresh.ensures.tasks
    c.pop-fresh.result (one_popped c.args.stack.now.loose c.pop-fresh.new.self.loose c.pop-fresh.result c.pop-fresh.ensures.top c.requires.standing.values).0
    (λ reading read. ap₂ (λ o l. record { value = value.Object o; label = l }) c.made.ensures ((IsReading-earlier g.L.Labels.made g.L.Labels.meaning g.L.Labels.room g.L.Labels.firm c.args.labels.now c.answer_with.new.labels reading c.answer_with.ensures.kept read).agrees c.bottom-none.result c.bottom-none.ensures.made ∙ c.bottom-none.ensures.meaning))

pub returns-clause-standing : goal.returns-clause-standing
returns-clause-standing g c =
    standing_answered g.L.Labels.made g.L.Labels.meaning c.answer_with.new.labels c.args.depth (record { value = value.Object c.made.result; label = c.bottom-none.result }) c.pop-fresh.new.self c.answer_with.new.stack c.args.world.now c.answer_with.new.world c.in_ok-next.next c.in_ok-next.ensures.answers
    g.L.Labels.room g.L.Labels.firm c.args.labels.now c.answer_with.ensures.kept c.args.stack.now control.Value c.requires.standing refl c.pop-fresh.ensures.tasks
    (at_end g.L.Labels.made g.L.Labels.meaning c.args.labels.now c.args.stack.now c.args.world.now c.args.depth c.requires.standing)
