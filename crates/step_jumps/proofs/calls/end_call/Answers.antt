use Rattle.std.proofs.Common.{refl, ap, ◌∙◌}
use Rattle.es_meaning.specs.Plain.{undefined}
use Rattle.js_values.proofs.ReadingLaws.{IsReading-earlier}
use Rattle.continuations.specs.declared.continuation.Control.TheVariants as control
use Rattle.step_jumps.proofs.CallLaws.{at_end, call_done, standing_answered}
use Rattle.step_jumps.proofs.calls.end_call.Goals as goal

pub returns-clause-resumes : goal.returns-clause-resumes
returns-clause-resumes g c tables inputs set functions natives =
    call_done g.L.Labels.made g.L.Labels.meaning c.answer_with.new.labels c.args.depth (record { value = undefined; label = c.bottom-none.result }) c.args.stack.now c.answer_with.new.stack c.args.world.now c.answer_with.new.world c.in_ok-next.next c.in_ok-next.ensures.answers tables inputs set functions natives c.args.own c.args.stack.now refl
    (λ reading read. ap (λ l. record { value = undefined; label = l }) ((IsReading-earlier g.L.Labels.made g.L.Labels.meaning g.L.Labels.room g.L.Labels.firm c.args.labels.now c.answer_with.new.labels reading c.answer_with.ensures.kept read).agrees c.bottom-none.result c.bottom-none.ensures.made ∙ c.bottom-none.ensures.meaning))

pub returns-clause-standing : goal.returns-clause-standing
returns-clause-standing g c =
    standing_answered g.L.Labels.made g.L.Labels.meaning c.answer_with.new.labels c.args.depth (record { value = undefined; label = c.bottom-none.result }) c.args.stack.now c.answer_with.new.stack c.args.world.now c.answer_with.new.world c.in_ok-next.next c.in_ok-next.ensures.answers
    g.L.Labels.room g.L.Labels.firm c.args.labels.now c.answer_with.ensures.kept c.args.stack.now control.Value c.requires.standing refl refl
    (at_end g.L.Labels.made g.L.Labels.meaning c.args.labels.now c.args.stack.now c.args.world.now c.args.depth c.requires.standing)
