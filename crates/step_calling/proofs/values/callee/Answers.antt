use Rattle.std.proofs.Common.{◌∙◌, ◌∷◌, []}
use Rattle.js_values.specs.declared.value.Labelled.{Labelled}
use Rattle.es_meaning.specs.Plain.{undefined}
use Rattle.step_calling.proofs.StandingLaws.{stands_kept}
use Rattle.step_calling.proofs.ValueLaws.{taken_alone, two_have, value_called}
use Rattle.step_calling.proofs.values.callee.Goals as goal

pub returns-clause-resumes : goal.returns-clause-resumes
returns-clause-resumes g c tables inputs set functions ns =
    let this : Labelled _ = record { value = undefined; label = c.bottom.result } in
    let lie = taken_alone c.args.stack.now.loose c.pop-f.new.self.loose c.lay.new.self.loose c.lay-2.new.self.loose c.pop-f.result this c.requires.standing.values c.pop-f.ensures.top c.in_ok-lay.ensures.laid c.in_ok-lay-2.ensures.laid in
    value_called g.L.Labels.made g.L.Labels.meaning c.args.labels.now tables inputs set functions ns c.args.args c.args.world.now c.in_ok-next.next c.args.stack.now c.lay-2.new.self c.begin_arguments.new.stack c.pop-f.result c.bottom.result
    lie.0 (c.lay-2.ensures.tasks ∙ c.lay.ensures.tasks ∙ c.pop-f.ensures.tasks) lie.1 (λ reading read. read.agrees c.bottom.result c.bottom.ensures.made ∙ c.bottom.ensures.meaning) c.in_ok-next.ensures.goes_on

pub returns-clause-standing : goal.returns-clause-standing
returns-clause-standing g c quiet =
    let this : Labelled _ = record { value = undefined; label = c.bottom.result } in
    let lie = taken_alone c.args.stack.now.loose c.pop-f.new.self.loose c.lay.new.self.loose c.lay-2.new.self.loose c.pop-f.result this c.requires.standing.values c.pop-f.ensures.top c.in_ok-lay.ensures.laid c.in_ok-lay-2.ensures.laid in
    stands_kept g.L.Labels.made g.L.Labels.meaning c.args.labels.now c.args.stack.now c.lay-2.new.self c.begin_arguments.new.stack c.args.world.now 1 (this ∷ c.pop-f.result ∷ []) c.in_ok-next.next c.requires.standing
    (c.lay-2.ensures.tasks ∙ c.lay.ensures.tasks ∙ c.pop-f.ensures.tasks) lie.1 (two_have (g.L.Labels.made c.args.labels.now) this c.pop-f.result c.args.stack.now.loose lie.0 c.bottom.ensures.made) c.in_ok-next.ensures.keeps quiet
