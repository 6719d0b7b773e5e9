use Rattle.std.proofs.Common.{arith, sym, ap, subst, length}
use Rattle.js_values.proofs.ReadingLaws.{IsReading-earlier}
use Rattle.es_meaning.specs.Operations.{One}
use Rattle.continuations.specs.declared.continuation.Control.{Control}
use Rattle.continuations.specs.Kept.{scopes_of}
use Rattle.continuations.specs.Pending.{values_of}
use Rattle.continuations.specs.Invariant.{Framed, running}
use Rattle.step_calling.proofs.CallLaws.{error_is, error_made, error_of, frame_left, is_throw, refused, refused_passes}
use Rattle.step_calling.proofs.StandingLaws.{stands_laid}
use Rattle.step_calling.proofs.refusals.refuse.Goals as goal

pub returns-in_err-answer-clause-refuses : goal.returns-in_err-answer-clause-refuses
returns-in_err-answer-clause-refuses g c tables inputs set functions ns =
    refused_passes g.L.Labels.made g.L.Labels.meaning c.throw_error.new.labels tables inputs set functions ns c.args.label c.args.stack.now c.args.world.now c.throw_error.new.world c.in_err-answer.field-0.0 c.from_residual.result c.from_residual.ensures.1
    (c.in_err-answer.ensures.acts One (λ reading x. tt))

pub thrown-requires-clause-throws : goal.thrown-requires-clause-throws
thrown-requires-clause-throws g c =
    is_throw g.L.Labels.made g.L.Labels.meaning c.throw_error.new.labels c.args.label c.args.world.now c.throw_error.new.world c.in_ok-answer.answer (c.in_ok-answer.ensures.acts One (λ reading x. tt)) c.in_ok-answer.ensures.made

pub returns-clause-refuses : goal.returns-clause-refuses
returns-clause-refuses g c tables inputs set functions ns =
    let throws = is_throw g.L.Labels.made g.L.Labels.meaning c.throw_error.new.labels c.args.label c.args.world.now c.throw_error.new.world c.in_ok-answer.answer (c.in_ok-answer.ensures.acts One (λ reading x. tt)) c.in_ok-answer.ensures.made in
    refused g.L.Labels.made g.L.Labels.meaning c.throw_error.new.labels tables inputs set functions ns c.args.label c.args.stack.now c.thrown.new.stack c.args.world.now c.throw_error.new.world c.in_ok-answer.answer c.in_ok-next.next
    (c.in_ok-answer.ensures.acts One (λ reading x. tt)) throws c.in_ok-next.ensures.jumps c.in_ok-next.ensures.tasks c.in_ok-next.ensures.lies

pub returns-clause-quiet : goal.returns-clause-quiet
returns-clause-quiet g c = ap running c.in_ok-next.ensures.jumps

pub returns-clause-standing : goal.returns-clause-standing
returns-clause-standing g c =
    let made = g.L.Labels.made in
    let meaning = g.L.Labels.meaning in
    let new = c.throw_error.new.labels in
    let answer = c.in_ok-answer.answer in
    let acts = c.in_ok-answer.ensures.acts One (λ reading x. tt) in
    let throws = is_throw made meaning new c.args.label c.args.world.now c.throw_error.new.world answer acts c.in_ok-answer.ensures.made in
    let few = frame_left made meaning new c.args.labels.now (λ reading read. IsReading-earlier made meaning g.L.Labels.room g.L.Labels.firm c.args.labels.now new reading c.throw_error.ensures.kept read) c.args._kind c.requires.kind c.args.stack.now c.args.world.now c.throw_error.new.world c.args.count c.args._depth c.args.label answer c.requires.begun acts throws in
    stands_laid made meaning g.L.Labels.room g.L.Labels.firm c.args.labels.now new c.throw_error.ensures.kept c.args._kind c.args.stack.now c.args.world.now c.args.count c.args._depth c.args.label c.requires.begun c.throw_error.new.world c.throw_error.ensures.belongs c.throw_error.ensures.grows.records
    c.thrown.new.stack (error_of made meaning new answer throws) c.in_ok-next.next c.in_ok-next.ensures.tasks (c.in_ok-next.ensures.lies (error_of made meaning new answer throws) (error_is made meaning new answer throws)) (error_made made meaning new answer throws c.in_ok-answer.ensures.made) (ap values_of c.in_ok-next.ensures.jumps) (ap running c.in_ok-next.ensures.jumps)
    (subst (λ (m : Control). Framed m (length c.throw_error.new.world.frames.frames) (length (scopes_of c.args.stack.now.tasks))) (sym c.in_ok-next.ensures.jumps) (omega (arith, few, c.requires.begun.deep)))
