use Rattle.std.proofs.Common.{refl, ap, length, ◌∙◌, arith}
use Rattle.js_values.specs.Readings.{HasValue, read_value}
use Rattle.js_values.proofs.ReadingLaws.{IsReading-earlier}
use Rattle.native_protocol.specs.declared.request.ErrorKind.TheVariants as error
use Rattle.es_meaning.specs.Operations.{Value}
use Rattle.flow_meaning.specs.Scopes.{Val}
use Rattle.run_state.proofs.ActLaws.{HasAnswer-weaker}
use Rattle.step_objects.proofs.Frames.{error_stands}
use Rattle.step_references.proofs.Begun.{begun_handed}
use Rattle.step_references.proofs.Moved.{moved_on, stood}
use Rattle.step_references.proofs.UseLaws.{refused_as}
use Rattle.step_references.proofs.uses.refuse_use.Goals as goal

pub hand_on-requires-clause-loose : goal.hand_on-requires-clause-loose
hand_on-requires-clause-loose g c = ap length c.clear.ensures.none

pub hand_on-requires-clause-made : goal.hand_on-requires-clause-made
hand_on-requires-clause-made g c =
    let made = g.L.Labels.made c.throw_error-answer.new.labels in
    HasAnswer-weaker (λ x. ⊥) (HasValue made) made made c.throw_error-answer.result (λ x none. absurd none) (λ label m. m) c.throw_error-answer.ensures.made

pub returns-clause-goes_on : goal.returns-clause-goes_on
returns-clause-goes_on g c =
    begun_handed (c.throw_error-answer.ensures.acts Value (λ reading. read_value reading)) c.hand_on.ensures.hands c.clear.ensures.tasks (λ tables inputs set functions reading f s is.
    refused_as tables inputs set functions (reading c.bottom-none.result) s
    ((IsReading-earlier g.L.Labels.made g.L.Labels.meaning g.L.Labels.room g.L.Labels.firm c.args.labels.now c.throw_error-answer.new.labels reading c.throw_error-answer.ensures.kept is).agrees c.bottom-none.result c.bottom-none.ensures.made ∙ c.bottom-none.ensures.meaning))

pub returns-clause-moved : goal.returns-clause-moved
returns-clause-moved g c =
    moved_on _ _ _ _ _ _ _ _ _ c.hand_on.result (omega arith) c.clear.ensures.tasks refl
    (c.hand_on.ensures.moved c.args.world.now c.throw_error-answer.new.world (stood (c.throw_error-answer.ensures.acts Value (λ reading. read_value reading)) (λ s. error_stands Val error.ReferenceError (g.L.Labels.meaning c.throw_error-answer.new.labels c.bottom-none.result) s)))
