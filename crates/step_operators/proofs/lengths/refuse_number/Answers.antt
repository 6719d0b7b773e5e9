use Rattle.std.proofs.Common.{refl, sym, ap, ◌∙◌}
use Rattle.js_values.specs.Readings.{HasValue, read_value}
use Rattle.native_protocol.specs.declared.request.ErrorKind.TheVariants as kinds
use Rattle.es_meaning.specs.Operations.{Value}
use Rattle.flow_meaning.specs.Planned.{as_plan}
use Rattle.flow_meaning.specs.Scopes.{Val}
use Rattle.flow_meaning.specs.Tracked.{throw_error}
use Rattle.run_state.proofs.ActLaws.{Belongs-later, HasAnswer-weaker}
use Rattle.step_objects.proofs.Frames.{error_stands}
use Rattle.step_references.proofs.Begun.{begun_handed}
use Rattle.step_references.proofs.Moved.{stood}
use Rattle.step_references.proofs.Plans.{given_follows}
use Rattle.step_operators.proofs.LengthLaws.{given_is}
use Rattle.step_operators.proofs.lengths.refuse_number.Goals as goal

pub returns-in_err-cause-clause-belongs : goal.returns-in_err-cause-clause-belongs
returns-in_err-cause-clause-belongs g c = Belongs-later g.L.Labels.made g.L.Labels.meaning g.L.Labels.room g.L.Labels.firm c.args.labels.now c.join.new.self c.join.ensures.kept g.met.L.Labels.rising c.args.world.now c.requires.belongs

pub throw_error-answer-requires-clause-belongs : goal.throw_error-answer-requires-clause-belongs
throw_error-answer-requires-clause-belongs g c = Belongs-later g.L.Labels.made g.L.Labels.meaning g.L.Labels.room g.L.Labels.firm c.args.labels.now c.join.new.self c.join.ensures.kept g.met.L.Labels.rising c.args.world.now c.requires.belongs

pub hand_on-requires-clause-made : goal.hand_on-requires-clause-made
hand_on-requires-clause-made g c =
    let made = g.L.Labels.made c.throw_error-answer.new.labels in
    HasAnswer-weaker (λ x. ⊥) (HasValue made) made made c.throw_error-answer.result (λ x never. absurd never) (λ label m. m) c.throw_error-answer.ensures.made

pub returns-clause-goes_on : goal.returns-clause-goes_on
returns-clause-goes_on g c =
    begun_handed (c.throw_error-answer.ensures.acts Value (λ reading. read_value reading)) c.hand_on.ensures.hands refl
    (λ tables inputs set functions reading f s is.
    sym (given_follows (throw_error kinds.RangeError (reading c.in_ok-cause.cause) s))
    ∙ ap (λ l. as_plan Value (throw_error kinds.RangeError l s)) (given_is g.L.Labels.made g.L.Labels.meaning g.L.Labels.room g.L.Labels.firm c.args.labels.now c.join.new.self c.throw_error-answer.new.labels c.join.ensures.kept c.throw_error-answer.ensures.kept reading is c.args.array.now.label c.args.given c.in_ok-cause.cause c.requires.array c.requires.given c.in_ok-cause.ensures.made c.in_ok-cause.ensures.meaning))

pub returns-clause-moved : goal.returns-clause-moved
returns-clause-moved g c =
    c.hand_on.ensures.moved c.args.world.now c.throw_error-answer.new.world
    (stood (c.throw_error-answer.ensures.acts Value (λ reading. read_value reading)) (λ s. error_stands Val kinds.RangeError (g.L.Labels.meaning c.throw_error-answer.new.labels c.in_ok-cause.cause) s))
