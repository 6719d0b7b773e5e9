use Rattle.std.proofs.Common.{refl, sym, ap, ◌∙◌}
use Rattle.es_meaning.specs.Operations.{Value}
use Rattle.flow_meaning.specs.Planned.{as_plan}
use Rattle.flow_meaning.specs.Tracked.{set_length}
use Rattle.run_state.specs.Accesses.{defines, marks_given}
use Rattle.step_objects.proofs.Frames.{length_stands}
use Rattle.step_references.proofs.Begun.{begun_handed}
use Rattle.step_references.proofs.Moved.{stood}
use Rattle.step_references.proofs.Plans.{given_follows}
use Rattle.step_operators.proofs.lengths.give_number.Goals as goal

pub returns-clause-goes_on : goal.returns-clause-goes_on
returns-clause-goes_on g c =
    begun_handed c.set_length-answer.ensures.acts c.hand_on.ensures.hands refl
    (λ tables inputs set functions reading f s is.
    sym (given_follows (set_length (defines c.args.how) (reading c.args.array.now.label) c.object_in-object.result.0 (marks_given c.args.how) c.args.count (reading c.args.given) s))
    ∙ ap (λ o. as_plan Value (set_length (defines c.args.how) (reading c.args.array.now.label) o.0 (marks_given c.args.how) c.args.count (reading c.args.given) s)) c.object_in-object.ensures)

pub returns-clause-moved : goal.returns-clause-moved
returns-clause-moved g c =
    let meaning = g.L.Labels.meaning c.set_length-answer.new.labels in
    c.hand_on.ensures.moved c.args.world.now c.set_length-answer.new.world
    (stood c.set_length-answer.ensures.acts (λ s. length_stands (defines c.args.how) (meaning c.args.array.now.label) c.object_in-object.result.0 (marks_given c.args.how) c.args.count (meaning c.args.given) s))
