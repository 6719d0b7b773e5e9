use Rattle.std.proofs.Common.{refl}
use Rattle.js_values.specs.Readings.{read_value}
use Rattle.step_objects.specs.References.{refers}
use Rattle.step_references.proofs.Begun.{begun_handed}
use Rattle.step_references.proofs.Moved.{stood}
use Rattle.step_objects.proofs.Frames.{put_stands}
use Rattle.step_references.proofs.UseLaws.{giving_as}
use Rattle.step_references.proofs.reading.assign_giving.Goals as goal

pub returns-clause-goes_on : goal.returns-clause-goes_on
returns-clause-goes_on g c = begun_handed c.put-answer.ensures.acts c.hand_on_putting.ensures.hands refl (λ tables inputs set functions reading f s is. giving_as tables inputs set functions (refers reading c.args.reference.now) (read_value reading c.args.gives) (read_value reading c.args.value) s)

pub returns-clause-moved : goal.returns-clause-moved
returns-clause-moved g c = c.hand_on_putting.ensures.moved c.args.world.now c.put-answer.new.world (stood c.put-answer.ensures.acts (λ s. put_stands (refers (g.L.Labels.meaning c.put-answer.new.labels) c.args.reference.now) (read_value (g.L.Labels.meaning c.put-answer.new.labels) c.args.value) s))
