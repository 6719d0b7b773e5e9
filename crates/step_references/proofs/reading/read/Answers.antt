use Rattle.std.proofs.Common.{refl}
use Rattle.step_objects.specs.References.{refers}
use Rattle.step_references.proofs.Begun.{begun_handed}
use Rattle.step_references.proofs.Moved.{stood}
use Rattle.step_objects.proofs.Frames.{accessed_stands}
use Rattle.step_references.proofs.UseLaws.{read_as}
use Rattle.step_references.proofs.reading.read.Goals as goal

pub returns-clause-goes_on : goal.returns-clause-goes_on
returns-clause-goes_on g c = begun_handed c.get_value-answer.ensures.acts c.hand_on_access.ensures.hands refl (λ tables inputs set functions reading f s is. read_as tables inputs set functions (refers reading c.args.reference.now) s)

pub returns-clause-moved : goal.returns-clause-moved
returns-clause-moved g c = c.hand_on_access.ensures.moved c.args.world.now c.get_value-answer.new.world (stood c.get_value-answer.ensures.acts (λ s. accessed_stands (refers (g.L.Labels.meaning c.get_value-answer.new.labels) c.args.reference.now) s))
