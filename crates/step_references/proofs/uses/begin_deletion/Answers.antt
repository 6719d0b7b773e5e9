use Rattle.std.proofs.Common.{refl}
use Rattle.step_objects.specs.References.{refers}
use Rattle.step_references.proofs.Begun.{begun_handed}
use Rattle.step_references.proofs.Moved.{stood}
use Rattle.step_objects.proofs.Frames.{remove_stands}
use Rattle.step_references.proofs.UseLaws.{used_deleted}
use Rattle.step_references.proofs.uses.begin_deletion.Goals as goal

pub returns-clause-goes_on : goal.returns-clause-goes_on
returns-clause-goes_on g c = begun_handed c.remove-answer.ensures.acts c.hand_on.ensures.hands refl (λ tables inputs set functions reading f s is. used_deleted tables inputs set functions (refers reading c.args.reference.now) f.env.place s)

pub returns-clause-moved : goal.returns-clause-moved
returns-clause-moved g c = c.hand_on.ensures.moved c.args.world.now c.remove-answer.new.world (stood c.remove-answer.ensures.acts (λ s. remove_stands (refers (g.L.Labels.meaning c.remove-answer.new.labels) c.args.reference.now) s))
