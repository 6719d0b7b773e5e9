use Rattle.std.proofs.Common.{sym, ap, [], length}
use Rattle.flow_policy.specs.Policies.{no_tables}
use Rattle.es_meaning.specs.Operations.{object_of}
use Rattle.step_objects.specs.Literals.{keys_in, values_in}
use Rattle.step_objects.proofs.Frames.{act_stands}
use Rattle.step_references.proofs.Begun.{begun_handed}
use Rattle.step_references.proofs.Moved.{moved_popped, stood}
use Rattle.step_literals.proofs.LiteralLaws.{object_as, parts_have}
use Rattle.step_literals.proofs.objects.build.Goals as goal

pub clear-requires : goal.clear-requires
clear-requires g c = sym c.requires.loose

pub loose-requires : goal.loose-requires
loose-requires g c = sym c.requires.loose

pub make_object-answer-requires-clause-parts : goal.make_object-answer-requires-clause-parts
make_object-answer-requires-clause-parts g c = parts_have (g.L.Labels.made c.args.labels.now) c.items.result.now c.args.stack.now.loose c.in_ok-parts.parts.items (rw c.loose.ensures at c.in_ok-parts.ensures) c.requires.made

pub hand_on-requires-clause-loose : goal.hand_on-requires-clause-loose
hand_on-requires-clause-loose g c = ap length c.clear.ensures.none

pub returns-clause-goes_on : goal.returns-clause-goes_on
returns-clause-goes_on g c = begun_handed (c.make_object-answer.ensures.acts no_tables []) c.hand_on.ensures.hands c.clear.ensures.tasks (λ tables inputs set functions reading f s is. rw (← c.items.ensures) (object_as reading c.items.result.now c.args.stack.now.loose c.in_ok-parts.parts.items (rw c.loose.ensures at c.in_ok-parts.ensures) s tables inputs set functions))

pub returns-clause-moved : goal.returns-clause-moved
returns-clause-moved g c = moved_popped _ _ _ _ _ _ _ c.hand_on.result c.clear.ensures.tasks (c.hand_on.ensures.moved c.args.world.now c.make_object-answer.new.world (stood (c.make_object-answer.ensures.acts no_tables []) (λ s. act_stands no_tables [] (object_of (keys_in c.in_ok-parts.parts.items)) (values_in (g.L.Labels.meaning c.make_object-answer.new.labels) c.in_ok-parts.parts.items) s)))
