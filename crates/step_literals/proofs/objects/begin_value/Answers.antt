use Rattle.std.proofs.Common.{refl, sym, [], map, arith}
use Rattle.continuations.specs.declared.continuation.Control.TheVariants as control
use Rattle.continuations.specs.declared.continuation.Continuation.TheVariants as continuation
use Rattle.js_values.specs.Readings.{HasValue, read_value}
use Rattle.step_references.proofs.Begun.{begun_pushed}
use Rattle.step_references.proofs.Loose.{none_has}
use Rattle.step_references.proofs.Moved.{moved_pushed}
use Rattle.step_literals.proofs.LiteralLaws.{value_as}
use Rattle.step_literals.proofs.objects.begin_value.Goals as goal

pub push-requires : goal.push-requires
push-requires g c = sym c.requires.loose

pub returns-clause-goes_on : goal.returns-clause-goes_on
returns-clause-goes_on g c = begun_pushed (continuation.Property c.args.list c.args.count) c.args.stack.now.loose [] c.in_ok-push.ensures.ok (λ tables inputs set functions reading f s is. value_as tables inputs set functions c.args.list c.args.count c.args.value (map (read_value reading) c.args.stack.now.loose) f s c.requires.part)

pub returns-clause-moved : goal.returns-clause-moved
returns-clause-moved g c = moved_pushed (control.Expr c.args.value) (continuation.Property c.args.list c.args.count) c.args.stack.now.loose [] c.in_ok-push.ensures.ok refl refl c.requires.made (none_has (HasValue (g.L.Labels.made c.args.labels.now))) refl (omega arith)
