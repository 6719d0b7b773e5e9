use Rattle.std.proofs.Common.{subst}
use Rattle.continuations.specs.Literals.{IsPart}
use Rattle.continuations.proofs.ObjectLaws.{value_begins}
use Rattle.continuations.proofs.objects.begin_properties.Goals as goal

pub returns-in_ok-push-in-Value-clause-goes_on : goal.returns-in_ok-push-in-Value-clause-goes_on
returns-in_ok-push-in-Value-clause-goes_on g c =
    value_begins c.args.list c.args.count c.in-Value.value c.args.stack.now c.push.new.self (subst (λ p. IsPart p c.args.list.now c.args.count) c.in-Value.is c.part_at.ensures) c.in_ok-push-in-Value.ensures.ok
