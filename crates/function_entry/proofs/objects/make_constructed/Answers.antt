use Rattle.function_entry.proofs.MakingLaws.{constructed_made}
use Rattle.function_entry.proofs.objects.make_constructed.Goals as goal

pub returns-clause-makes : goal.returns-clause-makes
returns-clause-makes g c =
    constructed_made c.args.context c.args.heap.now c.new_object.new.self c.new_object.new.self c.new_object.new.self c.new_object.new.self c.give.new.heap c.in_ok-made.made 0 0 0 (record { 0 = 0 }) c.in_ok-made.ensures.number c.args.o c.in_ok-made.ensures.ok (rw c.constructor.ensures at c.in_ok-give.ensures.gives)
