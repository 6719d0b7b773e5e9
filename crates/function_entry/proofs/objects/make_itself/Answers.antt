use Rattle.function_entry.proofs.MakingLaws.{function_made}
use Rattle.function_entry.proofs.objects.make_itself.Goals as goal

pub returns-clause-makes : goal.returns-clause-makes
returns-clause-makes g c =
    function_made c.args.context c.args.heap.now c.new_object.new.self c.give.new.heap c.give-2.new.heap c.give_accessor.new.heap c.give_accessor-2.new.heap c.in_ok-o.o c.len.result c.args.function c.args.count c.args.env c.in_ok-o.ensures.number
    c.in_ok-o.ensures.ok c.len.ensures.length (rw c.length.ensures at (rw c.count_body-size.ensures at c.in_ok-give.ensures.gives)) (rw c.prototype.ensures at c.in_ok-give-2.ensures.gives) (rw c.caller.ensures at c.in_ok-give_accessor.ensures.gives) (rw c.arguments.ensures at c.in_ok-give_accessor-2.ensures.gives)
