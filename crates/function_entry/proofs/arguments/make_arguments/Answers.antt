use Rattle.function_entry.proofs.ArgumentLaws.{arguments_made}
use Rattle.function_entry.proofs.arguments.make_arguments.Goals as goal

pub returns-clause-makes : goal.returns-clause-makes
returns-clause-makes g c =
    arguments_made g.L.Labels.made g.L.Labels.meaning c.add_elements.new.labels c.args.context c.args.function c.args.own c.in_ok-o.o c.in_ok-count.count c.args.args.now c.args.heap.now c.make_counted.new.heap c.add_elements.new.heap c.give_accessor.new.heap c.give_accessor-2.new.heap
    c.in_ok-o.ensures.number c.in_ok-count.ensures.is c.in_ok-count.ensures.few c.in_ok-o.ensures.makes c.in_ok-add_elements.ensures.gets (rw c.caller.ensures at c.in_ok-give_accessor.ensures.gives) (rw c.callee.ensures at c.in_ok-give_accessor-2.ensures.gives)
