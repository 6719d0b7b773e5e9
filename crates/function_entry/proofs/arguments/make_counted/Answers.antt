use Rattle.function_entry.proofs.MakingLaws.{counted_made, counted_open}
use Rattle.function_entry.proofs.arguments.make_counted.Goals as goal

pub returns-clause-makes : goal.returns-clause-makes
returns-clause-makes g c =
    counted_made c.args.context c.args.heap.now c.new_object.new.self c.new_object.new.self c.new_object.new.self c.new_object.new.self c.give.new.heap c.in_ok-o.o 0 c.args.function c.args.count c.args.own c.in_ok-o.ensures.number c.in_ok-o.ensures.ok (rw c.length.ensures at (rw c.count_body-body.ensures at c.in_ok-give.ensures.gives))

pub returns-clause-opened : goal.returns-clause-opened
returns-clause-opened g c =
    counted_open g.L.Labels.made g.L.Labels.meaning c.args.labels.now c.args.context c.args.heap.now c.give.new.heap c.in_ok-o.o.0 c.args.function c.args.own.0 c.args.count c.in_ok-o.ensures.number
    (counted_made c.args.context c.args.heap.now c.new_object.new.self c.new_object.new.self c.new_object.new.self c.new_object.new.self c.give.new.heap c.in_ok-o.o 0 c.args.function c.args.count c.args.own c.in_ok-o.ensures.number c.in_ok-o.ensures.ok (rw c.length.ensures at (rw c.count_body-body.ensures at c.in_ok-give.ensures.gives)))
