use Rattle.plain_heap.proofs.MoreLaws.{more_length}
use Rattle.step_start.proofs.FirstObjectLaws.{error_prototype_made}
use Rattle.step_start.proofs.first.make_error_prototype.Goals as goal

pub returns-clause-ok : goal.returns-clause-ok
returns-clause-ok g c =
    error_prototype_made c.args.heap.now c.new_object.new.self c.in_ok-o.o.0 c.in_ok-o.ensures.number c.args.kind c.args.proto c.give_text.new.heap c.give_text-2.new.heap _ c.error_name.ensures c.in_ok-o.ensures.ok c.in_ok-give_text.ensures c.in_ok-give_text-2.ensures

pub returns-clause-length : goal.returns-clause-length
returns-clause-length g c =
    more_length c.args.heap.now c.give_text-2.new.heap _
    (error_prototype_made c.args.heap.now c.new_object.new.self c.in_ok-o.o.0 c.in_ok-o.ensures.number c.args.kind c.args.proto c.give_text.new.heap c.give_text-2.new.heap _ c.error_name.ensures c.in_ok-o.ensures.ok c.in_ok-give_text.ensures c.in_ok-give_text-2.ensures)
