use Rattle.plain_heap.proofs.MoreLaws.{more_length}
use Rattle.step_start.proofs.FirstObjectLaws.{native_made}
use Rattle.step_start.proofs.functions.make_native.Goals as goal

pub returns-clause-ok : goal.returns-clause-ok
returns-clause-ok g c =
    native_made c.args.heap.now c.new_object.new.self c.in_ok-f.f.0 c.in_ok-f.ensures.number c.give_length.new.self c.give_prototype.new.heap c.args.which c.args.size c.args.prototype c.in_ok-f.ensures.ok c.in_ok-give_length.ensures c.in_ok-give_prototype.ensures

pub returns-clause-length : goal.returns-clause-length
returns-clause-length g c =
    more_length c.args.heap.now c.give_prototype.new.heap _
    (native_made c.args.heap.now c.new_object.new.self c.in_ok-f.f.0 c.in_ok-f.ensures.number c.give_length.new.self c.give_prototype.new.heap c.args.which c.args.size c.args.prototype c.in_ok-f.ensures.ok c.in_ok-give_length.ensures c.in_ok-give_prototype.ensures)
