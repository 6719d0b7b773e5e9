use Rattle.plain_heap.proofs.MoreLaws.{more_then}
use Rattle.step_start.proofs.first.make_errors.Goals as goal

pub returns-clause-ok : goal.returns-clause-ok
returns-clause-ok g c =
    more_then c.args.heap.now c.make_error_prototype-6.new.heap c.make_error_prototype-7.new.heap _ _
    (more_then c.args.heap.now c.make_error_prototype-5.new.heap c.make_error_prototype-6.new.heap _ _
    (more_then c.args.heap.now c.make_error_prototype-4.new.heap c.make_error_prototype-5.new.heap _ _
    (more_then c.args.heap.now c.make_error_prototype-3.new.heap c.make_error_prototype-4.new.heap _ _
    (more_then c.args.heap.now c.make_error_prototype-2.new.heap c.make_error_prototype-3.new.heap _ _
    (more_then c.args.heap.now c.make_error_prototype.new.heap c.make_error_prototype-2.new.heap _ _ c.in_ok-make_error_prototype.ensures.ok c.in_ok-make_error_prototype-2.ensures.ok)
    c.in_ok-make_error_prototype-3.ensures.ok) c.in_ok-make_error_prototype-4.ensures.ok) c.in_ok-make_error_prototype-5.ensures.ok) c.in_ok-make_error_prototype-6.ensures.ok) c.in_ok-make_error_prototype-7.ensures.ok
