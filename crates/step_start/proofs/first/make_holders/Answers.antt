use Rattle.std.proofs.lemmas.Result.{on_ok_weaker}
use Rattle.plain_heap.proofs.MoreLaws.{more_then}
use Rattle.step_start.proofs.first.make_holders.Goals as goal

pub returns-clause-ok : goal.returns-clause-ok
returns-clause-ok g c =
    on_ok_weaker c.make_string_prototype.result (λ strings.
    more_then c.args.heap.now c.make_array_prototype.new.heap c.make_string_prototype.new.heap _ _
    (more_then c.args.heap.now c.new_object-4.new.self c.make_array_prototype.new.heap _ _
    (more_then c.args.heap.now c.new_object-3.new.self c.new_object-4.new.self _ _
    (more_then c.args.heap.now c.new_object-2.new.self c.new_object-3.new.self _ _
    (more_then c.args.heap.now c.new_object.new.self c.new_object-2.new.self _ _ c.in_ok-new_object.ensures.ok c.in_ok-new_object-2.ensures.ok) c.in_ok-new_object-3.ensures.ok) c.in_ok-new_object-4.ensures.ok)
    c.in_ok-make_array_prototype.ensures.ok) strings) c.make_string_prototype.ensures.ok
