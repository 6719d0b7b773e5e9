use Rattle.std.proofs.lemmas.Result.{on_ok_weaker}
use Rattle.plain_heap.proofs.MoreLaws.{more_length}
use Rattle.step_start.proofs.FirstObjectLaws.{string_prototype_made}
use Rattle.step_start.proofs.first.make_string_prototype.Goals as goal

pub returns-clause-ok : goal.returns-clause-ok
returns-clause-ok g c =
    on_ok_weaker c.give_length.result (λ gives. string_prototype_made c.args.heap.now c.new_object.new.self c.in_ok-o.o.0 c.in_ok-o.ensures.number c.give_length.new.self c.in_ok-o.ensures.ok gives) c.give_length.ensures

pub returns-clause-length : goal.returns-clause-length
returns-clause-length g c =
    on_ok_weaker c.give_length.result (λ gives.
    more_length c.args.heap.now c.give_length.new.self _
    (string_prototype_made c.args.heap.now c.new_object.new.self c.in_ok-o.o.0 c.in_ok-o.ensures.number c.give_length.new.self c.in_ok-o.ensures.ok gives)) c.give_length.ensures
