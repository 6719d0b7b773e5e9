use Rattle.step_start.proofs.DeclaredLaws.{function_made}
use Rattle.step_start.proofs.script_functions.make_itself.Goals as goal

pub returns-clause-makes : goal.returns-clause-makes
returns-clause-makes g c =
    function_made c.args.heap.now c.new_object.new.self c.give_length.new.self c.give_named.new.self c.give_function_rows.new.self c.in_ok-o.o c.len.result c.args.function c.args.count c.in_ok-o.ensures.number c.in_ok-o.ensures.ok c.len.ensures c.in_ok-give_length.ensures
    c.in_ok-give_named.ensures c.in_ok-give_function_rows.ensures
