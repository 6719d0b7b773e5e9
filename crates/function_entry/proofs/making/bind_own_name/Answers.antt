use Rattle.std.proofs.Common.{Some, false}
use Rattle.function_entry.proofs.BindingLaws.{first_bound}
use Rattle.function_entry.proofs.making.bind_own_name.Goals as goal

pub returns-in_ok-bind-in-Some-clause-binds : goal.returns-in_ok-bind-in-Some-clause-binds
returns-in_ok-bind-in-Some-clause-binds g c =
    rw c.in-Some.is
    (rw c.in_ok-name-in-Some.ensures at
    (first_bound c.in_ok-e-in-Some.e (Some c.args.place) (record { name = c.in_ok-name-in-Some.name; mutable = false; value = c.args.value }) c.args.records.now c.new_record.new.self c.bind.new.self c.in_ok-e-in-Some.ensures.number c.in_ok-e-in-Some.ensures.ok c.in_ok-bind-in-Some.ensures.ok))
