use Rattle.js_faults.proofs.Repeated.{same_number}
use Rattle.js_faults.proofs.properties.same_name.Goals as goal

pub returns-in-Number-Number : goal.returns-in-Number-Number
returns-in-Number-Number c = rw (c.in-Number-Number.is-0, c.in-Number-Number.is-1, ← c.get.ensures.value, ← c.get-in-Number-Number.ensures.value) (same_number c.get.result c.get-in-Number-Number.result c.get.type_inv c.get-in-Number-Number.type_inv)
