use Rattle.std.proofs.Common.{arith, Ok}
use Rattle.step_references.proofs.Moved.{moved_within}
use Rattle.step_references.proofs.uses.use_named.Goals as goal

pub returns-in_ok-next-in-Assigned-clause-goes_on : goal.returns-in_ok-next-in-Assigned-clause-goes_on
returns-in_ok-next-in-Assigned-clause-goes_on g c = rw c.in-Assigned.is c.in_ok-next-in-Assigned.ensures.goes_on

pub returns-in_ok-next-in-Assigned-clause-moved : goal.returns-in_ok-next-in-Assigned-clause-moved
returns-in_ok-next-in-Assigned-clause-moved g c = moved_within _ _ _ _ _ _ _ (Ok c.in_ok-next-in-Assigned.next) (omega arith) c.in_ok-next-in-Assigned.ensures.moved

pub returns-in-Updated-clause-goes_on : goal.returns-in-Updated-clause-goes_on
returns-in-Updated-clause-goes_on g c = rw c.in-Updated.is c.begin_update.ensures.goes_on

pub returns-in-Prefixed-clause-goes_on : goal.returns-in-Prefixed-clause-goes_on
returns-in-Prefixed-clause-goes_on g c = rw c.in-Prefixed.is c.begin_count.ensures.goes_on

pub returns-in-Postfixed-clause-goes_on : goal.returns-in-Postfixed-clause-goes_on
returns-in-Postfixed-clause-goes_on g c = rw c.in-Postfixed.is c.begin_count-in-Postfixed.ensures.goes_on

pub returns-in-Called-clause-goes_on : goal.returns-in-Called-clause-goes_on
returns-in-Called-clause-goes_on g c = rw c.in-Called.is c.begin_call.ensures.goes_on

pub returns-in-Called-clause-moved : goal.returns-in-Called-clause-moved
returns-in-Called-clause-moved g c = moved_within _ _ _ _ _ _ _ c.begin_call.result (omega arith) c.begin_call.ensures.moved
