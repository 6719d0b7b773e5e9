use Rattle.std.proofs.Common.{refl, arith, Ok}
use Rattle.step_objects.specs.References.{refers}
use Rattle.step_references.proofs.Begun.{begun_as}
use Rattle.step_references.proofs.UseLaws.{used_valued}
use Rattle.step_references.proofs.Moved.{moved_within}
use Rattle.step_references.proofs.uses.use_reference.Goals as goal

pub returns-in-Assigned-clause-goes_on : goal.returns-in-Assigned-clause-goes_on
returns-in-Assigned-clause-goes_on g c = rw c.in-Assigned.is c.in_ok-next-in-Assigned.ensures.goes_on

pub returns-in-Assigned-clause-moved : goal.returns-in-Assigned-clause-moved
returns-in-Assigned-clause-moved g c = moved_within _ _ _ _ _ _ _ (Ok c.in_ok-next-in-Assigned.next) (omega arith) c.in_ok-next-in-Assigned.ensures.moved

pub returns-in-Updated-clause-goes_on : goal.returns-in-Updated-clause-goes_on
returns-in-Updated-clause-goes_on g c = rw c.in-Updated.is c.begin_update.ensures.goes_on

pub returns-in-Prefixed-clause-goes_on : goal.returns-in-Prefixed-clause-goes_on
returns-in-Prefixed-clause-goes_on g c = rw c.in-Prefixed.is c.begin_count.ensures.goes_on

pub returns-in-Postfixed-clause-goes_on : goal.returns-in-Postfixed-clause-goes_on
returns-in-Postfixed-clause-goes_on g c = rw c.in-Postfixed.is c.begin_count-in-Postfixed.ensures.goes_on

pub returns-in-Asked-clause-goes_on : goal.returns-in-Asked-clause-goes_on
returns-in-Asked-clause-goes_on g c = rw c.in-Asked.is c.begin_asking.ensures.goes_on

pub returns-in-Asked-clause-moved : goal.returns-in-Asked-clause-moved
returns-in-Asked-clause-moved g c = moved_within _ _ _ _ _ _ _ c.begin_asking.result (omega arith) c.begin_asking.ensures.moved

pub returns-in-Valued-clause-goes_on : goal.returns-in-Valued-clause-goes_on
returns-in-Valued-clause-goes_on g c = rw c.in-Valued.is (begun_as c.read.ensures.goes_on refl (λ tables inputs set functions reading f s is. used_valued tables inputs set functions (refers reading c.args.reference) f.env.place s))

pub returns-in-Valued-clause-moved : goal.returns-in-Valued-clause-moved
returns-in-Valued-clause-moved g c = moved_within _ _ _ _ _ _ _ c.read.result (omega arith) c.read.ensures.moved

pub returns-in-Deleted-clause-goes_on : goal.returns-in-Deleted-clause-goes_on
returns-in-Deleted-clause-goes_on g c = rw c.in-Deleted.is c.begin_deletion.ensures.goes_on

pub returns-in-Deleted-clause-moved : goal.returns-in-Deleted-clause-moved
returns-in-Deleted-clause-moved g c = moved_within _ _ _ _ _ _ _ c.begin_deletion.result (omega arith) c.begin_deletion.ensures.moved

pub returns-in-Called-clause-goes_on : goal.returns-in-Called-clause-goes_on
returns-in-Called-clause-goes_on g c = rw c.in-Called.is c.begin_call.ensures.goes_on

pub returns-in-Called-clause-moved : goal.returns-in-Called-clause-moved
returns-in-Called-clause-moved g c = moved_within _ _ _ _ _ _ _ c.begin_call.result (omega arith) c.begin_call.ensures.moved

pub returns-clause-goes_on : goal.returns-clause-goes_on
returns-clause-goes_on g c = rw c.in-GivenText.is c.give_text.ensures.goes_on

pub returns-clause-moved : goal.returns-clause-moved
returns-clause-moved g c = moved_within _ _ _ _ _ _ _ c.give_text.result (omega arith) c.give_text.ensures.moved
