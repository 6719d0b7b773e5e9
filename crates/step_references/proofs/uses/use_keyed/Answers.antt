use Rattle.std.proofs.Common.{refl, arith}
use Rattle.step_objects.specs.References.{refers}
use Rattle.step_references.proofs.Begun.{begun_as}
use Rattle.step_references.proofs.UseLaws.{used_valued}
use Rattle.step_references.proofs.Moved.{moved_within}
use Rattle.step_references.proofs.uses.use_keyed.Goals as goal

pub returns-in-Valued-clause-goes_on : goal.returns-in-Valued-clause-goes_on
returns-in-Valued-clause-goes_on g c = rw c.in-Valued.is (begun_as c.read.ensures.goes_on refl (λ tables inputs set functions reading f s is. used_valued tables inputs set functions (refers reading c.args.reference) f.env.place s))

pub returns-in-Valued-clause-moved : goal.returns-in-Valued-clause-moved
returns-in-Valued-clause-moved g c = moved_within _ _ _ _ _ _ _ c.read.result (omega arith) c.read.ensures.moved

pub returns-in-Called-clause-goes_on : goal.returns-in-Called-clause-goes_on
returns-in-Called-clause-goes_on g c = rw c.in-Called.is c.begin_call.ensures.goes_on

pub returns-in-Called-clause-moved : goal.returns-in-Called-clause-moved
returns-in-Called-clause-moved g c = moved_within _ _ _ _ _ _ _ c.begin_call.result (omega arith) c.begin_call.ensures.moved
