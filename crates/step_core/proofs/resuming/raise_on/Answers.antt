use Rattle.std.proofs.Common.{subst, IfOk}
use Rattle.continuations.specs.Kept.{scopes_of, waiting}
use Rattle.continuations.specs.Pending.{values_of}
use Rattle.continuations.specs.Invariant.{Invariant}
use Rattle.step_core.proofs.Stood.{stands_anyway}
use Rattle.continuations.specs.declared.continuation.Continuation.TheVariants as continuation
use Rattle.step_core.proofs.Continued.{resumes_prepared}
use Rattle.step_core.proofs.resuming.raise_on.Goals as goal

pub returns-clause-resumes : goal.returns-clause-resumes
returns-clause-resumes g c inputs set functions natives =
    resumes_prepared g.L.Labels.made g.L.Labels.meaning c.raise_by.new.labels g.L.Labels.room g.L.Labels.firm c.args.labels.now (continuation.Raise c.args.e) c.args.stack.now c.prepare.new.stack c.raise_by.new.stack c.args.world.now c.raise_by.new.world c.raise_by.result
    c.raise_by.ensures.kept c.prepare.ensures.tasks c.in_ok-prepare.ensures.same c.args.policy.now inputs set functions natives (c.raise_by.ensures.resumes inputs set functions natives)

pub returns-clause-standing : goal.returns-clause-standing
returns-clause-standing g c =
    stands_anyway g.L.Labels.made g.L.Labels.meaning c.raise_by.new.labels (waiting c.args.stack.now.tasks) c.raise_by.new.stack c.raise_by.new.world c.raise_by.result
    (subst (λ tasks. IfOk c.raise_by.result (λ move. Invariant g.L.Labels.made g.L.Labels.meaning c.raise_by.new.labels c.raise_by.new.stack c.raise_by.new.world (values_of move) (scopes_of c.raise_by.new.stack.tasks) (waiting tasks) move)) c.prepare.ensures.tasks c.raise_by.ensures.standing)
