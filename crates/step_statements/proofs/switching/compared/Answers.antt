use Rattle.std.proofs.Common.{refl, append-nil}
use Rattle.continuations.specs.declared.continuation.Control.TheVariants as control
use Rattle.continuations.specs.declared.continuation.Continuation.TheVariants as continuation
use Rattle.continuations.specs.Kept.{scopes_of}
use Rattle.step_statements.proofs.Standings.{loose_has, resumes_beside, standing_raised}
use Rattle.step_statements.proofs.switching.compared.Goals as goal

pub compared_in-requires-clause-made : goal.compared_in-requires-clause-made
compared_in-requires-clause-made g c = loose_has g.L.Labels.made g.L.Labels.meaning c.args.labels.now c.args.stack.now c.requires.standing.operands

pub returns-clause-resumes : goal.returns-clause-resumes
returns-clause-resumes g c = λ tables inputs set functions natives.
    resumes_beside g.L.Labels.made g.L.Labels.meaning c.compared_in.new.labels tables inputs set functions natives (continuation.Compared c.args.clauses c.args.number) c.args.stack.now c.compared_in.new.stack c.args.world.now c.compared_in.new.frames c.in_ok-next.next c.requires.standing.values c.in_ok-next.ensures.goes_on

pub returns-clause-standing : goal.returns-clause-standing
returns-clause-standing g c =
    standing_raised g.L.Labels.made g.L.Labels.meaning g.L.Labels.room g.L.Labels.firm c.args.labels.now c.compared_in.new.labels c.compared_in.ensures.kept c.args.stack.now c.compared_in.new.stack c.args.world.now c.compared_in.new.frames _ control.Value c.in_ok-next.next (λ n m e. e) refl (append-nil (scopes_of c.args.stack.now.tasks)) c.requires.standing c.in_ok-next.ensures.fronts c.compared_in.ensures.length c.compared_in.ensures.belongs c.in_ok-next.ensures.catch
