use Rattle.std.proofs.Common.{refl, append-nil}
use Rattle.continuations.specs.declared.continuation.Control.TheVariants as control
use Rattle.continuations.specs.declared.continuation.Continuation.TheVariants as continuation
use Rattle.continuations.specs.Kept.{scopes_of}
use Rattle.step_statements.proofs.Standings.{loose_has, resumes_so, standing_opened}
use Rattle.step_statements.proofs.switching.switched.Goals as goal

pub switched_in-requires-clause-made : goal.switched_in-requires-clause-made
switched_in-requires-clause-made g c = loose_has g.L.Labels.made g.L.Labels.meaning c.args.labels.now c.args.stack.now c.requires.standing.operands

pub returns-clause-resumes : goal.returns-clause-resumes
returns-clause-resumes g c = λ tables inputs set functions natives.
    resumes_so g.L.Labels.made g.L.Labels.meaning c.switched_in.new.labels tables inputs set functions natives (continuation.Switched c.args.of c.args.clauses) c.args.stack.now c.switched_in.new.stack c.args.world.now c.switched_in.new.frames c.in_ok-next.next c.requires.standing.values c.in_ok-next.ensures.goes_on

pub returns-clause-standing : goal.returns-clause-standing
returns-clause-standing g c =
    standing_opened g.L.Labels.made g.L.Labels.meaning g.L.Labels.room g.L.Labels.firm c.args.labels.now c.switched_in.new.labels c.switched_in.ensures.kept c.args.stack.now c.switched_in.new.stack c.args.world.now c.switched_in.new.frames _ control.Value c.in_ok-next.next (λ n m e. e) refl (append-nil (scopes_of c.args.stack.now.tasks)) c.requires.standing c.in_ok-next.ensures.opened c.in_ok-next.ensures.still c.switched_in.ensures.belongs c.in_ok-next.ensures.catch
