use Rattle.std.proofs.Common.{ap, subst, ◌∙◌}
use Rattle.continuations.specs.Invariant.{given}
use Rattle.step_calling.specs.Calling.{StartsBody}
use Rattle.step_calling.proofs.entries.begin_body.Goals as goal

pub returns-clause-begins : goal.returns-clause-begins
returns-clause-begins g c = subst (λ ss. StartsBody ss c.args.stack.now c.begin_statements.new.stack c.in_ok-next.next) c.body.ensures c.in_ok-next.ensures.goes_on

pub returns-clause-quiet : goal.returns-clause-quiet
returns-clause-quiet g c = c.is_request.ensures ∙ ap given c.if-is_request.false
