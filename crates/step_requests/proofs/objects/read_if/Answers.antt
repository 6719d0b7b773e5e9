use Rattle.std.proofs.Common.{sym, subst, None, Some}
use Rattle.step_requests.specs.Doing.{ReadsIf}
use Rattle.step_requests.proofs.Based.{reads_none, reads_some}
use Rattle.step_requests.proofs.objects.read_if.Goals as goal

pub returns-in-None : goal.returns-in-None
returns-in-None g c = subst (λ r. ReadsIf g.L.Labels.made g.L.Labels.meaning c.args.labels.now r c.args.stack.now.loose None) (sym c.in-None.is) (reads_none g.L.Labels.made g.L.Labels.meaning c.args.labels.now c.args.stack.now.loose)

pub returns-in_ok-value-in-Some : goal.returns-in_ok-value-in-Some
returns-in_ok-value-in-Some g c = subst (λ r. ReadsIf g.L.Labels.made g.L.Labels.meaning c.args.labels.now r c.args.stack.now.loose (Some c.in_ok-value-in-Some.value)) (sym c.in-Some.is) (reads_some g.L.Labels.made g.L.Labels.meaning c.args.labels.now c.args.stack.now.loose c.in-Some.register c.in_ok-value-in-Some.value c.in_ok-value-in-Some.ensures.reads c.in_ok-value-in-Some.ensures.made)
