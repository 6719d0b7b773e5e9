use Rattle.std.proofs.Common.{subst, ◌≤◌}
use Rattle.step_start.proofs.AccessorLaws.{begins, goes_on, ends}
use Rattle.step_start.proofs.entries.give_accessors.Goals as goal

pub objects-init : goal.objects-init
objects-init g c = begins c.args.heap.now c.requires.started

pub objects-preserved : goal.objects-preserved
objects-preserved g c = goes_on c.args.heap.now c.objects.n c.objects.heap c.give_if_function.new.heap c.in_ok-give_if_function.ensures c.objects.invariant

pub returns-clause-ok : goal.returns-clause-ok
returns-clause-ok g c = ends c.args.heap.now c.objects.n c.objects.heap (subst (λ n. n ≤ c.objects.n) c.len-n-end.ensures c.objects-test.false) c.objects.invariant

pub returns-clause-started : goal.returns-clause-started
returns-clause-started g c = c.objects.invariant.started
