use Rattle.std.proofs.Common.{arith, sym, ap, ◌∙◌, below_more, length}
use Rattle.flow_policy.proofs.ObservedLaws.{disagree_first, disagree_none, disagree_agree, differ_yes, differ_same, differ_unseen}
use Rattle.flow_policy.proofs.observed.disagree.Goals as goal
use Rattle.flow_policy.proofs.observed.disagree.Goals.{else-sees-via-then-sees+else-not-same_lines, else-sees-via-else-sees}

pub returns-then-not-same_lines-clause-first : goal.returns-then-not-same_lines-clause-first
returns-then-not-same_lines-clause-first c = sym (disagree_first c.args.observer.now c.args.policy.now c.args.first.now c.args.second.now c.loop-i.i (omega (arith, ap length c.inputs-channel-items.ensures.inputs)) c.loop-i.invariant
    (differ_yes c.args.observer.now c.args.policy.now c.args.first.now c.args.second.now c.loop-i.i c.inputs-channel-items.result.now c.channel-item.result c.inputs-channel-items.ensures.inputs c.loop-i-test.true c.channel-item.is (sym c.sees.ensures ∙ c.if-sees.true) (rw (← c.lines.ensures, ← c.lines-then-sees.ensures) (sym c.if-not-same_lines.ensures))))

pub returns-then-not-same_lines-clause-agree : goal.returns-then-not-same_lines-clause-agree
returns-then-not-same_lines-clause-agree c = disagree_agree c.args.observer.now c.args.policy.now c.args.first.now c.args.second.now _ (sym (disagree_first c.args.observer.now c.args.policy.now c.args.first.now c.args.second.now c.loop-i.i (omega (arith, ap length c.inputs-channel-items.ensures.inputs)) c.loop-i.invariant
    (differ_yes c.args.observer.now c.args.policy.now c.args.first.now c.args.second.now c.loop-i.i c.inputs-channel-items.result.now c.channel-item.result c.inputs-channel-items.ensures.inputs c.loop-i-test.true c.channel-item.is (sym c.sees.ensures ∙ c.if-sees.true) (rw (← c.lines.ensures, ← c.lines-then-sees.ensures) (sym c.if-not-same_lines.ensures)))))

pub loop-i-preserved : goal.loop-i-preserved
loop-i-preserved c = below_more _ _ c.loop-i.invariant
    (elim c.else-sees.branch [
      | else-sees-via-then-sees+else-not-same_lines w ↦ differ_same c.args.observer.now c.args.policy.now c.args.first.now c.args.second.now c.loop-i.i c.inputs-channel-items.result.now c.channel-item.result c.inputs-channel-items.ensures.inputs c.loop-i-test.true c.channel-item.is (rw (← w.lines.ensures, ← w.lines-then-sees.ensures) (sym w.if-not-same_lines.ensures))
      | else-sees-via-else-sees w ↦ differ_unseen c.args.observer.now c.args.policy.now c.args.first.now c.args.second.now c.loop-i.i c.inputs-channel-items.result.now c.channel-item.result c.inputs-channel-items.ensures.inputs c.loop-i-test.true c.channel-item.is (sym c.sees.ensures ∙ w.if-sees.false)
    ])

pub returns-clause-first : goal.returns-clause-first
returns-clause-first c = sym (disagree_none c.args.observer.now c.args.policy.now c.args.first.now c.args.second.now (λ k lt. c.loop-i.invariant k (omega (arith, c.loop-i-test.false, ap length c.inputs-channel-items.ensures.inputs))))

pub returns-clause-agree : goal.returns-clause-agree
returns-clause-agree c = disagree_agree c.args.observer.now c.args.policy.now c.args.first.now c.args.second.now _ (sym (disagree_none c.args.observer.now c.args.policy.now c.args.first.now c.args.second.now (λ k lt. c.loop-i.invariant k (omega (arith, c.loop-i-test.false, ap length c.inputs-channel-items.ensures.inputs)))))
