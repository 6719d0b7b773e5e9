use Rattle.std.proofs.Common.{arith, ◌∙◌, sym, ℕ}
use Rattle.origin_labels.specs.Label.{has}
use Rattle.flow_policy.proofs.Marks.{IsMarked-yes, IsMarked-no, IsMarked-done, has-above}
use Rattle.flow_policy.proofs.ListedLaws.{label_of_is}
use Rattle.flow_policy.proofs.listed.label_of.Goals as goal
use Rattle.flow_policy.proofs.listed.label_of.Goals.{then-contains+in_ok-push, else-contains}

pub loop-origin-preserved : goal.loop-origin-preserved
unfolding has
loop-origin-preserved c =
    let test = λ (k : ℕ). has k c.args.numbers.now in
    elim c.if-contains.branch [
      | then-contains+in_ok-push w ↦ rw (w.label-is, w.in_ok-push.ensures.ok) (IsMarked-yes c.loop-origin.label test c.loop-origin.origin-counter (sym c.contains.ensures.value ∙ w.if-contains.true) c.loop-origin.invariant)
      | else-contains w ↦ rw w.label-is (IsMarked-no c.loop-origin.label test c.loop-origin.origin-counter (sym c.contains.ensures.value ∙ w.if-contains.false) c.loop-origin.invariant)
    ]

pub returns : goal.returns
returns c = label_of_is c.args.numbers.now c.loop-origin.label c.loop-origin.invariant.rising
    (IsMarked-done c.loop-origin.label (λ (k : ℕ). has k c.args.numbers.now) c.loop-origin.origin-counter
    (λ k le. has-above c.args.numbers.now c.args.bound k c.requires (omega (arith, c.loop-origin-test.false))) c.loop-origin.invariant)
