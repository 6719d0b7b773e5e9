use Rattle.std.proofs.Common.{rules, arith, ◌≡◌, ℕ, false, length, get_or}
use Rattle.std.proofs.lemmas.List.{get_or_past}
use Rattle.flow_policy.proofs.Marks.{IsMarked-yes, IsMarked-no, IsMarked-done}
use Rattle.flow_policy.proofs.lists.marked.Goals as goal
use Rattle.flow_policy.proofs.lists.marked.Goals.{then-mark+in_ok-push, else-mark}

pub loop-origin-preserved : goal.loop-origin-preserved
loop-origin-preserved c =
    let test = λ (k : ℕ). get_or c.args.marks.now k false in
    elim c.if-mark.branch [
      | then-mark+in_ok-push w ↦ rw (w.origins-is, w.in_ok-push.ensures.ok) (IsMarked-yes c.loop-origin.origins test c.loop-origin.origin w.if-mark.true c.loop-origin.invariant)
      | else-mark w ↦ rw w.origins-is (IsMarked-no c.loop-origin.origins test c.loop-origin.origin w.if-mark.false c.loop-origin.invariant)
    ]

pub returns-clause-members : goal.returns-clause-members
returns-clause-members c =
    let len : length c.args.marks.now ≡ 64 = search rules in
    IsMarked-done c.loop-origin.origins (λ (k : ℕ). get_or c.args.marks.now k false) c.loop-origin.origin (λ k le. get_or_past c.args.marks.now k false (omega (arith, c.loop-origin-test.false))) c.loop-origin.invariant
