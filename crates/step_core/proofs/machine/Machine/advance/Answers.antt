use Rattle.step_core.proofs.machine.Machine.advance.Goals as goal

pub returns-in-Goes-clause-comes : goal.returns-in-Goes-clause-comes
returns-in-Goes-clause-comes g c = (rw c.in-Goes.is at c.in_ok-came.ensures.stepped).comes

pub returns-in-Line-clause-comes : goal.returns-in-Line-clause-comes
returns-in-Line-clause-comes g c = (rw c.in-Line.is at c.in_ok-came.ensures.stepped).comes

pub returns-in-Ends-clause-comes : goal.returns-in-Ends-clause-comes
returns-in-Ends-clause-comes g c = (rw c.in-Ends.is at c.in_ok-came.ensures.stepped).comes
