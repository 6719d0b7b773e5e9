use Rattle.step_core.proofs.resuming.go_on_in_frames.Goals as goal

pub returns-in-EndBranch-false-default-clause-leaves : goal.returns-in-EndBranch-false-default-clause-leaves
returns-in-EndBranch-false-default-clause-leaves g c = rw c.in-EndBranch-false-default.is c.end_branch.ensures.closed

pub returns-in-EndRound-clause-leaves : goal.returns-in-EndRound-clause-leaves
returns-in-EndRound-clause-leaves g c = rw c.in-EndRound.is c.end_round.ensures.closed

pub returns-in-EndLabel-clause-leaves : goal.returns-in-EndLabel-clause-leaves
returns-in-EndLabel-clause-leaves g c = rw c.in-EndLabel.is c.end_round-in-EndLabel.ensures.closed

pub returns-in-EndTry-clause-leaves : goal.returns-in-EndTry-clause-leaves
returns-in-EndTry-clause-leaves g c = rw c.in-EndTry.is c.end_round-in-EndTry.ensures.closed
