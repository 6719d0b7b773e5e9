use Rattle.std.proofs.Common.{arith, ◌+◌}
use Rattle.step_core.proofs.Continued.{no_answer, no_directive, none_waits}
use Rattle.step_core.proofs.stepping.proceed.Goals as goal

pub returns-in-Raise-clause-stepped : goal.returns-in-Raise-clause-stepped
returns-in-Raise-clause-stepped g c inputs set functions tells asks = rw c.in-Raise.is (c.raised.ensures.stepped inputs set functions tells asks)

pub returns-in-Answered-clause-stepped : goal.returns-in-Answered-clause-stepped
returns-in-Answered-clause-stepped g c inputs set functions tells asks = rw c.in-Answered.is (c.tell.ensures.stepped c.args.policy.now inputs set functions tells asks)

pub returns-in_default : goal.returns-in_default
returns-in_default g c = record {
  stepped = λ inputs set functions tells asks. c.resumed.ensures.stepped c.args.policy.now inputs set functions tells asks;
  grows = c.resumed.ensures.grows;
  kept = c.resumed.ensures.kept;
}

pub resumed-requires : goal.resumed-requires
resumed-requires g c = record {
  obeys = no_directive c.args.work c.in_default.not-Raise;
  asks = no_answer c.args.work c.in_default.not-Answered;
  standing = c.requires.standing;
  natives = let all = c.requires.natives in let none = none_waits c.args.work c.in_default.not-Answered in omega (arith, all, none);
}
