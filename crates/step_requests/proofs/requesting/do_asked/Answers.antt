use Rattle.std.proofs.lemmas.Result.{IfOk-weaker}
use Rattle.step_requests.proofs.Requested.{quiet_prints}
use Rattle.step_requests.proofs.requesting.do_asked.Goals as goal

pub returns-in-PrintLine-clause-does : goal.returns-in-PrintLine-clause-does
returns-in-PrintLine-clause-does g c = rw c.in-PrintLine.is (c.print.ensures.does c.args.inputs.now)

pub returns-in-Does-clause-does : goal.returns-in-Does-clause-does
returns-in-Does-clause-does g c = rw c.in-Does.is (c.do_effect.ensures.does)

pub returns-in-Does-clause-printed : goal.returns-in-Does-clause-printed
returns-in-Does-clause-printed g c = IfOk-weaker c.do_effect.result _ _ (λ m quiet. quiet_prints _ _ m quiet) c.do_effect.ensures.quiet

pub returns-in-Look-clause-does : goal.returns-in-Look-clause-does
returns-in-Look-clause-does g c = rw c.in-Look.is (c.look.ensures.does c.args.policy.now c.args.inputs.now)

pub returns-in-Look-clause-printed : goal.returns-in-Look-clause-printed
returns-in-Look-clause-printed g c = IfOk-weaker c.look.result _ _ (λ m quiet. quiet_prints _ _ m quiet) c.look.ensures.quiet

pub returns-in-Get-clause-does : goal.returns-in-Get-clause-does
returns-in-Get-clause-does g c = rw c.in-Get.is (c.get.ensures.does c.args.policy.now c.args.inputs.now)

pub returns-in-Get-clause-printed : goal.returns-in-Get-clause-printed
returns-in-Get-clause-printed g c = IfOk-weaker c.get.result _ _ (λ m quiet. quiet_prints _ _ m quiet) c.get.ensures.quiet

pub returns-in-Put-clause-does : goal.returns-in-Put-clause-does
returns-in-Put-clause-does g c = rw c.in-Put.is (c.put.ensures.does c.args.policy.now c.args.inputs.now)

pub returns-in-Put-clause-printed : goal.returns-in-Put-clause-printed
returns-in-Put-clause-printed g c = IfOk-weaker c.put.result _ _ (λ m quiet. quiet_prints _ _ m quiet) c.put.ensures.quiet

pub returns-in-Own-clause-does : goal.returns-in-Own-clause-does
returns-in-Own-clause-does g c = rw c.in-Own.is (c.own.ensures.does c.args.policy.now c.args.inputs.now)

pub returns-in-Own-clause-printed : goal.returns-in-Own-clause-printed
returns-in-Own-clause-printed g c = IfOk-weaker c.own.result _ _ (λ m quiet. quiet_prints _ _ m quiet) c.own.ensures.quiet

pub returns-in-Define-clause-does : goal.returns-in-Define-clause-does
returns-in-Define-clause-does g c = rw c.in-Define.is (c.define.ensures.does c.args.policy.now c.args.inputs.now)

pub returns-in-Define-clause-printed : goal.returns-in-Define-clause-printed
returns-in-Define-clause-printed g c = IfOk-weaker c.define.result _ _ (λ m quiet. quiet_prints _ _ m quiet) c.define.ensures.quiet

pub returns-in-Call-clause-does : goal.returns-in-Call-clause-does
returns-in-Call-clause-does g c = rw c.in-Call.is (c.do_call.ensures.does c.args.policy.now c.args.inputs.now)

pub returns-in-Call-clause-printed : goal.returns-in-Call-clause-printed
returns-in-Call-clause-printed g c = IfOk-weaker c.do_call.result _ _ (λ m quiet. quiet_prints _ _ m quiet) c.do_call.ensures.quiet

pub returns-in-Construct-clause-does : goal.returns-in-Construct-clause-does
returns-in-Construct-clause-does g c = rw c.in-Construct.is (c.do_construct.ensures.does c.args.policy.now c.args.inputs.now)

pub returns-in-Construct-clause-printed : goal.returns-in-Construct-clause-printed
returns-in-Construct-clause-printed g c = IfOk-weaker c.do_construct.result _ _ (λ m quiet. quiet_prints _ _ m quiet) c.do_construct.ensures.quiet

pub returns-in-Return-clause-does : goal.returns-in-Return-clause-does
returns-in-Return-clause-does g c = rw c.in-Return.is (c.give_back.ensures.does c.args.policy.now c.args.inputs.now)

pub returns-in-Return-clause-printed : goal.returns-in-Return-clause-printed
returns-in-Return-clause-printed g c = IfOk-weaker c.give_back.result _ _ (λ m quiet. quiet_prints _ _ m quiet) c.give_back.ensures.quiet

pub returns-in-Throw-clause-does : goal.returns-in-Throw-clause-does
returns-in-Throw-clause-does g c = rw c.in-Throw.is (c.throw.ensures.does c.args.policy.now c.args.inputs.now)

pub returns-in-Throw-clause-printed : goal.returns-in-Throw-clause-printed
returns-in-Throw-clause-printed g c = IfOk-weaker c.throw.result _ _ (λ m quiet. quiet_prints _ _ m quiet) c.throw.ensures.quiet

pub returns-in-ThrowNew-clause-does : goal.returns-in-ThrowNew-clause-does
returns-in-ThrowNew-clause-does g c = rw c.in-ThrowNew.is (c.throw_new.ensures.does c.args.policy.now c.args.inputs.now)

pub returns-in-ThrowNew-clause-printed : goal.returns-in-ThrowNew-clause-printed
returns-in-ThrowNew-clause-printed g c = IfOk-weaker c.throw_new.result _ _ (λ m quiet. quiet_prints _ _ m quiet) c.throw_new.ensures.quiet

pub returns-in-Leave-clause-does : goal.returns-in-Leave-clause-does
returns-in-Leave-clause-does g c = rw c.in-Leave.is (c.leave.ensures.does c.args.policy.now c.args.inputs.now)

pub returns-in-Leave-clause-printed : goal.returns-in-Leave-clause-printed
returns-in-Leave-clause-printed g c = IfOk-weaker c.leave.result _ _ (λ m quiet. quiet_prints _ _ m quiet) c.leave.ensures.quiet
