use Rattle.std.proofs.Common.{sym}
use Rattle.std.proofs.lemmas.Result.{err_from_is_err_and}
use Rattle.flow_policy.specs.Words.{words_of}
use Rattle.flow_policy.proofs.PolicyLaws.{after_in-words, input_fails, input_declared, IsPolicy-input}
use Rattle.flow_policy.proofs.policy.Policy.declare_input.Goals as goal

pub returns-in_default : goal.returns-in_default
returns-in_default c = after_in-words c.args.self.now (words_of c.args.words.now) (sym c.in_default.ensures)

pub returns-in_err-channel : goal.returns-in_err-channel
returns-in_err-channel c =
    let p = err_from_is_err_and c.from_residual.result c.from_residual.ensures.1 in
    let h = rw c.deref.ensures.value at c.in_err-channel.ensures in
    rw (p.1, p.2, ← c.self.view_is) (input_fails _ (words_of c.args.words.now) c.in-Some.name.now c.in-Some.list.now c.in_err-channel.field-0.0 (sym c.in-Some.ensures) h)

pub invariant_of-self-2 : goal.invariant_of-self-2
invariant_of-self-2 c =
    let h = rw c.deref.ensures.value at c.in_ok-channel.ensures in
    rw c.in_ok-push.ensures.items (IsPolicy-input _ c.in-Some.name.now c.in-Some.list.now _ c.self.invariant h)

pub returns : goal.returns
returns c =
    let h = rw c.deref.ensures.value at c.in_ok-channel.ensures in
    rw (← c.self.view_is, c.in_ok-push.ensures.items) (input_declared _ (words_of c.args.words.now) c.in-Some.name.now c.in-Some.list.now _ (sym c.in-Some.ensures) h)
