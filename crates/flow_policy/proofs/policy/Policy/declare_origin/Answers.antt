use Rattle.std.proofs.Common.{sym}
use Rattle.std.proofs.lemmas.Result.{err_from_is_err_and}
use Rattle.flow_policy.specs.Words.{words_of}
use Rattle.flow_policy.proofs.PolicyLaws.{after_origin-words, origin_fails, fresh_origin, origin_declared, IsPolicy-origin}
use Rattle.flow_policy.proofs.policy.Policy.declare_origin.Goals as goal

pub returns-in_default : goal.returns-in_default
returns-in_default c = after_origin-words c.args.self.now (words_of c.args.words.now) (sym c.in_default.ensures)

pub returns-in_err-name : goal.returns-in_err-name
returns-in_err-name c =
    let p = err_from_is_err_and c.from_residual.result c.from_residual.ensures.1 in
    rw (p.1, p.2, ← c.self.view_is) (origin_fails _ (words_of c.args.words.now) c.in-Some.name.now c.in_err-name.field-0.0 (sym c.in-Some.ensures) c.in_err-name.ensures)

pub add-requires-clause-new : goal.add-requires-clause-new
add-requires-clause-new c = fresh_origin c.self.inside.origins c.in-Some.name.now c.in_ok-name.name c.in_ok-name.ensures

pub invariant_of-self-2 : goal.invariant_of-self-2
invariant_of-self-2 c = rw c.in_ok-add.ensures.ok (IsPolicy-origin _ c.in-Some.name.now _ c.self.invariant c.in_ok-name.ensures)

pub returns : goal.returns
returns c = rw (← c.self.view_is, c.in_ok-add.ensures.ok) (origin_declared _ (words_of c.args.words.now) c.in-Some.name.now _ (sym c.in-Some.ensures) c.in_ok-name.ensures)
