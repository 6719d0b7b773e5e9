use Rattle.std.proofs.lemmas.Result.{err_from_is_err_and}
use Rattle.std.proofs.Common.{arith, subst, List, ℕ, [], sym}
use Rattle.std.specs.List.{slice_split}
use Rattle.flow_lists.specs.Lists.{is_comma}
use Rattle.flow_policy.proofs.ListedLaws.{AreNumbered, AreNumbered-more, numbers_done, numbers_none, number_fails}
use Rattle.flow_policy.proofs.listed.numbers_in.Goals as goal

pub returns-then-is_bare-clause-numbers : goal.returns-then-is_bare-clause-numbers
returns-then-is_bare-clause-numbers c = rw c.new-numbers.ensures.items (numbers_none c.args.origins.now c.args.list.now (sym c.if-is_bare.ensures))

pub returns-in_err-number-clause-numbers : goal.returns-in_err-number-clause-numbers
returns-in_err-number-clause-numbers c =
    let p = err_from_is_err_and c.from_residual.result c.from_residual.ensures.1 in
    rw (p.1, p.2) (number_fails c.in_err-number.field-0.0 c.args.origins.now (slice_split is_comma c.in-Some.others.now) c.args.list.now c.in-Some.name.now c.loop-name.numbers.items c.len.result (omega (arith, c.len.ensures)) (sym c.if-is_bare.ensures)
    (subst (λ (names : List (List ℕ)). AreNumbered c.args.origins.now (slice_split is_comma c.args.list.now) names c.loop-name.numbers.items) c.in-Some.ensures.parts c.loop-name.invariant) c.in_err-number.ensures)

pub loop-name-preserved : goal.loop-name-preserved
loop-name-preserved c = rw c.in_ok-push.ensures.items
    (AreNumbered-more c.args.origins.now (slice_split is_comma c.args.list.now) (slice_split is_comma c.in-Some.others.now) c.in-Some.name.now c.loop-name.numbers.items c.in_ok-number.number c.in_ok-number.ensures
    (subst (λ (names : List (List ℕ)). AreNumbered c.args.origins.now (slice_split is_comma c.args.list.now) names c.loop-name.numbers.items) c.in-Some.ensures.parts c.loop-name.invariant))

pub returns-in_err-last-clause-numbers : goal.returns-in_err-last-clause-numbers
returns-in_err-last-clause-numbers c =
    let p = err_from_is_err_and c.from_residual-in_err-last.result c.from_residual-in_err-last.ensures.1 in
    rw (p.1, p.2) (number_fails c.in_err-last.field-0.0 c.args.origins.now [] c.args.list.now c.loop-name.rest.now c.loop-name.numbers.items c.len-2.result (omega (arith, c.len-2.ensures)) (sym c.if-is_bare.ensures)
    (subst (λ (names : List (List ℕ)). AreNumbered c.args.origins.now (slice_split is_comma c.args.list.now) names c.loop-name.numbers.items) c.in_default.ensures.parts c.loop-name.invariant) c.in_err-last.ensures)

pub returns-clause-numbers : goal.returns-clause-numbers
returns-clause-numbers c = rw c.in_ok-push-2.ensures.items
    (numbers_done c.args.origins.now c.args.list.now _ (sym c.if-is_bare.ensures)
    (AreNumbered-more c.args.origins.now (slice_split is_comma c.args.list.now) [] c.loop-name.rest.now c.loop-name.numbers.items c.in_ok-last.last c.in_ok-last.ensures
    (subst (λ (names : List (List ℕ)). AreNumbered c.args.origins.now (slice_split is_comma c.args.list.now) names c.loop-name.numbers.items) c.in_default.ensures.parts c.loop-name.invariant)))

pub returns-clause-below : goal.returns-clause-below
returns-clause-below c = rw c.in_ok-push-2.ensures.items
    (AreNumbered-more c.args.origins.now (slice_split is_comma c.args.list.now) [] c.loop-name.rest.now c.loop-name.numbers.items c.in_ok-last.last c.in_ok-last.ensures
    (subst (λ (names : List (List ℕ)). AreNumbered c.args.origins.now (slice_split is_comma c.args.list.now) names c.loop-name.numbers.items) c.in_default.ensures.parts c.loop-name.invariant)).below
