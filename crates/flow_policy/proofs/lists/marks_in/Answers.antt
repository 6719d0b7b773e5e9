use Rattle.std.proofs.lemmas.Result.{err_from_is_err_and}
use Rattle.std.proofs.Common.{subst, List, ℕ, replicate, false, refl, sym, arith, ◌<◌, []}
use Rattle.std.specs.List.{slice_split}
use Rattle.flow_lists.specs.Lists.{is_comma}
use Rattle.flow_policy.proofs.Marks.{AreMarked, AreMarked-start, AreMarked-more, unmarked, marks_none, marks_done, place_of-has, mark_fails}
use Rattle.flow_policy.proofs.lists.marks_in.Goals as goal

pub returns-then-is_bare : goal.returns-then-is_bare
returns-then-is_bare c = marks_none c.args.origins.now c.args.list.now (replicate 64 false) (sym c.if-is_bare.ensures) (unmarked 64)

pub loop-name-init : goal.loop-name-init
loop-name-init c = AreMarked-start c.args.origins.now (slice_split is_comma c.args.list.now) _ refl (unmarked 64)

pub returns-in_err-origin : goal.returns-in_err-origin
returns-in_err-origin c =
    let p = err_from_is_err_and c.from_residual.result c.from_residual.ensures.1 in
    rw (p.1, p.2) (mark_fails c.in_err-origin.field-0.0 c.args.origins.now (slice_split is_comma c.in-Some.others.now) c.args.list.now c.in-Some.name.now c.loop-name.marks (sym c.if-is_bare.ensures)
    (subst (λ (names : List (List ℕ)). AreMarked c.args.origins.now (slice_split is_comma c.args.list.now) names c.loop-name.marks) c.in-Some.ensures.parts c.loop-name.invariant) c.in_err-origin.ensures)

pub bounds-marks-origin : goal.bounds-marks-origin
bounds-marks-origin c = omega (arith, (place_of-has c.in-Some.name.now c.args.origins.now c.in_ok-origin.origin c.in_ok-origin.ensures).0)

pub loop-name-preserved : goal.loop-name-preserved
loop-name-preserved c =
    let lt : c.in_ok-origin.origin < 64 = omega (arith, (place_of-has c.in-Some.name.now c.args.origins.now c.in_ok-origin.origin c.in_ok-origin.ensures).0) in
    AreMarked-more c.args.origins.now (slice_split is_comma c.args.list.now) (slice_split is_comma c.in-Some.others.now) c.in-Some.name.now c.loop-name.marks c.in_ok-origin.origin lt c.in_ok-origin.ensures
    (subst (λ (names : List (List ℕ)). AreMarked c.args.origins.now (slice_split is_comma c.args.list.now) names c.loop-name.marks) c.in-Some.ensures.parts c.loop-name.invariant)

pub returns-in_err-last : goal.returns-in_err-last
returns-in_err-last c =
    let p = err_from_is_err_and c.from_residual-in_err-last.result c.from_residual-in_err-last.ensures.1 in
    rw (p.1, p.2) (mark_fails c.in_err-last.field-0.0 c.args.origins.now [] c.args.list.now c.loop-name.rest.now c.loop-name.marks (sym c.if-is_bare.ensures)
    (subst (λ (names : List (List ℕ)). AreMarked c.args.origins.now (slice_split is_comma c.args.list.now) names c.loop-name.marks) c.in_default.ensures.parts c.loop-name.invariant) c.in_err-last.ensures)

pub bounds-marks-last : goal.bounds-marks-last
bounds-marks-last c = omega (arith, (place_of-has c.loop-name.rest.now c.args.origins.now c.in_ok-last.last c.in_ok-last.ensures).0)

pub returns : goal.returns
returns c =
    let lt : c.in_ok-last.last < 64 = omega (arith, (place_of-has c.loop-name.rest.now c.args.origins.now c.in_ok-last.last c.in_ok-last.ensures).0) in
    marks_done c.args.origins.now c.args.list.now _ (sym c.if-is_bare.ensures)
    (AreMarked-more c.args.origins.now (slice_split is_comma c.args.list.now) [] c.loop-name.rest.now c.loop-name.marks c.in_ok-last.last lt c.in_ok-last.ensures
    (subst (λ (names : List (List ℕ)). AreMarked c.args.origins.now (slice_split is_comma c.args.list.now) names c.loop-name.marks) c.in_default.ensures.parts c.loop-name.invariant))
