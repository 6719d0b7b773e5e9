use Rattle.std.proofs.Common.{arith, sym, ◌∙◌}
use Rattle.std.proofs.lemmas.Bool.{eq-eqb}
use Rattle.js_ast.specs.Views.{view_function}
use Rattle.function_table.proofs.TableLaws.{found_at, found_nowhere}
use Rattle.function_table.proofs.table.place_of.Goals as goal

pub returns-then-place-at-clause-is : goal.returns-then-place-at-clause-is
returns-then-place-at-clause-is c =
    found_at (λ f. f.now) (view_function c.args.f.now) c.args.list.now c.loop-i.i c.index-list-i.result c.loop-i-test.true c.loop-i.invariant c.index-list-i.is
    (eq-eqb _ _ (sym c.place.ensures ∙ c.if-place-at.true ∙ c.place-at.ensures))

pub returns-clause-is : goal.returns-clause-is
returns-clause-is c = found_nowhere (λ f. f.now) (view_function c.args.f.now) c.args.list.now (λ k d lt. c.loop-i.invariant k d (omega (arith, lt, c.loop-i-test.false)))
