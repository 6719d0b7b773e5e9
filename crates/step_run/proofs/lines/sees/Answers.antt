use Rattle.std.proofs.Common.{rules, tests, ℕ}
use Rattle.std.proofs.lemmas.Iterator.{YieldsList-from_slice}
use Rattle.std.proofs.lemmas.Iterator.Search.{all_from_yields_List}
use Rattle.origin_labels.specs.Label.{has, within}
use Rattle.step_run.proofs.lines.sees.Goals as goal

pub returns : goal.returns
unfolding has within
returns c = rw (← c.items.ensures.items, ← c.items-origins.ensures.items)
    (all_from_yields_List (λ (k : ℕ). has k c.items-origins.result.now) _ _ _ c.all.ensures.ran (YieldsList-from_slice c.items.result.now cc) (λ x b q k. search (rules, tests)))
