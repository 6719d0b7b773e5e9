use Rattle.std.proofs.Common.{ℕ, ◌==◌, rules, tests}
use Rattle.std.proofs.lemmas.Iterator.{YieldsList-from_slice}
use Rattle.std.proofs.lemmas.Iterator.Search.{position_from_yields_List}
use Rattle.flow_policy.proofs.lines.place.Goals as goal

pub returns : goal.returns
returns c = position_from_yields_List (λ (b : ℕ). b == c.args.byte) _ _ _ c.position.ensures.ran (YieldsList-from_slice c.args.bytes.now cc) (λ x b q k. search (rules, tests))
