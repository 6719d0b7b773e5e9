use Rattle.std.proofs.Common.{rules, tests, ℕ, nat_lt}
use Rattle.std.proofs.lemmas.Iterator.{YieldsList-from_slice}
use Rattle.std.proofs.lemmas.Iterator.Search.{all_from_yields_List}
use Rattle.channel_requests.proofs.origins.are_below.Goals as goal

pub returns : goal.returns
returns c = all_from_yields_List (λ (k : ℕ). nat_lt k c.args.count) _ _ _ c.all.ensures.ran (YieldsList-from_slice c.args.origins.now cc) (λ x b q k. search (rules, tests))
