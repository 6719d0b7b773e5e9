use Rattle.std.proofs.Common.{ℕ, ◌==◌, rules, tests, ◌∙◌}
use Rattle.std.proofs.lemmas.Iterator.{YieldsList-from_slice}
use Rattle.std.proofs.lemmas.Iterator.Consumers.{YieldsList-from_filter, count_from_yields_List}
use Rattle.std.proofs.lemmas.List.Sums.{length-filter}
use Rattle.js_shell.proofs.trying.line_count.Goals as goal

pub returns : goal.returns
returns c = count_from_yields_List c.filter.result _ c.count.ensures.ran (YieldsList-from_filter _ (λ (byte : ℕ). byte == 10) (YieldsList-from_slice c.args.bytes.now cc) c.filter.ensures.closure (λ x b q k. search (rules, tests)))
    ∙ length-filter (λ (byte : ℕ). byte == 10) c.args.bytes.now
