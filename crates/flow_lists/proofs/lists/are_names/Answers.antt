use Rattle.std.proofs.Common.{rules, tests, sym, ◌∙◌, ◌==◌, ℕ}
use Rattle.std.proofs.lemmas.Iterator.Splits.{YieldsList-from_slice_split}
use Rattle.std.proofs.lemmas.Iterator.Search.{all_from_yields_List}
use Rattle.flow_lists.specs.Names.{is_name}
use Rattle.flow_lists.proofs.ListLaws.{are_names-none, are_names-some}
use Rattle.flow_lists.proofs.lists.are_names.Goals as goal

pub returns-then-is_bare : goal.returns-then-is_bare
returns-then-is_bare c = c.if-is_bare.true ∙ sym (are_names-none c.args.list.now (sym c.if-is_bare.ensures))

pub returns-else-is_bare : goal.returns-else-is_bare
returns-else-is_bare c = are_names-some c.args.list.now c.all.result (sym c.if-is_bare.ensures)
    (all_from_yields_List is_name _ _ _ c.all.ensures.ran (YieldsList-from_slice_split _ (λ (b : ℕ). b == 44) c.args.list.now c.split.ensures.rest c.split.ensures.done c.split.ensures.closure (λ x b q k. search (rules, tests))) (λ x b q k. search (rules, tests)))
