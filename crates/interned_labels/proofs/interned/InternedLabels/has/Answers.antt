use Rattle.std.proofs.Common.{ap, ◌∙◌, ℕ, List}
use Rattle.origin_labels.specs.Label.{has}
use Rattle.interned_labels.proofs.interned.InternedLabels.has.Goals as goal

pub returns : goal.returns
unfolding has
returns c = c.contains.ensures.value ∙ ap (λ (l : List ℕ). has c.args.origin l) c.origins.ensures
