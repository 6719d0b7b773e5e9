use Rattle.std.proofs.Common.{ap, ap₂, sym, subst, ◌∙◌, ℕ, eq-eqb}
use Rattle.origin_labels.specs.Label.{IsLabel, within}
use Rattle.origin_labels.proofs.LabelLaws.{within-refl}
use Rattle.interned_labels.specs.Interned.{set_at}
use Rattle.interned_labels.proofs.interned.InternedLabels.within.Goals as goal

pub is_included-requires-clause-first : goal.is_included-requires-clause-first
is_included-requires-clause-first c = subst IsLabel (sym c.origins.ensures) c.requires.first.rises

pub is_included-requires-clause-second : goal.is_included-requires-clause-second
is_included-requires-clause-second c = subst IsLabel (sym c.origins-else-a-b.ensures) c.requires.second.rises

pub returns-then-a-b : goal.returns-then-a-b
returns-then-a-b c =
    eq-eqb c.args.a.0 c.args.b.0 c.if-a-b.true
    ∙ sym (ap (λ (n : ℕ). within (set_at c.args.self.now.sets c.args.a.0) (set_at c.args.self.now.sets n)) (sym c.if-a-b.true) ∙ within-refl (set_at c.args.self.now.sets c.args.a.0))

pub returns-else-a-b : goal.returns-else-a-b
returns-else-a-b c = c.is_included.ensures ∙ ap₂ within c.origins.ensures c.origins-else-a-b.ensures
