use Rattle.std.proofs.Common.{ap, sym, subst, ◌∙◌}
use Rattle.interned_labels.proofs.UnionLaws.{store_of}
use Rattle.interned_labels.specs.Interned.{InternedSets, set_at, IsMade}
use Rattle.interned_labels.proofs.interned.Interned.origins.Goals as goal

pub origins-requires : goal.origins-requires
origins-requires c =
    let made : IsMade (store_of c.self.inside.sets c.self.inside.unions.entries c.self.inside.room) c.args.label = subst (λ (s : InternedSets). IsMade s c.args.label) (sym c.self.view_is) c.requires in
    made.known

pub returns : goal.returns
returns c = c.origins.ensures ∙ ap (λ (s : InternedSets). set_at s.sets c.args.label.0) c.self.view_is
