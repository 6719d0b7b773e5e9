use Rattle.std.proofs.Common.{ap, ◌∙◌, ℕ, List}
use Rattle.std.specs.List.{position}
use Rattle.indexmap.specs.IndexSet.{keys as set_keys}
use Rattle.origin_labels.specs.Names.{same_name}
use Rattle.env_records.specs.Layouts.{first_place}
use Rattle.env_records.proofs.LayoutLaws.{place_indexed}
use Rattle.env_records.proofs.layout.Layout.place.Goals as goal

pub returns-in-Some : goal.returns-in-Some
returns-in-Some c =
    place_indexed c.args.name.now c.self.inside.names.items c.self.inside.index c.in-Some.index c.in-Some.is c.self.invariant c.get_index_of.result (c.get_index_of.ensures.index ∙ ap (λ (texts : List (List ℕ)). position (λ k. same_name c.args.name.now k) texts) (ap set_keys c.deref.ensures))
    ∙ ap (first_place c.args.name.now) c.self.view_is
