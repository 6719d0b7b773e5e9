use Rattle.std.proofs.Common.{ap, subst, ◌∙◌, ℕ, List}
use Rattle.std.specs.List.{position}
use Rattle.origin_labels.specs.Names.{same_name}
use Rattle.js_values.specs.declared.property.Slot.{Slot}
use Rattle.js_values.specs.Objects.{Rows}
use Rattle.object_heap.specs.Places.{IsPlace}
use Rattle.object_heap.proofs.TableLaws.{place_indexed}
use Rattle.object_heap.proofs.table.Table.place.Goals as goal

pub returns-in-Some : goal.returns-in-Some
returns-in-Some g c =
    subst (λ (rows : Rows (Slot g.row.T.Denot)). IsPlace c.args.name.now rows c.place.result) c.self.view_is
    (place_indexed c.args.name.now c.self.inside.rows.items c.self.inside.index c.in-Some.index c.in-Some.is c.self.invariant.0 c.place.result (c.place.ensures ∙ ap (λ (keys : List (List ℕ)). position (λ k. same_name c.args.name.now k) keys) c.deref.ensures))
