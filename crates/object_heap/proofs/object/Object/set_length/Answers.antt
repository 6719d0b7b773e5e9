use Rattle.std.proofs.Common.{suc, ◌+◌, ◌≡◌, ap, ◌∙◌, arith}
use Rattle.js_values.specs.declared.property.Slot.{Slot}
use Rattle.js_values.specs.declared.property.Body.{Body}
use Rattle.js_values.specs.Arrays.{length_key, length_body}
use Rattle.object_heap.specs.Places.{changed_at_place}
use Rattle.object_heap.proofs.ActLaws.{row_written}
use Rattle.object_heap.proofs.object.Object.set_length.Goals as goal

pub returns : goal.returns
returns g c =
    let next : c.args.i + 1 ≡ suc c.args.i = omega arith in
    let to = λ (x : Slot g.row.T.Denot). record x { body = length_body (suc c.args.i); label = c.args.label } in
    row_written _ c.args.self.now c.self.view_is length_key c.length_place-place.result c.length_place-place.ensures to c.set_body.new.self
    (c.set_body.ensures ∙ ap (λ (b : Body). changed_at_place c.length_place-place.result (λ (x : Slot g.row.T.Denot). record x { body = b; label = c.args.label }) c.self.inside.rows) (c.length_body.ensures ∙ ap length_body next))
