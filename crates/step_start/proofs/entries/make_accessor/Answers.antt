use Rattle.std.proofs.Common.{ap, ◌∙◌, false, Some}
use Rattle.std.proofs.lemmas.Result.{on_ok_weaker}
use Rattle.js_values.specs.declared.property.Body.TheVariants.{Accessor}
use Rattle.native_protocol.specs.Sets.{seen_entry}
use Rattle.es_meaning.specs.Holders.{with_property_of}
use Rattle.plain_heap.specs.PlainObjects.{changed}
use Rattle.step_start.proofs.EntryLaws.{accessor_entry}
use Rattle.step_start.proofs.entries.make_accessor.Goals as goal

pub returns : goal.returns
returns g c =
    on_ok_weaker c.give_named.result (λ gives.
    accessor_entry c.args.heap.now c.make_native.new.heap (seen_entry c.args.entry.holder.now c.args.entry.name.now c.args.entry.length c.args.entry.form) c.args.number c.args.holder.0 c.in_ok-f.f c.in_ok-f.ensures.number c.give_named.new.self c.in_ok-f.ensures.ok
    (gives ∙ ap (λ b. changed (with_property_of c.args.holder.0 c.args.entry.name.now (record { body = Accessor (Some c.in_ok-f.f) (Some c.in_ok-f.f); marks = record { writable = false; enumerable = false; configurable = b } })) c.make_native.new.heap) c.may_be_replaced.ensures)) c.give_named.ensures
