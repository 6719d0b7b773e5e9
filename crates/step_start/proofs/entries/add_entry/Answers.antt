use Rattle.std.proofs.Common.{refl, sym, ap, ◌∙◌, Some, None}
use Rattle.js_values.specs.Objects.{number_of}
use Rattle.std.proofs.lemmas.Result.{on_ok_weaker}
use Rattle.native_protocol.specs.Sets.{seen_entry}
use Rattle.es_meaning.specs.Holders.{with_entry}
use Rattle.plain_heap.specs.PlainObjects.{changed}
use Rattle.step_start.proofs.EntryLaws.{entry_made}
use Rattle.step_start.proofs.entries.add_entry.Goals as goal

pub returns-in-None : goal.returns-in-None
returns-in-None g c =
    let e = seen_entry c.args.entry.holder.now c.args.entry.name.now c.args.entry.length c.args.entry.form in
    entry_made c.args.heap.now c.give_holder.new.heap c.give_holder.new.heap e c.in_ok-number.number None c.in_ok-give_holder.ensures (ap number_of (sym c.in-None.is) ∙ c.in_ok-found.ensures) refl
    ∙ ap (λ n. changed (with_entry n e) c.args.heap.now) c.in_ok-number.ensures

pub returns-in-Some : goal.returns-in-Some
returns-in-Some g c =
    let e = seen_entry c.args.entry.holder.now c.args.entry.name.now c.args.entry.length c.args.entry.form in
    on_ok_weaker c.make_entry.result (λ makes.
    entry_made c.args.heap.now c.give_holder.new.heap c.make_entry.new.heap e c.in_ok-number.number (Some c.in-Some.holder.0) c.in_ok-give_holder.ensures (ap number_of (sym c.in-Some.is) ∙ c.in_ok-found.ensures) makes
    ∙ ap (λ n. changed (with_entry n e) c.args.heap.now) c.in_ok-number.ensures) c.make_entry.ensures
