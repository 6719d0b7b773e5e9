use Rattle.std.proofs.Common.{refl, ap, List, set, get_or, ◌∙◌}
use Rattle.std.proofs.lemmas.List.{length-set}
use Rattle.std.specs.Vec.Iter.{into_iter_items}
use Rattle.js_values.specs.declared.value.Labelled.{Labelled}
use Rattle.call_records.specs.Placed.{placed}
use Rattle.call_records.proofs.EntryLaws.{put_next, put_all}
use Rattle.call_records.proofs.entry.put.Goals as goal

pub places-preserved : goal.places-preserved
places-preserved g c =
    let i = c.places.invariant in
    let p = get_or c.args.places.now c.places.place-index 0 in (
      put_next c.args.places.now c.places.place-index (get_or c.args.places.now c.places.place-index 0) c.args.missing.now c.in_ok-all.field-0 (into_iter_items c.places.rest) (into_iter_items c.next_or.new.values) c.places.all
          (set c.places.all (get_or c.args.places.now c.places.place-index 0) c.in_ok-all.field-0) (placed c.args.missing.now c.args.places.now (into_iter_items c.into_iter-rest.result) c.args.all.now) c.places-test.true refl c.in_ok-all.ensures.next refl i.0,
      length-set c.places.all p c.in_ok-all.field-0 ∙ i.1,
      c.in_ok-all.ensures.size,
    )

pub returns-clause-placed : goal.returns-clause-placed
returns-clause-placed g c =
    put_all c.args.places.now c.places.place-index c.args.missing.now (into_iter_items c.places.rest) c.places.all (placed c.args.missing.now c.args.places.now (into_iter_items c.into_iter-rest.result) c.args.all.now) c.places-test.false c.places.invariant.0
    ∙ ap (λ (vs : List (Labelled g.row.T.Denot)). placed c.args.missing.now c.args.places.now vs c.args.all.now) c.into_iter-rest.ensures.rest
