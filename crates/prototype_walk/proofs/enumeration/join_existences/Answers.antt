use Rattle.std.specs.List.{slice_get}
use Rattle.origin_labels.proofs.StoreLaws.{IsKept-trans}
use Rattle.js_values.proofs.ReadingLaws.{IsReading-earlier, HasHeap-kept}
use Rattle.prototype_walk.proofs.HeldLaws.{row_has, IsLabel-read}
use Rattle.prototype_walk.proofs.KeyLaws.{existences_on, existences_all}
use Rattle.prototype_walk.proofs.enumeration.join_existences.Goals as goal

pub returns-in_default-clause-means : goal.returns-in_default-clause-means
returns-in_default-clause-means g c = record {
  belongs = c.loop-n.invariant.joined;
  is = λ reading read. existences_all (slice_get c.args.heap.now c.args.at.0) c.loop-n.n reading c.loop-n.joined _ c.in_default.ensures
      (IsLabel-read g.L.Labels.made g.L.Labels.meaning c.loop-n.labels reading c.loop-n.joined g.met.L.Labels.rising read c.loop-n.invariant.joined)
      (c.loop-n.invariant.same reading read);
}

pub join-requires-clause-second : goal.join-requires-clause-second
join-requires-clause-second g c =
    let has = HasHeap-kept g.L.Labels.made g.L.Labels.meaning g.L.Labels.room g.L.Labels.firm c.args.labels.now c.loop-n.labels c.loop-n.invariant.kept c.args.heap.now c.requires.belongs in
    (row_has (g.L.Labels.made c.loop-n.labels) c.args.heap.now c.args.at.0 c.loop-n.n (c.in-Some.field-0-0.now, c.in-Some.slot.now) has c.in-Some.ensures).1

pub loop-n-preserved : goal.loop-n-preserved
loop-n-preserved g c = record {
  joined = c.in_ok-joined.ensures.means.belongs;
  kept = IsKept-trans _ _ _ _ _ _ _ c.loop-n.invariant.kept c.in_ok-joined.ensures.kept;
  same = λ reading read. existences_on (slice_get c.args.heap.now c.args.at.0) c.loop-n.n reading c.loop-n.joined c.in_ok-joined.joined _ (c.in-Some.field-0-0.now, c.in-Some.slot.now) c.in-Some.ensures
      (c.in_ok-joined.ensures.means.is reading read)
      (c.loop-n.invariant.same reading (IsReading-earlier g.L.Labels.made g.L.Labels.meaning g.L.Labels.room g.L.Labels.firm c.loop-n.labels c.join.new.labels reading c.in_ok-joined.ensures.kept read));
}
