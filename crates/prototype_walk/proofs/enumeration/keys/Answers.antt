use Rattle.origin_labels.proofs.StoreLaws.{IsKept-refl, IsKept-trans}
use Rattle.js_values.proofs.ReadingLaws.{HasHeap-kept}
use Rattle.prototype_walk.proofs.HeldLaws.{proto_below, shape_has, IsLabel-read}
use Rattle.prototype_walk.proofs.KeyLaws.{enumerates_first, keys_end, keys_on}
use Rattle.prototype_walk.proofs.enumeration.keys.Goals as goal

pub along-init : goal.along-init
along-init g c = record {
  there = c.requires.there;
  walk = c.bottom-walk.ensures.made;
  kept = IsKept-refl _ _ _ _ _;
  comes = enumerates_first g.L.Labels.made g.L.Labels.meaning c.args.heap.now c.args.o.0 c.args.labels.now c.bottom-walk.result c.new-met.result.keys c.new-keys.result c.new-met.ensures.empty c.new-keys.ensures c.bottom-walk.ensures.made c.bottom-walk.ensures.meaning;
}

pub pass-requires-clause-structure : goal.pass-requires-clause-structure
pass-requires-clause-structure g c =
    let has = HasHeap-kept g.L.Labels.made g.L.Labels.meaning g.L.Labels.room g.L.Labels.firm c.args.labels.now c.along.labels c.along.invariant.kept c.args.heap.now c.requires.belongs in
    (shape_has (g.L.Labels.made c.along.labels) c.args.heap.now c.along.at.0 c.shape-shape.result has c.shape-shape.ensures).0

pub pass-requires-clause-link : goal.pass-requires-clause-link
pass-requires-clause-link g c =
    let has = HasHeap-kept g.L.Labels.made g.L.Labels.meaning g.L.Labels.room g.L.Labels.firm c.args.labels.now c.along.labels c.along.invariant.kept c.args.heap.now c.requires.belongs in
    (shape_has (g.L.Labels.made c.along.labels) c.args.heap.now c.along.at.0 c.shape-shape.result has c.shape-shape.ensures).1

pub join_existences-requires-clause-belongs : goal.join_existences-requires-clause-belongs
join_existences-requires-clause-belongs g c =
    let kept = IsKept-trans _ _ _ _ _ _ _ c.along.invariant.kept c.in_ok-walk.ensures.kept in
    HasHeap-kept g.L.Labels.made g.L.Labels.meaning g.L.Labels.room g.L.Labels.firm c.args.labels.now c.pass.new.labels kept c.args.heap.now c.requires.belongs

pub along-smaller : goal.along-smaller
along-smaller g c = (proto_below c.args.heap.now c.len-count.ensures.formed c.along.at.0 c.shape-shape.result c.shape-shape.ensures c.in-Some.proto c.in-Some.is).0

pub along-preserved : goal.along-preserved
along-preserved g c = record {
  there = (proto_below c.args.heap.now c.len-count.ensures.formed c.along.at.0 c.shape-shape.result c.shape-shape.ensures c.in-Some.proto c.in-Some.is).1;
  walk = c.in_ok-walk-2.ensures.means.belongs;
  kept = IsKept-trans _ _ _ _ _ _ _ c.along.invariant.kept (IsKept-trans _ _ _ _ _ _ _ c.in_ok-walk.ensures.kept c.in_ok-walk-2.ensures.kept);
  comes = keys_on g.L.Labels.made g.L.Labels.meaning g.L.Labels.room g.L.Labels.firm c.args.heap.now c.len-count.ensures.formed c.args.o.0 c.along.labels c.pass.new.labels c.join_existences.new.labels c.in_ok-walk.ensures.kept c.in_ok-walk-2.ensures.kept
      c.along.at.0 c.along.met.keys c.along.keys c.meet.new.met.keys c.take_fresh.new.keys c.along.walk c.in_ok-walk.walk c.in_ok-walk-2.walk c.shape-shape.result c.shape-shape.ensures c.along.invariant.comes
      c.in_ok-meet.ensures c.in_ok-take_fresh.ensures c.in_ok-walk.ensures.means c.in_ok-walk-2.ensures.means c.in-Some.proto c.in-Some.is;
}

pub returns-in-None-clause-keys : goal.returns-in-None-clause-keys
returns-in-None-clause-keys g c =
    keys_end g.L.Labels.made g.L.Labels.meaning g.L.Labels.room g.L.Labels.firm c.args.heap.now c.len-count.ensures.formed c.args.o.0 c.along.labels c.pass.new.labels c.join_existences.new.labels c.in_ok-walk.ensures.kept c.in_ok-walk-2.ensures.kept
    c.along.at.0 c.along.met.keys c.along.keys c.meet.new.met.keys c.take_fresh.new.keys c.along.walk c.in_ok-walk.walk c.in_ok-walk-2.walk c.shape-shape.result c.shape-shape.ensures c.along.invariant.comes
    c.in_ok-meet.ensures c.in_ok-take_fresh.ensures c.in_ok-walk.ensures.means c.in_ok-walk-2.ensures.means c.in-None.is
    (λ reading read. IsLabel-read g.L.Labels.made g.L.Labels.meaning c.join_existences.new.labels reading c.in_ok-walk-2.walk g.met.L.Labels.rising read c.in_ok-walk-2.ensures.means.belongs)
