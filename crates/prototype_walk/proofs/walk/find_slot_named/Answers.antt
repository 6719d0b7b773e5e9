use Rattle.std.proofs.Common.{sym, refl}
use Rattle.origin_labels.proofs.StoreLaws.{IsKept-refl, IsKept-trans}
use Rattle.js_values.proofs.ReadingLaws.{HasHeap-kept}
use Rattle.prototype_walk.proofs.HeldLaws.{proto_below, own_has, shape_has, IsLabel-read}
use Rattle.prototype_walk.proofs.WalkLaws.{comes_first, place_here, place_none, comes_on, IsLabel-walk}
use Rattle.prototype_walk.proofs.walk.find_slot_named.Goals as goal

pub along-init : goal.along-init
along-init g c = record {
  there = c.requires.there;
  walk = c.bottom-walk.ensures.made;
  kept = IsKept-refl _ _ _ _ _;
  comes = comes_first g.L.Labels.made g.L.Labels.meaning g.L.Labels.room g.L.Labels.firm c.args.heap.now c.len-count.ensures.formed c.args.name.now c.args.o.0 c.args.labels.now c.bottom-walk.result c.bottom-walk.ensures.made c.bottom-walk.ensures.meaning;
}

pub join-requires-clause-second : goal.join-requires-clause-second
join-requires-clause-second g c =
    let has = HasHeap-kept g.L.Labels.made g.L.Labels.meaning g.L.Labels.room g.L.Labels.firm c.args.labels.now c.along.labels c.along.invariant.kept c.args.heap.now c.requires.belongs in
    (own_has (g.L.Labels.made c.along.labels) c.args.heap.now c.along.at.0 c.args.name.now c.in-Some.slot.now has (sym c.in-Some.ensures)).1

pub returns-in-Some-clause-place : goal.returns-in-Some-clause-place
returns-in-Some-clause-place g c =
    let kept = IsKept-trans _ _ _ _ _ _ _ c.along.invariant.kept c.in_ok-walk.ensures.kept in
    let has = HasHeap-kept g.L.Labels.made g.L.Labels.meaning g.L.Labels.room g.L.Labels.firm c.args.labels.now c.join.new.labels kept c.args.heap.now c.requires.belongs in
    place_here g.L.Labels.made g.L.Labels.meaning g.L.Labels.room g.L.Labels.firm c.args.heap.now c.len-count.ensures.formed c.args.name.now c.args.o.0 c.along.labels c.join.new.labels c.in_ok-walk.ensures.kept c.along.at.0 c.along.walk c.in_ok-walk.walk c.along.invariant.comes c.along.at c.in-Some.slot.now refl (sym c.in-Some.ensures) c.in_ok-walk.ensures.means
    (own_has (g.L.Labels.made c.join.new.labels) c.args.heap.now c.along.at.0 c.args.name.now c.in-Some.slot.now has (sym c.in-Some.ensures))

pub pass-requires-clause-structure : goal.pass-requires-clause-structure
pass-requires-clause-structure g c =
    let has = HasHeap-kept g.L.Labels.made g.L.Labels.meaning g.L.Labels.room g.L.Labels.firm c.args.labels.now c.along.labels c.along.invariant.kept c.args.heap.now c.requires.belongs in
    (shape_has (g.L.Labels.made c.along.labels) c.args.heap.now c.along.at.0 c.shape-shape.result has c.shape-shape.ensures).0

pub pass-requires-clause-link : goal.pass-requires-clause-link
pass-requires-clause-link g c =
    let has = HasHeap-kept g.L.Labels.made g.L.Labels.meaning g.L.Labels.room g.L.Labels.firm c.args.labels.now c.along.labels c.along.invariant.kept c.args.heap.now c.requires.belongs in
    (shape_has (g.L.Labels.made c.along.labels) c.args.heap.now c.along.at.0 c.shape-shape.result has c.shape-shape.ensures).1

pub along-smaller : goal.along-smaller
along-smaller g c = (proto_below c.args.heap.now c.len-count.ensures.formed c.along.at.0 c.shape-shape.result c.shape-shape.ensures c.in-Some-proto.proto c.in-Some-proto.is).0

pub along-preserved : goal.along-preserved
along-preserved g c =
    let kept = IsKept-trans _ _ _ _ _ _ _ c.along.invariant.kept c.in_ok-walk-2.ensures.kept in
    let has = HasHeap-kept g.L.Labels.made g.L.Labels.meaning g.L.Labels.room g.L.Labels.firm c.args.labels.now c.pass.new.labels kept c.args.heap.now c.requires.belongs in
    record {
      there = (proto_below c.args.heap.now c.len-count.ensures.formed c.along.at.0 c.shape-shape.result c.shape-shape.ensures c.in-Some-proto.proto c.in-Some-proto.is).1;
      walk = c.in_ok-walk-2.ensures.means.belongs;
      kept = kept;
      comes = comes_on g.L.Labels.made g.L.Labels.meaning g.L.Labels.room g.L.Labels.firm c.args.heap.now c.len-count.ensures.formed c.args.name.now c.args.o.0 c.along.labels c.pass.new.labels c.in_ok-walk-2.ensures.kept c.along.at.0 c.along.walk c.in_ok-walk-2.walk c.along.invariant.comes c.shape-shape.result c.shape-shape.ensures (sym c.in_default.ensures) c.in_ok-walk-2.ensures.means c.in-Some-proto.proto
          (λ reading read. IsLabel-walk (g.L.Labels.made c.pass.new.labels) reading (λ label m. IsLabel-read g.L.Labels.made g.L.Labels.meaning c.pass.new.labels reading label g.met.L.Labels.rising read m) c.args.heap.now has c.args.name.now c.in-Some-proto.proto.0)
          c.in-Some-proto.is;
    }

pub returns-in-None-clause-place : goal.returns-in-None-clause-place
returns-in-None-clause-place g c =
    place_none g.L.Labels.made g.L.Labels.meaning g.L.Labels.room g.L.Labels.firm c.args.heap.now c.len-count.ensures.formed c.args.name.now c.args.o.0 c.along.labels c.pass.new.labels c.in_ok-walk-2.ensures.kept c.along.at.0 c.along.walk c.in_ok-walk-2.walk c.along.invariant.comes c.shape-shape.result c.shape-shape.ensures (sym c.in_default.ensures) c.in_ok-walk-2.ensures.means
    (λ reading read. IsLabel-read g.L.Labels.made g.L.Labels.meaning c.pass.new.labels reading c.in_ok-walk-2.walk g.met.L.Labels.rising read c.in_ok-walk-2.ensures.means.belongs)
    c.in-None.is
