use Rattle.std.proofs.lemmas.Bool.{eq-eqb}
use Rattle.origin_labels.proofs.StoreLaws.{IsKept-refl, IsKept-trans}
use Rattle.js_values.proofs.ReadingLaws.{HasHeap-kept}
use Rattle.step_objects.proofs.ShapeLaws.{proto_below, link_has}
use Rattle.step_objects.proofs.InstanceLaws.{leads_first, leads_on, linked_here, linked_none, no_eqb, there_at}
use Rattle.step_objects.proofs.instances.walk_links.Goals as goal

pub along-init : goal.along-init
along-init g c = record {
  there = c.requires.there;
  links = c.bottom-links.ensures.made;
  kept = IsKept-refl _ _ _ _ _;
  leads = leads_first g.L.Labels.made g.L.Labels.meaning g.L.Labels.room g.L.Labels.firm c.args.heap.now c.len-count.ensures.formed c.args.proto.0 c.args.o.0 c.args.labels.now c.bottom-links.result c.bottom-links.ensures.made c.bottom-links.ensures.meaning;
}

pub shape-shape-requires : goal.shape-shape-requires
shape-shape-requires g c = c.along.invariant.there

pub join-requires-clause-first : goal.join-requires-clause-first
join-requires-clause-first g c = c.along.invariant.links

pub join-requires-clause-second : goal.join-requires-clause-second
join-requires-clause-second g c =
    let has = HasHeap-kept g.L.Labels.made g.L.Labels.meaning g.L.Labels.room g.L.Labels.firm c.args.labels.now c.along.labels c.along.invariant.kept c.args.heap.now c.requires.belongs in
    link_has (g.L.Labels.made c.along.labels) c.args.heap.now c.along.at.0 c.shape-shape.result has c.shape-shape.ensures

pub returns-in_err-links-clause-kept : goal.returns-in_err-links-clause-kept
returns-in_err-links-clause-kept g c = IsKept-trans _ _ _ _ _ _ _ c.along.invariant.kept c.join.ensures.kept

pub returns-then-next-proto-clause-linked : goal.returns-then-next-proto-clause-linked
returns-then-next-proto-clause-linked g c =
    let there = there_at c.args.heap.now c.in-Some.next.0 (proto_below c.args.heap.now c.len-count.ensures.formed c.along.at.0 c.shape-shape.result c.shape-shape.ensures c.in-Some.next c.in-Some.is).1 in
    linked_here g.L.Labels.made g.L.Labels.meaning g.L.Labels.room g.L.Labels.firm c.args.heap.now c.len-count.ensures.formed c.args.proto.0 c.args.o.0 c.along.labels c.join.new.labels c.in_ok-links.ensures.kept c.along.at.0 c.along.links c.in_ok-links.links c.along.invariant.leads c.shape-shape.result c.shape-shape.ensures c.in_ok-links.ensures.means c.in-Some.next c.in-Some.is there.0 there.1 (eq-eqb c.in-Some.next.0 c.args.proto.0 c.if-next-proto.true)

pub returns-then-next-proto-clause-kept : goal.returns-then-next-proto-clause-kept
returns-then-next-proto-clause-kept g c = IsKept-trans _ _ _ _ _ _ _ c.along.invariant.kept c.in_ok-links.ensures.kept

pub along-smaller : goal.along-smaller
along-smaller g c = (proto_below c.args.heap.now c.len-count.ensures.formed c.along.at.0 c.shape-shape.result c.shape-shape.ensures c.in-Some.next c.in-Some.is).0

pub along-preserved : goal.along-preserved
along-preserved g c =
    let kept = IsKept-trans _ _ _ _ _ _ _ c.along.invariant.kept c.in_ok-links.ensures.kept in
    let there = there_at c.args.heap.now c.in-Some.next.0 (proto_below c.args.heap.now c.len-count.ensures.formed c.along.at.0 c.shape-shape.result c.shape-shape.ensures c.in-Some.next c.in-Some.is).1 in
    record {
      there = (proto_below c.args.heap.now c.len-count.ensures.formed c.along.at.0 c.shape-shape.result c.shape-shape.ensures c.in-Some.next c.in-Some.is).1;
      links = c.in_ok-links.ensures.means.belongs;
      kept = kept;
      leads = leads_on g.L.Labels.made g.L.Labels.meaning g.L.Labels.room g.L.Labels.firm c.args.heap.now c.len-count.ensures.formed c.args.proto.0 c.args.o.0 c.along.labels c.join.new.labels c.in_ok-links.ensures.kept c.along.at.0 c.along.links c.in_ok-links.links c.along.invariant.leads c.shape-shape.result c.shape-shape.ensures c.in_ok-links.ensures.means c.in-Some.next c.in-Some.is there.0 there.1 (no_eqb c.in-Some.next.0 c.args.proto.0 c.if-next-proto.false) g.met.L.Labels.rising
          (HasHeap-kept g.L.Labels.made g.L.Labels.meaning g.L.Labels.room g.L.Labels.firm c.args.labels.now c.join.new.labels kept c.args.heap.now c.requires.belongs);
    }

pub returns-in-None-clause-linked : goal.returns-in-None-clause-linked
returns-in-None-clause-linked g c = linked_none g.L.Labels.made g.L.Labels.meaning g.L.Labels.room g.L.Labels.firm c.args.heap.now c.len-count.ensures.formed c.args.proto.0 c.args.o.0 c.along.labels c.join.new.labels c.in_ok-links.ensures.kept c.along.at.0 c.along.links c.in_ok-links.links c.along.invariant.leads c.shape-shape.result c.shape-shape.ensures c.in_ok-links.ensures.means c.in-None.is

pub returns-in-None-clause-kept : goal.returns-in-None-clause-kept
returns-in-None-clause-kept g c = IsKept-trans _ _ _ _ _ _ _ c.along.invariant.kept c.in_ok-links.ensures.kept
