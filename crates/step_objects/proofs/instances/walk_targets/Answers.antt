use Rattle.std.proofs.Common.{Some, None}
use Rattle.origin_labels.proofs.StoreLaws.{IsKept-refl, IsKept-trans}
use Rattle.js_values.proofs.ReadingLaws.{HasHeap-kept}
use Rattle.step_objects.proofs.TestLaws.{stands_bound, target_below, target_has, aims_first, aims_on, aims_last}
use Rattle.step_objects.proofs.instances.walk_targets.Goals as goal

pub along-init : goal.along-init
along-init g c = record {
  there = c.requires.there;
  made = c.bottom-label.ensures.made;
  kept = IsKept-refl _ _ _ _ _;
  aims = aims_first g.L.Labels.made g.L.Labels.meaning g.L.Labels.room g.L.Labels.firm c.args.heap.now c.len-count.ensures.formed c.args.f.0 c.args.labels.now c.bottom-label.result c.bottom-label.ensures.made c.bottom-label.ensures.meaning;
}

pub bound_at-requires : goal.bound_at-requires
bound_at-requires g c = c.along.invariant.there

pub join-requires-clause-first : goal.join-requires-clause-first
join-requires-clause-first g c = c.along.invariant.made

pub join-requires-clause-second : goal.join-requires-clause-second
join-requires-clause-second g c =
    let has = HasHeap-kept g.L.Labels.made g.L.Labels.meaning g.L.Labels.room g.L.Labels.firm c.args.labels.now c.along.labels c.along.invariant.kept c.args.heap.now c.requires.belongs in
    target_has (g.L.Labels.made c.along.labels) c.args.heap.now c.along.at.0 c.in-Some.target has (stands_bound c.args.heap.now c.along.at.0 (Some c.in-Some.target) c.along.invariant.there (rw c.in-Some.is at c.bound_at.ensures))

pub returns-in_err-label-in-Some-clause-kept : goal.returns-in_err-label-in-Some-clause-kept
returns-in_err-label-in-Some-clause-kept g c = IsKept-trans _ _ _ _ _ _ _ c.along.invariant.kept c.join.ensures.kept

pub along-smaller : goal.along-smaller
along-smaller g c = (target_below c.args.heap.now c.len-count.ensures.formed c.along.at.0 c.in-Some.target (stands_bound c.args.heap.now c.along.at.0 (Some c.in-Some.target) c.along.invariant.there (rw c.in-Some.is at c.bound_at.ensures))).0

pub along-preserved : goal.along-preserved
along-preserved g c =
    let there = (stands_bound c.args.heap.now c.along.at.0 (Some c.in-Some.target) c.along.invariant.there (rw c.in-Some.is at c.bound_at.ensures)) in
    record {
      there = (target_below c.args.heap.now c.len-count.ensures.formed c.along.at.0 c.in-Some.target there).1;
      made = c.in_ok-label-in-Some.ensures.means.belongs;
      kept = IsKept-trans _ _ _ _ _ _ _ c.along.invariant.kept c.in_ok-label-in-Some.ensures.kept;
      aims = aims_on g.L.Labels.made g.L.Labels.meaning g.L.Labels.room g.L.Labels.firm c.args.heap.now c.len-count.ensures.formed c.args.f.0 c.along.labels c.join.new.labels c.in_ok-label-in-Some.ensures.kept c.along.at.0 c.along.label c.along.invariant.aims c.in-Some.target c.in_ok-label-in-Some.label there c.in_ok-label-in-Some.ensures.means;
    }

pub returns-in-None-clause-aimed : goal.returns-in-None-clause-aimed
returns-in-None-clause-aimed g c = aims_last g.L.Labels.made g.L.Labels.meaning g.L.Labels.room g.L.Labels.firm c.args.heap.now c.len-count.ensures.formed c.args.f.0 c.along.labels (g.met.L.Labels.rising c.along.labels) c.along.at c.along.label c.along.invariant.made c.along.invariant.aims (stands_bound c.args.heap.now c.along.at.0 None c.along.invariant.there (rw c.in-None.is at c.bound_at.ensures))

pub returns-in-None-clause-kept : goal.returns-in-None-clause-kept
returns-in-None-clause-kept g c = c.along.invariant.kept
