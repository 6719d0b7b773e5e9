use Rattle.std.proofs.Common.{Some, None, sym, ◌∙◌}
use Rattle.origin_labels.proofs.StoreLaws.{IsKept-refl, IsKept-trans}
use Rattle.js_values.proofs.ReadingLaws.{HasHeap-kept}
use Rattle.step_calling.proofs.BoundTargetLaws.{aims_first, aims_last, aims_on, behind_has, stands_bound, target_below, target_has}
use Rattle.step_calling.proofs.bound_target.walk_targets.Goals as goal

pub along-init : goal.along-init
along-init g c = record {
  there = (target_below c.args.heap.now c.len-count.ensures.formed c.args._o.0 c.args.first c.requires.there).1;
  has = target_has (g.L.Labels.made c.args.labels.now) c.args.heap.now c.args._o.0 c.args.first c.requires.belongs c.requires.there;
  kept = IsKept-refl _ _ _ _ _;
  aims = aims_first g.L.Labels.made g.L.Labels.meaning g.L.Labels.room g.L.Labels.firm c.args.heap.now c.len-count.ensures.formed c.args._o.0 c.args.labels.now c.args.first c.requires.there;
}

pub inner-requires : goal.inner-requires
inner-requires g c = c.along.invariant.there

pub behind-requires-clause-aim : goal.behind-requires-clause-aim
behind-requires-clause-aim g c = c.along.invariant.has

pub behind-requires-clause-next : goal.behind-requires-clause-next
behind-requires-clause-next g c =
    let has = HasHeap-kept g.L.Labels.made g.L.Labels.meaning g.L.Labels.room g.L.Labels.firm c.args.labels.now c.along.labels c.along.invariant.kept c.args.heap.now c.requires.belongs in
    target_has (g.L.Labels.made c.along.labels) c.args.heap.now c.along.aim.function.0 c.in-Some.next has (stands_bound c.args.heap.now c.along.aim.function.0 c.inner.result.now (Some c.in-Some.next) c.along.invariant.there c.inner.ensures (sym c.in-Some.is ∙ c.in_ok-bound.ensures))

pub along-smaller : goal.along-smaller
along-smaller g c =
    let there = stands_bound c.args.heap.now c.along.aim.function.0 c.inner.result.now (Some c.in-Some.next) c.along.invariant.there c.inner.ensures (sym c.in-Some.is ∙ c.in_ok-bound.ensures) in
    rw c.in_ok-aim-in-Some.ensures.behind.function (target_below c.args.heap.now c.len-count.ensures.formed c.along.aim.function.0 c.in-Some.next there).0

pub along-preserved : goal.along-preserved
along-preserved g c =
    let there = stands_bound c.args.heap.now c.along.aim.function.0 c.inner.result.now (Some c.in-Some.next) c.along.invariant.there c.inner.ensures (sym c.in-Some.is ∙ c.in_ok-bound.ensures) in
    let has = HasHeap-kept g.L.Labels.made g.L.Labels.meaning g.L.Labels.room g.L.Labels.firm c.args.labels.now c.along.labels c.along.invariant.kept c.args.heap.now c.requires.belongs in
    let next_has = target_has (g.L.Labels.made c.along.labels) c.args.heap.now c.along.aim.function.0 c.in-Some.next has there in
    record {
      there = rw c.in_ok-aim-in-Some.ensures.behind.function (target_below c.args.heap.now c.len-count.ensures.formed c.along.aim.function.0 c.in-Some.next there).1;
      has = behind_has g.L.Labels.made g.L.Labels.meaning g.L.Labels.room g.L.Labels.firm c.args.heap.now c.len-count.ensures.formed c.args._o.0 c.along.labels c.behind.new.labels c.in_ok-aim-in-Some.ensures.kept c.along.aim c.in-Some.next c.in_ok-aim-in-Some.aim c.along.invariant.has next_has c.in_ok-aim-in-Some.ensures.behind;
      kept = IsKept-trans _ _ _ _ _ _ _ c.along.invariant.kept c.in_ok-aim-in-Some.ensures.kept;
      aims = aims_on g.L.Labels.made g.L.Labels.meaning g.L.Labels.room g.L.Labels.firm c.args.heap.now c.len-count.ensures.formed c.args._o.0 c.along.labels c.behind.new.labels c.in_ok-aim-in-Some.ensures.kept c.along.aim c.in-Some.next c.in_ok-aim-in-Some.aim c.along.invariant.aims there c.in_ok-aim-in-Some.ensures.behind;
    }

pub returns-in-None-clause-aimed : goal.returns-in-None-clause-aimed
returns-in-None-clause-aimed g c =
    aims_last g.L.Labels.made g.L.Labels.meaning g.L.Labels.room g.L.Labels.firm c.args.heap.now c.len-count.ensures.formed c.args._o.0 c.along.labels (g.met.L.Labels.rising c.along.labels) c.along.aim c.along.invariant.has c.along.invariant.aims
    (stands_bound c.args.heap.now c.along.aim.function.0 c.inner.result.now None c.along.invariant.there c.inner.ensures (sym c.in-None.is ∙ c.in_ok-bound.ensures))
