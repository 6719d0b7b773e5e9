use Rattle.std.proofs.Common.{arith, ap, ap₂, sym, ◌∙◌, take, get_or, length, List, ℕ}
use Rattle.origin_labels.specs.Label.{label_of, union, single}
use Rattle.std.proofs.lemmas.List.{take_more}
use Rattle.origin_labels.proofs.LabelLaws.{label_of-push}
use Rattle.origin_labels.proofs.StoreLaws.{IsKept-refl, IsKept-trans}
use Rattle.origin_labels.proofs.labels.join_all.Goals as goal

pub loop-origin-init : goal.loop-origin-init
unfolding label_of
loop-origin-init g c = record {
  made = c.bottom-all.ensures.made;
  meaning = c.bottom-all.ensures.meaning;
  kept = IsKept-refl _ _ _ _ _;
}

pub loop-origin-preserved : goal.loop-origin-preserved
loop-origin-preserved g c = record {
  made = c.in_ok-all.ensures.made;
  meaning = c.in_ok-all.ensures.meaning
      ∙ ap₂ union ((c.in_ok-one.ensures.kept.labels c.loop-origin.all c.loop-origin.invariant.made).1 ∙ c.loop-origin.invariant.meaning) (c.in_ok-one.ensures.meaning ∙ ap (λ (l : List ℕ). single (get_or l c.loop-origin.origin-index 0)) c.items-origin-items.ensures.items)
      ∙ label_of-push (take c.loop-origin.origin-index c.args.list.now) (get_or c.args.list.now c.loop-origin.origin-index 0)
      ∙ ap label_of (sym (take_more c.args.list.now c.loop-origin.origin-index 0 (omega (arith, ap length c.items-origin-items.ensures.items))));
  kept = IsKept-trans _ _ _ _ _ _ _ c.loop-origin.invariant.kept (IsKept-trans _ _ _ _ _ _ _ c.in_ok-one.ensures.kept c.in_ok-all.ensures.kept);
}
