use Rattle.std.proofs.Common.{ap, ap₂, sym, ◌∙◌, subst}
use Rattle.origin_labels.specs.Label.{union}
use Rattle.origin_labels.proofs.StoreLaws.{IsKept-refl, IsKept-trans}
use Rattle.flow_frames.specs.declared.frame.Frame.{Frame}
use Rattle.flow_frames.proofs.ContextLaws.{context-nil}
use Rattle.flow_frames.proofs.RaiseLaws.{context-more}
use Rattle.flow_frames.proofs.frame.join_labels.Goals as goal

pub loop-frame-init : goal.loop-frame-init
loop-frame-init g c = record {
  made = c.bottom-all.ensures.made;
  meaning = c.bottom-all.ensures.meaning ∙ sym context-nil;
  kept = IsKept-refl _ _ _ _ _;
}

pub loop-frame-preserved : goal.loop-frame-preserved
loop-frame-preserved g c =
    let i = c.loop-frame.frame-index in
    let there = c.requires i c.frame-item.result c.loop-frame-test.true in
    let here = subst (λ (f : Frame g.row.T.Denot). g.L.Labels.made c.args.labels.now f.label) (sym c.frame-item.is) there in
    record {
      made = c.in_ok-all.ensures.made;
      meaning = c.in_ok-all.ensures.meaning
          ∙ ap₂ union c.loop-frame.invariant.meaning ((c.loop-frame.invariant.kept.labels c.frame-item.result.label here).1 ∙ ap (λ (f : Frame g.row.T.Denot). g.L.Labels.meaning c.args.labels.now f.label) c.frame-item.is)
          ∙ context-more g.L.Labels.made g.L.Labels.meaning c.args.labels.now c.args.frames.now i c.frame-item.result c.loop-frame-test.true (g.met.L.Labels.rising c.args.labels.now _ there);
      kept = IsKept-trans _ _ _ _ _ _ _ c.loop-frame.invariant.kept c.in_ok-all.ensures.kept;
    }
