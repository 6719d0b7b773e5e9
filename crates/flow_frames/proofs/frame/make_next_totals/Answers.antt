use Rattle.std.proofs.Common.{arith, ap, sym, ◌∙◌, subst, ◌<◌, length, get_or}
use Rattle.std.specs.List.{All}
use Rattle.std.proofs.lemmas.List.{take_all}
use Rattle.origin_labels.specs.Label.{Label, union}
use Rattle.origin_labels.proofs.StoreLaws.{IsKept-trans}
use Rattle.flow_frames.specs.Views.{HasNext}
use Rattle.flow_frames.proofs.RaiseLaws.{All-held, held-set, HasNext-more}
use Rattle.flow_frames.proofs.frame.make_next_totals.Goals as goal

pub join-requires-clause-first : goal.join-requires-clause-first
join-requires-clause-first g c =
    (c.loop-frame.invariant.kept.labels _ (All-held (λ h. g.L.Labels.made c.args.labels.now h.total) c.loop-frame.frames c.args.frames.now c.loop-frame.invariant.same c.requires.totals c.loop-frame.frame-index c.frame-item.result (omega arith))).0

pub loop-frame-preserved : goal.loop-frame-preserved
loop-frame-preserved g c =
    let i = c.loop-frame.frame-index in
    let within : i < length c.loop-frame.frames = omega arith in
    let total = c.loop-frame.invariant.kept.labels _ (All-held (λ h. g.L.Labels.made c.args.labels.now h.total) c.loop-frame.frames c.args.frames.now c.loop-frame.invariant.same c.requires.totals i c.frame-item.result within) in
    let later = c.in_ok-frame.ensures.kept.labels _ total.0 in
    let label = c.loop-frame.invariant.kept.labels c.args.label c.requires.label in
    record {
      next = HasNext-more g.L.Labels.made g.L.Labels.meaning g.L.Labels.room g.L.Labels.firm c.loop-frame.labels c.join.new.self (g.L.Labels.meaning c.args.labels.now c.args.label) c.loop-frame.frames i _ within c.in_ok-frame.ensures.kept c.loop-frame.invariant.next
          (later.0, c.in_ok-frame.ensures.made, c.in_ok-frame.ensures.meaning ∙ ap (λ (x : Label). union x (g.L.Labels.meaning c.loop-frame.labels c.args.label)) (sym later.1) ∙ ap (union (g.L.Labels.meaning c.join.new.self (get_or c.loop-frame.frames i c.frame-item.result).total)) label.1);
      same = held-set c.loop-frame.frames i c.frame-item.result c.in_ok-frame.field-0 within ∙ c.loop-frame.invariant.same;
      kept = IsKept-trans _ _ _ _ _ _ _ c.loop-frame.invariant.kept c.in_ok-frame.ensures.kept;
    }

pub returns-clause-next : goal.returns-clause-next
returns-clause-next g c =
    subst (All (HasNext g.L.Labels.made g.L.Labels.meaning c.loop-frame.labels (g.L.Labels.meaning c.args.labels.now c.args.label))) (take_all c.loop-frame.frame-index c.loop-frame.frames (omega arith)) c.loop-frame.invariant.next
