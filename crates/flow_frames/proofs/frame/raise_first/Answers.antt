use Rattle.std.proofs.Common.{ap, ◌∙◌, List, map}
use Rattle.flow_frames.specs.Held.{seen}
use Rattle.flow_frames.specs.Standing.{HasMade, Stand}
use Rattle.flow_frames.specs.Views.{held}
use Rattle.flow_frames.specs.declared.frame.Frame.{Frame}
use Rattle.std.proofs.Common.{subst, sym}
use Rattle.flow_frames.proofs.RaiseLaws.{All-unheld, raise-Stand, raise-seen}
use Rattle.flow_frames.proofs.frame.raise_first.Goals as goal

pub join-requires-clause-first : goal.join-requires-clause-first
join-requires-clause-first g c = (All-unheld (HasMade g.L.Labels.made c.args.labels.now) c.args.frames.now c.requires.made 0 c.index-frames-0.result c.requires.some).0

pub make_next_totals-requires-clause-totals : goal.make_next_totals-requires-clause-totals
make_next_totals-requires-clause-totals g c = λ k d lt. (c.in_ok-raised.ensures.kept.labels _ (All-unheld (HasMade g.L.Labels.made c.args.labels.now) c.args.frames.now c.requires.made k d lt).1).0

pub returns-clause-stands : goal.returns-clause-stands
returns-clause-stands g c = λ outside stand.
    subst (λ (frames : List (Frame g.row.T.Denot)). Stand g.L.Labels.made g.L.Labels.meaning c.make_next_totals.new.labels outside (map held frames)) (sym c.take_next_totals.ensures)
    (raise-Stand g.L.Labels.made g.L.Labels.meaning g.met.L.Labels.rising g.L.Labels.room g.L.Labels.firm c.args.labels.now c.join.new.self c.make_next_totals.new.labels c.in_ok-raised.ensures.kept c.in_ok-make_next_totals.ensures.kept
    c.args.label c.in_ok-raised.raised c.requires.label c.in_ok-raised.ensures.made c.args.frames.now c.make_next_totals.new.frames c.requires.some c.index-frames-0.result c.index-frames-0-2.result
    c.in_ok-raised.ensures.meaning c.requires.made c.in_ok-make_next_totals.ensures.next c.in_ok-make_next_totals.ensures.same outside stand)

pub returns-clause-seen : goal.returns-clause-seen
returns-clause-seen g c =
    ap (λ (frames : List (Frame g.row.T.Denot)). seen g.L.Labels.meaning c.make_next_totals.new.labels (map held frames)) c.take_next_totals.ensures
    ∙ raise-seen g.L.Labels.made g.L.Labels.meaning g.met.L.Labels.rising g.L.Labels.room g.L.Labels.firm c.args.labels.now c.join.new.self c.make_next_totals.new.labels c.in_ok-raised.ensures.kept c.in_ok-make_next_totals.ensures.kept
    c.args.label c.in_ok-raised.raised c.requires.label c.in_ok-raised.ensures.made c.args.frames.now c.make_next_totals.new.frames c.requires.some c.index-frames-0.result c.index-frames-0-2.result
    c.in_ok-raised.ensures.meaning c.requires.made c.in_ok-make_next_totals.ensures.next c.in_ok-make_next_totals.ensures.same
