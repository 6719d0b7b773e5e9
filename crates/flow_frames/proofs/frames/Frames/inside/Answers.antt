use Rattle.std.proofs.Common.{ap, ◌∙◌, sym, subst, ◌≡◌, ◌+◌, List, map, IfOk}
use Rattle.std.specs.List.{All}
use Rattle.origin_labels.specs.Label.{Label}
use Rattle.flow_frames.specs.Frames.{inside}
use Rattle.flow_frames.specs.Held.{Held, Kept, seen}
use Rattle.flow_frames.specs.Views.{held}
use Rattle.flow_frames.proofs.CallLaws.{made-inside, seen-inside}
use Rattle.flow_frames.proofs.StandingLaws.{Belong-kept}
use Rattle.flow_frames.proofs.frames.Frames.inside.Goals as goal

pub join_labels-requires : goal.join_labels-requires
join_labels-requires g c =
    made-inside g.L.Labels.made g.L.Labels.meaning c.args.labels.now c.deref.result.now _ (c.args.depth + 1)
    (subst (All (λ h. g.L.Labels.made c.args.labels.now h.label)) (sym (ap (map held) c.deref.ensures.value ∙ ap (λ (v : Kept g.row.T.Denot). v.frames) c.self.view_is)) c.requires.belongs.labels)

pub returns-clause-meaning : goal.returns-clause-meaning
returns-clause-meaning g c =
    subst (λ (x : Label). IfOk c.join_labels.result (λ label. g.L.Labels.meaning c.join_labels.new.labels label ≡ x))
    (seen-inside g.L.Labels.meaning c.args.labels.now c.deref.result.now c.args.depth
    ∙ ap (λ (hs : List (Held g.row.T.Denot)). inside (seen g.L.Labels.meaning c.args.labels.now hs) c.args.depth) (ap (map held) c.deref.ensures.value ∙ ap (λ (v : Kept g.row.T.Denot). v.frames) c.self.view_is))
    c.join_labels.ensures.meaning

pub returns-clause-belongs : goal.returns-clause-belongs
returns-clause-belongs g c = Belong-kept g.L.Labels.made g.L.Labels.meaning g.met.L.Labels.rising g.L.Labels.room g.L.Labels.firm c.args.labels.now c.join_labels.new.labels c.args.self.now.frames c.join_labels.ensures.kept c.requires.belongs
