use Rattle.std.proofs.Common.{ap, ◌∙◌, sym, subst, refl, List, [], ◌∷◌, ◌++◌, map}
use Rattle.flow_frames.specs.Held.{Held, Belong}
use Rattle.flow_frames.specs.Views.{held}
use Rattle.flow_frames.specs.declared.frame.Frame.{Frame}
use Rattle.flow_frames.proofs.CallLaws.{Belong-one}
use Rattle.flow_frames.proofs.frames.Frames.new.Goals as goal

pub returns-clause-belongs : goal.returns-clause-belongs
returns-clause-belongs g c =
    subst (λ (hs : List (Held g.row.T.Denot)). Belong g.L.Labels.made g.L.Labels.meaning c.args.labels.now hs)
    (sym (ap (map held) (c.in_ok-push.ensures.items ∙ ap (λ (fs : List (Frame g.row.T.Denot)). fs ++ c.new.result ∷ []) c.new-frames.ensures.items) ∙ ap (λ (h : Held g.row.T.Denot). h ∷ []) c.new.ensures))
    (Belong-one g.L.Labels.made g.L.Labels.meaning g.met.L.Labels.rising c.args.labels.now _ c.bottom-bottom.ensures.made c.bottom-bottom.ensures.made refl)
