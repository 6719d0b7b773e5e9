use Rattle.std.proofs.Common.{ap, ap₂, ◌∙◌, sym, subst, ◌≡◌, List, [], ◌∷◌, ◌++◌, map}
use Rattle.std.proofs.lemmas.List.{map_push}
use Rattle.origin_labels.specs.Label.{Label, union}
use Rattle.flow_frames.specs.Held.{Held, Kept, Belong, seen}
use Rattle.flow_frames.specs.Views.{held}
use Rattle.flow_frames.specs.declared.frame.Frame.{Frame}
use Rattle.flow_frames.proofs.CallLaws.{push-Belong, push-seen}
use Rattle.flow_frames.proofs.StandingLaws.{Belong-kept}
use Rattle.flow_frames.proofs.frames.Frames.push.Goals as goal

pub returns-in_err-total-clause-belongs : goal.returns-in_err-total-clause-belongs
returns-in_err-total-clause-belongs g c = Belong-kept g.L.Labels.made g.L.Labels.meaning g.met.L.Labels.rising g.L.Labels.room g.L.Labels.firm c.args.labels.now c.join.new.self c.args.self.now.frames c.join.ensures.kept c.requires.belongs

pub returns-in_err-reserve-clause-belongs : goal.returns-in_err-reserve-clause-belongs
returns-in_err-reserve-clause-belongs g c =
    subst (λ (hs : List (Held g.row.T.Denot)). Belong g.L.Labels.made g.L.Labels.meaning c.join.new.self hs) (sym (ap (map held) c.reserve.ensures.items ∙ ap (λ (v : Kept g.row.T.Denot). v.frames) c.self.view_is))
    (Belong-kept g.L.Labels.made g.L.Labels.meaning g.met.L.Labels.rising g.L.Labels.room g.L.Labels.firm c.args.labels.now c.join.new.self c.args.self.now.frames c.in_ok-total.ensures.kept c.requires.belongs)

-- the frames are those from before, with the new one
frames_are : {L : Type 0} (was reserved now : List (Frame L)) (f : Frame L) (frames : List (Held L)) (h : Held L) → now ≡ reserved ++ f ∷ [] → reserved ≡ was → map held was ≡ frames → held f ≡ h → map held now ≡ frames ++ h ∷ []
frames_are was reserved now f frames h pushed same view new =
    ap (map held) (pushed ∙ ap (λ (fs : List (Frame _)). fs ++ f ∷ []) same) ∙ map_push held was f ∙ ap₂ (λ (hs : List (Held _)) (k : Held _). hs ++ k ∷ []) view new

pub returns-clause-pushed : goal.returns-clause-pushed
returns-clause-pushed g c =
    ap (seen g.L.Labels.meaning c.join.new.self) (frames_are _ _ _ _ _ _ c.push_reserved.ensures.items c.reserve.ensures.items (ap (λ (v : Kept g.row.T.Denot). v.frames) c.self.view_is) c.new.ensures)
    ∙ push-seen g.L.Labels.made g.L.Labels.meaning g.L.Labels.room g.L.Labels.firm c.args.labels.now c.join.new.self c.args.self.now.frames _ c.in_ok-total.ensures.kept c.requires.belongs c.requires.label

pub returns-clause-belongs : goal.returns-clause-belongs
returns-clause-belongs g c =
    subst (λ (hs : List (Held g.row.T.Denot)). Belong g.L.Labels.made g.L.Labels.meaning c.join.new.self hs)
    (sym (frames_are _ _ _ _ _ _ c.push_reserved.ensures.items c.reserve.ensures.items (ap (λ (v : Kept g.row.T.Denot). v.frames) c.self.view_is) c.new.ensures))
    (push-Belong g.L.Labels.made g.L.Labels.meaning g.met.L.Labels.rising g.L.Labels.room g.L.Labels.firm c.args.labels.now c.join.new.self c.args.self.now.frames _ c.in_ok-total.ensures.kept c.requires.belongs c.requires.label c.in_ok-total.ensures.made
    (c.in_ok-total.ensures.meaning ∙ ap (λ (x : Label). union x (g.L.Labels.meaning c.args.labels.now c.args.label)) c.context.ensures.meaning))
