use Rattle.std.proofs.Common.{arith, ap, ap₂, ◌∙◌, sym, subst, ◌+◌, List, map, take}
use Rattle.std.proofs.lemmas.List.{take-map}
use Rattle.origin_labels.specs.Label.{Label, union}
use Rattle.origin_labels.proofs.StoreLaws.{IsKept-trans}
use Rattle.flow_frames.specs.Frames.{Frame}
use Rattle.flow_frames.specs.Rules.{is_broken}
use Rattle.flow_frames.specs.Held.{Kept, Belong, meant_at, seen, seen_frame}
use Rattle.flow_frames.specs.Views.{held}
use Rattle.flow_frames.proofs.CallLaws.{AreFormed-taken}
use Rattle.flow_frames.proofs.ContextLaws.{seen-kept}
use Rattle.flow_frames.proofs.StandingLaws.{Belong-kept, Belong-take}
use Rattle.flow_frames.proofs.frames.Frames.jump.Goals as goal

pub returns-in_err-need-clause-belongs : goal.returns-in_err-need-clause-belongs
returns-in_err-need-clause-belongs g c = Belong-kept g.L.Labels.made g.L.Labels.meaning g.met.L.Labels.rising g.L.Labels.room g.L.Labels.firm c.inside.new.labels c.join.new.self c.args.self.now.frames c.join.ensures.kept c.inside.ensures.belongs

pub check-requires-clause-belongs : goal.check-requires-clause-belongs
check-requires-clause-belongs g c = Belong-kept g.L.Labels.made g.L.Labels.meaning g.met.L.Labels.rising g.L.Labels.room g.L.Labels.firm c.inside.new.labels c.join.new.self c.args.self.now.frames c.join.ensures.kept c.inside.ensures.belongs

pub returns-in_err-check-clause-belongs : goal.returns-in_err-check-clause-belongs
returns-in_err-check-clause-belongs g c = Belong-kept g.L.Labels.made g.L.Labels.meaning g.met.L.Labels.rising g.L.Labels.room g.L.Labels.firm c.inside.new.labels c.join.new.self c.args.self.now.frames c.join.ensures.kept c.inside.ensures.belongs

pub invariant_of-self : goal.invariant_of-self
invariant_of-self g c = AreFormed-taken c.self.inside.frames.items _ (c.args.depth + 1) (omega arith) c.truncate.ensures.items c.self.invariant

pub returns-clause-frames : goal.returns-clause-frames
returns-clause-frames g c = ap (map held) c.truncate.ensures.items ∙ sym (take-map held (c.args.depth + 1) c.self.inside.frames.items) ∙ ap (λ (v : Kept g.row.T.Denot). take (c.args.depth + 1) v.frames) c.self.view_is

pub returns-clause-kept : goal.returns-clause-kept
returns-clause-kept g c = IsKept-trans _ _ _ _ _ _ _ c.inside.ensures.kept c.join.ensures.kept

pub returns-clause-seen : goal.returns-clause-seen
returns-clause-seen g c =
    let kept = IsKept-trans g.L.Labels.made g.L.Labels.meaning g.L.Labels.room g.L.Labels.firm c.args.labels.now c.inside.new.labels c.join.new.self c.inside.ensures.kept c.join.ensures.kept in
    ap (seen g.L.Labels.meaning c.join.new.self) (ap (map held) c.truncate.ensures.items ∙ sym (take-map held (c.args.depth + 1) c.self.inside.frames.items) ∙ ap (λ (v : Kept g.row.T.Denot). take (c.args.depth + 1) v.frames) c.self.view_is)
    ∙ sym (take-map (seen_frame (g.L.Labels.meaning c.join.new.self)) (c.args.depth + 1) c.args.self.now.frames)
    ∙ ap (take (c.args.depth + 1)) (seen-kept g.L.Labels.made g.L.Labels.meaning g.L.Labels.room g.L.Labels.firm c.args.labels.now c.join.new.self c.args.self.now.frames kept c.requires.belongs.labels)

pub returns-clause-allowed : goal.returns-clause-allowed
returns-clause-allowed g c =
    let kept = IsKept-trans g.L.Labels.made g.L.Labels.meaning g.L.Labels.room g.L.Labels.firm c.args.labels.now c.inside.new.labels c.join.new.self c.inside.ensures.kept c.join.ensures.kept in
    let frames = seen-kept g.L.Labels.made g.L.Labels.meaning g.L.Labels.room g.L.Labels.firm c.args.labels.now c.join.new.self c.args.self.now.frames kept c.requires.belongs.labels in
    let need = c.in_ok-need.ensures.meaning ∙ ap₂ union c.in_ok-inside.ensures.meaning (c.in_ok-inside.ensures.kept.labels c.args.cause c.requires.cause).1 in
    sym (ap₂ (λ (n : Label) (fs : List Frame). is_broken n (meant_at fs c.args.depth)) need frames) ∙ c.in_ok-check.ensures.allowed

pub returns-clause-belongs : goal.returns-clause-belongs
returns-clause-belongs g c =
    subst (Belong g.L.Labels.made g.L.Labels.meaning c.join.new.self) (sym (ap (map held) c.truncate.ensures.items ∙ sym (take-map held (c.args.depth + 1) c.self.inside.frames.items) ∙ ap (λ (v : Kept g.row.T.Denot). take (c.args.depth + 1) v.frames) c.self.view_is))
    (Belong-take g.L.Labels.made g.L.Labels.meaning g.met.L.Labels.rising c.join.new.self (c.args.depth + 1) c.args.self.now.frames
    (Belong-kept g.L.Labels.made g.L.Labels.meaning g.met.L.Labels.rising g.L.Labels.room g.L.Labels.firm c.inside.new.labels c.join.new.self c.args.self.now.frames c.join.ensures.kept c.inside.ensures.belongs))
