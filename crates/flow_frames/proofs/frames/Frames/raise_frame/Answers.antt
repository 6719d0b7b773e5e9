use Rattle.std.proofs.Common.{ap, ◌∙◌, sym, subst, ◌-◌, List, ◌++◌, map, take, vec_capacity, vec_len}
use Rattle.std.specs.List.{All}
use Rattle.std.proofs.lemmas.List.{take-append-drop}
use Rattle.std.proofs.lemmas.List.Elements.{All-drop}
use Rattle.flow_frames.specs.Held.{Held, Kept, Belong, AreFormed, seen}
use Rattle.flow_frames.specs.Standing.{HasMade}
use Rattle.flow_frames.specs.Views.{held}
use Rattle.flow_frames.proofs.StandingLaws.{Belong-kept}
use Rattle.flow_frames.proofs.CallLaws.{OnErr-from, held_from, held_written, raise_from-seen, raise_from-Belong, AreFormed-raised}
use Rattle.flow_frames.proofs.frames.Frames.raise_frame.Goals as goal

pub raise_first-requires-clause-made : goal.raise_first-requires-clause-made
raise_first-requires-clause-made g c =
    let view = ap (λ (v : Kept g.row.T.Denot). v.frames) c.self.view_is in
    subst (All (HasMade g.L.Labels.made c.args.labels.now)) (sym (held_from c.deref_mut.result.now c.self.inside.frames.items c.args.self.now.frames c.args.depth c.deref_mut.ensures.value view))
    (All-drop (HasMade g.L.Labels.made c.args.labels.now) c.args.depth c.args.self.now.frames (λ k d lt. (c.requires.belongs.labels k d lt, c.requires.belongs.totals k d lt)))

pub returns-in_err-raise_first-clause-unchanged : goal.returns-in_err-raise_first-clause-unchanged
returns-in_err-raise_first-clause-unchanged g c =
    let view = ap (λ (v : Kept g.row.T.Denot). v.frames) c.self.view_is in
    let from = held_from c.deref_mut.result.now c.self.inside.frames.items c.args.self.now.frames c.args.depth c.deref_mut.ensures.value view in
    let written = held_written c.self.inside.frames c.deref_mut.result.now c.raise_first.new.frames c.args.self.now.frames c.args.depth c.deref_mut.ensures.value view c.requires.depth c.raise_first.auto.frames in
    let same = written ∙ ap (λ (hs : List (Held g.row.T.Denot)). take c.args.depth c.args.self.now.frames ++ hs) (c.in_err-raise_first.ensures.unchanged ∙ from) ∙ take-append-drop c.args.depth c.args.self.now.frames in
    OnErr-from c.from_residual.result _ (ap (λ (hs : List (Held g.row.T.Denot)). record { frames = hs; spare = vec_capacity c.self.inside.frames - vec_len c.self.inside.frames }) (same ∙ sym view) ∙ c.self.view_is)

pub returns-in_err-raise_first-clause-belongs : goal.returns-in_err-raise_first-clause-belongs
returns-in_err-raise_first-clause-belongs g c =
    let view = ap (λ (v : Kept g.row.T.Denot). v.frames) c.self.view_is in
    let from = held_from c.deref_mut.result.now c.self.inside.frames.items c.args.self.now.frames c.args.depth c.deref_mut.ensures.value view in
    let written = held_written c.self.inside.frames c.deref_mut.result.now c.raise_first.new.frames c.args.self.now.frames c.args.depth c.deref_mut.ensures.value view c.requires.depth c.raise_first.auto.frames in
    let same = written ∙ ap (λ (hs : List (Held g.row.T.Denot)). take c.args.depth c.args.self.now.frames ++ hs) (c.in_err-raise_first.ensures.unchanged ∙ from) ∙ take-append-drop c.args.depth c.args.self.now.frames in
    subst (Belong g.L.Labels.made g.L.Labels.meaning c.raise_first.new.labels) (sym same)
    (Belong-kept g.L.Labels.made g.L.Labels.meaning g.met.L.Labels.rising g.L.Labels.room g.L.Labels.firm c.args.labels.now c.raise_first.new.labels c.args.self.now.frames c.in_err-raise_first.ensures.kept c.requires.belongs)

pub returns-clause-raised : goal.returns-clause-raised
returns-clause-raised g c =
    let view = ap (λ (v : Kept g.row.T.Denot). v.frames) c.self.view_is in
    let from = held_from c.deref_mut.result.now c.self.inside.frames.items c.args.self.now.frames c.args.depth c.deref_mut.ensures.value view in
    let written = held_written c.self.inside.frames c.deref_mut.result.now c.raise_first.new.frames c.args.self.now.frames c.args.depth c.deref_mut.ensures.value view c.requires.depth c.raise_first.auto.frames in
    ap (seen g.L.Labels.meaning c.raise_first.new.labels) written
    ∙ raise_from-seen g.L.Labels.made g.L.Labels.meaning g.met.L.Labels.rising g.L.Labels.room g.L.Labels.firm c.args.labels.now c.raise_first.new.labels c.in_ok-raise_first.ensures.kept
    c.args.self.now.frames _ (map held c.raise_first.new.frames) c.args.depth c.requires.belongs from (g.L.Labels.meaning c.args.labels.now c.args.label) c.in_ok-raise_first.ensures.seen

pub invariant_of-self : goal.invariant_of-self
invariant_of-self g c =
    let view = ap (λ (v : Kept g.row.T.Denot). v.frames) c.self.view_is in
    let from = held_from c.deref_mut.result.now c.self.inside.frames.items c.args.self.now.frames c.args.depth c.deref_mut.ensures.value view in
    let written = held_written c.self.inside.frames c.deref_mut.result.now c.raise_first.new.frames c.args.self.now.frames c.args.depth c.deref_mut.ensures.value view c.requires.depth c.raise_first.auto.frames in
    let same = written ∙ ap (λ (hs : List (Held g.row.T.Denot)). take c.args.depth c.args.self.now.frames ++ hs) (c.in_err-raise_first.ensures.unchanged ∙ from) ∙ take-append-drop c.args.depth c.args.self.now.frames in
    subst AreFormed (sym same) (subst AreFormed view c.self.invariant)

pub invariant_of-self-2 : goal.invariant_of-self-2
invariant_of-self-2 g c =
    let view = ap (λ (v : Kept g.row.T.Denot). v.frames) c.self.view_is in
    let from = held_from c.deref_mut.result.now c.self.inside.frames.items c.args.self.now.frames c.args.depth c.deref_mut.ensures.value view in
    let written = held_written c.self.inside.frames c.deref_mut.result.now c.raise_first.new.frames c.args.self.now.frames c.args.depth c.deref_mut.ensures.value view c.requires.depth c.raise_first.auto.frames in
    subst AreFormed (sym written)
    (AreFormed-raised g.L.Labels.meaning c.args.labels.now c.raise_first.new.labels c.args.self.now.frames _ c.args.depth (g.L.Labels.meaning c.args.labels.now c.args.label)
    (raise_from-seen g.L.Labels.made g.L.Labels.meaning g.met.L.Labels.rising g.L.Labels.room g.L.Labels.firm c.args.labels.now c.raise_first.new.labels c.in_ok-raise_first.ensures.kept
    c.args.self.now.frames _ (map held c.raise_first.new.frames) c.args.depth c.requires.belongs from (g.L.Labels.meaning c.args.labels.now c.args.label) c.in_ok-raise_first.ensures.seen)
    (subst AreFormed view c.self.invariant))

pub returns-clause-belongs : goal.returns-clause-belongs
returns-clause-belongs g c =
    let view = ap (λ (v : Kept g.row.T.Denot). v.frames) c.self.view_is in
    let from = held_from c.deref_mut.result.now c.self.inside.frames.items c.args.self.now.frames c.args.depth c.deref_mut.ensures.value view in
    let written = held_written c.self.inside.frames c.deref_mut.result.now c.raise_first.new.frames c.args.self.now.frames c.args.depth c.deref_mut.ensures.value view c.requires.depth c.raise_first.auto.frames in
    subst (Belong g.L.Labels.made g.L.Labels.meaning c.raise_first.new.labels) (sym written)
    (raise_from-Belong g.L.Labels.made g.L.Labels.meaning g.met.L.Labels.rising g.L.Labels.room g.L.Labels.firm c.args.labels.now c.raise_first.new.labels c.in_ok-raise_first.ensures.kept
    c.args.self.now.frames _ (map held c.raise_first.new.frames) c.args.depth c.requires.belongs from c.in_ok-raise_first.ensures.stands)
