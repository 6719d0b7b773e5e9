use Rattle.std.proofs.Common.{ap₂, ◌∙◌, sym, List}
use Rattle.origin_labels.specs.Label.{Label}
use Rattle.flow_frames.specs.Frames.{Frame}
use Rattle.flow_frames.specs.Rules.{is_broken}
use Rattle.flow_frames.specs.Changes.{raised}
use Rattle.flow_frames.specs.Held.{meant_at}
use Rattle.flow_frames.proofs.ContextLaws.{seen-kept}
use Rattle.flow_frames.proofs.frames.Frames.raise.Goals as goal

pub returns-clause-raised : goal.returns-clause-raised
returns-clause-raised g c =
    let frames = seen-kept g.L.Labels.made g.L.Labels.meaning g.L.Labels.room g.L.Labels.firm c.args.labels.now c.inside.new.labels c.args.self.now.frames c.in_ok-need.ensures.kept c.requires.belongs.labels in
    c.in_ok-raise_frame.ensures.raised ∙ ap₂ (λ (fs : List Frame) (l : Label). raised fs c.args.depth l) frames (c.in_ok-need.ensures.kept.labels c.args.label c.requires.label).1

pub returns-clause-allowed : goal.returns-clause-allowed
returns-clause-allowed g c =
    let frames = seen-kept g.L.Labels.made g.L.Labels.meaning g.L.Labels.room g.L.Labels.firm c.args.labels.now c.inside.new.labels c.args.self.now.frames c.in_ok-need.ensures.kept c.requires.belongs.labels in
    sym (ap₂ (λ (need : Label) (fs : List Frame). is_broken need (meant_at fs c.args.depth)) c.in_ok-need.ensures.meaning frames) ∙ c.in_ok-check.ensures.allowed
