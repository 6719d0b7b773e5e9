use Rattle.std.proofs.Common.{ap, ◌∙◌, ◌++◌, [], ◌∷◌, map}
use Rattle.flow_frames.specs.Changes.{pushed}
use Rattle.flow_frames.specs.Held.{seen_frame}
use Rattle.flow_frames.specs.declared.kind.Kind.TheVariants as kind
use Rattle.js_values.proofs.ReadingLaws.{IsReading-earlier}
use Rattle.continuations.proofs.Reading.{read_pushed}
use Rattle.step_statements.proofs.scopes.enter.Goals as goal

pub returns-clause-entered : goal.returns-clause-entered
returns-clause-entered g c reading read =
    read_pushed g.L.Labels.made g.L.Labels.meaning g.L.Labels.room g.L.Labels.firm c.args.labels.now c.push.new.labels reading c.args.frames.now.frames c.push.new.self.frames kind.Loop c.bottom-none.result c.push.ensures.kept c.requires.belongs c.push.ensures.belongs c.bottom-none.ensures.made c.in_ok-push.ensures.pushed read
    ∙ ap (λ l. map (seen_frame reading) c.args.frames.now.frames ++ pushed kind.Loop l ∷ []) ((IsReading-earlier g.L.Labels.made g.L.Labels.meaning g.L.Labels.room g.L.Labels.firm c.args.labels.now c.push.new.labels reading c.push.ensures.kept read).agrees c.bottom-none.result c.bottom-none.ensures.made ∙ c.bottom-none.ensures.meaning)
