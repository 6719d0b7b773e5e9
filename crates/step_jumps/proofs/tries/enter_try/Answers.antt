use Rattle.std.proofs.Common.{ap, ◌∙◌, ◌++◌, ◌∷◌, [], map}
use Rattle.flow_frames.specs.Changes.{pushed}
use Rattle.flow_frames.specs.Held.{seen_frame}
use Rattle.flow_frames.specs.declared.kind.Kind.TheVariants as kind
use Rattle.js_ast.specs.Views.{view_block, view_stmt}
use Rattle.js_values.proofs.ReadingLaws.{IsReading-earlier}
use Rattle.continuations.proofs.Reading.{read_pushed}
use Rattle.step_jumps.proofs.CatchLaws.{tries_with}
use Rattle.step_jumps.proofs.StandLaws.{standing_tried}
use Rattle.step_jumps.proofs.tries.enter_try.Goals as goal

pub returns-clause-begins : goal.returns-clause-begins
returns-clause-begins g c =
    tries_with g.L.Labels.made g.L.Labels.meaning c.push.new.labels (view_stmt c.args.s.now) (view_block c.args.block.now) c.len-depth.result c.args.stack.now c.begin_block.new.stack c.args.world.now c.push.new.self c.begin_block.result
    c.requires.block c.len-depth.ensures.length
    (λ reading read.
    read_pushed g.L.Labels.made g.L.Labels.meaning g.L.Labels.room g.L.Labels.firm c.args.labels.now c.push.new.labels reading c.args.world.now.frames.frames c.push.new.self.frames kind.Try c.bottom-none.result c.push.ensures.kept c.requires.standing.belongs.frames c.push.ensures.belongs c.bottom-none.ensures.made c.in_ok-push.ensures.pushed read
    ∙ ap (λ l. map (seen_frame reading) c.args.world.now.frames.frames ++ pushed kind.Try l ∷ []) ((IsReading-earlier g.L.Labels.made g.L.Labels.meaning g.L.Labels.room g.L.Labels.firm c.args.labels.now c.push.new.labels reading c.push.ensures.kept read).agrees c.bottom-none.result c.bottom-none.ensures.made ∙ c.bottom-none.ensures.meaning))
    c.begin_block.ensures.goes_on

pub returns-clause-standing : goal.returns-clause-standing
returns-clause-standing g c =
    standing_tried g.L.Labels.made g.L.Labels.meaning g.L.Labels.room g.L.Labels.firm c.args.labels.now c.push.new.labels c.push.ensures.kept c.args.s c.args.stack.now c.begin_block.new.stack c.args.world.now c.push.new.self c.len-depth.result c.begin_block.result
    c.requires.standing c.len-depth.ensures.length c.push.ensures.belongs c.len-deeper.ensures.catch c.in_ok-push.ensures.length c.begin_block.ensures.values c.begin_block.ensures.scopes c.begin_block.ensures.natives c.begin_block.ensures.operands
