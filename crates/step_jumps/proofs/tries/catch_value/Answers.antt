use Rattle.js_ast.specs.Views.{view_block, view_ident, view_stmt}
use Rattle.step_jumps.proofs.CatchLaws.{catches}
use Rattle.step_jumps.proofs.StandLaws.{standing_caught}
use Rattle.step_jumps.proofs.tries.catch_value.Goals as goal

pub returns-clause-begins : goal.returns-clause-begins
returns-clause-begins g c =
    catches g.L.Labels.made g.L.Labels.meaning c.bind_name.new.labels c.args.place.0 (view_stmt c.args.s.now) (view_ident c.args.ident.now) (view_block c.args.block.now) c.args.depth c.in_ok-own.own.0 c.pop-value.result c.args.stack.now c.pop-value.new.self c.begin_handler.new.stack c.args.world.now c.bind_name.new.world c.begin_handler.result
    c.pop-value.ensures.tasks c.pop-value.ensures.top c.requires.standing.values c.in_ok-own.ensures.number c.in_ok-own.ensures.binds c.begin_handler.ensures.goes_on

pub returns-clause-standing : goal.returns-clause-standing
returns-clause-standing g c =
    standing_caught g.L.Labels.made g.L.Labels.meaning g.L.Labels.room g.L.Labels.firm c.args.labels.now c.bind_name.new.labels c.bind_name.ensures.kept c.args.stack.now c.pop-value.new.self c.begin_handler.new.stack c.pop-value.result c.args.world.now c.bind_name.new.world c.begin_handler.result
    c.requires.standing c.pop-value.ensures.tasks c.pop-value.ensures.top c.bind_name.ensures.belongs c.bind_name.ensures.frames c.bind_name.ensures.grows.records c.begin_handler.ensures.keeps
