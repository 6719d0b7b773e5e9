use Rattle.std.proofs.Common.{ap, refl, ◌∙◌}
use Rattle.js_ast.specs.Views.{view_function}
use Rattle.function_table.specs.Tables.{table}
use Rattle.continuations.specs.declared.continuation.Control.TheVariants as control
use Rattle.continuations.specs.Going.{here}
use Rattle.continuations.specs.Settings.{setting_of}
use Rattle.continuations.proofs.Handed.{lies_alone}
use Rattle.step_calling.proofs.CalleeLaws.{place_above}
use Rattle.step_calling.proofs.CallLaws.{function_begins}
use Rattle.step_calling.proofs.StandingLaws.{stands_valued}
use Rattle.step_calling.proofs.making.function.Goals as goal

pub returns-clause-begins : goal.returns-clause-begins
returns-clause-begins g c tables inputs set ns =
    function_begins g.L.Labels.made g.L.Labels.meaning c.make_function.new.labels tables inputs set (table c.args.functions.now) ns (control.Function c.args.f) (view_function c.args.f.now) c.args.place c.in_ok-made.made c.reference.result
    c.args.stack.now c.lay.new.self c.args.world.now c.make_function.new.world (λ vs e s. refl) (ap (λ e. e.place) (place_above c.args.stack.now.tasks (setting_of ns here)) ∙ c.requires.place) c.in_ok-made.ensures.gives
    c.reference.ensures.value (λ reading read. read.agrees c.reference.result.label c.reference.ensures.made ∙ c.reference.ensures.empty) c.lay.ensures.tasks
    (lies_alone c.args.stack.now c.lay.new.self c.reference.result c.requires.standing.values c.in_ok-lay.ensures.laid)

pub returns-clause-standing : goal.returns-clause-standing
returns-clause-standing g c =
    stands_valued g.L.Labels.made g.L.Labels.meaning g.L.Labels.room g.L.Labels.firm c.args.labels.now c.make_function.new.labels c.make_function.ensures.kept c.args.stack.now c.lay.new.self c.args.world.now c.make_function.new.world c.reference.result
    c.requires.standing.operands c.requires.standing.scopes c.requires.standing.frames c.requires.standing.records c.make_function.ensures.belongs c.make_function.ensures.frames c.make_function.ensures.grows.records c.lay.ensures.tasks
    (lies_alone c.args.stack.now c.lay.new.self c.reference.result c.requires.standing.values c.in_ok-lay.ensures.laid) c.reference.ensures.made
