use Rattle.std.proofs.Common.{refl, false, Some, [], ◌∷◌}
use Rattle.js_ast.specs.Views.{view_stmt}
use Rattle.flow_meaning.specs.Planned.{planned, asking}
use Rattle.continuations.specs.declared.continuation.Control.TheVariants as control
use Rattle.step_statements.proofs.Standings.{begins_so, standing_opened}
use Rattle.step_statements.proofs.switching.begin_labelled.Goals as goal

pub returns-clause-begins : goal.returns-clause-begins
returns-clause-begins g c = λ tables inputs set functions natives.
    begins_so g.L.Labels.made g.L.Labels.meaning c.labelled_in.new.labels tables inputs set functions natives (λ tables inputs set functions e. (planned tables inputs set functions).round false (Some c.args.text.now ∷ []) e.env ((asking tables inputs set functions).stmt (view_stmt c.args.body.now))) c.args.stack.now c.labelled_in.new.stack c.args.world.now c.labelled_in.new.frames c.in_ok-next.next c.requires.standing.values c.in_ok-next.ensures.goes_on

pub returns-clause-standing : goal.returns-clause-standing
returns-clause-standing g c =
    standing_opened g.L.Labels.made g.L.Labels.meaning g.L.Labels.room g.L.Labels.firm c.args.labels.now c.labelled_in.new.labels c.labelled_in.ensures.kept c.args.stack.now c.labelled_in.new.stack c.args.world.now c.labelled_in.new.frames _ (control.Labelled c.args.text c.args.body) c.in_ok-next.next (λ n m e. e) refl refl c.requires.standing c.in_ok-next.ensures.opened c.in_ok-next.ensures.still c.labelled_in.ensures.belongs c.in_ok-next.ensures.catch
