use Rattle.std.proofs.Common.{refl, sym, ap, subst, ◌∙◌, [], ◌∷◌, ◌++◌, map, arith, append-nil}
use Rattle.std.specs.List.{All}
use Rattle.js_ast.specs.Views.{view_expr}
use Rattle.js_values.specs.Readings.{HasValue, read_value}
use Rattle.continuations.specs.declared.continuation.Continuation.TheVariants as continuation
use Rattle.continuations.specs.Shapes.{target_of}
use Rattle.step_references.specs.Keeping.{laid_for}
use Rattle.step_references.proofs.Kept.{laid_alike, laid_first, laid_has, laid_size}
use Rattle.step_objects.specs.declared.references.Reference.TheVariants as reference
use Rattle.js_ast.specs.Views.{view_other_declarations}
use Rattle.origin_labels.proofs.StoreLaws.{IsKept-refl}
use Rattle.es_meaning.specs.Operations.{One, Value}
use Rattle.es_meaning.specs.Evaluation.{more_variables}
use Rattle.flow_meaning.specs.Planned.{asking, planned}
use Rattle.run_state.specs.Names.{reference_of}
use Rattle.run_state.proofs.ActLaws.{Belongs-later}
use Rattle.continuations.specs.Settings.{entrance}
use Rattle.continuations.specs.declared.continuation.Control.TheVariants as control
use Rattle.step_references.proofs.Begun.{begun_at, begun_pushed}
use Rattle.step_references.proofs.Moved.{moved_pushed}
use Rattle.step_references.proofs.Loose.{none_has}
use Rattle.step_references.proofs.UseLaws.{initialised_alike}
use Rattle.step_references.proofs.variables.initialise.Goals as goal

pub returns-in_err-named-clause-belongs : goal.returns-in_err-named-clause-belongs
returns-in_err-named-clause-belongs g c = Belongs-later g.L.Labels.made g.L.Labels.meaning g.L.Labels.room g.L.Labels.firm c.args.labels.now c.resolve.new.labels c.resolve.ensures.kept g.met.L.Labels.rising c.args.world.now c.requires.belongs

pub returns-in_err-target-clause-belongs : goal.returns-in_err-target-clause-belongs
returns-in_err-target-clause-belongs g c = Belongs-later g.L.Labels.made g.L.Labels.meaning g.L.Labels.room g.L.Labels.firm c.args.labels.now c.resolve.new.labels c.in_ok-named.ensures.kept g.met.L.Labels.rising c.args.world.now c.requires.belongs

pub returns-in_err-push-clause-belongs : goal.returns-in_err-push-clause-belongs
returns-in_err-push-clause-belongs g c = Belongs-later g.L.Labels.made g.L.Labels.meaning g.L.Labels.room g.L.Labels.firm c.args.labels.now c.resolve.new.labels c.in_ok-named.ensures.kept g.met.L.Labels.rising c.args.world.now c.requires.belongs

pub returns-clause-belongs : goal.returns-clause-belongs
returns-clause-belongs g c = Belongs-later g.L.Labels.made g.L.Labels.meaning g.L.Labels.room g.L.Labels.firm c.args.labels.now c.resolve.new.labels c.in_ok-named.ensures.kept g.met.L.Labels.rising c.args.world.now c.requires.belongs

pub push-requires : goal.push-requires
push-requires g c = let size = laid_size (reference.Name c.in_ok-named.named) c.in_ok-target.target c.lay_reference.new.stack.loose [] c.in_ok-target.ensures.target ((laid_first c.args.stack.now.loose c.lay_reference.new.stack.loose (laid_for (reference.Name c.in_ok-named.named)) c.requires.loose c.in_ok-target.ensures.laid) ∙ sym (append-nil (laid_for (reference.Name c.in_ok-named.named)))) in omega (arith, size)

pub returns-clause-goes_on : goal.returns-clause-goes_on
returns-clause-goes_on g c =
    let e = view_expr c.args.value.now in
    let ds = view_other_declarations c.args.rest.now in
    begun_at One (λ tables inputs set functions reading i m. (planned tables inputs set functions).bind Value One ((asking tables inputs set functions).expr e i) (more_variables (planned tables inputs set functions) (entrance tables inputs set functions) (asking tables inputs set functions) m ds i)) c.args.name.now c.args.at.0 c.in_ok-named.named (IsKept-refl g.L.Labels.made g.L.Labels.meaning g.L.Labels.room g.L.Labels.firm c.resolve.new.labels) c.in_ok-named.ensures.resolved
    (begun_pushed (continuation.Variable c.in_ok-target.target c.args.rest) c.lay_reference.new.stack.loose [] (c.in_ok-push.ensures.ok ∙ ap (λ ts. record { tasks = ts ++ ((continuation.Variable c.in_ok-target.target c.args.rest), c.lay_reference.new.stack.loose) ∷ []; loose = [] }) c.lay_reference.ensures.tasks)
    (λ tables inputs set functions reading f s is. initialised_alike tables inputs set functions (target_of c.in_ok-target.target (map (read_value reading) c.lay_reference.new.stack.loose)) (reference_of reading c.in_ok-named.named) (laid_alike reading (reference.Name c.in_ok-named.named) c.in_ok-target.target c.lay_reference.new.stack.loose [] c.in_ok-target.ensures.target ((laid_first c.args.stack.now.loose c.lay_reference.new.stack.loose (laid_for (reference.Name c.in_ok-named.named)) c.requires.loose c.in_ok-target.ensures.laid) ∙ sym (append-nil (laid_for (reference.Name c.in_ok-named.named))))) e ds f.env.place s))

pub returns-clause-moved : goal.returns-clause-moved
returns-clause-moved g c =
    let made = g.L.Labels.made c.resolve.new.labels in
    moved_pushed (control.Expr c.args.value) (continuation.Variable c.in_ok-target.target c.args.rest) c.lay_reference.new.stack.loose [] (c.in_ok-push.ensures.ok ∙ ap (λ ts. record { tasks = ts ++ ((continuation.Variable c.in_ok-target.target c.args.rest), c.lay_reference.new.stack.loose) ∷ []; loose = [] }) c.lay_reference.ensures.tasks) refl refl (subst (All (HasValue made)) (sym (laid_first c.args.stack.now.loose c.lay_reference.new.stack.loose (laid_for (reference.Name c.in_ok-named.named)) c.requires.loose c.in_ok-target.ensures.laid)) (laid_has made (reference.Name c.in_ok-named.named) c.in_ok-named.ensures.made)) (none_has (HasValue made)) refl (omega arith)
