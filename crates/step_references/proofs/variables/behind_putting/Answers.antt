use Rattle.std.proofs.Common.{refl, sym, ap, [], ◌∷◌, length, arith}
use Rattle.std.proofs.lemmas.List.{nil_from_length}
use Rattle.js_ast.specs.Views.{view_other_declarations}
use Rattle.js_values.specs.Readings.{HasValue, read_value}
use Rattle.es_meaning.specs.Evaluation.{variables}
use Rattle.flow_meaning.specs.Planned.{asking, planned}
use Rattle.run_state.specs.declared.outcome.SetLength.TheVariants as set_length
use Rattle.continuations.specs.Settings.{entrance}
use Rattle.continuations.specs.declared.continuation.Control.TheVariants as control
use Rattle.continuations.specs.declared.continuation.Continuation.TheVariants as continuation
use Rattle.step_references.proofs.Begun.{begun_counted, begun_here, begun_pushed, begun_there}
use Rattle.step_references.proofs.Calls.{length_on, setter_on}
use Rattle.step_references.proofs.Loose.{none_has}
use Rattle.step_references.proofs.Moved.{moved_counted, moved_pushed, moved_within}
use Rattle.step_references.proofs.UseLaws.{put_on}
use Rattle.step_references.proofs.Loose.{three}
use Rattle.step_references.proofs.variables.behind_putting.Goals as goal

pub begin_setter-requires : goal.begin_setter-requires
begin_setter-requires g c = sym c.requires.loose

pub returns-in-Put-clause-goes_on : goal.returns-in-Put-clause-goes_on
returns-in-Put-clause-goes_on g c = rw c.in-Put.is (begun_there c.declare_others.ensures.goes_on refl (λ tables inputs set functions reading f s is. put_on tables inputs set functions (view_other_declarations c.args.rest.now) f.env.place (read_value reading c.args.value) s))

pub returns-in-Put-clause-moved : goal.returns-in-Put-clause-moved
returns-in-Put-clause-moved g c = moved_within _ _ _ _ _ _ _ c.declare_others.result (omega arith) c.declare_others.ensures.moved

pub returns-in_ok-next-in-Setter-clause-goes_on : goal.returns-in_ok-next-in-Setter-clause-goes_on
returns-in_ok-next-in-Setter-clause-goes_on g c =
    rw c.in-Setter.is (rw c.in_ok-next-in-Setter.ensures.calls (begun_here (begun_pushed (continuation.VariablesBehind c.args.rest) c.args.stack.now.loose (c.in-Setter.this ∷ c.called.result ∷ c.args.value ∷ []) c.in_ok-next-in-Setter.ensures.laid
    (λ tables inputs set functions reading f s is. setter_on tables inputs set functions reading c.args.value c.called.result c.in-Setter.label c.in-Setter.function c.in-Setter.this c.called.ensures (λ u. variables (planned tables inputs set functions) (entrance tables inputs set functions) (asking tables inputs set functions) (view_other_declarations c.args.rest.now) f.env.place) f s))))

pub returns-in_ok-next-in-Setter-clause-moved : goal.returns-in_ok-next-in-Setter-clause-moved
returns-in_ok-next-in-Setter-clause-moved g c =
    let made = g.L.Labels.made c.args.labels.now in
    let putting = rw c.in-Setter.is at c.requires.putting in
    rw c.in_ok-next-in-Setter.ensures.calls (moved_pushed (control.Call 1) (continuation.VariablesBehind c.args.rest) c.args.stack.now.loose (c.in-Setter.this ∷ c.called.result ∷ c.args.value ∷ []) c.in_ok-next-in-Setter.ensures.laid refl refl (rw (nil_from_length c.args.stack.now.loose c.requires.loose) (none_has (HasValue made))) (three (HasValue made) c.in-Setter.this c.called.result c.args.value putting.1 (rw c.called.ensures putting.0) c.requires.value) refl (omega arith))

pub push-requires : goal.push-requires
push-requires g c = sym c.requires.loose

pub begin_length-requires : goal.begin_length-requires
begin_length-requires g c = ap (λ k. length k.loose) c.in_ok-push-in-Length.ensures.ok

pub returns-in_ok-next-in-Length-clause-goes_on : goal.returns-in_ok-next-in-Length-clause-goes_on
returns-in_ok-next-in-Length-clause-goes_on g c =
    rw c.in-Length.is (begun_here (begun_counted set_length.Put c.called-in-Length.result c.args.value (continuation.VariablesBehind c.args.rest) c.args.stack.now.loose c.in_ok-push-in-Length.ensures.ok c.in_ok-next-in-Length.ensures.goes_on
    (λ tables inputs set functions reading f s is. length_on tables inputs set functions reading c.args.value c.called-in-Length.result c.in-Length.label c.in-Length.array c.called-in-Length.ensures (λ u. variables (planned tables inputs set functions) (entrance tables inputs set functions) (asking tables inputs set functions) (view_other_declarations c.args.rest.now) f.env.place) s)))

pub returns-in_ok-next-in-Length-clause-moved : goal.returns-in_ok-next-in-Length-clause-moved
returns-in_ok-next-in-Length-clause-moved g c =
    let made = g.L.Labels.made c.args.labels.now in
    let putting = rw c.in-Length.is at c.requires.putting in
    moved_counted set_length.Put c.called-in-Length.result c.args.value (continuation.VariablesBehind c.args.rest) c.args.stack.now.loose c.in_ok-push-in-Length.ensures.ok refl refl (rw (nil_from_length c.args.stack.now.loose c.requires.loose) (none_has (HasValue made)))
    (rw c.called-in-Length.ensures putting) c.requires.value c.in_ok-next-in-Length.ensures.goes_on c.in_ok-next-in-Length.ensures.adds (omega arith)
