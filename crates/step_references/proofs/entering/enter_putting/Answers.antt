use Rattle.std.proofs.Common.{refl, sym, ap, ap₂, ◌∙◌, [], ◌∷◌, ◌++◌, length, arith}
use Rattle.js_values.specs.Readings.{HasValue}
use Rattle.run_state.specs.declared.outcome.SetLength.TheVariants as set_length
use Rattle.continuations.specs.declared.continuation.Continuation.TheVariants as continuation
use Rattle.continuations.specs.declared.continuation.Control.TheVariants as control
use Rattle.step_references.proofs.Calls.{alone, comes_length, comes_put, comes_setter}
use Rattle.step_references.proofs.Moved.{moved_counted, moved_pushed}
use Rattle.step_references.proofs.Calls.{given_has}
use Rattle.step_references.proofs.Loose.{only, three}
use Rattle.step_references.proofs.entering.enter_putting.Goals as goal

pub begin_setter-requires : goal.begin_setter-requires
begin_setter-requires g c = sym (ap length (alone _ c.requires.loose c.in_ok-lay-in-Setter.ensures.laid))

pub returns-in_ok-lay-in-Put-clause-goes_on : goal.returns-in_ok-lay-in-Put-clause-goes_on
returns-in_ok-lay-in-Put-clause-goes_on g c = rw c.in-Put.is (comes_put _ c.args.value c.args.gives c.requires.loose c.lay.ensures.tasks c.in_ok-lay-in-Put.ensures.laid)

pub returns-in_ok-next-in-Setter-clause-goes_on : goal.returns-in_ok-next-in-Setter-clause-goes_on
returns-in_ok-next-in-Setter-clause-goes_on g c =
    rw c.in-Setter.is (rw c.in_ok-next-in-Setter.ensures.calls (comes_setter c.args.stack.now c.args.value c.args.gives c.in_ok-given-in-Setter.given c.called.result c.in-Setter.label c.in-Setter.function c.in-Setter.this c.in_ok-given-in-Setter.ensures c.called.ensures (c.in_ok-next-in-Setter.ensures.laid ∙ ap₂ (λ ts vs. record { tasks = ts ++ (continuation.GiveBehind, vs) ∷ []; loose = c.in-Setter.this ∷ c.called.result ∷ c.in_ok-given-in-Setter.given ∷ [] }) c.lay-in-Setter.ensures.tasks (alone _ c.requires.loose c.in_ok-lay-in-Setter.ensures.laid))))

pub returns-in_ok-next-in-Setter-clause-moved : goal.returns-in_ok-next-in-Setter-clause-moved
returns-in_ok-next-in-Setter-clause-moved g c =
    let made = g.L.Labels.made c.args._labels.now in
    let putting = rw c.in-Setter.is at c.requires.made in
    let laid = c.in_ok-next-in-Setter.ensures.laid ∙ ap₂ (λ ts vs. record { tasks = ts ++ (continuation.GiveBehind, vs) ∷ []; loose = c.in-Setter.this ∷ c.called.result ∷ c.in_ok-given-in-Setter.given ∷ [] }) c.lay-in-Setter.ensures.tasks (alone _ c.requires.loose c.in_ok-lay-in-Setter.ensures.laid) in
    λ world. rw c.in_ok-next-in-Setter.ensures.calls (moved_pushed (control.Call 1) continuation.GiveBehind (c.args.gives ∷ []) (c.in-Setter.this ∷ c.called.result ∷ c.in_ok-given-in-Setter.given ∷ []) laid refl refl (only (HasValue made) c.args.gives c.requires.gives)
    (three (HasValue made) c.in-Setter.this c.called.result c.in_ok-given-in-Setter.given putting.1 (rw c.called.ensures putting.0) (rw c.in_ok-given-in-Setter.ensures (given_has made c.args.value c.args.gives c.requires.value c.requires.gives))) refl (omega arith))

pub push-requires : goal.push-requires
push-requires g c = sym (ap length (alone _ c.requires.loose c.in_ok-lay-in-Length.ensures.laid))

pub begin_length-requires : goal.begin_length-requires
begin_length-requires g c = ap (λ k. length k.loose) c.in_ok-push-in-Length.ensures.ok

pub returns-in_ok-next-in-Length-clause-goes_on : goal.returns-in_ok-next-in-Length-clause-goes_on
returns-in_ok-next-in-Length-clause-goes_on g c =
    let pushed = c.in_ok-push-in-Length.ensures.ok ∙ ap₂ (λ ts vs. record { tasks = ts ++ (continuation.GiveBehind, vs) ∷ []; loose = [] }) c.lay-in-Length.ensures.tasks (alone _ c.requires.loose c.in_ok-lay-in-Length.ensures.laid) in
    rw c.in-Length.is (comes_length c.args.stack.now c.push.new.self c.args.value c.args.gives c.in_ok-given-in-Length.given c.called-in-Length.result c.in-Length.label c.in-Length.array c.in_ok-next-in-Length.next c.in_ok-given-in-Length.ensures c.called-in-Length.ensures pushed c.in_ok-next-in-Length.ensures.goes_on)

pub returns-in_ok-next-in-Length-clause-moved : goal.returns-in_ok-next-in-Length-clause-moved
returns-in_ok-next-in-Length-clause-moved g c =
    let made = g.L.Labels.made c.args._labels.now in
    let putting = rw c.in-Length.is at c.requires.made in
    let pushed = c.in_ok-push-in-Length.ensures.ok ∙ ap₂ (λ ts vs. record { tasks = ts ++ (continuation.GiveBehind, vs) ∷ []; loose = [] }) c.lay-in-Length.ensures.tasks (alone _ c.requires.loose c.in_ok-lay-in-Length.ensures.laid) in
    λ world. moved_counted set_length.Put c.called-in-Length.result c.in_ok-given-in-Length.given continuation.GiveBehind (c.args.gives ∷ []) pushed refl refl (only (HasValue made) c.args.gives c.requires.gives)
    (rw c.called-in-Length.ensures putting) (rw c.in_ok-given-in-Length.ensures (given_has made c.args.value c.args.gives c.requires.value c.requires.gives)) c.in_ok-next-in-Length.ensures.goes_on c.in_ok-next-in-Length.ensures.adds (omega arith)
