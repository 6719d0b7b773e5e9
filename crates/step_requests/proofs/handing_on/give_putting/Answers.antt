use Rattle.std.proofs.Common.{refl, sym, subst, IfOk}
use Rattle.std.proofs.lemmas.Result.{IfOk-weaker}
use Rattle.js_values.specs.Readings.{read_value}
use Rattle.native_protocol.specs.declared.request.Answer.TheVariants as answer
use Rattle.step_requests.specs.declared.moved.Moved.TheVariants as moved
use Rattle.run_state.specs.Accesses.{read_putting}
use Rattle.step_requests.specs.Asked.{entering_putting}
use Rattle.step_requests.specs.Doing.{Gives}
use Rattle.step_requests.proofs.Done.{asks_rests, gives_put, gives_put_length}
use Rattle.step_requests.proofs.handing_on.give_putting.Goals as goal

pub returns-in-Put-clause-gives : goal.returns-in-Put-clause-gives
returns-in-Put-clause-gives g c = subst (λ a. Gives g.L.Labels.made g.L.Labels.meaning c.args.labels.now (λ tables inputs set functions reading steps vs. entering_putting tables inputs set functions (read_value reading c.args.value) steps vs (read_putting reading a)) c.args.stack.now c.args.stack.now (moved.Asks c.args.count answer.Done)) (sym c.in-Put.is) (gives_put g.L.Labels.made g.L.Labels.meaning c.args.labels.now c.args.value c.args.stack.now c.args.count)

pub returns-in-Put-clause-rests : goal.returns-in-Put-clause-rests
returns-in-Put-clause-rests g c = asks_rests (g.L.Labels.made c.args.labels.now) c.args.stack.now c.args.stack.now c.args.count answer.Done refl c.requires.loose c.requires.made

pub enter_setter-requires-clause-label : goal.enter_setter-requires-clause-label
enter_setter-requires-clause-label g c = (rw c.in-Setter.is at c.requires.putting).0

pub enter_setter-requires-clause-this : goal.enter_setter-requires-clause-this
enter_setter-requires-clause-this g c = (rw c.in-Setter.is at c.requires.putting).1

pub returns-in-Setter-clause-gives : goal.returns-in-Setter-clause-gives
returns-in-Setter-clause-gives g c = subst (λ a. IfOk c.enter_setter.result (Gives g.L.Labels.made g.L.Labels.meaning c.args.labels.now (λ tables inputs set functions reading steps vs. entering_putting tables inputs set functions (read_value reading c.args.value) steps vs (read_putting reading a)) c.args.stack.now c.enter_setter.new.stack)) (sym c.in-Setter.is) c.enter_setter.ensures.gives

pub enter_length-requires-clause-label : goal.enter_length-requires-clause-label
enter_length-requires-clause-label g c = rw c.in-Length.is at c.requires.putting

pub returns-in-Length-clause-gives : goal.returns-in-Length-clause-gives
returns-in-Length-clause-gives g c = subst (λ a. IfOk c.enter_length.result (Gives g.L.Labels.made g.L.Labels.meaning c.args.labels.now (λ tables inputs set functions reading steps vs. entering_putting tables inputs set functions (read_value reading c.args.value) steps vs (read_putting reading a)) c.args.stack.now c.enter_length.new.stack)) (sym c.in-Length.is) (IfOk-weaker c.enter_length.result _ _ (λ m gives. gives_put_length g.L.Labels.made g.L.Labels.meaning c.args.labels.now c.in-Length.label c.in-Length.array c.args.stack.now c.enter_length.new.stack m c.args.value gives) c.enter_length.ensures.gives)
