use Rattle.std.proofs.Common.{refl, sym, subst, IfOk}
use Rattle.std.proofs.lemmas.Result.{IfOk-weaker}
use Rattle.native_protocol.specs.declared.request.Answer.TheVariants as answer
use Rattle.step_requests.specs.declared.moved.Moved.TheVariants as moved
use Rattle.run_state.specs.Accesses.{read_defining}
use Rattle.step_requests.specs.Asked.{entering_defining, value_or_undefined}
use Rattle.step_requests.specs.Doing.{Gives}
use Rattle.step_requests.proofs.Done.{asks_rests, gives_defined, gives_defined_length}
use Rattle.step_requests.proofs.handing_on.give_defining.Goals as goal

pub returns-in-Defined-clause-gives : goal.returns-in-Defined-clause-gives
returns-in-Defined-clause-gives g c = subst (λ a. Gives g.L.Labels.made g.L.Labels.meaning c.args.labels.now (λ tables inputs set functions reading steps vs. entering_defining tables inputs set functions (value_or_undefined reading c.args.value) steps vs (read_defining reading a)) c.args.stack.now c.args.stack.now (moved.Asks c.args.count answer.Done)) (sym c.in-Defined.is) (gives_defined g.L.Labels.made g.L.Labels.meaning c.args.labels.now _ c.args.value c.args.stack.now c.args.count)

pub returns-in-Defined-clause-rests : goal.returns-in-Defined-clause-rests
returns-in-Defined-clause-rests g c = asks_rests (g.L.Labels.made c.args.labels.now) c.args.stack.now c.args.stack.now c.args.count answer.Done refl c.requires.loose c.requires.made

pub enter_length-requires-clause-label : goal.enter_length-requires-clause-label
enter_length-requires-clause-label g c = rw c.in-Length.is at c.requires.defining

pub returns-in-Length-clause-gives : goal.returns-in-Length-clause-gives
returns-in-Length-clause-gives g c = subst (λ a. IfOk c.enter_length.result (Gives g.L.Labels.made g.L.Labels.meaning c.args.labels.now (λ tables inputs set functions reading steps vs. entering_defining tables inputs set functions (value_or_undefined reading c.args.value) steps vs (read_defining reading a)) c.args.stack.now c.enter_length.new.stack)) (sym c.in-Length.is) (IfOk-weaker c.enter_length.result _ _ (λ m gives. gives_defined_length g.L.Labels.made g.L.Labels.meaning c.args.labels.now c.in-Length.label c.in-Length.array c.args.stack.now c.enter_length.new.stack m c.in-Length.marks c.args.value c.given_or_undefined-value.result c.given_or_undefined-value.ensures.is gives) c.enter_length.ensures.gives)
