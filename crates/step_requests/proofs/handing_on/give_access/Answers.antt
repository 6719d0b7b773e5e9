use Rattle.std.proofs.Common.{sym, subst, IfOk}
use Rattle.std.proofs.lemmas.Result.{IfOk-weaker}
use Rattle.run_state.specs.Accesses.{read_access}
use Rattle.step_requests.specs.Asked.{entering_access}
use Rattle.step_requests.specs.Doing.{Gives}
use Rattle.step_requests.proofs.Done.{gives_read}
use Rattle.step_requests.proofs.handing_on.give_access.Goals as goal

pub give-requires-clause-value : goal.give-requires-clause-value
give-requires-clause-value g c = rw c.in-Value.is at c.requires.access

pub returns-in-Value-clause-gives : goal.returns-in-Value-clause-gives
returns-in-Value-clause-gives g c = subst (λ a. IfOk c.give.result (Gives g.L.Labels.made g.L.Labels.meaning c.args.labels.now (λ tables inputs set functions reading steps vs. entering_access tables inputs set functions c.args.to steps vs (read_access reading a)) c.args.stack.now c.give.new.stack)) (sym c.in-Value.is) (IfOk-weaker c.give.result _ _ (λ m gives. gives_read g.L.Labels.made g.L.Labels.meaning c.args.labels.now c.args.to c.in-Value.value c.args.stack.now c.give.new.stack m gives) c.give.ensures.gives)

pub enter_getter-requires-clause-label : goal.enter_getter-requires-clause-label
enter_getter-requires-clause-label g c = (rw c.in-Getter.is at c.requires.access).0

pub enter_getter-requires-clause-this : goal.enter_getter-requires-clause-this
enter_getter-requires-clause-this g c = (rw c.in-Getter.is at c.requires.access).1

pub returns-in-Getter-clause-gives : goal.returns-in-Getter-clause-gives
returns-in-Getter-clause-gives g c = subst (λ a. IfOk c.enter_getter.result (Gives g.L.Labels.made g.L.Labels.meaning c.args.labels.now (λ tables inputs set functions reading steps vs. entering_access tables inputs set functions c.args.to steps vs (read_access reading a)) c.args.stack.now c.enter_getter.new.stack)) (sym c.in-Getter.is) c.enter_getter.ensures.gives
