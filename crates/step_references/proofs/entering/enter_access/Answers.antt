use Rattle.std.proofs.Common.{◌∙◌}
use Rattle.step_references.proofs.Calls.{comes_value, comes_call}
use Rattle.step_references.proofs.entering.enter_access.Goals as goal

pub returns-in_ok-lay-in-Value-clause-goes_on : goal.returns-in_ok-lay-in-Value-clause-goes_on
returns-in_ok-lay-in-Value-clause-goes_on g c = rw c.in-Value.is (comes_value _ c.in-Value.value c.requires.loose c.lay.ensures.tasks c.in_ok-lay-in-Value.ensures.laid)

pub returns-in_ok-lay-in-Getter-2-clause-goes_on : goal.returns-in_ok-lay-in-Getter-2-clause-goes_on
returns-in_ok-lay-in-Getter-2-clause-goes_on g c = rw c.in-Getter.is (comes_call _ c.lay-in-Getter.new.self c.called.result c.in-Getter.label c.in-Getter.function c.in-Getter.this c.called.ensures c.requires.loose (c.lay-in-Getter-2.ensures.tasks ∙ c.lay-in-Getter.ensures.tasks) c.in_ok-lay-in-Getter.ensures.laid c.in_ok-lay-in-Getter-2.ensures.laid)
