use Rattle.std.proofs.Common.{sym, ap, length, []}
use Rattle.js_values.specs.Readings.{read_value}
use Rattle.step_references.proofs.Begun.{resumed_at}
use Rattle.step_references.proofs.Loose.{lone_last}
use Rattle.step_references.proofs.Moved.{moved_popped}
use Rattle.step_references.proofs.UseLaws.{behind_setter_on}
use Rattle.step_references.proofs.variables.variables_behind.Goals as goal

pub clear-requires : goal.clear-requires
clear-requires g c = sym c.requires.loose

pub declare_others-requires-clause-loose : goal.declare_others-requires-clause-loose
declare_others-requires-clause-loose g c = ap length c.clear.ensures.none

pub returns-clause-goes_on : goal.returns-clause-goes_on
returns-clause-goes_on g c = let one = lone_last c.args.stack.now.loose c.requires.loose in resumed_at [] one.0 one.1 c.clear.ensures.tasks (λ tables inputs set functions reading f s is. behind_setter_on tables inputs set functions c.args.rest f (read_value reading one.0) s) c.declare_others.ensures.goes_on

pub returns-clause-moved : goal.returns-clause-moved
returns-clause-moved g c = moved_popped _ _ _ _ _ _ _ c.declare_others.result c.clear.ensures.tasks c.declare_others.ensures.moved
