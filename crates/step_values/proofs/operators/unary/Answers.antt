use Rattle.std.proofs.Common.{ap}
use Rattle.js_values.specs.Readings.{read_value}
use Rattle.es_meaning.specs.Operators.{unary_of}
use Rattle.flow_meaning.specs.Tracked.{given, labelled}
use Rattle.run_state.specs.Worlds.{state_of}
use Rattle.step_values.specs.Converted.{value_seen}
use Rattle.step_values.proofs.CameLaws.{came_computes}
use Rattle.step_values.proofs.ConvertedLaws.{seen_read}
use Rattle.step_values.proofs.operators.unary.Goals as goal

pub returns-clause-computes : goal.returns-clause-computes
returns-clause-computes g c = λ tables inputs set functions.
    let v = c.args.value.now in
    let w = c.args.world.now in
    came_computes (λ reading. (labelled tables inputs set functions).unary c.args.operator (read_value reading v)) w v.label c.in_front.result (unary_of c.args.operator (value_seen w.heap v.value)) c.came.result
    (λ reading told turns. ap (λ p. given (reading v.label) (unary_of c.args.operator p) (state_of reading w told turns)) (seen_read reading w.heap v.value)) c.in_front.ensures c.came.ensures
