use Rattle.std.proofs.Common.{refl}
use Rattle.js_values.specs.Readings.{read_value}
use Rattle.es_meaning.specs.Operators.{binary_of}
use Rattle.flow_meaning.specs.Tracked.{labelled}
use Rattle.step_values.proofs.CameLaws.{came_acts}
use Rattle.step_values.proofs.operators.binary.Goals as goal

pub returns-clause-acts : goal.returns-clause-acts
returns-clause-acts g c = λ tables inputs set functions world.
    let v = c.args.left.now in
    let u = c.args.right.now in
    came_acts g.L.Labels.made g.L.Labels.meaning g.L.Labels.room g.L.Labels.firm c.args.labels.now c.join.new.self
    (λ reading. (labelled tables inputs set functions).binary c.args.operator (read_value reading v) (read_value reading u))
    world v.label u.label c.in_ok-label.label c.between.result (binary_of c.args.operator v.value u.value) c.came.result
    (λ reading s. refl) c.in_ok-label.ensures.kept c.requires.left c.requires.right c.in_ok-label.ensures.made c.in_ok-label.ensures.meaning c.between.ensures c.came.ensures
