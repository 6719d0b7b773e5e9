use Rattle.js_ast.specs.Views.{view_expr}
use Rattle.js_number.specs.declared.primitive.Primitive.TheVariants as prims
use Rattle.step_numbers.specs.Evaluated.{labelled_number}
use Rattle.step_numbers.proofs.EvaluationLaws.{operands_evaluated}
use Rattle.step_numbers.proofs.NumberLaws.{none_converts}
use Rattle.step_numbers.proofs.evaluating.comparison.Goals as goal

pub returns-clause-evaluates : goal.returns-clause-evaluates
returns-clause-evaluates g c place =
    operands_evaluated g.L.Labels.made g.L.Labels.meaning g.met.L.Labels.rising g.L.Labels.room g.L.Labels.firm c.operand.new.labels c.operand-2.new.labels c.join.new.self c.operand-2.ensures.kept c.join.ensures.kept
    place c.args.at.0 c.args.world.now c.args.turns (view_expr c.args.left.now) (view_expr c.args.right.now) c.args.operator (labelled_number c.in_ok-first.first.number c.in_ok-first.first.label) (labelled_number c.in_ok-second.second.number c.in_ok-second.second.label)
    c.in_ok-first.first.turns c.in_ok-second.second.turns (prims.Bool c.in_ok-holds.holds) c.in-Ok.label c.if-turns-eq0.false c.in_ok-holds.ensures.both (none_converts c.args.operator c.in_ok-first.first.number c.in_ok-second.second.number) c.in_ok-first.ensures.evaluates c.in_ok-second.ensures.evaluates c.in_ok-holds.ensures.says
    c.in-Ok.ensures.made c.in-Ok.ensures.meaning
