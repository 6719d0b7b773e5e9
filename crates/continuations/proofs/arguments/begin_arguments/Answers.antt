use Rattle.std.proofs.Common.{sym, ap, ◌∙◌, ◌≡◌, map, drop}
use Rattle.js_values.specs.Readings.{read_value}
use Rattle.js_ast.specs.Trees.{no_exprs}
use Rattle.js_ast.specs.Views.{view_exprs}
use Rattle.es_meaning.specs.Evaluation.{arguments}
use Rattle.flow_meaning.specs.Planned.{planned, asking}
use Rattle.continuations.specs.Pending.{behind, setting_above, owns_calling}
use Rattle.continuations.specs.Shapes.{calling_of}
use Rattle.continuations.proofs.Steps.{arguments_none, no_first_argument}
use Rattle.continuations.proofs.arguments.begin_arguments.Goals as goal
use Rattle.continuations.specs.Settings.{entrance}

pub returns-in-None-clause-goes_on : goal.returns-in-None-clause-goes_on
returns-in-None-clause-goes_on g c tables inputs set functions reading e s =
    let none : view_exprs c.args.list.now ≡ no_exprs = no_first_argument c.args.list.now c.split_first.result c.split_first.ensures.variant.1 c.in-None.is in
    let i = (setting_above c.args.stack.now.tasks e).env.place in
    let f = calling_of c.args.calling (map (read_value reading) c.args.stack.now.loose) in
    let vs = drop (owns_calling c.args.calling) (map (read_value reading) c.args.stack.now.loose) in
    ap (λ p. behind tables inputs set functions reading c.args.stack.now.tasks e p) (c.called.ensures.plan tables inputs set functions (map (read_value reading) c.args.stack.now.loose) (setting_above c.args.stack.now.tasks e) s ∙ sym (ap (λ es. arguments (planned tables inputs set functions) (entrance tables inputs set functions) (asking tables inputs set functions) f vs es i s) none ∙ arguments_none tables inputs set functions f vs i s))
