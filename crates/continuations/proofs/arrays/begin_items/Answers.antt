use Rattle.std.proofs.Common.{sym, ap, ◌∙◌}
use Rattle.std.specs.Option.{option_map}
use Rattle.js_ast.specs.Views.{view_expr}
use Rattle.continuations.proofs.ArrayLaws.{item_begins, array_begins}
use Rattle.continuations.proofs.arrays.begin_items.Goals as goal

pub returns-in_ok-push-in-Some-clause-goes_on : goal.returns-in_ok-push-in-Some-clause-goes_on
returns-in_ok-push-in-Some-clause-goes_on g c =
    item_begins c.args.list c.args.at c.in-Some.place c.args.count c.in-Some.value c.args.stack.now c.push.new.self
    (sym c.in_ok-first.ensures ∙ ap (option_map (λ r. (r.0, view_expr r.1.now))) c.in-Some.is) c.in_ok-push-in-Some.ensures.ok

pub returns-in-None-clause-goes_on : goal.returns-in-None-clause-goes_on
returns-in-None-clause-goes_on g c =
    array_begins c.args.list c.args.at c.args.count c.args.stack.now (sym c.in_ok-first.ensures ∙ ap (option_map (λ r. (r.0, view_expr r.1.now))) c.in-None.is)
