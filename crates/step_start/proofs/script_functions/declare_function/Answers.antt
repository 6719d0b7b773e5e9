use Rattle.std.proofs.Common.{sym, ap, ◌∙◌}
use Rattle.std.proofs.lemmas.Result.{IfOk-weaker}
use Rattle.js_ast.specs.Trees.{name_of}
use Rattle.js_ast.specs.Views.{view_function}
use Rattle.js_ast.proofs.ViewLaws.{parts_function}
use Rattle.es_meaning.specs.Functions.{name_text}
use Rattle.function_table.specs.Tables.{table}
use Rattle.step_start.proofs.EnterLaws.{Enters-one}
use Rattle.step_start.proofs.script_functions.declare_function.Goals as goal

pub returns-clause-enters : goal.returns-clause-enters
returns-clause-enters g c =
    IfOk-weaker c.bind.result _ _ (λ goes binds.
    Enters-one (view_function c.args.f.now) _ c.in_ok-count.count c.in_ok-o.o c.in_ok-key.key c.args.heap.now c.make_function.new.heap c.bind.new.heap goes
    c.in_ok-count.ensures (c.in_ok-key.ensures ∙ ap (λ f. name_text (name_of f)) (sym (parts_function c.args.f.now))) c.in_ok-o.ensures.number c.in_ok-o.ensures.makes binds (table c.args.functions.now) c.number_of-number.ensures) c.bind.ensures.binds
