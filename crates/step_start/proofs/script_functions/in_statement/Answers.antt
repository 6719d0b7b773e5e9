use Rattle.std.proofs.Common.{refl, sym, true}
use Rattle.std.proofs.lemmas.Result.{IfOk-weaker}
use Rattle.function_table.specs.Tables.{table}
use Rattle.step_start.proofs.EnterLaws.{Enters-none, Enters-same}
use Rattle.step_start.proofs.script_functions.in_statement.Goals as goal

pub returns-in-Some-clause-enters : goal.returns-in-Some-clause-enters
returns-in-Some-clause-enters g c =
    IfOk-weaker c.declare_function.result _ _ (λ goes enters.
    Enters-same (table c.args.functions.now) _ _ c.args.heap.now c.declare_function.new.heap goes (sym c.in-Some.ensures.is) enters) c.declare_function.ensures.enters

pub returns-in-None-clause-enters : goal.returns-in-None-clause-enters
returns-in-None-clause-enters g c =
    Enters-same (table c.args.functions.now) _ _ c.args.heap.now c.args.heap.now true (sym (c.in-None.ensures.none refl)) (Enters-none (table c.args.functions.now) c.args.heap.now)
