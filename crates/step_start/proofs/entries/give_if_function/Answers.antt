use Rattle.std.proofs.Common.{ap, sym, ◌∙◌}
use Rattle.std.proofs.lemmas.Result.{on_ok_weaker}
use Rattle.plain_heap.specs.PlainObjects.{changed}
use Rattle.step_start.specs.Given.{rows_if}
use Rattle.step_start.proofs.entries.give_if_function.Goals as goal

pub returns-then-is_function : goal.returns-then-is_function
returns-then-is_function g c =
    on_ok_weaker c.give_function_rows.result (λ gives.
    gives ∙ ap (λ b. changed (rows_if b c.args.o.0) c.args.heap.now) (sym c.if-is_function.true ∙ c.is_function.ensures)) c.give_function_rows.ensures

pub returns-else-is_function : goal.returns-else-is_function
returns-else-is_function g c = ap (λ b. changed (rows_if b c.args.o.0) c.args.heap.now) (sym c.if-is_function.false ∙ c.is_function.ensures)
