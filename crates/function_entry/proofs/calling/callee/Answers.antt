use Rattle.std.proofs.Common.{sym, ◌∙◌}
use Rattle.function_table.specs.Tables.{table}
use Rattle.function_entry.proofs.CalleeLaws.{callee_past, callee_other, callee_function}
use Rattle.function_entry.proofs.calling.callee.Goals as goal

pub returns-then-o-len-clause-is : goal.returns-then-o-len-clause-is
returns-then-o-len-clause-is g c = λ reading. callee_past (table c.args.functions.now) reading c.args.heap.now c.args.o.0 (rw c.len.ensures.length at c.if-o-len.true)

pub returns-then-is_function-clause-is : goal.returns-then-is_function-clause-is
returns-then-is_function-clause-is g c = λ reading. c.inner_callee.ensures.is ∙ callee_function (table c.args.functions.now) reading c.args.heap.now c.args.o.0 c.shape.result c.inner.result.now c.shape.ensures c.inner.ensures (sym c.is_function.ensures ∙ c.if-is_function.true)

pub returns-clause-is : goal.returns-clause-is
returns-clause-is g c = λ reading. callee_other (table c.args.functions.now) reading c.args.heap.now c.args.o.0 c.shape.result c.shape.ensures (sym c.is_function.ensures ∙ c.if-is_function.false)
