use Rattle.std.proofs.Common.{sym, ◌∙◌}
use Rattle.js_ast.specs.declared.trees.Function.{out-Function}
use Rattle.js_ast.specs.Views.{view_function}
use Rattle.function_table.proofs.TableLaws.{codes, number_is}
use Rattle.function_table.proofs.table.Functions.number_of.Goals as goal

pub returns-then-begins_there : goal.returns-then-begins_there
returns-then-begins_there c =
    let n = (out-Function c.args.f.now).number in
    rw (← c.self.view_is)
    (number_is (codes (λ f. f.now) c.self.inside.list.items) n (view_function c.args.f.now)
    (rw (← c.deref.ensures.value) (sym c.begins_there.ensures ∙ c.if-begins_there.true)) (c.self.invariant.0.ordered c.if-self.true))
