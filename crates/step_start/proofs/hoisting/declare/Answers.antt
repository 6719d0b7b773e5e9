use Rattle.std.proofs.Common.{sym, ◌∙◌}
use Rattle.std.proofs.lemmas.Result.{on_ok_weaker}
use Rattle.step_start.proofs.VariableLaws.{variable, declares_there, declares_new, global_started}
use Rattle.step_start.proofs.hoisting.declare.Goals as goal

pub returns-then-is_there-clause-declares : goal.returns-then-is_there-clause-declares
returns-then-is_there-clause-declares g c =
    declares_there c.args.name.now c.new-name.result (c.new-name.ensures ∙ c.in_ok-copy.ensures) c.args.heap.now c.requires.started (sym c.is_there.ensures ∙ c.if-is_there.true)

pub returns-clause-declares : goal.returns-clause-declares
returns-clause-declares g c =
    on_ok_weaker c.give.result (λ gives. declares_new c.args.name.now c.new-name.result (c.new-name.ensures ∙ c.in_ok-copy.ensures) c.args.heap.now c.requires.started c.give.new.self (sym c.is_there.ensures ∙ c.if-is_there.false) gives) c.give.ensures

pub returns-clause-started : goal.returns-clause-started
returns-clause-started g c = on_ok_weaker c.give.result (λ gives. global_started c.args.heap.now c.give.new.self c.new-name.result variable c.requires.started gives) c.give.ensures
