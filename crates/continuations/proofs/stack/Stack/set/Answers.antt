use Rattle.std.proofs.Common.{sym, ap, ◌∙◌, ◌≡◌, ◌+◌, ◌-◌, length, arith}
use Rattle.continuations.specs.Kept.{loose_of}
use Rattle.continuations.proofs.KeptLaws.{tasks_set}
use Rattle.continuations.proofs.stack.Stack.set.Goals as goal

pub returns-clause-tasks : goal.returns-clause-tasks
returns-clause-tasks g c =
    let works = c.self.inside.works in
    let operands = c.self.inside.operands.items in
    let size : c.args.count ≡ length (loose_of works operands) = c.requires.count ∙ ap (λ k. length k.loose) (sym c.self.view_is) in
    let whole : c.len.result ≡ length operands = omega (arith, c.len.ensures, c.self.inside.operands.ok.0) in
    rw (← c.self.view_is) (tasks_set works operands c.args.count c.args.at (c.len.result - c.args.count + c.args.at) c.args.value c.self.invariant size (ap (λ n. n - c.args.count + c.args.at) whole))
