use Rattle.std.proofs.Common.{arith}
use Rattle.continuations.specs.declared.continuation.Control.TheVariants as control
use Rattle.step_core.proofs.Begun.{lowers}
use Rattle.step_core.proofs.entering.begin_try_of.Goals as goal

pub returns-clause-lowers : goal.returns-clause-lowers
returns-clause-lowers g c = lowers c.args.stack.now c.begin_try.new.stack (control.Try c.args.s) 10 c.begin_try.result (omega arith) c.begin_try.ensures.adds
