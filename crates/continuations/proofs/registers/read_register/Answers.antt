use Rattle.std.proofs.Common.{refl, sym, ◌≤◌, length, arith, ap}
use borrow.Author.Tests.{ltb-false}
use Rattle.continuations.proofs.RegisterLaws.{none_reads}
use Rattle.continuations.proofs.registers.read_register.Goals as goal

pub returns-in-None-clause-reads : goal.returns-in-None-clause-reads
returns-in-None-clause-reads g c =
    let past : length c.loose.result.now ≤ c.args.from.0 = ltb-false c.args.from.0 (length c.loose.result.now) (sym c.in-None.ensures.lookup.0) in
    let le : length c.args.stack.now.loose ≤ c.args.from.0 = omega (arith, past, ap length c.loose.ensures) in
    none_reads g.L.Labels.made g.L.Labels.meaning c.args.labels.now c.args.stack.now.loose c.args.from c.args.from.0 c.bottom.result refl le c.bottom.ensures.made c.bottom.ensures.meaning
