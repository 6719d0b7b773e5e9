use Rattle.std.proofs.Common.{arith, ap, length}
use Rattle.call_records.proofs.EntryLaws.{next_missing, next_value}
use Rattle.call_records.proofs.entry.next_or.Goals as goal

pub returns-in-Some-clause-next : goal.returns-in-Some-clause-next
returns-in-Some-clause-next g c = next_value _ _ c.args.missing.now c.in-Some.value c.in-Some.ensures.items

pub returns-in-Some-clause-size : goal.returns-in-Some-clause-size
returns-in-Some-clause-size g c =
    let short = ap length c.in-Some.ensures.items in
    let gone = c.in-Some.ensures.len in
    omega arith

pub returns-in_ok-value-in-None-clause-next : goal.returns-in_ok-value-in-None-clause-next
returns-in_ok-value-in-None-clause-next g c = next_missing _ _ _ c.args.missing.now _ c.requires c.in-None.ensures.variant.1 c.in-None.ensures.items c.in_ok-value-in-None.ensures
