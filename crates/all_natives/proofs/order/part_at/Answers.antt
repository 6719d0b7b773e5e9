use Rattle.std.proofs.Common.{sym, subst}
use Rattle.all_natives.specs.Together.{IsPart}
use Rattle.all_natives.proofs.TogetherLaws.{all_lie, parts_stand}
use Rattle.all_natives.proofs.order.part_at.Goals as goal

pub part_in-requires : goal.part_in-requires
part_in-requires c = all_lie

pub returns-clause-there : goal.returns-clause-there
returns-clause-there c = subst IsPart (sym c.part_in.ensures) (parts_stand c.args.which c.requires)
