use Rattle.std.proofs.Common.{arith}
use Rattle.all_natives.proofs.TogetherLaws.{first_is_small}
use Rattle.all_natives.proofs.order.+part_in.Goals as goal

pub overflow_add-first : goal.overflow_add-first
overflow_add-first t c = omega (arith, first_is_small c.args.ranges.now _ c.args.which c.in-len1-up.len_at_least c.requires c.if-which-count.true)
