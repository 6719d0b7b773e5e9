use Rattle.std.proofs.Common.{length}
use Rattle.std.specs.List.{slice_split}
use Rattle.flow_lists.specs.Lists.{is_comma}
use Rattle.flow_policy.proofs.ListedLaws.{AreNumbered}
use Rattle.flow_policy.proofs.listed.numbers_in.Given as goal

abbrev pub invariant-loop-name : goal.invariant-loop-name
invariant-loop-name l = AreNumbered l.origins (slice_split is_comma l.fn.list) (slice_split is_comma l.rest) l.numbers.items

abbrev pub decreases-loop-name : goal.decreases-loop-name
decreases-loop-name l = length l.rest
