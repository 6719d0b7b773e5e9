use Rattle.std.proofs.Common.{length}
use Rattle.std.specs.List.{slice_split}
use Rattle.flow_lists.specs.Lists.{is_comma}
use Rattle.flow_policy.proofs.Marks.{AreMarked}
use Rattle.flow_policy.proofs.lists.marks_in.Given as goal

abbrev pub invariant-loop-name : goal.invariant-loop-name
invariant-loop-name l = AreMarked l.origins (slice_split is_comma l.fn.list) (slice_split is_comma l.rest) l.marks

abbrev pub decreases-loop-name : goal.decreases-loop-name
decreases-loop-name l = length l.rest
