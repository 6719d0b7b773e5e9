use Rattle.continuations.proofs.JumpTargetLaws.{place_at, place_none}
use Rattle.continuations.proofs.continuation_list.last_of.Goals as goal

pub returns-in-empty : goal.returns-in-empty
returns-in-empty c = place_none c.args.places.now 0 c.in-empty.len_below

pub returns-in-len1-up : goal.returns-in-len1-up
returns-in-len1-up c = place_at c.args.places.now _ 0 c.in-len1-up.len_at_least
