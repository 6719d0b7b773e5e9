use Rattle.std.proofs.Common.{ap, ◌∙◌}
use Rattle.continuations.specs.Kept.{places_of}
use Rattle.continuations.proofs.JumpTargetLaws.{places_more}
use Rattle.continuations.proofs.continuation_list.Continuations.pop.Goals as goal

pub invariant_of-self-2 : goal.invariant_of-self-2
invariant_of-self-2 c = c.forget_place.ensures (places_of c.pop.new.self.items) (c.self.invariant ∙ ap places_of c.in_ok-work.ensures.items ∙ places_more c.pop.new.self.items c.in_ok-work.work)
