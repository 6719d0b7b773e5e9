use Rattle.std.proofs.Common.{sym, ap, ◌∙◌, map}
use Rattle.continuations.specs.JumpTargets.{last_or}
use Rattle.continuations.specs.Going.{here}
use Rattle.continuations.proofs.JumpTargetLaws.{place_in}
use Rattle.continuations.proofs.continuation_list.Continuations.place.Goals as goal

pub returns : goal.returns
returns c = rw (← c.self.view_is) (place_in c.self.inside.works.items here ∙ ap (last_or 0) (sym c.self.invariant) ∙ ap (λ ps. last_or 0 (map (λ e. e.0) ps)) (sym c.deref.ensures.value) ∙ sym c.last_of.ensures)
