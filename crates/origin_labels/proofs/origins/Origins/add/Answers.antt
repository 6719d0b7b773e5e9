use Rattle.std.proofs.Common.{arith, length, length-append, ap, ◌∙◌, List, ℕ}
use Rattle.origin_labels.specs.Names.{has_name}
use Rattle.origin_labels.proofs.NameLaws.{AreDistinct-push}
use Rattle.origin_labels.proofs.origins.Origins.add.Goals as goal

pub invariant_of-self-2 : goal.invariant_of-self-2
invariant_of-self-2 c = rw c.in_ok-push.ensures.items
    (AreDistinct-push _ _ c.self.invariant.0 (ap (λ (names : List (List ℕ)). has_name c.args.name names) c.self.view_is ∙ c.requires.new), simp length-append (omega (arith, c.requires.room, ap (λ (names : List (List ℕ)). length names) c.self.view_is)))
