use Rattle.std.proofs.Common.{sym, ap, ◌∙◌, [], ◌∷◌, ◌++◌, map}
use Rattle.continuations.specs.Kept.{places_of}
use Rattle.continuations.proofs.JumpTargetLaws.{place_added}
use Rattle.continuations.proofs.continuation_list.Continuations.push_at.Goals as goal

pub invariant_of-self-2 : goal.invariant_of-self-2
invariant_of-self-2 c =
    ap (map (λ e. e.0)) (c.push_reserved.ensures.items ∙ ap (λ ps. ps ++ c.args.own ∷ []) c.reserve.ensures.items)
    ∙ place_added c.self.inside.works.items c.args.work c.args.own c.self.inside.places.items c.self.invariant c.requires
    ∙ ap places_of (sym c.in_ok-push.ensures.items)
