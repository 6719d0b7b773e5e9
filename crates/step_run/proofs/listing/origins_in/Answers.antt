use Rattle.std.proofs.Common.{◌≡◌, ℕ, ap, sym, ◌∙◌, arith, Bool}
use Rattle.std.specs.List.{filter, range_with_len}
use Rattle.origin_labels.specs.Label.{has}
use Rattle.step_run.proofs.Listed.{listed_label, kept_below, keeps_more, leaves_out}
use Rattle.step_run.proofs.listing.origins_in.Goals as goal
use Rattle.step_run.proofs.listing.origins_in.Goals.{then-has+in_ok-push, else-has}

pub push-requires : goal.push-requires
push-requires g c = kept_below (λ k. has k (g.L.Labels.meaning c.args.labels.now c.args.label)) c.loop-origin.list c.loop-origin.origin c.loop-origin.invariant

pub loop-origin-preserved : goal.loop-origin-preserved
loop-origin-preserved g c =
    let p : ℕ → Bool = λ k. has k (g.L.Labels.meaning c.args.labels.now c.args.label) in
    elim c.if-has.branch [
      | then-has+in_ok-push w ↦ w.list-is ∙ w.in_ok-push.ensures.ok ∙ keeps_more p c.loop-origin.list c.loop-origin.origin c.loop-origin.invariant (sym c.has.ensures ∙ w.if-has.true)
      | else-has w ↦ w.list-is ∙ leaves_out p c.loop-origin.list c.loop-origin.origin c.loop-origin.invariant (sym c.has.ensures ∙ w.if-has.false)
    ]

pub returns : goal.returns
returns g c =
    let m = g.L.Labels.meaning c.args.labels.now c.args.label in
    let last : c.loop-origin.origin ≡ c.args.origins = omega arith in
    c.loop-origin.invariant ∙ ap (λ (n : ℕ). filter (λ k. has k m) (range_with_len 0 n)) last ∙ listed_label m c.args.origins (g.met.L.Labels.rising c.args.labels.now c.args.label c.requires.made) c.requires.declared
