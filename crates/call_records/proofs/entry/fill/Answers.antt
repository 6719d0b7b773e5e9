use Rattle.std.proofs.Common.{sym, ap, ap₂, subst, ◌≡◌, ◌<◌, ℕ, List, length, ◌∙◌}
use Rattle.std.specs.List.{All}
use Rattle.std.proofs.lemmas.Result.{on_ok_weaker}
use Rattle.js_values.specs.declared.value.Labelled.{Labelled}
use Rattle.call_records.specs.Placed.{placed, placed_if}
use Rattle.call_records.proofs.JoinedLaws.{for_joined_weaker}
use Rattle.call_records.proofs.entry.fill.Goals as goal

pub put_arguments-requires-clause-places : goal.put_arguments-requires-clause-places
put_arguments-requires-clause-places g c =
    subst (λ (ps : List ℕ). All (λ p. p < length c.put_if.new.all) ps) (sym c.deref.ensures.value)
    (subst (λ (n : ℕ). All (λ p. p < n) c.args.places.now.parameters.items) (sym c.put_if.ensures.length) c.requires.parameters)

pub put-requires : goal.put-requires
put-requires g c =
    subst (λ (ps : List ℕ). All (λ p. p < length c.put_arguments.new.all) ps) (sym c.deref-2.ensures.value)
    (subst (λ (n : ℕ). All (λ p. p < n) c.args.places.now.functions.items) (sym (c.in_ok-put_arguments.ensures.length ∙ c.put_if.ensures.length)) c.requires.functions)

pub returns-clause-placed : goal.returns-clause-placed
returns-clause-placed g c =
    on_ok_weaker c.put.result
    (λ h.
    for_joined_weaker g.L.Labels.made g.L.Labels.meaning c.put_arguments.new.labels c.args.context c.args.args.now (length c.deref.result.now) (length c.args.places.now.parameters.items) (ap (λ (ps : List ℕ). length ps) c.deref.ensures.value)
    (λ vs. c.put_arguments.new.all ≡ placed c.args.missing.now c.deref.result.now vs c.put_if.new.all) (λ vs. c.put.new.all ≡ placed c.args.missing.now c.args.places.now.functions.items c.args.functions.items (placed c.args.missing.now c.args.places.now.parameters.items vs (placed_if c.args.places.now.arguments c.args.arguments c.args.all.now)))
    (λ vs filled.
    h ∙ ap₂ (λ (ps : List ℕ) (all : List (Labelled g.row.T.Denot)). placed c.args.missing.now ps c.args.functions.items all) c.deref-2.ensures.value
    (filled ∙ ap₂ (λ (ps : List ℕ) (all : List (Labelled g.row.T.Denot)). placed c.args.missing.now ps vs all) c.deref.ensures.value c.put_if.ensures.placed))
    c.in_ok-put_arguments.ensures.placed)
    c.put.ensures.placed
