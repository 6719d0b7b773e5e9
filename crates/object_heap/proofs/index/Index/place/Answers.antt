use Rattle.std.proofs.Common.{rules, ap, sym, subst, ◌∙◌, ◌≡◌, ◌<◌, true, length, ℕ, List}
use Rattle.std.specs.List.{IsDistinct, position}
use Rattle.origin_labels.specs.Names.{same_name}
use Rattle.object_heap.proofs.TableLaws.{hinted}
use Rattle.object_heap.proofs.index.Index.place.Goals as goal

pub returns-then-eq : goal.returns-then-eq
returns-then-eq c =
    let keys = c.as_slice-keys.result.now in
    let distinct : IsDistinct same_name keys = subst (IsDistinct same_name) (sym c.as_slice-keys.ensures.keys) c.as_slice-keys.ensures.unique in
    let within : c.from-hint.result < length keys = search (rules, c.if-hint-keys.true) in
    let same : same_name c.args.name.now c.index-keys-hint.result ≡ true = ap (same_name c.args.name.now) (sym c.text.ensures) ∙ sym c.if-eq.ensures in
    hinted c.args.name.now keys c.from-hint.result c.index-keys-hint.result distinct within c.index-keys-hint.is same
    ∙ ap (λ (ks : List (List ℕ)). position (λ k. same_name c.args.name.now k) ks) (c.as_slice-keys.ensures.keys ∙ c.self.view_is)
