use Rattle.std.proofs.Common.{◌+◌, ◌++◌, ◌∷◌, [], take, ap, sym, ◌∙◌, ◌≡◌, suc, ℕ, List, arith}
use Rattle.env_records.specs.Layouts.{texts_of}
use Rattle.env_records.proofs.LayoutLaws.{agrees, texts_push, take_next}
use Rattle.env_records.proofs.layout.index_of.Goals as goal

pub loop-laid-preserved : goal.loop-laid-preserved
loop-laid-preserved c =
    let i = c.loop-laid.laid-index in
    let names = take i c.args.names.now in
    let next : i + 1 ≡ suc i = omega arith in
    agrees c.insert_text.new.index (texts_of names ++ c.name.result.now ∷ []) (texts_of (take (i + 1) c.args.names.now))
    (ap texts_of (take_next c.args.names.now i (i + 1) c.laid-item.result c.loop-laid-test.true c.laid-item.is next) ∙ texts_push names c.laid-item.result ∙ ap (λ (t : List ℕ). texts_of names ++ t ∷ []) (sym c.name.ensures))
    (c.in_ok-insert_text.ensures.ok (texts_of names) c.loop-laid.invariant)
