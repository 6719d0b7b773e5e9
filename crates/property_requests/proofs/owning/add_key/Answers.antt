use Rattle.std.proofs.Common.{arith, ◌≡◌, ◌+◌, ◌++◌, ◌∷◌, [], List, length, sym, ap, subst, ◌∙◌}
use Rattle.js_number.specs.declared.primitive.Primitive.TheVariants.{Str}
use Rattle.js_values.specs.declared.value.Value.TheVariants.{Primitive}
use Rattle.property_requests.specs.declared.arrays.Element.{Element}
use Rattle.property_requests.specs.Arrays.{AreKeys}
use Rattle.property_requests.proofs.KeyLaws.{keys_more}
use Rattle.property_requests.proofs.owning.add_key.Goals as goal

pub returns : goal.returns
returns g c = λ keys are.
    let counted = c.len.ensures in
    let numbered = c.in_ok-place.ensures in
    let place : c.in_ok-place.place ≡ 0 + length c.args.elements.now.items = omega (arith, counted, numbered) in
    subst (λ (es : List (Element g.row.T.Denot)). AreKeys g.L.Labels.made g.L.Labels.meaning c.args.labels.now (keys ++ c.args.key.now ∷ []) es) (sym c.in_ok-push.ensures.items)
    (keys_more g.L.Labels.made g.L.Labels.meaning c.args.labels.now 0 keys c.args.elements.now.items c.args.key.now (record { place = c.in_ok-place.place; value = record { value = Primitive (Str c.in_ok-text.text); label = c.bottom.result } }) are place
    (ap (λ t. Primitive (Str t)) (c.in_ok-text.ensures ∙ c.text.ensures)) c.bottom.ensures.made c.bottom.ensures.meaning)
