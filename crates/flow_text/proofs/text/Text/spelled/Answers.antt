use Rattle.std.proofs.Common.{◌≡◌, ◌∙◌, ℕ, List, IfOk, ap, subst, sym}
use Rattle.std.proofs.lemmas.Iterator.{YieldsList-from_chars}
use Rattle.std.proofs.lemmas.Iterator.Consumers.{YieldsList-end}
use Rattle.std.proofs.lemmas.List.{map-id}
use Rattle.std.specs.List.{flat_map}
use Rattle.std.specs.Char.Escape.{encode_utf16}
use Rattle.flow_text.specs.Utf8.{units_of}
use Rattle.flow_text.proofs.text.Text.spelled.Goals as goal

pub returns : goal.returns
unfolding units_of
returns c =
    let t = YieldsList-end (YieldsList-from_chars c.args.spelling.now c.utf8.spelling cc) c.loop-character.yielded _ c.loop-character.yielded_by _ _ c.in-None.is c.next.ensures.steps in
    subst (λ (us : List ℕ). IfOk c.of_units.result (λ made. made ≡ us)) (c.loop-character.invariant ∙ ap (flat_map encode_utf16) (sym (map-id c.loop-character.yielded) ∙ t.0)) c.of_units.ensures
