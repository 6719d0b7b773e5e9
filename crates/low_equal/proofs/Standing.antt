-- Objects that stand in a heap, and `Object.prototype` in the place of others: in two runs.
use Rattle.std.proofs.Common.{◌≡◌, List, true, Option, Some, slice_get, sym, ap, subst}
use Rattle.std.specs.Option.{option_map}
use Rattle.origin_labels.specs.Label.{Label}
use Rattle.js_values.specs.declared.ids.ObjId.{ObjId}
use Rattle.js_values.specs.Objects.{Object}
use Rattle.es_meaning.specs.Requested.{standing_or_default}
use Rattle.flow_meaning.specs.Requested.{erased_in}
use Rattle.flow_meaning.specs.Tracked.{standing}
use Rattle.low_equal.specs.LowEqual.{Pairing, SameObject, neither, both, HeapsAgree}
use Rattle.low_equal.proofs.Agreement.{two}

standing_is : (h : List (Object Label)) (o : ObjId) (p : Object Label) → slice_get h o.0 ≡ Some p → standing h o ≡ o
standing_is h o p e = ap (λ (x : Option (Object Label)). standing_or_default o (erased_in x)) e

module _ (observer : Label) {β : Pairing} {h g : List (Object Label)} (r : HeapsAgree observer β h g) where
  pub standing_both : (o q : ObjId) → β.objects o.0 q.0 ≡ true → β.objects (standing h o).0 (standing g q).0 ≡ true
  standing_both o q e =
      let t = two (r.paired o.0 q.0 e) in
      subst (λ (x : ObjId). β.objects x.0 (standing g q).0 ≡ true) (sym (standing_is h o t.one t.is_one)) (subst (λ (x : ObjId). β.objects o.0 x.0 ≡ true) (sym (standing_is g q t.other t.is_other)) e)

  pub standing_same : {a b : Option ObjId} → SameObject β a b → SameObject β (option_map (standing h) a) (option_map (standing g) b)
  standing_same neither = neither
  standing_same (both {o = o} {q = q} e) = both (standing_both o q e)
