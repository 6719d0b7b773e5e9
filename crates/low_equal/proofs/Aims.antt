-- What bound functions come to, in two runs: the functions at the ends of their chains of targets, under the labels of all targets on the way.
use Rattle.std.proofs.Common.{◌≡◌, ℕ, zero, suc, ◌<◌, List, ◌++◌, true, Option, Some, None, slice_get, refl, sym, subst, arith}
use Rattle.origin_labels.specs.Label.{Label}
use Rattle.js_values.specs.declared.inner.Inner.{Inner}
use Rattle.js_values.specs.Objects.{Object}
use Rattle.es_meaning.specs.Functions.{Target, this_or, bound_behind}
use Rattle.es_meaning.proofs.Link.{Rels, nils, conses}
use Rattle.flow_meaning.specs.Scopes.{Val}
use Rattle.flow_meaning.specs.Requested.{Aim, own_aim, aim_behind, aim_in, aim_within, aim_of}
use Rattle.low_equal.specs.Observed.{Sees}
use Rattle.low_equal.specs.LowEqual.{Pairing, Alike, seen, hidden, Agree, AllAgree, none, each, InnersAgree, plains, scripts, natives, bounds, TargetBelow, HeapsAgree}
use Rattle.low_equal.proofs.Labels.{hides_first, sees_bottom}
use Rattle.low_equal.proofs.Agreement.{alike_join, two}

module _ (observer : Label) where
  -- a `this` that stands for that of the call, in both or in neither
  pub data ThisAgree (β : Pairing) : Option Val → Option Val → Type 0 where
    no_this : ThisAgree β None None
    both_this : {v u : Val} → Agree observer β v u → ThisAgree β (Some v) (Some u)

  -- paired functions, with a `this` and arguments that agree
  pub record TargetsAgree (β : Pairing) (t u : Target Val) : Type 0 where
    pub function : β.objects t.function u.function ≡ true
    pub this : ThisAgree β t.this u.this
    pub args : Rels (Agree observer β) t.args u.args

  -- under the labels of the targets on the way
  abbrev pub AimsAgree : Pairing → Aim → Aim → Type 0
  AimsAgree β a b = Alike observer a.label b.label (TargetsAgree β a.target b.target)

  pub rels_behind : {β : Pairing} {vs us ws xs : List Val} → Rels (Agree observer β) vs us → Rels (Agree observer β) ws xs → Rels (Agree observer β) (vs ++ ws) (us ++ xs)
  rels_behind nils r = r
  rels_behind (conses a q) r = conses a (rels_behind q r)

  pub rels_of : {β : Pairing} {vs us : List Val} → AllAgree observer β vs us → Rels (Agree observer β) vs us
  rels_of none = nils
  rels_of (each a r) = conses a (rels_of r)

  -- the `this` of a call, or that which stands for it
  pub this_agrees : {β : Pairing} {o p : Option Val} {v u : Val} → ThisAgree β o p → Agree observer β v u → Agree observer β (this_or o v) (this_or p u)
  this_agrees no_this a = a
  this_agrees (both_this b) a = b

  behind_agrees : {β : Pairing} {this that : Val} {vs us : List Val} {t u : Target Val} → Agree observer β this that → Rels (Agree observer β) vs us → TargetsAgree β t u → TargetsAgree β (bound_behind this vs t) (bound_behind that us u)
  behind_agrees a r q = record { function = q.function; this = both_this (this_agrees q.this a); args = rels_behind q.args r }

  own_agrees : {β : Pairing} (i j : ℕ) → β.objects i j ≡ true → AimsAgree β (own_aim i) (own_aim j)
  own_agrees i j p = seen (sees_bottom observer) refl (record { function = p; this = no_this; args = nils })

  module _ {β : Pairing} {h g : List (Object Label)} (r : HeapsAgree observer β h g) where
    -- of two objects, where the targets of seen ones agree
    inner_aims : (next other : ℕ → Aim) (i j : ℕ) {x y : Inner Label} → β.objects i j ≡ true → InnersAgree observer β x y → TargetBelow observer i x → TargetBelow observer j y
        → ((a b : ℕ) → a < i → b < j → β.objects a b ≡ true → AimsAgree β (next a) (other b)) → AimsAgree β (aim_behind next i x) (aim_behind other j y)
    inner_aims next other i j p plains below beside k = own_agrees i j p
    inner_aims next other i j p (scripts e) below beside k = own_agrees i j p
    inner_aims next other i j p natives below beside k = own_agrees i j p
    inner_aims next other i j p (bounds {o = o} {q = q} {l = l} {m = m} (hidden a b) this args) below beside k = hidden (hides_first observer l (next o.0).label a) (hides_first observer m (other q.0).label b)
    inner_aims next other i j p (bounds {o = o} {q = q} (seen a e z) this args) below beside k =
        alike_join observer (λ (u : Unit {0}) t. behind_agrees this (rels_of args) t) (seen a e tt) (k o.0 q.0 (below a) (beside (subst (Sees observer) e a)) z)

    -- in so many steps as are enough for each
    within_agree : (n m i j : ℕ) → i < n → j < m → β.objects i j ≡ true → AimsAgree β (aim_within h n i) (aim_within g m j)
    within_agree zero m i j a b p = absurd (omega arith)
    within_agree (suc n) zero i j a b p = absurd (omega arith)
    within_agree (suc n) (suc m) i j a b p =
        let t = two (r.paired i j p) in
        let w = r.left i j p t.one t.is_one in
        let v = r.right i j p t.other t.is_other in
        subst (λ x. AimsAgree β (aim_in (aim_within h n) i x) (aim_in (aim_within g m) j (slice_get g j))) (sym t.is_one)
        (subst (λ x. AimsAgree β (aim_in (aim_within h n) i (Some t.one)) (aim_in (aim_within g m) j x)) (sym t.is_other)
        (inner_aims (aim_within h n) (aim_within g m) i j p t.related.inner w.target v.target (λ c d x y z. within_agree n m c d (omega arith) (omega arith) z)))

    -- of paired objects
    pub aims_agree : {i j : ℕ} → β.objects i j ≡ true → AimsAgree β (aim_of h i) (aim_of g j)
    aims_agree {i} {j} p = within_agree (suc i) (suc j) i j (omega arith) (omega arith) p
