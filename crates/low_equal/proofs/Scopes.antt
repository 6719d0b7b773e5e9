-- Records that agree: names are found in the same places, and are given values.
use Rattle.std.proofs.Common.{◌≡◌, ℕ, zero, suc, ◌<◌, List, [], ◌∷◌, Option, Some, None, Bool, true, false, cond, slice_get, slice_set, ⊎_elim, refl, sym, ◌∙◌, ap, subst, true≢false, arith}
use Rattle.std.proofs.lemmas.Bool.{cases_eq}
use Rattle.std.proofs.lemmas.Option.{same_Some}
use Rattle.origin_labels.specs.Label.{Label}
use Rattle.origin_labels.specs.Names.{same_name}
use Rattle.js_values.specs.declared.ids.EnvId.{EnvId}
use Rattle.js_values.specs.Chains.{beginning, onwards, chain_within}
use Rattle.js_values.specs.Records.{Binding, Bindings, Record, found, rebound, if_has, first_with, lookup, bound_in}
use Rattle.std.specs.Option.{option_map}
use Rattle.es_meaning.specs.Plain.{with_value, assigned_in, binding_at}
use Rattle.flow_meaning.specs.Scopes.{Val}
use Rattle.low_equal.specs.Observed.{Hides}
use Rattle.low_equal.specs.LowEqual.{Pairing, seen, hidden, SameRecord, outermost, within, Agree, BindingsAgree, no_bindings, bindings, RecordsAgree, Both, both_stand, NestedAt, ScopesAgree}
use Rattle.low_equal.proofs.Agreement.{flipped, flipped_unique, records_sym, both_sym, Two, two, both_by}
use Rattle.low_equal.proofs.Heaps.{none_some}

-- ---- lists

pub set_same : {A : Type 0} (xs : List A) (i : ℕ) (a b : A) → slice_get xs i ≡ Some b → slice_get (slice_set xs i a) i ≡ Some a
set_same [] i a b e = absurd (none_some b e)
set_same (x ∷ xs) zero a b e = refl
set_same (x ∷ xs) (suc i) a b e = set_same xs i a b e

pub set_other : {A : Type 0} (xs : List A) (i j : ℕ) (a : A) → (i ≡ j → ⊥) → slice_get (slice_set xs i a) j ≡ slice_get xs j
set_other [] i j a n = refl
set_other (x ∷ xs) zero zero a n = absurd (n refl)
set_other (x ∷ xs) zero (suc j) a n = refl
set_other (x ∷ xs) (suc i) zero a n = refl
set_other (x ∷ xs) (suc i) (suc j) a n = set_other xs i j a (λ e. n (ap suc e))

-- ---- the place of a name: no record, or paired ones

pub data PlacesAgree (β : Pairing) : Option ℕ → Option ℕ → Type 0 where
  nowhere : PlacesAgree β None None
  somewhere : {i j : ℕ} → β.records i j ≡ true → PlacesAgree β (Some i) (Some j)

-- what is found for a name
pub data FoundAgree (observer : Label) (β : Pairing) : Option (Binding Val) → Option (Binding Val) → Type 0 where
  missing : FoundAgree observer β None None
  there : {name : List ℕ} {mutable : Bool} {v u : Val} → Agree observer β v u
      → FoundAgree observer β (Some (record { name = name; mutable = mutable; value = v })) (Some (record { name = name; mutable = mutable; value = u }))

module _ (observer : Label) where
  pub scopes_sym : {β : Pairing} {rs qs : List (Record Val)} → ScopesAgree observer β rs qs → ScopesAgree observer (flipped β) qs rs
  scopes_sym r = record {
    paired = λ i j p. both_sym (λ a b x. records_sym observer x) (r.paired j i p);
    one_to_one = flipped_unique r.one_to_one;
    left = λ i j p. r.right j i p;
    right = λ i j p. r.left j i p;
  }

  module _ (β : Pairing) where
    -- ---- names are found

    found_by : (x : Bool) {b c o p : Option (Binding Val)} → FoundAgree observer β b c → FoundAgree observer β o p → FoundAgree observer β (cond x b o) (cond x c p)
    found_by true r q = r
    found_by false r q = q

    pub found_agree : (name : List ℕ) {bs cs : Bindings Val} → BindingsAgree observer β bs cs → FoundAgree observer β (found name bs) (found name cs)
    found_agree name no_bindings = missing
    found_agree name (bindings {name = x} r q) = found_by (same_name x name) (there r) (found_agree name q)

    pub bound_agree : (name : List ℕ) {r q : Option (Record Val)} → Both (RecordsAgree observer β) r q → FoundAgree observer β (bound_in name r) (bound_in name q)
    bound_agree name (both_stand x) = found_agree name x.bindings

    pub binding_agree : {rs qs : List (Record Val)} (name : List ℕ) {i j : ℕ} → ScopesAgree observer β rs qs → β.records i j ≡ true → FoundAgree observer β (binding_at rs i name) (binding_at qs j name)
    binding_agree name r p = bound_agree name (r.paired _ _ p)

    has_agree : {i j : ℕ} {b c : Option (Binding Val)} {o p : Option ℕ} → β.records i j ≡ true → FoundAgree observer β b c → PlacesAgree β o p → PlacesAgree β (if_has i b o) (if_has j c p)
    has_agree p missing q = q
    has_agree p (there r) q = somewhere p

    module _ (rs qs : List (Record Val)) (r : ScopesAgree observer β rs qs) (name : List ℕ) where
      abbrev outside : Record Val → Option ℕ
      outside x = option_map (λ (e : EnvId). e.0) x.outer

      -- from the records outside two paired ones
      outer_agree : (n m : ℕ) {i j : ℕ} {e d : Option EnvId} → i < suc n → j < suc m → SameRecord β e d → ((x : EnvId) → e ≡ Some x → x.0 < i) → ((x : EnvId) → d ≡ Some x → x.0 < j)
          → ((a b : ℕ) → a < n → b < m → β.records a b ≡ true → PlacesAgree β (first_with name (chain_within outside rs n a)) (first_with name (chain_within outside qs m b)))
          → PlacesAgree β (first_with name (onwards (option_map (λ (x : EnvId). x.0) e) (chain_within outside rs n))) (first_with name (onwards (option_map (λ (x : EnvId). x.0) d) (chain_within outside qs m)))
      outer_agree n m h k outermost f g more = nowhere
      outer_agree n m h k (within {e = e} {d = d} w) f g more = let a = f e refl in let b = g d refl in more e.0 d.0 (omega arith) (omega arith) w

      -- from two paired records
      paired_agree : (n m i j : ℕ) → i < suc n → j < suc m → β.records i j ≡ true → Two (RecordsAgree observer β) (slice_get rs i) (slice_get qs j)
          → ((a b : ℕ) → a < n → b < m → β.records a b ≡ true → PlacesAgree β (first_with name (chain_within outside rs n a)) (first_with name (chain_within outside qs m b)))
          → PlacesAgree β (first_with name (chain_within outside rs (suc n) i)) (first_with name (chain_within outside qs (suc m) j))
      paired_agree n m i j h k p t more =
          subst (λ o. PlacesAgree β (first_with name (beginning i o (λ a. onwards (outside a) (chain_within outside rs n)))) (first_with name (chain_within outside qs (suc m) j))) (sym t.is_one)
          (subst (λ o. PlacesAgree β (first_with name (beginning i (Some t.one) (λ a. onwards (outside a) (chain_within outside rs n)))) (first_with name (beginning j o (λ a. onwards (outside a) (chain_within outside qs m))))) (sym t.is_other)
          (has_agree p (found_agree name t.related.bindings) (outer_agree n m h k t.related.outer (λ x e. r.left i j p t.one t.is_one x e) (λ x e. r.right i j p t.other t.is_other x e) more)))

      -- from paired records on outwards, in so many steps as are enough
      round_agree : (n m i j : ℕ) → i < n → j < m → β.records i j ≡ true → PlacesAgree β (first_with name (chain_within outside rs n i)) (first_with name (chain_within outside qs m j))
      round_agree zero m i j h k p = absurd (omega arith)
      round_agree (suc n) zero i j h k p = absurd (omega arith)
      round_agree (suc n) (suc m) i j h k p = paired_agree n m i j h k p (two (r.paired i j p)) (λ a b l o w. round_agree n m a b l o w)

      pub lookup_agree : (i j : ℕ) → β.records i j ≡ true → PlacesAgree β (lookup name rs i) (lookup name qs j)
      lookup_agree i j p = round_agree (suc i) (suc j) i j (omega arith) (omega arith) p

    -- ---- names are given values

    rebound_by : (x : Bool) {bs cs ds es : Bindings Val} → BindingsAgree observer β bs cs → BindingsAgree observer β ds es → BindingsAgree observer β (cond x bs ds) (cond x cs es)
    rebound_by true r q = r
    rebound_by false r q = q

    pub rebound_both : (name : List ℕ) {v u : Val} {bs cs : Bindings Val} → Agree observer β v u → BindingsAgree observer β bs cs → BindingsAgree observer β (rebound name v bs) (rebound name u cs)
    rebound_both name h no_bindings = no_bindings
    rebound_both name h (bindings {name = x} r q) = rebound_by (same_name x name) (bindings h q) (bindings r (rebound_both name h q))

    -- a name whose value is hidden is given a hidden one, on one side
    pub rebound_left : (name : List ℕ) (v : Val) (b : Binding Val) {bs cs : Bindings Val} → Hides observer v.label → found name bs ≡ Some b → Hides observer b.value.label
        → BindingsAgree observer β bs cs → BindingsAgree observer β (rebound name v bs) cs
    rebound_left name v b h e k no_bindings = no_bindings
    rebound_left name v b h e k (bindings {name = x} {mutable = m} {v = y} {u = u} {bs = bs} {cs = cs} r q) = go (same_name x name) e (λ f. rebound_left name v b h f k q)
      where
        replaced : Hides observer y.label → Agree observer β y u → Agree observer β v u
        replaced l (seen s d p) = absurd (true≢false (sym s ∙ l))
        replaced l (hidden s d) = hidden h d

        go : (test : Bool) → cond test (Some (record { name = x; mutable = m; value = y })) (found name bs) ≡ Some b → (found name bs ≡ Some b → BindingsAgree observer β (rebound name v bs) cs)
            → BindingsAgree observer β (cond test (record { name = x; mutable = m; value = v } ∷ bs) (record { name = x; mutable = m; value = y } ∷ rebound name v bs)) (record { name = x; mutable = m; value = u } ∷ cs)
        go true f z = bindings (replaced (subst (λ (a : Binding Val). Hides observer a.value.label) (sym (same_Some _ b f)) k) r) q
        go false f z = bindings r (z f)

    -- ---- records are replaced

    nested_set : (rs : List (Record Val)) (i : ℕ) (a b : Record Val) → slice_get rs i ≡ Some b → a.outer ≡ b.outer → (j : ℕ) → NestedAt rs j → NestedAt (slice_set rs i a) j
    nested_set rs i a b e o j f x at w out = ⊎_elim
        (λ q. f b (ap (slice_get rs) (sym q) ∙ e) w (sym o ∙ ap (λ (y : Record Val). y.outer) (same_Some a x (sym (set_same rs i a b e) ∙ ap (slice_get (slice_set rs i a)) q ∙ at)) ∙ out))
        (λ q. f x (sym (set_other rs i j a q) ∙ at) w out) (cases_eq i j)

    -- on one side, by one that stands for all that the old one stood for
    pub set_left : {rs qs : List (Record Val)} (i : ℕ) (a b : Record Val) → ScopesAgree observer β rs qs → slice_get rs i ≡ Some b → a.outer ≡ b.outer
        → ((q : Record Val) → RecordsAgree observer β b q → RecordsAgree observer β a q) → ScopesAgree observer β (slice_set rs i a) qs
    set_left {rs} {qs} i a b r e o f = record {
      paired = λ j k p. ⊎_elim
          (λ q. let t = two (r.paired j k p) in
          let is : t.one ≡ b = same_Some t.one b (sym t.is_one ∙ ap (slice_get rs) (sym q) ∙ e) in
          both_by (RecordsAgree observer β) (ap (slice_get (slice_set rs i a)) (sym q) ∙ set_same rs i a b e) t.is_other (f t.other (subst (λ x. RecordsAgree observer β x t.other) is t.related)))
          (λ q. subst (λ x. Both (RecordsAgree observer β) x (slice_get qs k)) (sym (set_other rs i j a q)) (r.paired j k p)) (cases_eq i j);
      one_to_one = r.one_to_one;
      left = λ j k p. nested_set rs i a b e o j (r.left j k p);
      right = r.right;
    }

    -- a pair of records, on both sides
    pub set_both : {rs qs : List (Record Val)} (i j : ℕ) (a c : Record Val) → ScopesAgree observer β rs qs → β.records i j ≡ true
        → ((b d : Record Val) → RecordsAgree observer β b d → slice_get rs i ≡ Some b → slice_get qs j ≡ Some d → RecordsAgree observer β a c × (a.outer ≡ b.outer) × (c.outer ≡ d.outer)) → ScopesAgree observer β (slice_set rs i a) (slice_set qs j c)
    set_both {rs} {qs} i j a c r p f =
        let t = two (r.paired i j p) in
        let g = f t.one t.other t.related t.is_one t.is_other in
        record {
          paired = λ k l q. ⊎_elim
              (λ e. let d = (r.one_to_one i j k l p q).0 e in
              both_by (RecordsAgree observer β) (ap (slice_get (slice_set rs i a)) (sym e) ∙ set_same rs i a t.one t.is_one) (ap (slice_get (slice_set qs j c)) (sym d) ∙ set_same qs j c t.other t.is_other) g.0)
              (λ e. subst (λ x. Both (RecordsAgree observer β) x (slice_get (slice_set qs j c) l)) (sym (set_other rs i k a e))
              (subst (λ x. Both (RecordsAgree observer β) (slice_get rs k) x) (sym (set_other qs j l c (λ d. e ((r.one_to_one i j k l p q).1 d)))) (r.paired k l q))) (cases_eq i k);
          one_to_one = r.one_to_one;
          left = λ k l q. nested_set rs i a t.one t.is_one g.1 k (r.left k l q);
          right = λ k l q. nested_set qs j c t.other t.is_other g.2 l (r.right k l q);
        }

    abbrev with_rebound : List ℕ → Val → Record Val → Record Val
    with_rebound name v x = record x { bindings = rebound name v x.bindings }

    assigned_at : (name : List ℕ) (v : Val) (rs : List (Record Val)) (i : ℕ) (b : Record Val) → slice_get rs i ≡ Some b → assigned_in name v rs i ≡ slice_set rs i (with_rebound name v b)
    assigned_at name v rs i b e = ap (λ o. with_value name v o rs i) e

    -- a name whose value is hidden is given a hidden one, on one side
    pub assigned_left : {rs qs : List (Record Val)} (name : List ℕ) (v : Val) (i : ℕ) (b : Binding Val) → Hides observer v.label → binding_at rs i name ≡ Some b → Hides observer b.value.label
        → ScopesAgree observer β rs qs → ScopesAgree observer β (assigned_in name v rs i) qs
    assigned_left {rs} {qs} name v i b h e k r = go (slice_get rs i) refl e
      where
        go : (o : Option (Record Val)) → slice_get rs i ≡ o → bound_in name o ≡ Some b → ScopesAgree observer β (assigned_in name v rs i) qs
        go None at f = absurd (none_some b f)
        go (Some x) at f = subst (λ z. ScopesAgree observer β z qs) (sym (assigned_at name v rs i x at))
            (set_left i (with_rebound name v x) x r at refl (λ q a. record { outer = a.outer; bindings = rebound_left name v b h f k a.bindings }))

    -- and values that agree, on both sides
    pub assigned_both : {rs qs : List (Record Val)} (name : List ℕ) {v u : Val} (i j : ℕ) → Agree observer β v u → β.records i j ≡ true
        → ScopesAgree observer β rs qs → ScopesAgree observer β (assigned_in name v rs i) (assigned_in name u qs j)
    assigned_both {rs} {qs} name {v} {u} i j a p r =
        let t = two (r.paired i j p) in
        subst (λ z. ScopesAgree observer β z (assigned_in name u qs j)) (sym (assigned_at name v rs i t.one t.is_one))
        (subst (λ z. ScopesAgree observer β (slice_set rs i (with_rebound name v t.one)) z) (sym (assigned_at name u qs j t.other t.is_other))
        (set_both i j (with_rebound name v t.one) (with_rebound name u t.other) r p
        (λ b d x e f. let is : t.one ≡ b = same_Some t.one b (sym t.is_one ∙ e) in let iso : t.other ≡ d = same_Some t.other d (sym t.is_other ∙ f) in
        (record { outer = t.related.outer; bindings = rebound_both name a t.related.bindings }, ap (λ (y : Record Val). y.outer) is, ap (λ (y : Record Val). y.outer) iso))))
