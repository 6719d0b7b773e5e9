-- Records more: on one side, and a pair of them; and a record with one name.
use Rattle.std.proofs.Common.{◌≡◌, ℕ, ◌<◌, List, [], ◌∷◌, ◌++◌, length, Some, true, slice_get, ⊎_elim, refl, sym, ◌∙◌, ap, subst, arith}
use Rattle.std.proofs.lemmas.Option.{same_Some}
use Rattle.origin_labels.specs.Label.{Label}
use Rattle.flow_policy.specs.Policies.{Tables}
use Rattle.flow_frames.specs.Frames.{context}
use Rattle.js_values.specs.declared.ids.EnvId.{EnvId}
use Rattle.js_values.specs.Records.{Record}
use Rattle.es_meaning.specs.Environments.{Env, with_place}
use Rattle.es_meaning.specs.Functions.{env_id, binds}
use Rattle.flow_meaning.specs.Scopes.{Val, joined, State, L}
use Rattle.flow_meaning.specs.Tracked.{with_name, in_own_record}
use Rattle.low_equal.specs.Observed.{IsSeen}
use Rattle.low_equal.specs.LowEqual.{Pairing, Extends, seen, within, Agree, no_bindings, bindings, RecordsAgree, NestedAt, HeapsAgree, ScopesAgree, LowEqual}
use Rattle.low_equal.specs.Runs.{Same, Confined, Lockstep}
use Rattle.low_equal.specs.Laws.{EnvsAgree, Nothing}
use Rattle.low_equal.proofs.Agreement.{extends_refl, extends_trans, agree_more, agree_joined, objects_more, records_more, both_map, two, both_by}
use Rattle.low_equal.proofs.Heaps.{get_new, get_old, get_below, with_pair, pair_old, pair_new, pair_cases, pair_unique}
use Rattle.low_equal.proofs.Lines.{lines_refl, positions_refl}
use Rattle.low_equal.proofs.States.{low_records, low_more, same_context}
use Rattle.low_equal.proofs.Steps.{still_after, step_more}

abbrev pub with_records : Pairing → ℕ → ℕ → Pairing
with_records β a b = record { objects = β.objects; records = with_pair β.records a b }

pub extends_records : (β : Pairing) (a b : ℕ) → Extends β (with_records β a b)
extends_records β a b = record { objects = λ i j p. p; records = λ i j p. pair_old β.records a b i j p }

-- a record that stood is nested as it was, and a new one is where the record outside it stands
nested_more : (rs : List (Record Val)) (a b : Record Val) (i : ℕ) → slice_get rs i ≡ Some a → NestedAt rs i → NestedAt (rs ++ b ∷ []) i
nested_more rs a b i here f r e = f r (here ∙ sym (get_old rs b a i here) ∙ e)

nested_new : (rs : List (Record Val)) (a : Record Val) (i : ℕ) → i ≡ length rs → ((e : EnvId) → a.outer ≡ Some e → e.0 < length rs) → NestedAt (rs ++ a ∷ []) i
nested_new rs a i n k r at e out =
    let is : a ≡ r = same_Some a r (sym (get_new rs a) ∙ ap (slice_get (rs ++ a ∷ [])) (sym n) ∙ at) in
    let below = k e (ap (λ (x : Record Val). x.outer) is ∙ out) in subst (λ m. e.0 < m) (sym n) below

module _ (observer : Label) where
  -- a record more on one side
  pub record_left : {β : Pairing} {rs qs : List (Record Val)} (a : Record Val) → ScopesAgree observer β rs qs → ScopesAgree observer β (rs ++ a ∷ []) qs
  record_left {β} {rs} {qs} a r = record {
    paired = λ i j p. let t = two (r.paired i j p) in both_by (RecordsAgree observer β) (get_old rs a t.one i t.is_one) t.is_other t.related;
    one_to_one = r.one_to_one;
    left = λ i j p. let t = two (r.paired i j p) in nested_more rs t.one a i t.is_one (r.left i j p);
    right = r.right;
  }

  -- the record of a number that is paired stands
  pub record_below : {β : Pairing} {rs qs : List (Record Val)} {i j : ℕ} → ScopesAgree observer β rs qs → β.records i j ≡ true → (i < length rs) × (j < length qs)
  record_below {rs = rs} {qs = qs} {i = i} {j = j} r p = let t = two (r.paired i j p) in (get_below rs t.one i t.is_one, get_below qs t.other j t.is_other)

  -- a pair of records more
  pub record_both : {β : Pairing} {rs qs : List (Record Val)} (a b : Record Val) → ((e : EnvId) → a.outer ≡ Some e → e.0 < length rs) → ((e : EnvId) → b.outer ≡ Some e → e.0 < length qs)
      → RecordsAgree observer (with_records β (length rs) (length qs)) a b → ScopesAgree observer β rs qs → ScopesAgree observer (with_records β (length rs) (length qs)) (rs ++ a ∷ []) (qs ++ b ∷ [])
  record_both {β} {rs} {qs} a b k l x r = record {
    paired = λ i j p. ⊎_elim
        (λ e. both_by (RecordsAgree observer γ) (ap (slice_get (rs ++ a ∷ [])) e.0 ∙ get_new rs a) (ap (slice_get (qs ++ b ∷ [])) e.1 ∙ get_new qs b) x)
        (λ e. let t = two (r.paired i j e) in both_by (RecordsAgree observer γ) (get_old rs a t.one i t.is_one) (get_old qs b t.other j t.is_other) (records_more observer (extends_records β (length rs) (length qs)) t.related))
        (pair_cases β.records (length rs) (length qs) i j p);
    one_to_one = pair_unique β.records (length rs) (length qs) r.one_to_one (λ i j p. let n = record_below r p in let n0 = n.0 in let n1 = n.1 in (λ e. absurd (omega arith), λ e. absurd (omega arith)));
    left = λ i j p. ⊎_elim (λ e. nested_new rs a i e.0 k) (λ e. let t = two (r.paired i j e) in nested_more rs t.one a i t.is_one (r.left i j e)) (pair_cases β.records (length rs) (length qs) i j p);
    right = λ i j p. ⊎_elim (λ e. nested_new qs b j e.1 l) (λ e. let t = two (r.paired i j e) in nested_more qs t.other b j t.is_other (r.right i j e)) (pair_cases β.records (length rs) (length qs) i j p);
  }
    where
      γ : Pairing
      γ = with_records β (length rs) (length qs)

  -- heaps agree under more pairs of records
  pub heap_more : {β : Pairing} {h g : List (Rattle.js_values.specs.Objects.Object Label)} (a b : ℕ) → HeapsAgree observer β h g → HeapsAgree observer (with_records β a b) h g
  heap_more {β} a b r = record {
    starts = r.starts;
    paired = λ o q p. both_map (λ x y z. objects_more observer (extends_records β a b) z) (r.paired o q p);
    one_to_one = r.one_to_one;
    left = r.left;
    right = r.right;
  }

module _ (observer : Label) (tables : Tables) where
  -- a record more can't be told where it isn't paired
  pub same_record : (a : Record Val) (s : State) → Same observer tables s (record s { records = s.records ++ a ∷ [] })
  same_record a s = record { looks = λ β u r. low_records observer tables r (record_left observer a r.records); frames = refl }

  -- ---- a record with one name

  pub conf_declare : (name : List ℕ) (v : Val) (e : Env ℕ) (next : Env ℕ → L (Unit {0})) → ((d : Env ℕ) → Confined observer tables (next d)) → Confined observer tables (in_own_record name v e next)
  conf_declare name v e next c = record {
    still = λ s p. still_after observer tables (in_own_record name v e next s) (same_record _ s) (lines_refl observer tables s.lines) (positions_refl observer tables s.positions)
        ((c (with_place (length s.records) e)).still (with_name e.place name v s) p);
    fits = λ s. (c (with_place (length s.records) e)).fits (with_name e.place name v s);
    adds = λ s. (c (with_place (length s.records) e)).adds (with_name e.place name v s);
  }

  name_both : {γ : Pairing} (name : List ℕ) {v u : Val} {i j : ℕ} (s t : State) → Agree observer γ v u → γ.records i j ≡ true → LowEqual observer tables γ s t → IsSeen observer s
      → LowEqual observer tables (with_records γ (length s.records) (length t.records)) (with_name i name v s) (with_name j name u t)
  name_both {γ} name {v} {u} {i} {j} s t a p r w =
      let more = extends_records γ (length s.records) (length t.records) in
      let n = record_below observer r.records p in
      subst (λ l. LowEqual observer tables δ (with_name i name v s) (record t { records = t.records ++ record { outer = Some (env_id j); bindings = binds true name (joined l u) } ∷ [] })) (same_context observer tables r w)
      (low_more observer tables r (heap_more observer (length s.records) (length t.records) r.heap)
      (record_both observer (record { outer = Some (env_id i); bindings = binds true name (joined (context s.frames) v) }) (record { outer = Some (env_id j); bindings = binds true name (joined (context s.frames) u) })
      (λ e q. subst (λ (x : EnvId). x.0 < length s.records) (same_Some _ e q) n.0) (λ e q. subst (λ (x : EnvId). x.0 < length t.records) (same_Some _ e q) n.1)
      (record { outer = within (more.records _ _ p); bindings = bindings (agree_more observer more (agree_joined observer (seen w refl tt) a)) no_bindings }) r.records))
    where
      δ : Pairing
      δ = with_records γ (length s.records) (length t.records)

  pub lock_declare : {β : Pairing} (name : List ℕ) {v u : Val} {e d : Env ℕ} (next other : Env ℕ → L (Unit {0})) → Agree observer β v u → EnvsAgree β e d
      → ((γ : Pairing) → Extends β γ → (x y : Env ℕ) → EnvsAgree γ x y → Lockstep observer tables Nothing γ (next x) (other y)) → Lockstep observer tables Nothing β (in_own_record name v e next) (in_own_record name u d other)
  lock_declare name {v} {u} {e} {d} next other a q h = record {
    steps = λ γ x s t r w.
        let δ = with_records γ (length s.records) (length t.records) in
        let more = extends_records γ (length s.records) (length t.records) in
        step_more observer tables Nothing more
        ((h δ (extends_trans x more) (with_place (length s.records) e) (with_place (length t.records) d) (record { place = pair_new γ.records (length s.records) (length t.records); call = q.call; around = q.around })).steps
        δ (extends_refl δ) (with_name e.place name v s) (with_name d.place name u t) (name_both name s t (agree_more observer x a) (x.records _ _ q.place) r w) w);
  }
