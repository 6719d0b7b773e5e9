-- What bindings and assignments keep of records: the order of their numbers, and that a store made their labels.
use Rattle.std.proofs.Common.{◌≡◌, ℕ, zero, suc, ◌<◌, ◌⊎◌, inl, inr, Bool, true, false, List, [], ◌∷◌, ◌++◌, get_or, set, Option, Some, None, refl, sym, ap, ap₂, subst, ◌∙◌, arith, if◌then◌else◌}
use Rattle.std.specs.List.{slice_get, All}
use Rattle.std.specs.Option.{option_map}
use Rattle.std.proofs.lemmas.List.Elements.{All-set, All-append}
use Rattle.std.proofs.lemmas.Option.{same_Some, get_or_from_slice_get, slice_get_within}
use Rattle.origin_labels.specs.Names.{same_name}
use Rattle.js_values.specs.declared.ids.EnvId.{EnvId}
use Rattle.js_values.specs.declared.value.Labelled.{Labelled}
use Rattle.js_values.specs.Chains.{LeadBack}
use Rattle.js_values.specs.Records.{Binding, Bindings, Record, rebound}
use Rattle.js_values.specs.Readings.{HasValue, HasRecord, HasRecords}
use Rattle.env_records.specs.Acts.{put_in_record, put, bound_in_record, bind, new_record}
use Rattle.env_records.specs.Places.{StandsAt, with_value_at}
use Rattle.env_records.specs.Formed.{LeadOutwards}

-- ---- an element is replaced by one that leads to the same

set_cases : {X : Type 0} (xs : List X) (i : ℕ) (x : X) (k : ℕ) (y : X) → slice_get (set xs i x) k ≡ Some y → (slice_get xs k ≡ Some y) ⊎ ((k ≡ i) × (x ≡ y))
set_cases [] i x k y e = inl e
set_cases (z ∷ xs) zero x zero y e = inr (refl, same_Some x y e)
set_cases (z ∷ xs) zero x (suc k) y e = inl e
set_cases (z ∷ xs) (suc i) x zero y e = inl e
set_cases (z ∷ xs) (suc i) x (suc k) y e = elim (set_cases xs i x k y e) as (λ _. (slice_get xs k ≡ Some y) ⊎ ((suc k ≡ suc i) × (x ≡ y))) [
  | inl there ↦ inl there
  | inr here ↦ inr (ap suc here.0, here.1)
]

LeadBack-set : {A : Type 0} (next : A → Option ℕ) (xs : List A) (i : ℕ) (a b : A) → slice_get xs i ≡ Some a → next b ≡ next a → LeadBack next xs → LeadBack next (set xs i b)
LeadBack-set next xs i a b here same back k j x there leads = elim (set_cases xs i b k x there) as (λ _. j < k) [
  | inl other ↦ back k j x other leads
  | inr this ↦ let lt = back i j a here (sym same ∙ ap next this.1 ∙ leads) in omega (arith, lt, this.0)
]

LeadOutwards-put_in : {V : Type 0} (i : ℕ) (name : List ℕ) (v : V) (records : List (Record V)) (r : Option (Record V)) → slice_get records i ≡ r → LeadOutwards records → LeadOutwards (put_in_record r i name v records)
LeadOutwards-put_in i name v records None here back = back
LeadOutwards-put_in i name v records (Some r) here back = LeadBack-set (λ x. option_map (λ e. e.0) x.outer) records i r (record r { bindings = rebound name v r.bindings }) here refl back

pub LeadOutwards-put : {V : Type 0} (i : ℕ) (name : List ℕ) (v : V) (records : List (Record V)) → LeadOutwards records → LeadOutwards (put i name v records)
LeadOutwards-put i name v records back = LeadOutwards-put_in i name v records (slice_get records i) refl back

-- ---- labels that were made

All-cons : {X : Type 0} (P : X → Type 0) (x : X) (xs : List X) → P x → All P xs → All P (x ∷ xs)
All-cons P x xs first all zero d lt = first
All-cons P x xs first all (suc k) d lt = all k d (omega arith)

All-tail : {X : Type 0} (P : X → Type 0) (x : X) (xs : List X) → All P (x ∷ xs) → All P xs
All-tail P x xs all k d lt = all (suc k) d (omega arith)

All-at : {X : Type 0} (P : X → Type 0) (xs : List X) (i : ℕ) (x : X) → slice_get xs i ≡ Some x → All P xs → P x
All-at P xs i x here all = subst P (get_or_from_slice_get xs i x x here) (all i x (slice_get_within xs i x here))

module _ {T : Type 0} (made : T → Type 0) where
  All-rebound_at : (name : List ℕ) (v : Labelled T) (b : Binding (Labelled T)) (bindings : Bindings (Labelled T)) (test : Bool) → made v.label → All (λ x. HasValue made x.value) (b ∷ bindings) → All (λ x. HasValue made x.value) (rebound name v bindings) → All (λ x. HasValue made x.value) (if test then record b { value = v } ∷ bindings else b ∷ rebound name v bindings)
  All-rebound_at name v b bindings true m all rest = All-cons (λ x. HasValue made x.value) (record b { value = v }) bindings m (All-tail (λ x. HasValue made x.value) b bindings all)
  All-rebound_at name v b bindings false m all rest = All-cons (λ x. HasValue made x.value) b (rebound name v bindings) (all 0 b (omega arith)) rest

  All-rebound : (name : List ℕ) (v : Labelled T) (bindings : Bindings (Labelled T)) → made v.label → All (λ x. HasValue made x.value) bindings → All (λ x. HasValue made x.value) (rebound name v bindings)
  All-rebound name v [] m all = all
  All-rebound name v (b ∷ bindings) m all = All-rebound_at name v b bindings (same_name b.name name) m all (All-rebound name v bindings m (All-tail (λ x. HasValue made x.value) b bindings all))

  HasRecords-put_in : (i : ℕ) (name : List ℕ) (v : Labelled T) (records : List (Record (Labelled T))) (r : Option (Record (Labelled T))) → slice_get records i ≡ r → made v.label → HasRecords made records → HasRecords made (put_in_record r i name v records)
  HasRecords-put_in i name v records None here m has = has
  HasRecords-put_in i name v records (Some r) here m has = All-set (HasRecord made) records i (record r { bindings = rebound name v r.bindings }) (All-rebound name v r.bindings m (All-at (HasRecord made) records i r here has)) has

  pub HasRecords-put : (i : ℕ) (name : List ℕ) (v : Labelled T) (records : List (Record (Labelled T))) → made v.label → HasRecords made records → HasRecords made (put i name v records)
  HasRecords-put i name v records m has = HasRecords-put_in i name v records (slice_get records i) refl m has

  HasRecords-bound_in : (i : ℕ) (b : Binding (Labelled T)) (records : List (Record (Labelled T))) (r : Option (Record (Labelled T))) → slice_get records i ≡ r → made b.value.label → HasRecords made records → HasRecords made (bound_in_record r i b records)
  HasRecords-bound_in i b records None here m has = has
  HasRecords-bound_in i b records (Some r) here m has =
      All-set (HasRecord made) records i (record r { bindings = r.bindings ++ b ∷ [] })
      (All-append (λ x. HasValue made x.value) r.bindings (b ∷ []) (All-at (HasRecord made) records i r here has) (All-cons (λ x. HasValue made x.value) b [] m (λ k d lt. absurd (omega arith)))) has

  pub HasRecords-bind : (i : ℕ) (b : Binding (Labelled T)) (records : List (Record (Labelled T))) → made b.value.label → HasRecords made records → HasRecords made (bind i b records)
  HasRecords-bind i b records m has = HasRecords-bound_in i b records (slice_get records i) refl m has

  pub HasRecords-new : (outer : Option EnvId) (records : List (Record (Labelled T))) → HasRecords made records → HasRecords made (new_record outer records)
  HasRecords-new outer records has = All-append (HasRecord made) records (record { outer = outer; bindings = [] } ∷ []) has (All-cons (HasRecord made) (record { outer = outer; bindings = [] }) [] (λ k d lt. absurd (omega arith)) (λ k d lt. absurd (omega arith)))

  -- the label of a binding was made
  pub HasRecords-at : (records : List (Record (Labelled T))) (i : ℕ) (r : Record (Labelled T)) (place : ℕ) (b : Binding (Labelled T)) → slice_get records i ≡ Some r → slice_get r.bindings place ≡ Some b → HasRecords made records → made b.value.label
  HasRecords-at records i r place b here there has = All-at (λ x. HasValue made x.value) r.bindings place b there (All-at (HasRecord made) records i r here has)

-- ---- what the code does

abbrev with_bindings : {V : Type 0} → Record V → Bindings V → Record V
with_bindings r bindings = record r { bindings = bindings }

module _ {V : Type 0} (records items : List (Record V)) (i : ℕ) (r read : Record V) (same : items ≡ records) (here : slice_get records i ≡ Some r) (is : read ≡ get_or items i read) where
  pub read_record : read ≡ r
  read_record = is ∙ ap (λ rs. get_or rs i read) same ∙ get_or_from_slice_get records i r read here

  -- another value at the place of a name
  pub put_there : (name : List ℕ) (v : V) (place : ℕ) (changed : Record V) → StandsAt name r.bindings place → changed ≡ record read { bindings = with_value_at place v read.bindings } → set items i changed ≡ put i name v records
  put_there name v place changed stands change =
      ap₂ (λ rs x. set rs i x) same (change ∙ ap (λ (x : Record V). with_bindings x (with_value_at place v x.bindings)) read_record ∙ ap (λ (bs : Bindings V). with_bindings r bs) (stands.changes v))
      ∙ sym (ap (λ o. put_in_record o i name v records) here)
