-- What work keeps of a reference stands for it: it takes values as the reference does.
use Rattle.std.proofs.Common.{refl, ap, ap₂, subst, ◌∙◌, ◌≡◌, ◌⊎◌, inl, inr, ◌+◌, ℕ, Bool, List, [], ◌∷◌, ◌++◌, map, length, arith}
use Rattle.std.specs.Borrow.{Bor}
use Rattle.std.specs.List.{All}
use Rattle.std.proofs.lemmas.List.{length-append, length-map, map-append, nil_from_length}
use Rattle.std.proofs.lemmas.List.Elements.{All-append}
use Rattle.origin_labels.specs.Label.{Label, bottom}
use Rattle.origin_labels.specs.Stores.{IsKept}
use Rattle.js_number.specs.declared.primitive.Primitive.TheVariants.{Undefined}
use Rattle.js_values.specs.declared.ids.EnvId.{EnvId}
use Rattle.js_values.specs.declared.value.Labelled.{Labelled}
use Rattle.js_values.specs.declared.value.Value.TheVariants as value
use Rattle.js_values.specs.Readings.{HasValue, read_value}
use Rattle.flow_meaning.specs.Scopes.{Val, State}
use Rattle.flow_meaning.specs.Tracked.{Reference, of_name, put_named, put_value}
use Rattle.run_state.specs.declared.outcome.Named.{Named}
use Rattle.run_state.specs.declared.outcome.Place.{Place}
use Rattle.run_state.specs.declared.outcome.Place.TheVariants as place
use Rattle.run_state.specs.Names.{place_of}
use Rattle.step_objects.specs.declared.references.Reference as code
use Rattle.step_objects.specs.declared.references.Reference.TheVariants.{Name, Property}
use Rattle.step_objects.specs.References.{refers, HasReference}
use Rattle.continuations.specs.declared.continuation.Target.{Target}
use Rattle.continuations.specs.declared.continuation.Target.TheVariants as target
use Rattle.continuations.specs.declared.continuation.Use.{Use}
use Rattle.continuations.specs.Pending.{owns_target, owns_use}
use Rattle.continuations.specs.Shapes.{nth, target_of, use_of, walk_to}
use Rattle.continuations.proofs.Steps.{values_more}
use Rattle.continuations.proofs.Uses.{nth_behind, use_kept}
use Rattle.step_references.specs.Keeping.{laid_for, owns_walk, target_for, walk_laid}
use Rattle.step_references.proofs.Loose.{none_has, only}

-- one reference takes values as another
abbrev pub TakesAlike : Reference → Reference → Type 0
TakesAlike n m = (v : Val) (s : State) → put_value n v s ≡ put_value m v s

module _ {T : Type 0} (reading : T → Label) (rest : List Val) where
  name_alike : (name : List ℕ) (p : Place) (walk : T) → TakesAlike (of_name name (place_of p) (walk_to p (map (read_value reading) (walk_laid p walk) ++ rest))) (of_name name (place_of p) (reading walk))
  unfolding put_value put_named
  name_alike name (place.Record e) walk v s = refl
  name_alike name place.Global walk v s = refl
  name_alike name place.Nowhere walk v s = refl

  pub kept_alike : (r : code.Reference T) → TakesAlike (target_of (target_for r) (map (read_value reading) (laid_for r) ++ rest)) (refers reading r)
  kept_alike (Name named) v s = name_alike named.name.now named.place named.walk v s
  kept_alike (Property base key) v s = refl

owns_walked : {T : Type 0} (named : Named T) (p : Place) → length (walk_laid p named.walk) ≡ owns_target (target.Name named.name p)
owns_walked named (place.Record e) = refl
owns_walked named place.Global = refl
owns_walked named place.Nowhere = refl

pub owns_laid : {T : Type 0} (r : code.Reference T) → length (laid_for r) ≡ owns_target (target_for r)
owns_laid (Name named) = owns_walked named named.place
owns_laid (Property base key) = refl

-- what was laid of a reference, and values behind it
pub laid_alike : {T : Type 0} (reading : T → Label) (r : code.Reference T) (t : Target) (loose more : List (Labelled T)) → t ≡ target_for r → loose ≡ laid_for r ++ more → TakesAlike (target_of t (map (read_value reading) loose)) (refers reading r)
laid_alike reading r t loose more is lies v s =
    let parts : map (read_value reading) loose ≡ map (read_value reading) (laid_for r) ++ map (read_value reading) more = ap (map (read_value reading)) lies ∙ map-append (read_value reading) (laid_for r) more in
    ap (λ n. put_value n v s) (ap₂ target_of is parts) ∙ kept_alike reading (map (read_value reading) more) r v s

-- as many values as the reference keeps
pub laid_size : {T : Type 0} (r : code.Reference T) (t : Target) (loose more : List (Labelled T)) → t ≡ target_for r → loose ≡ laid_for r ++ more → owns_target t + length more ≡ length loose
laid_size r t loose more is lies =
    let size = length-append (laid_for r) more in
    let owned = owns_laid r in
    let here : length loose ≡ length (laid_for r ++ more) = ap length lies in
    let there : owns_target t ≡ owns_target (target_for r) = ap owns_target is in
    omega (arith, size, owned, here, there)

walk_has : {T : Type 0} (made : T → Type 0) (p : Place) (walk : T) → made walk → All (HasValue made) (walk_laid p walk)
walk_has made (place.Record e) walk has = none_has (HasValue made)
walk_has made place.Global walk has = none_has (HasValue made)
walk_has made place.Nowhere walk has = only (HasValue made) (record { value = value.Primitive Undefined; label = walk }) has

pub laid_has : {T : Type 0} (made : T → Type 0) (r : code.Reference T) → HasReference made r → All (HasValue made) (laid_for r)
laid_has made (Name named) has = walk_has made named.place named.walk has
laid_has made (Property base key) has = All-append (HasValue made) (base ∷ []) (key ∷ []) (only (HasValue made) base has.0) (only (HasValue made) key has.1)

-- labels of a store are labels of a later one
pub reference_later : {S T : Type 0} (made : S → T → Type 0) (meaning : S → T → Label) (room : S → ℕ) (firm : S → Bool) (earlier later : S) → IsKept made meaning room firm earlier later → (r : code.Reference T) → HasReference (made earlier) r → HasReference (made later) r
reference_later made meaning room firm earlier later kept (Name named) has = (kept.labels named.walk has).0
reference_later made meaning room firm earlier later kept (Property base key) has = ((kept.labels base.label has.0).0, (kept.labels key.label has.1).0)

-- it was laid where no value lay
pub laid_first : {T : Type 0} (old loose more : List (Labelled T)) → length old ≡ 0 → loose ≡ old ++ more → loose ≡ more
laid_first old loose more none laid = laid ∙ ap (λ vs. vs ++ more) (nil_from_length old none)

-- what a name keeps, by its place
pub owns_name : (x : Bor (List ℕ)) (p : Place) → owns_target (target.Name x p) ≡ owns_walk p
owns_name x (place.Record e) = refl
owns_name x place.Global = refl
owns_name x place.Nowhere = refl

-- a name that stands keeps no walk
pub no_walk : {T : Type 0} (p : Place) (walk : T) → ((e : EnvId) × p ≡ place.Record e) ⊎ (p ≡ place.Global) → walk_laid p walk ≡ []
no_walk p walk (inl (e, is)) = ap (λ q. walk_laid q walk) is
no_walk p walk (inr is) = ap (λ q. walk_laid q walk) is

pub owns_none : (p : Place) → ((e : EnvId) × p ≡ place.Record e) ⊎ (p ≡ place.Global) → owns_walk p ≡ 0
owns_none p (inl (e, is)) = ap owns_walk is
owns_none p (inr is) = ap owns_walk is

pub walks_nowhere : (p : Place) (vs : List Val) → ((e : EnvId) × p ≡ place.Record e) ⊎ (p ≡ place.Global) → walk_to p vs ≡ bottom
walks_nowhere p vs (inl (e, is)) = ap (λ q. walk_to q vs) is
walks_nowhere p vs (inr is) = ap (λ q. walk_to q vs) is

-- what lies behind the operands of a reference
pub target_front : (t : Target) (vs ws : List Val) → length vs ≡ owns_target t → target_of t (vs ++ ws) ≡ target_of t vs
target_front (target.Name x (place.Record e)) vs ws size = refl
target_front (target.Name x place.Global) vs ws size = refl
target_front (target.Name x place.Nowhere) [] ws size = absurd (omega (arith, size))
target_front (target.Name x place.Nowhere) (v ∷ vs) ws size = refl
target_front target.Property [] ws size = absurd (omega (arith, size))
target_front target.Property (v ∷ []) ws size = absurd (omega (arith, size))
target_front target.Property (v ∷ w ∷ vs) ws size = refl

-- the operands below a value, and that value
module _ {T : Type 0} (reading : T → Label) (front between : List (Labelled T)) (v : Labelled T) (lies : between ≡ front ++ v ∷ []) where
  parts : map (read_value reading) between ≡ map (read_value reading) front ++ read_value reading v ∷ []
  parts = ap (map (read_value reading)) lies ∙ values_more reading front v

  pub target_below : (t : Target) → length front ≡ owns_target t → target_of t (map (read_value reading) between) ≡ target_of t (map (read_value reading) front)
  target_below t size = ap (target_of t) parts ∙ target_front t (map (read_value reading) front) (read_value reading v ∷ []) (length-map front (read_value reading) ∙ size)

  pub value_above : (n : ℕ) → length front ≡ n → nth n (map (read_value reading) between) ≡ read_value reading v
  value_above n size = ap (nth n) parts ∙ subst (λ k. nth k (map (read_value reading) front ++ read_value reading v ∷ []) ≡ read_value reading v) (length-map front (read_value reading) ∙ size) (nth_behind (map (read_value reading) front) (read_value reading v) [])

  pub use_below : (how : Use) → length front ≡ owns_use how → use_of how (map (read_value reading) between) ≡ use_of how (map (read_value reading) front)
  use_below how size = ap (use_of how) parts ∙ use_kept how (map (read_value reading) front) (read_value reading v) (length-map front (read_value reading) ∙ size)
