-- The operand of a use and the base of a property, beside other values.
use Rattle.std.proofs.Common.{refl, ap, ap₂, subst, ◌≡◌, ◌<◌, ℕ, zero, suc, List, [], ◌∷◌, ◌++◌, length, arith}
use Rattle.es_meaning.specs.Operations.{given_text}
use Rattle.es_meaning.specs.Plain.{key_text}
use Rattle.flow_meaning.specs.Scopes.{Val}
use Rattle.continuations.specs.declared.continuation.Use.{Use}
use Rattle.continuations.specs.declared.continuation.Use.TheVariants.{Assigned, Updated, Prefixed, Postfixed, Asked, Valued, Deleted, GivenText, Called}
use Rattle.flow_meaning.specs.Tracked.{of_name}
use Rattle.run_state.specs.declared.outcome.Place.TheVariants as place
use Rattle.run_state.specs.Names.{place_of, property_of}
use Rattle.continuations.specs.declared.continuation.Target.{Target}
use Rattle.continuations.specs.declared.continuation.Target.TheVariants as target
use Rattle.continuations.specs.Pending.{owns_target, owns_use}
use Rattle.continuations.specs.Shapes.{nth, target_of, use_of}

-- one of values that begin others
pub nth_kept : (n : ℕ) (vs us : List Val) → n < length vs → nth n (vs ++ us) ≡ nth n vs
nth_kept n [] us few = let no : zero ≡ suc zero = omega (arith, few) in cc no
nth_kept zero (v ∷ vs) us few = refl
nth_kept (suc n) (v ∷ vs) us few = nth_kept n vs us (omega (arith, few))

-- the value behind others
pub nth_behind : (vs : List Val) (v : Val) (us : List Val) → nth (length vs) (vs ++ v ∷ us) ≡ v
nth_behind [] v us = refl
nth_behind (w ∷ vs) v us = nth_behind vs v us

pub use_kept : (how : Use) (vs : List Val) (v : Val) → length vs ≡ owns_use how → use_of how (vs ++ v ∷ []) ≡ use_of how vs
use_kept (Assigned e) vs v few = refl
use_kept (Updated o e) vs v few = refl
use_kept (Prefixed o) vs v few = refl
use_kept (Postfixed o) vs v few = refl
use_kept Asked vs v few = refl
use_kept Valued vs v few = refl
use_kept (Called es) vs v few = refl
use_kept Deleted vs v few = refl
use_kept GivenText vs v few = ap (λ u. given_text (key_text u.value)) (nth_kept 0 vs (v ∷ []) (omega (arith, few)))

pub base_kept : (how : Use) (vs : List Val) (v : Val) → length vs ≡ owns_use how → nth (owns_use how) (vs ++ v ∷ []) ≡ v
base_kept how vs v few = subst (λ n. nth n (vs ++ v ∷ []) ≡ v) few (nth_behind vs v [])

pub target_kept : (t : Target) (vs : List Val) (v : Val) → length vs ≡ owns_target t → target_of t (vs ++ v ∷ []) ≡ target_of t vs
target_kept (target.Name x (place.Record e)) vs v few = refl
target_kept (target.Name x place.Global) vs v few = refl
target_kept (target.Name x place.Nowhere) vs v few = ap (λ (u : Val). of_name x.now (place_of place.Nowhere) u.label) (nth_kept 0 vs (v ∷ []) (omega (arith, few)))
target_kept target.Property vs v few = ap₂ property_of (nth_kept 0 vs (v ∷ []) (omega (arith, few))) (nth_kept 1 vs (v ∷ []) (omega (arith, few)))

pub last_kept : (n : ℕ) (vs : List Val) (v : Val) → length vs ≡ n → nth n (vs ++ v ∷ []) ≡ v
last_kept n vs v size = subst (λ m. nth m (vs ++ v ∷ []) ≡ v) size (nth_behind vs v [])
