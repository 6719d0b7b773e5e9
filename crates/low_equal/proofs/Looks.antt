-- Looks, which raise the innermost frame, and throws of values: in one run and in two.
use Rattle.std.proofs.Common.{refl, subst}
use Rattle.origin_labels.specs.Label.{Label, bottom}
use Rattle.flow_policy.specs.Policies.{Tables}
use Rattle.js_values.specs.declared.value.Value.{Value}
use Rattle.native_protocol.specs.declared.request.Seen.{Seen}
use Rattle.es_meaning.specs.Outcomes.{throws, ◌>>=◌}
use Rattle.flow_meaning.specs.Scopes.{Val, Jump, L, raise, jump}
use Rattle.flow_meaning.specs.Tracked.{seen as seen_in}
use Rattle.low_equal.specs.LowEqual.{Pairing, Extends, SameValue, Agree}
use Rattle.low_equal.specs.Runs.{Confined, InStep, Lockstep}
use Rattle.low_equal.proofs.Agreement.{extends_refl, extends_trans, value_more, agree_more, agree_seen, label_alike}
use Rattle.low_equal.proofs.Steps.{conf_bind, lock_bind}
use Rattle.low_equal.proofs.Acts.{conf_jump, jump_seen, conf_raise, lock_raise, seen_same}
use Rattle.low_equal.proofs.References.{conf_at}

module _ (observer : Label) (tables : Tables) where
  -- ---- what is seen of a value decides what is done

  pub conf_look : (v : Val) (k : Seen → L Val) → ((x : Seen) → Confined observer tables (k x)) → Confined observer tables (raise v.label >>= λ u s. k (seen_in s.heap v.value) s)
  conf_look v k c = conf_bind observer tables (λ u s. k (seen_in s.heap v.value) s) (conf_raise observer tables v.label) (λ u. conf_at observer tables (λ s. k (seen_in s.heap v.value)) (λ s. c (seen_in s.heap v.value)))

  -- behind a raise that is still seen, the same is seen of both
  seen_then : {β : Pairing} (P : Pairing → Val → Val → Type 0) (v u : Value) (k j : Seen → L Val) → ((γ : Pairing) → Extends β γ → (x : Seen) → Lockstep observer tables P γ (k x) (j x)) → SameValue β v u
      → Lockstep observer tables P β (λ s. k (seen_in s.heap v) s) (λ s. j (seen_in s.heap u) s)
  seen_then P v u k j h p = record {
    steps = λ γ e s t r w. subst (λ x. InStep observer tables P γ (k (seen_in s.heap v) s) (j x t)) (seen_same observer tables r.heap (value_more observer e p)) ((h γ e (seen_in s.heap v)).steps γ (extends_refl γ) s t r w);
  }

  -- in step while the raised frame is seen, and apart from there on
  pub lock_look : {β : Pairing} (P : Pairing → Val → Val → Type 0) (v u : Val) (k j : Seen → L Val) → Agree observer β v u → ((x : Seen) → Confined observer tables (k x)) → ((x : Seen) → Confined observer tables (j x))
      → ((γ : Pairing) → Extends β γ → (x : Seen) → Lockstep observer tables P γ (k x) (j x)) → Lockstep observer tables P β (raise v.label >>= λ a s. k (seen_in s.heap v.value) s) (raise u.label >>= λ a s. j (seen_in s.heap u.value) s)
  lock_look {β} P v u k j a c d h = lock_bind observer tables (λ γ x y. SameValue β v.value u.value) P (λ x s. k (seen_in s.heap v.value) s) (λ x s. j (seen_in s.heap u.value) s)
      (lock_raise observer tables (SameValue β v.value u.value) (label_alike observer a) (λ q. agree_seen observer a q))
      (λ x. conf_at observer tables (λ s. k (seen_in s.heap v.value)) (λ s. c (seen_in s.heap v.value))) (λ x. conf_at observer tables (λ s. j (seen_in s.heap u.value)) (λ s. d (seen_in s.heap u.value)))
      (λ γ e x y p. seen_then P v.value u.value k j (λ δ f z. h δ (extends_trans e f) z) (value_more observer e p))

  -- ---- a value is thrown

  abbrev pub thrown_jump : Val → Jump
  thrown_jump v = record { exit = throws; to = 0; value = v }

  pub conf_throw_value : (v : Val) → Confined observer tables {X = Val} (jump bottom (thrown_jump v))
  conf_throw_value v = conf_jump observer tables bottom (thrown_jump v)

  pub lock_throw_value : (P : Pairing → Val → Val → Type 0) {β : Pairing} {v u : Val} → Agree observer β v u → Lockstep observer tables P β (jump bottom (thrown_jump v)) (jump bottom (thrown_jump u))
  lock_throw_value P a = record { steps = λ γ e s t r w. jump_seen observer tables P bottom s t (record { exit = refl; to = refl; value = agree_more observer e a }) r w }
