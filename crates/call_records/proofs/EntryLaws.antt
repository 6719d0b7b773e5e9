-- Values that are put in places in turn.
use Rattle.std.proofs.Common.{refl, sym, ap, ap₂, ◌∙◌, ◌≡◌, ◌+◌, ◌-◌, ◌<◌, ◌≤◌, ℕ, List, [], ◌∷◌, ◌++◌, length, drop, get_or, set, Option, None, IsSome, arith}
use Rattle.std.proofs.Math.ListN.{replicate}
use Rattle.std.proofs.lemmas.Bool.{false≢true}
use Rattle.std.proofs.lemmas.List.{drop_more, at_drop_all, replicate_more}
use Rattle.call_records.specs.Placed.{placed}

-- no value
abbrev pub nothing : (V : Type 0) → Option V
nothing V = None

module _ {V : Type 0} where
  none_left : (vs : List V) (n : ℕ) → n ≡ length vs → (0 < n → IsSome (nothing V)) → vs ≡ []
  none_left [] n size some = refl
  none_left (v ∷ vs) n size some = absurd (false≢true (some (omega arith)))

  -- where no value is left `missing` stands for it
  pub next_missing : (old new : List V) (n : ℕ) (missing v : V) → n ≡ length old → (0 < n → IsSome (nothing V)) → old ≡ [] ++ new → v ≡ missing → (p : ℕ) (ps : List ℕ) (all : List V) → placed missing (p ∷ ps) old all ≡ placed missing ps new (set all p v)
  next_missing old new n missing v size some same is = λ p ps all.
      ap (λ vs. placed missing (p ∷ ps) vs all) (none_left old n size some)
      ∙ ap₂ (λ vs w. placed missing ps vs (set all p w)) (sym (none_left old n size some) ∙ same) (sym is)

  pub next_value : (old new : List V) (missing v : V) → old ≡ (v ∷ []) ++ new → (p : ℕ) (ps : List ℕ) (all : List V) → placed missing (p ∷ ps) old all ≡ placed missing ps new (set all p v)
  next_value old new missing v is = λ p ps all. ap (λ vs. placed missing (p ∷ ps) vs all) is

  -- one place more
  pub put_next : (ps : List ℕ) (k p : ℕ) (missing v : V) (old new all next whole : List V) → k < length ps → p ≡ get_or ps k 0 → ((q : ℕ) (qs : List ℕ) (vs : List V) → placed missing (q ∷ qs) old vs ≡ placed missing qs new (set vs q v))
      → next ≡ set all p v → placed missing (drop k ps) old all ≡ whole → placed missing (drop (k + 1) ps) new next ≡ whole
  put_next ps k p missing v old new all next whole lt is one changed so_far =
      ap (placed missing (drop (k + 1) ps) new) changed ∙ sym (one p (drop (k + 1) ps) all)
      ∙ ap (λ qs. placed missing qs old all) (ap (λ q. q ∷ drop (k + 1) ps) is ∙ sym (drop_more ps k 0 lt)) ∙ so_far

  pub put_all : (ps : List ℕ) (k : ℕ) (missing : V) (vs all whole : List V) → length ps ≤ k → placed missing (drop k ps) vs all ≡ whole → all ≡ whole
  put_all ps k missing vs all whole le so_far = sym (at_drop_all (λ qs. placed missing qs vs all) ps k le) ∙ so_far

  -- one `missing` more
  pub more_missing : (this function missing v : V) (k : ℕ) (old new : List V) → 2 ≤ k → old ≡ this ∷ function ∷ replicate (k - 2) missing → new ≡ old ++ v ∷ [] → v ≡ missing → new ≡ this ∷ function ∷ replicate (k + 1 - 2) missing
  more_missing this function missing v k old new le so_far one is =
      let next : k - 2 + 1 ≡ k + 1 - 2 = omega arith in
      one ∙ ap₂ (λ vs w. vs ++ w ∷ []) so_far is ∙ ap (λ vs. this ∷ function ∷ vs) (replicate_more (k - 2) missing ∙ ap (λ n. replicate n missing) next)
