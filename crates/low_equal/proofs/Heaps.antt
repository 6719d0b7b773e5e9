-- Heaps that agree: one object more on one side, and one more on both.
use Rattle.std.proofs.Common.{◌≡◌, ℕ, zero, suc, ◌<◌, List, [], ◌∷◌, ◌++◌, length, Option, Some, None, Bool, true, false, nat_eq, ◌&&◌, ◌||◌, slice_get, ◌⊎◌, inl, inr, ⊎_elim, refl, sym, ◌∙◌, ap, subst, true≢false, arith}
use Rattle.std.proofs.lemmas.Bool.{and_parts, and_from, eqb-true, eq-eqb}
use Rattle.std.proofs.lemmas.Option.{same_Some}
use Rattle.origin_labels.specs.Label.{Label}
use Rattle.js_values.specs.Objects.{Object}
use Rattle.es_meaning.specs.Start.{start_heap}
use Rattle.low_equal.specs.LowEqual.{Pairing, IsOneToOne, Extends, ObjectsAgree, IsFormed, FormedAt, HeapsAgree}
use Rattle.low_equal.proofs.Agreement.{flipped, flipped_unique, objects_more, objects_sym, both_sym, two, both_by}

-- ---- lists

pub none_some : {A : Type 0} (a : A) → None ≡ Some a → ⊥
none_some a e = true≢false (ap (λ (o : Option _). elim o [ None ↦ true | Some x ↦ false ]) e)

pub get_new : {A : Type 0} (xs : List A) (x : A) → slice_get (xs ++ x ∷ []) (length xs) ≡ Some x
get_new [] x = refl
get_new (y ∷ xs) x = get_new xs x

pub get_old : {A : Type 0} (xs : List A) (x a : A) (i : ℕ) → slice_get xs i ≡ Some a → slice_get (xs ++ x ∷ []) i ≡ Some a
get_old [] x a i e = absurd (none_some a e)
get_old (y ∷ xs) x a zero e = e
get_old (y ∷ xs) x a (suc i) e = get_old xs x a i e

pub get_below : {A : Type 0} (xs : List A) (a : A) (i : ℕ) → slice_get xs i ≡ Some a → i < length xs
get_below [] a i e = absurd (none_some a e)
get_below (x ∷ xs) a zero e = omega arith
get_below (x ∷ xs) a (suc i) e = let h = get_below xs a i e in omega arith

-- what stands in the longer list is old or new
pub get_cases : {A : Type 0} (xs : List A) (x a : A) (i : ℕ) → slice_get (xs ++ x ∷ []) i ≡ Some a → (slice_get xs i ≡ Some a) ⊎ ((i ≡ length xs) × (x ≡ a))
get_cases [] x a zero e = inr (refl, same_Some x a e)
get_cases [] x a (suc i) e = absurd (none_some a e)
get_cases (y ∷ xs) x a zero e = inl e
get_cases (y ∷ xs) x a (suc i) e = ⊎_elim (λ h. inl h) (λ h. inr (ap suc h.0, h.1)) (get_cases xs x a i e)

-- ---- pairs

-- with one pair more
abbrev pub with_pair : (ℕ → ℕ → Bool) → ℕ → ℕ → ℕ → ℕ → Bool
with_pair pairs a b i j = (nat_eq i a && nat_eq j b) || pairs i j

pub pair_old : (pairs : ℕ → ℕ → Bool) (a b i j : ℕ) → pairs i j ≡ true → with_pair pairs a b i j ≡ true
pair_old pairs a b i j p = go (nat_eq i a && nat_eq j b)
  where
    go : (x : Bool) → (x || pairs i j) ≡ true
    go true = refl
    go false = p

pub pair_new : (pairs : ℕ → ℕ → Bool) (a b : ℕ) → with_pair pairs a b a b ≡ true
pair_new pairs a b = ap (λ x. x || pairs a b) (and_from (nat_eq a a) (nat_eq b b) (eq-eqb a a refl) (eq-eqb b b refl))

pub pair_cases : (pairs : ℕ → ℕ → Bool) (a b i j : ℕ) → with_pair pairs a b i j ≡ true → ((i ≡ a) × (j ≡ b)) ⊎ (pairs i j ≡ true)
pair_cases pairs a b i j p = go (nat_eq i a && nat_eq j b) refl p
  where
    go : (x : Bool) → (nat_eq i a && nat_eq j b) ≡ x → (x || pairs i j) ≡ true → ((i ≡ a) × (j ≡ b)) ⊎ (pairs i j ≡ true)
    go true e q = let h = and_parts (nat_eq i a) (nat_eq j b) e in inl (eqb-true i a h.0, eqb-true j b h.1)
    go false e q = inr q

-- a pair of numbers that no pair has leaves a pairing one to one
pub pair_unique : (pairs : ℕ → ℕ → Bool) (a b : ℕ) → IsOneToOne pairs → ((i j : ℕ) → pairs i j ≡ true → (i ≡ a → ⊥) × (j ≡ b → ⊥)) → IsOneToOne (with_pair pairs a b)
pair_unique pairs a b u free i j k l p q = go (pair_cases pairs a b i j p) (pair_cases pairs a b k l q)
  where
    go : ((i ≡ a) × (j ≡ b)) ⊎ (pairs i j ≡ true) → ((k ≡ a) × (l ≡ b)) ⊎ (pairs k l ≡ true) → (i ≡ k → j ≡ l) × (j ≡ l → i ≡ k)
    go (inl x) (inl y) = (λ e. x.1 ∙ sym y.1, λ e. x.0 ∙ sym y.0)
    go (inl x) (inr y) = (λ e. absurd ((free k l y).0 (sym e ∙ x.0)), λ e. absurd ((free k l y).1 (sym e ∙ x.1)))
    go (inr x) (inl y) = (λ e. absurd ((free i j x).0 (e ∙ y.0)), λ e. absurd ((free i j x).1 (e ∙ y.1)))
    go (inr x) (inr y) = u i j k l x y

abbrev pub with_objects : Pairing → ℕ → ℕ → Pairing
with_objects β a b = record { objects = with_pair β.objects a b; records = β.records }

pub extends_objects : (β : Pairing) (a b : ℕ) → Extends β (with_objects β a b)
extends_objects β a b = record { objects = λ i j p. pair_old β.objects a b i j p; records = λ i j p. p }

module _ (observer : Label) where
  pub heap_sym : {β : Pairing} {h g : List (Object Label)} → HeapsAgree observer β h g → HeapsAgree observer (flipped β) g h
  heap_sym {β} r = record {
    starts = λ o l. r.starts o l;
    paired = λ o q p. both_sym (λ a b x. objects_sym observer x) (r.paired q o p);
    one_to_one = flipped_unique r.one_to_one;
    left = λ o q p. r.right q o p;
    right = λ o q p. r.left q o p;
  }

  -- the start objects stand
  pub start_stands : {β : Pairing} {h g : List (Object Label)} → HeapsAgree observer β h g → (o : ℕ) → o < length start_heap → o < length h
  start_stands {h = h} r o l = let t = two (r.paired o o (r.starts o l)) in get_below h t.one o t.is_one

  -- an object that stood is as well formed as it was
  pub formed_more : (h : List (Object Label)) (p a : Object Label) (o : ℕ) → slice_get h o ≡ Some a → FormedAt observer h o → FormedAt observer (h ++ p ∷ []) o
  formed_more h p a o here f b e = f b (here ∙ sym (get_old h p a o here) ∙ e)

  -- and so is a new one
  pub formed_new : (h : List (Object Label)) (p : Object Label) (o : ℕ) → o ≡ length h → IsFormed observer (length h) p → FormedAt observer (h ++ p ∷ []) o
  formed_new h p o n k b e = subst (λ m. IsFormed observer m b) (sym n) (subst (IsFormed observer (length h)) (same_Some p b (sym (get_new h p) ∙ ap (slice_get (h ++ p ∷ [])) (sym n) ∙ e)) k)

  -- an object more on one side
  pub new_left : {β : Pairing} {h g : List (Object Label)} (p : Object Label) → HeapsAgree observer β h g → HeapsAgree observer β (h ++ p ∷ []) g
  new_left {β} {h} {g} p r = record {
    starts = r.starts;
    paired = λ o q x. let t = two (r.paired o q x) in both_by (ObjectsAgree observer β) (get_old h p t.one o t.is_one) t.is_other t.related;
    one_to_one = r.one_to_one;
    left = λ o q x. let t = two (r.paired o q x) in formed_more h p t.one o t.is_one (r.left o q x);
    right = r.right;
  }

  -- a pair of objects more
  pub new_both : {β : Pairing} {h g : List (Object Label)} (p q : Object Label) → IsFormed observer (length h) p → IsFormed observer (length g) q → ObjectsAgree observer β p q → HeapsAgree observer β h g
      → HeapsAgree observer (with_objects β (length h) (length g)) (h ++ p ∷ []) (g ++ q ∷ [])
  new_both {β} {h} {g} p q k l a r = record {
    starts = λ o b. pair_old β.objects (length h) (length g) o o (r.starts o b);
    paired = λ o n x. ⊎_elim
        (λ e. both_by (ObjectsAgree observer γ) (ap (slice_get (h ++ p ∷ [])) e.0 ∙ get_new h p) (ap (slice_get (g ++ q ∷ [])) e.1 ∙ get_new g q) (objects_more observer more a))
        (λ e. let t = two (r.paired o n e) in both_by (ObjectsAgree observer γ) (get_old h p t.one o t.is_one) (get_old g q t.other n t.is_other) (objects_more observer more t.related))
        (pair_cases β.objects (length h) (length g) o n x);
    one_to_one = pair_unique β.objects (length h) (length g) r.one_to_one (λ i j x. let t = two (r.paired i j x) in let a = get_below h t.one i t.is_one in let b = get_below g t.other j t.is_other in (λ e. absurd (omega arith), λ e. absurd (omega arith)));
    left = λ o n x. ⊎_elim (λ e. formed_new h p o e.0 k) (λ e. let t = two (r.paired o n e) in formed_more h p t.one o t.is_one (r.left o n e)) (pair_cases β.objects (length h) (length g) o n x);
    right = λ o n x. ⊎_elim (λ e. formed_new g q n e.1 l) (λ e. let t = two (r.paired o n e) in formed_more g q t.other n t.is_other (r.right o n e)) (pair_cases β.objects (length h) (length g) o n x);
  }
    where
      γ : Pairing
      γ = with_objects β (length h) (length g)

      more : Extends β γ
      more = extends_objects β (length h) (length g)
