-- What is told first: of two lists, the earlier of what is told first of each.
use Rattle.std.proofs.Common.{arith, refl, ap, ◌∙◌, ◌≡◌, ℕ, Bool, true, false, nat_lt, ◌==◌, ◌&&◌, ◌||◌, List, [], ◌∷◌, ◌++◌, Option, Some, None, cond}
use Rattle.js_faults.specs.declared.fault.EarlyError.{EarlyError}
use Rattle.js_faults.specs.Faults.{Order, precedes, earlier_by, first_by, by_kind, earlier, first_of}

-- of two pairs in turn the first numbers decide, and where they are equal the second: this is transitive, and so is its opposite
below : (a b c m n k : ℕ) → (nat_lt b a || (b == a && nat_lt n m)) ≡ true → (nat_lt c b || (c == b && nat_lt k n)) ≡ true → (nat_lt c a || (c == a && nat_lt k m)) ≡ false → ⊥
below a b c m n k x y z = grind (arith, x, y, z)

above : (a b c m n k : ℕ) → (nat_lt b a || (b == a && nat_lt n m)) ≡ false → (nat_lt c b || (c == b && nat_lt k n)) ≡ false → (nat_lt c a || (c == a && nat_lt k m)) ≡ true → ⊥
above a b c m n k x y z = grind (arith, x, y, z)

module _ {F : Type 0} (order : Order F) where
  clash_below : (f g h : F) → precedes order g f ≡ true → precedes order h g ≡ true → precedes order h f ≡ false → ⊥
  clash_below f g h = below (order.at f) (order.at g) (order.at h) (order.row f) (order.row g) (order.row h)

  clash_above : (f g h : F) → precedes order g f ≡ false → precedes order h g ≡ false → precedes order h f ≡ true → ⊥
  clash_above f g h = above (order.at f) (order.at g) (order.at h) (order.row f) (order.row g) (order.row h)

  pub earlier_by_assoc : (f g h : Option F) → earlier_by order f (earlier_by order g h) ≡ earlier_by order (earlier_by order f g) h
  earlier_by_assoc None g h = refl
  earlier_by_assoc (Some f) None h = refl
  earlier_by_assoc (Some f) (Some g) None = none_last (precedes order g f) f g
    where
      none_last : (b : Bool) (f g : F) → cond b (Some g) (Some f) ≡ earlier_by order (cond b (Some g) (Some f)) None
      none_last true f g = refl
      none_last false f g = refl
  earlier_by_assoc (Some f) (Some g) (Some h) = three (precedes order g f) (precedes order h g) (precedes order h f) refl refl refl
    where
      three : (a b c : Bool) → precedes order g f ≡ a → precedes order h g ≡ b → precedes order h f ≡ c
          → earlier_by order (Some f) (cond (precedes order h g) (Some h) (Some g)) ≡ earlier_by order (cond (precedes order g f) (Some g) (Some f)) (Some h)
      three true true true x y z = rw (x, y, z) refl
      three true false c x y z = rw (x, y, x) refl
      three false true c x y z = rw (x, y) refl
      three false false false x y z = rw (x, y, x, z) refl
      three true true false x y z = absurd (clash_below f g h x y z)
      three false false true x y z = absurd (clash_above f g h x y z)

  pub first_by_append : (fs gs : List F) → first_by order (fs ++ gs) ≡ earlier_by order (first_by order fs) (first_by order gs)
  first_by_append [] gs = refl
  first_by_append (f ∷ fs) gs = ap (earlier_by order (Some f)) (first_by_append fs gs) ∙ earlier_by_assoc (Some f) (first_by order fs) (first_by order gs)

-- ---- early errors

pub earlier_assoc : (f g h : Option EarlyError) → earlier f (earlier g h) ≡ earlier (earlier f g) h
earlier_assoc f g h = earlier_by_assoc by_kind f g h

pub first_of_append : (fs gs : List EarlyError) → first_of (fs ++ gs) ≡ earlier (first_of fs) (first_of gs)
first_of_append fs gs = first_by_append by_kind fs gs

-- ---- directives, of which one at most is told at a place

pub place_alone : (a b : ℕ) → nat_lt a b ≡ (nat_lt a b || (a == b && nat_lt 0 0))
place_alone a b = grind (arith)
