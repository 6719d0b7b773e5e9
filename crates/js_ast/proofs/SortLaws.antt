-- Keys with their places, as loops gather them, and the order that a sort makes of them.
use Rattle.std.proofs.Common.{sym, ap, ◌∙◌, ◌≡◌, ◌<◌, ◌≤◌, ◌+◌, ◌-◌, zero, ℕ, false, List, [], ◌∷◌, ◌++◌, length, map, take, get_or, eqb, arith}
use Rattle.std.specs.Cmp.{IsTotalOrder}
use Rattle.std.specs.Cmp.Lexicographic.{slice_cmp, on_texts}
use Rattle.std.specs.Fn.{Called}
use Rattle.std.specs.List.{All, IsDistinct, enumerate_from}
use Rattle.std.specs.List.Sorted.{IsPermutation, IsSorted, IsSortedByClosure}
use Rattle.std.specs.Ordering.{nat_cmp, is_lt, ordering_then, ordering_reverse}
use Rattle.std.specs.declared.cmp.Ordering.{Ordering}
use Rattle.std.specs.declared.cmp.Ordering.TheVariants.{Less, Equal, Greater}
use Rattle.std.proofs.lemmas.Bool.{false≢true, eq-eqb, ne_eqb}
use Rattle.std.proofs.lemmas.Cmp.{then_total, on_total, nat_cmp_total, nat_eq_equiv, ranked}
use Rattle.std.proofs.lemmas.Fn.{always_returns_same}
use Rattle.std.proofs.lemmas.List.{get_or-map, get_or_default, length-map, map-append, take_more, take_all}
use Rattle.std.proofs.lemmas.List.FromFn.{length-enumerate_from, get_or-enumerate_from}
use Rattle.std.proofs.lemmas.List.Sorted.{All-permutation, IsPermutation-map, length_permutation, ranks_by}
use Rattle.std.proofs.lemmas.Map.Keys.{IsDistinct-from_apart, IsDistinct-IsPermutation, apart_from_distinct}
use Rattle.js_ast.specs.Orders.{rank, IsOrder}
use denote.Ref.{Bor}
use denote.Param.Members.{Mut}

-- ---- gathering

-- what stands at a place of a list with places
numbered : (keys : List (List ℕ)) (i : ℕ) (d : ℕ × List ℕ) → i < length keys → get_or (enumerate_from 0 keys) i d ≡ (i, get_or keys i d.1)
numbered keys i d lt = let e : 0 + i ≡ i = omega arith in get_or-enumerate_from 0 keys i d lt ∙ ap (λ n. (n, get_or keys i d.1)) e

-- one node more
pub keyed_more : {X Y : Type 0} (shown : X → ℕ × List ℕ) (key : Y → List ℕ) (front next : List X) (nodes : List Y) (i : ℕ) (x : X) (y : Y) → i < length nodes → y ≡ get_or nodes i y → shown x ≡ (i, key y) → next ≡ front ++ x ∷ []
    → map shown front ≡ take i (enumerate_from 0 (map key nodes)) → map shown next ≡ take (i + 1) (enumerate_from 0 (map key nodes))
keyed_more shown key front next nodes i x y lt is same grown so_far =
    ap (map shown) grown ∙ map-append shown front (x ∷ []) ∙ ap (λ l. l ++ shown x ∷ []) so_far ∙ ap (λ p. take i (enumerate_from 0 (map key nodes)) ++ p ∷ []) (same ∙ sym here)
    ∙ sym (take_more (enumerate_from 0 (map key nodes)) i (zero, []) (rw (length-enumerate_from 0 (map key nodes), length-map nodes key) lt))
  where
    here : get_or (enumerate_from 0 (map key nodes)) i (zero, []) ≡ (i, key y)
    here = numbered (map key nodes) i (zero, []) (rw (length-map nodes key) lt) ∙ ap (λ k. (i, k)) (get_or-map key nodes i y [] lt ∙ ap key (sym is))

-- and all of them
pub keyed_all : {X Y : Type 0} (shown : X → ℕ × List ℕ) (key : Y → List ℕ) (front : List X) (nodes : List Y) (i : ℕ) → length nodes ≤ i
    → map shown front ≡ take i (enumerate_from 0 (map key nodes)) → map shown front ≡ enumerate_from 0 (map key nodes)
keyed_all shown key front nodes i le so_far = so_far ∙ take_all i (enumerate_from 0 (map key nodes)) (rw (length-enumerate_from 0 (map key nodes), length-map nodes key) le)

-- ---- sorting

-- of two that differ the second isn't in front of the first
stands_in_front : (r s : Ordering) → r ≡ ordering_reverse s → is_lt s ≡ false → (r ≡ Equal → ⊥) → r ≡ Less
stands_in_front r Less e h ne = absurd (false≢true (sym h))
stands_in_front r Equal e h ne = absurd (ne e)
stands_in_front r Greater e h ne = e

then_equal : (a b : Ordering) → ordering_then a b ≡ Equal → b ≡ Equal
then_equal Less b e = cc
then_equal Equal b e = e
then_equal Greater b e = cc

module _ {X : Type 0} (key : X → List ℕ) (place : X → ℕ) where
  -- by the key, and then by the place
  abbrev pub by_key : X → X → Ordering
  by_key x y = ordering_then (slice_cmp nat_cmp (key x) (key y)) (nat_cmp (place x) (place y))

  by_key_total : IsTotalOrder by_key
  by_key_total = then_total (on_texts key) (on_total place nat_cmp_total)

  -- what a sort by a closure says where it compares so
  pub sorted_by_key : {F : Type 0} {g : Mut F (Bor X × (Bor X × Unit {0})) Ordering} {f : F} (ys : List X) → IsSortedByClosure g f ys
      → ((a : Bor X × (Bor X × Unit {0})) (r : Ordering) (f' : F) → Called g f a r f' → (r ≡ by_key a.0.now a.1.0.now) × (f' ≡ f)) → IsSorted by_key ys
  sorted_by_key {g = g} {f = f} ys up h = up (λ x y. is_lt (by_key x y)) (ranks_by by_key_total (λ x. x))
      (always_returns_same g (λ a r. is_lt r ≡ is_lt (by_key a.0.now a.1.0.now)) f (λ a r f' k. (ap is_lt (h a r f' k).0, (h a r f' k).1)))

  module _ (keys : List (List ℕ)) (xs ys : List X) (all : map (λ x. (place x, key x)) xs ≡ enumerate_from 0 keys) (moved : IsPermutation xs ys) (up : IsSorted by_key ys) where
    as_many : length xs ≡ length keys
    as_many = sym (length-map xs (λ x. (place x, key x))) ∙ ap length all ∙ length-enumerate_from 0 keys

    shown : (i : ℕ) (d : X) → i < length xs → ◌≡◌ {A = ℕ × List ℕ} (place (get_or xs i d), key (get_or xs i d)) (i, get_or keys i (key d))
    shown i d lt = sym (get_or-map (λ x. (place x, key x)) xs i d (place d, key d) lt) ∙ ap (λ l. get_or l i (place d, key d)) all ∙ numbered keys i (place d, key d) (rw (← as_many) lt)

    -- its place is that of its key
    abbrev Stands : X → Type 0
    Stands x = (place x < length keys) × (get_or keys (place x) [] ≡ key x)

    placed : (i : ℕ) (d : X) → i < length xs → place (get_or xs i d) ≡ i
    placed i d lt = ap (λ p. p.0) (shown i d lt)

    all_stand : All Stands ys
    all_stand = All-permutation Stands xs ys moved (λ i d lt.
        let at = placed i d lt in
        let many = as_many in
        (omega arith, ap (λ n. get_or keys n []) at ∙ get_or_default keys i [] (key d) (omega arith) ∙ sym (ap (λ p. p.1) (shown i d lt))))

    module _ (d : X) where
      all_apart : IsDistinct eqb (map place ys)
      all_apart = IsDistinct-IsPermutation eqb nat_eq_equiv.symm (map place xs) (map place ys) (IsPermutation-map place xs ys moved) (IsDistinct-from_apart eqb (map place xs) (λ i j e lt in_list.
          let in_xs : j < length xs = rw (← length-map xs place) in_list in
          ne_eqb (get_or (map place xs) i e) (get_or (map place xs) j e) (λ same.
          let m = get_or-map place xs i d e (omega arith) ∙ placed i d (omega arith) in
          let n = get_or-map place xs j d e in_xs ∙ placed j d in_xs in
          omega arith)))

      -- neighbours
      rises : (p : ℕ) → 0 < p → p < length (map place ys) → rank keys (get_or (map place ys) (p - 1) 0) (get_or (map place ys) p 0) ≡ Less
      rises p pos lt =
          let in_ys : p < length ys = rw (← length-map ys place) lt in
          rw (get_or-map place ys (p - 1) d 0 (omega arith), get_or-map place ys p d 0 in_ys, (all_stand (p - 1) d (omega arith)).1, (all_stand p d in_ys).1)
          (stands_in_front (by_key (get_or ys (p - 1) d) (get_or ys p d)) (by_key (get_or ys p d) (get_or ys (p - 1) d)) (by_key_total.antisymm (get_or ys (p - 1) d) (get_or ys p d))
          (let e : p - 1 + 1 ≡ p = omega arith in rw e at (up (p - 1) d (omega arith) (omega arith)))
          (λ same. false≢true (sym (apart_from_distinct eqb (map place ys) (p - 1) p 0 all_apart (omega arith) lt)
          ∙ eq-eqb (get_or (map place ys) (p - 1) 0) (get_or (map place ys) p 0) (get_or-map place ys (p - 1) d 0 (omega arith)
          ∙ ranked (place (get_or ys (p - 1) d)) (place (get_or ys p d)) Equal (sym (then_equal (slice_cmp nat_cmp (key (get_or ys (p - 1) d)) (key (get_or ys p d))) (nat_cmp (place (get_or ys (p - 1) d)) (place (get_or ys p d))) same))
          ∙ sym (get_or-map place ys p d 0 in_ys)))))

      names_one : (p : ℕ) → p < length (map place ys) → get_or (map place ys) p 0 < length keys
      names_one p lt = let in_ys : p < length ys = rw (← length-map ys place) lt in rw (get_or-map place ys p d 0 in_ys) (all_stand p d in_ys).0

    long : length (map place ys) ≡ length keys
    long = length-map ys place ∙ length_permutation xs ys moved ∙ as_many

  -- a sort of keys with their places makes the order
  pub sorted_places : (keys : List (List ℕ)) (xs ys : List X) → map (λ x. (place x, key x)) xs ≡ enumerate_from 0 keys → IsPermutation xs ys → IsSorted by_key ys → IsOrder keys (map place ys)
  sorted_places keys xs [] all moved up = record { all = long keys xs [] all moved up; within = λ p lt. absurd (omega arith); rises = λ p pos lt. absurd (omega arith) }
  sorted_places keys xs (y ∷ ys) all moved up = record { all = long keys xs (y ∷ ys) all moved up; within = names_one keys xs (y ∷ ys) all moved up y; rises = rises keys xs (y ∷ ys) all moved up y }
