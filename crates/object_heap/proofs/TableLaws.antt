-- Properties with an index of their keys.
use Rattle.std.proofs.Common.{◌≡◌, ℕ, zero, suc, ◌<◌, ◌≤◌, inl, inr, true≢false, Bool, true, false, cond, List, [], ◌∷◌, ◌++◌, take, length, get_or, set, Option, Some, None, refl, sym, ap, subst, ◌∙◌, arith}
use Rattle.std.specs.Prelude.{nat_lt}
use Rattle.std.specs.List.{AllByRecursion, IsDistinct, position, position_or_len, remove}
use Rattle.std.specs.Cmp.Lexicographic.{bytes_decides}
use Rattle.std.specs.declared.boxed.Box.{Box}
use Rattle.std.proofs.lemmas.Bool.{cond-true, cond-false, cases_lt, lt-ltb}
use Rattle.std.proofs.lemmas.List.Quantifiers.{position-Some}
use Rattle.std.proofs.lemmas.List.Sums.{fails_before_first, position_or_len_is}
use Rattle.std.proofs.lemmas.Option.{none-some}
use Rattle.origin_labels.specs.Names.{same_name}
use Rattle.js_values.specs.Objects.{Rows, own, changed, without, keys_of}
use Rattle.object_heap.specs.Places.{IsPlace, StandsAt, changed_at_place}
use Rattle.object_heap.specs.Tables.{indexed}
use Rattle.object_heap.proofs.PlaceLaws.{place_none, place_set}

-- ---- the keys of rows that change

module _ {S : Type 0} where
  pub keys_push : (rows : Rows S) (r : List ℕ × S) → keys_of (rows ++ r ∷ []) ≡ keys_of rows ++ r.0 ∷ []
  keys_push [] r = refl
  keys_push (x ∷ rows) r = ap (λ ks. x.0 ∷ ks) (keys_push rows r)

  pub keys_set : (rows : Rows S) (i : ℕ) (r x : List ℕ × S) → r ≡ get_or rows i r → x.0 ≡ r.0 → keys_of (set rows i x) ≡ keys_of rows
  keys_set [] i r x read same = refl
  keys_set (y ∷ rows) zero r x read same = ap (λ k. k ∷ keys_of rows) (same ∙ ap (λ (z : List ℕ × S). z.0) read)
  keys_set (y ∷ rows) (suc i) r x read same = ap (λ ks. y.0 ∷ ks) (keys_set rows i r x read same)

  pub keys_take : (rows : Rows S) (i : ℕ) → keys_of (take i rows) ≡ take i (keys_of rows)
  keys_take rows zero = refl
  keys_take [] (suc i) = refl
  keys_take (x ∷ rows) (suc i) = ap (λ ks. x.0 ∷ ks) (keys_take rows i)

  pub keys_next : (rows : Rows S) (i n : ℕ) (r : List ℕ × S) → i < length rows → r ≡ get_or rows i r → n ≡ suc i → keys_of (take n rows) ≡ keys_of (take i rows) ++ r.0 ∷ []
  keys_next rows i n r lt read is = ap (λ k. keys_of (take k rows)) is ∙ more rows i lt read
    where
      more : (rows : Rows S) (i : ℕ) → i < length rows → r ≡ get_or rows i r → keys_of (take (suc i) rows) ≡ keys_of (take i rows) ++ r.0 ∷ []
      more [] i lt read = absurd (omega arith)
      more (x ∷ rows) zero lt read = ap (λ (y : List ℕ × S). y.0 ∷ []) (sym read)
      more (x ∷ rows) (suc i) lt read = ap (λ ks. x.0 ∷ ks) (more rows i (omega arith) read)

  pub keys_remove : (rows : Rows S) (i : ℕ) → keys_of (remove rows i) ≡ remove (keys_of rows) i
  keys_remove [] zero = refl
  keys_remove [] (suc i) = refl
  keys_remove (x ∷ rows) zero = refl
  keys_remove (x ∷ rows) (suc i) = ap (λ ks. x.0 ∷ ks) (keys_remove rows i)

-- ---- the index

module _ {Z : Type 0} where
  -- an index agrees with keys
  pub agrees : (index : Option (Box (List (List ℕ)) Z)) (old new : List (List ℕ)) → new ≡ old → indexed index old ≡ old → indexed index new ≡ new
  agrees index old new same has = subst (λ ks. indexed index ks ≡ ks) (sym same) has

  -- an index that there is has the keys
  pub held : (index : Option (Box (List (List ℕ)) Z)) (box : Box (List (List ℕ)) Z) (keys : List (List ℕ)) → index ≡ Some box → indexed index keys ≡ keys → box.value ≡ keys
  held index box keys is has = ap (λ o. indexed o keys) (sym is) ∙ has

-- ---- a row that is written

module _ {S : Type 0} where
  pub row_set : (items rows : Rows S) → items ≡ rows → (i : ℕ) (r : List ℕ × S) (to : S → S) → i < length rows → r ≡ get_or items i r → (x : List ℕ × S) → x ≡ (r.0, to r.1) → set items i x ≡ changed_at_place i to rows
  row_set items rows same i r to lt read x is =
      ap (set items i) is
      ∙ place_set items i r to (subst (λ (rs : Rows S). i < length rs) (sym same) lt) read
      ∙ ap (changed_at_place i to) same

  pub row_agrees : {Z : Type 0} (index : Option (Box (List (List ℕ)) Z)) (items : Rows S) (i : ℕ) (r : List ℕ × S) → r ≡ get_or items i r → (x : List ℕ × S) → x.0 ≡ r.0 → indexed index (keys_of items) ≡ keys_of items → indexed index (keys_of (set items i x)) ≡ keys_of (set items i x)
  row_agrees index items i r read x same has = agrees index (keys_of items) (keys_of (set items i x)) (keys_set items i r x read same) has

-- ---- the place of a key

same_back : (a b : List ℕ) (t : Bool) → same_name a b ≡ t → same_name b a ≡ t
same_back a b true is = (bytes_decides b a).1 (sym ((bytes_decides a b).0 is))
same_back a b false is = other (same_name b a) refl
  where
    other : (t : Bool) → same_name b a ≡ t → t ≡ false
    other false e = refl
    other true e = absurd (true≢false (sym ((bytes_decides a b).1 (sym ((bytes_decides b a).0 e))) ∙ is))

-- no element passes before the end
none_past : {X : Type 0} (p : X → Bool) (xs : List X) → position p xs ≡ None → length xs ≤ position_or_len p xs
none_past p xs e =
    elim (cases_lt (position_or_len p xs) (length xs)) [
      | inl lt ↦ absurd (none-some (position_or_len p xs) (sym e ∙ cond-true (nat_lt (position_or_len p xs) (length xs)) (Some (position_or_len p xs)) None (lt-ltb (position_or_len p xs) (length xs) lt)))
      | inr past ↦ past
    ]

-- distinct keys are told apart
apart : (keys : List (List ℕ)) (k i : ℕ) (d : List ℕ) → IsDistinct same_name keys → k < i → i < length keys → same_name (get_or keys k d) (get_or keys i d) ≡ false
unfolding IsDistinct
apart [] k i d distinct below lt = absurd (omega arith)
apart (x ∷ keys) k zero d distinct below lt = absurd (omega arith)
apart (x ∷ keys) zero (suc i) d distinct below lt = at keys i distinct.0 (omega arith)
  where
    at : (ys : List (List ℕ)) (j : ℕ) → AllByRecursion (λ y. same_name x y ≡ false) ys → j < length ys → same_name x (get_or ys j d) ≡ false
    at [] j all lt = absurd (omega arith)
    at (y ∷ ys) zero all lt = all.0
    at (y ∷ ys) (suc j) all lt = at ys j all.1 (omega arith)
apart (x ∷ keys) (suc k) (suc i) d distinct below lt = apart keys k i d distinct.1 (omega arith) (omega arith)

-- where a key is found among distinct ones, it is first found
pub hinted : (name : List ℕ) (keys : List (List ℕ)) (i : ℕ) (key : List ℕ) → IsDistinct same_name keys → i < length keys → key ≡ get_or keys i key → same_name name key ≡ true → Some i ≡ position (λ k. same_name name k) keys
hinted name keys i key distinct lt read same =
    let is : name ≡ get_or keys i key = (bytes_decides name key).0 same ∙ read in
    let before : (k : ℕ) → k < i → same_name name (get_or keys k key) ≡ false = λ k below. ap (λ n. same_name n (get_or keys k key)) is ∙ same_back (get_or keys k key) (get_or keys i key) false (apart keys k i key distinct below lt) in
    let first : position_or_len (λ k. same_name name k) keys ≡ i = position_or_len_is (λ k. same_name name k) keys i key (omega (arith, lt)) before (λ _. ap (same_name name) (sym read) ∙ same) in
    sym (ap (λ n. cond (nat_lt n (length keys)) (Some n) None) first ∙ cond-true (nat_lt i (length keys)) (Some i) None (lt-ltb i (length keys) lt))

module _ {S : Type 0} where
  keys_at : (rows : Rows S) (k : ℕ) (d : List ℕ × S) → get_or (keys_of rows) k d.0 ≡ (get_or rows k d).0
  keys_at [] k d = refl
  keys_at (x ∷ rows) zero d = refl
  keys_at (x ∷ rows) (suc k) d = keys_at rows k d

  keys_length : (rows : Rows S) → length (keys_of rows) ≡ length rows
  keys_length [] = refl
  keys_length (x ∷ rows) = ap suc (keys_length rows)

  first_stands : (key : List ℕ) (rows : Rows S) (i : ℕ) → i < length rows → ((k : ℕ) (d : List ℕ × S) → k < i → same_name (get_or rows k d).0 key ≡ false) → ((d : List ℕ × S) → same_name (get_or rows i d).0 key ≡ true) → StandsAt key rows i
  first_stands key [] i lt before is = absurd (omega arith)
  first_stands key (x ∷ rows) zero lt before is =
      let e = is x in
      record {
        within = lt;
        here = sym (cond-true (same_name x.0 key) (Some x.1) (own key rows) e);
        changes = λ new. sym (cond-true (same_name x.0 key) ((x.0, new x.1) ∷ rows) (x ∷ changed key new rows) e);
        removes = sym (cond-true (same_name x.0 key) rows (x ∷ without key rows) e);
      }
  first_stands key (x ∷ rows) (suc i) lt before is =
      let e = before 0 x (omega arith) in
      let rest = first_stands key rows i (omega arith) (λ k d below. before (suc k) d (omega arith)) is in
      record {
        within = lt;
        here = rest.here ∙ sym (cond-false (same_name x.0 key) (Some x.1) (own key rows) e);
        changes = λ new. ap (λ rs. x ∷ rs) (rest.changes new) ∙ sym (cond-false (same_name x.0 key) ((x.0, new x.1) ∷ rows) (x ∷ changed key new rows) e);
        removes = ap (λ rs. x ∷ rs) rest.removes ∙ sym (cond-false (same_name x.0 key) rows (x ∷ without key rows) e);
      }

  -- what is said of a key is said of the row that has it
  at_row : (key : List ℕ) (rows : Rows S) (k : ℕ) (d : List ℕ × S) (t : Bool) → same_name key (get_or (keys_of rows) k d.0) ≡ t → same_name (get_or rows k d).0 key ≡ t
  at_row key rows k d t e = same_back key (get_or rows k d).0 t (ap (same_name key) (sym (keys_at rows k d)) ∙ e)

  -- the first place at which the keys have this one is its place
  pub place_position : (key : List ℕ) (rows : Rows S) (o : Option ℕ) → position (λ k. same_name key k) (keys_of rows) ≡ o → IsPlace key rows o
  place_position key rows None e =
      let past = none_past (λ k. same_name key k) (keys_of rows) e in
      place_none key rows (λ k d lt. at_row key rows k d false (fails_before_first (λ x. same_name key x) (keys_of rows) k d.0 (omega (arith, past, keys_length rows))))
  place_position key rows (Some i) e =
      first_stands key rows i (omega (arith, (position-Some (λ k. same_name key k) (keys_of rows) i [] e).0, keys_length rows))
      (λ k d below. at_row key rows k d false ((position-Some (λ k. same_name key k) (keys_of rows) i d.0 e).2 k below))
      (λ d. at_row key rows i d true (position-Some (λ k. same_name key k) (keys_of rows) i d.0 e).1)

  -- an index finds the place
  pub place_indexed : {Z : Type 0} (key : List ℕ) (rows : Rows S) (index : Option (Box (List (List ℕ)) Z)) (box : Box (List (List ℕ)) Z) → index ≡ Some box → indexed index (keys_of rows) ≡ keys_of rows
      → (o : Option ℕ) → o ≡ position (λ k. same_name key k) box.value → IsPlace key rows o
  place_indexed key rows index box is has o e = place_position key rows o (ap (position (λ k. same_name key k)) (sym (held index box (keys_of rows) is has)) ∙ sym e)
