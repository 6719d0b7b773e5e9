-- The bound of a table, above all elements that its keys name, and the highest of them.
use Rattle.std.proofs.Common.{◌≡◌, ℕ, zero, suc, ◌<◌, ◌≤◌, inl, inr, true≢false, pos, Bool, true, false, cond, List, [], ◌∷◌, ◌++◌, drop, length, get_or, set, insert, remove, Option, Some, None, IfSome, refl, sym, ap, subst, ◌∙◌, nat_le, nat_lt, arith, tests}
use Rattle.std.specs.Fmt.{signed_decimal}
use Rattle.std.specs.Cmp.Lexicographic.{bytes_decides}
use Rattle.std.proofs.lemmas.Bool.{cond-true, cond-false, cases_lt, leb-true, leb-false}
use Rattle.std.proofs.lemmas.Option.{none-some}
use Rattle.origin_labels.specs.Names.{same_name}
use Rattle.js_values.specs.declared.inner.Class.{Class}
use Rattle.js_values.specs.declared.inner.Class.TheVariants as classes
use Rattle.js_values.specs.Arrays.{highest, higher_of, higher_if, element_of}
use Rattle.js_values.specs.Indices.{IsArrayIndex}
use Rattle.js_values.specs.Numerals.{index_of}
use Rattle.js_values.specs.Objects.{Rows, own, keys_of}
use Rattle.js_values.proofs.IndexLaws.{index_is}
use Rattle.object_heap.specs.Tables.{bound_with, higher_than, higher_behind}
use Rattle.object_heap.proofs.TableLaws.{keys_set, keys_remove}

-- ---- the element that a key names

pub index_below : (key : List ℕ) (r : Option ℕ) → r ≡ index_of key → IfSome r (λ i. i < 4294967295)
index_below key None e = tt
index_below key (Some n) e = (index_is key n (sym e)).below

-- an element's number is below the limit
pub element_below : (class : Class) (key : List ℕ) (i : ℕ) → element_of class key ≡ Some i → i < 4294967295
element_below classes.Array key i e = (index_is key i e).below
element_below classes.Object key i e = absurd (none-some i e)
element_below classes.Function key i e = absurd (none-some i e)
element_below classes.Arguments key i e = absurd (none-some i e)
element_below classes.Error key i e = absurd (none-some i e)
element_below classes.Math key i e = absurd (none-some i e)
element_below classes.Json key i e = absurd (none-some i e)
element_below classes.String key i e = absurd (none-some i e)
element_below classes.Number key i e = absurd (none-some i e)
element_below classes.Boolean key i e = absurd (none-some i e)

-- ---- no key names an element at or above a number

abbrev IsUnder : ℕ → Option ℕ → Type 0
IsUnder n None = Unit {0}
IsUnder n (Some i) = i < n

abbrev AreUnder : ℕ → List (List ℕ) → Type 0
AreUnder n [] = Unit {0}
AreUnder n (key ∷ keys) = IsUnder n (index_of key) × AreUnder n keys

cond_same : {X : Type 0} (t : Bool) (a b : X) → a ≡ b → cond t a b ≡ b
cond_same true a b e = e
cond_same false a b e = refl

-- what is found isn't nothing
cond_some : {X : Type 0} (t : Bool) (a b : X) → cond t (Some a) (Some b) ≡ None → ⊥
cond_some true a b e = none-some a (sym e)
cond_some false a b e = none-some b (sym e)

module _ {S : Type 0} where
  something : (i : ℕ) (s : S) (rest : Option (ℕ × S)) → higher_of i s rest ≡ None → ⊥
  something i s None e = none-some (i, s) (sym e)
  something i s (Some f) e = cond_some (nat_lt f.0 i) (i, s) f e

  under_if : (n i : ℕ) (s : S) (rest : Option (ℕ × S)) (t : Bool) → nat_le n i ≡ t → cond t (higher_of i s rest) rest ≡ None → (i < n) × (rest ≡ None)
  under_if n i s rest true is e = absurd (something i s rest e)
  under_if n i s rest false is e = (leb-false n i is, e)

  under_here : (n : ℕ) (o : Option ℕ) (s : S) (rest : Option (ℕ × S)) → higher_if n o s rest ≡ None → IsUnder n o × (rest ≡ None)
  under_here n None s rest e = (tt, e)
  under_here n (Some i) s rest e = under_if n i s rest (nat_le n i) refl e

  under_none : (n : ℕ) (o : Option ℕ) (s : S) (rest : Option (ℕ × S)) → IsUnder n o → higher_if n o s rest ≡ rest
  under_none n None s rest under = refl
  under_none n (Some i) s rest under = cond-false (nat_le n i) (higher_of i s rest) rest (grind (arith, tests))

  are_under : (n : ℕ) (rows : Rows S) → highest n rows ≡ None → AreUnder n (keys_of rows)
  are_under n [] e = tt
  are_under n (r ∷ rows) e = let here = under_here n (index_of r.0) r.1 (highest n rows) e in (here.0, are_under n rows here.1)

  none_above : (n : ℕ) (rows : Rows S) → AreUnder n (keys_of rows) → highest n rows ≡ None
  none_above n [] under = refl
  none_above n (r ∷ rows) under = under_none n (index_of r.0) r.1 (highest n rows) under.0 ∙ none_above n rows under.1

-- ---- the bound of keys that change

under_more : (n m : ℕ) (o : Option ℕ) → n ≤ m → IsUnder n o → IsUnder m o
under_more n m None le under = tt
under_more n m (Some i) le under = omega (arith, le, under)

are_under_more : (n m : ℕ) (keys : List (List ℕ)) → n ≤ m → AreUnder n keys → AreUnder m keys
are_under_more n m [] le under = tt
are_under_more n m (k ∷ keys) le under = (under_more n m (index_of k) le under.0, are_under_more n m keys le under.1)

under_removed : (n : ℕ) (keys : List (List ℕ)) (i : ℕ) → AreUnder n keys → AreUnder n (remove keys i)
under_removed n [] zero under = tt
under_removed n [] (suc i) under = tt
under_removed n (k ∷ keys) zero under = under.1
under_removed n (k ∷ keys) (suc i) under = (under.0, under_removed n keys i under.1)

grows_if : (bound i : ℕ) (t : Bool) → nat_le bound i ≡ t → bound ≤ cond t (suc i) bound
grows_if bound i true is = let le = leb-true bound i is in omega (arith, le)
grows_if bound i false is = omega arith

bound_grows : (bound : ℕ) (o : Option ℕ) → bound ≤ bound_with bound o
bound_grows bound None = omega arith
bound_grows bound (Some i) = grows_if bound i (nat_le bound i) refl

above_if : (bound i : ℕ) (t : Bool) → nat_le bound i ≡ t → i < cond t (suc i) bound
above_if bound i true is = omega arith
above_if bound i false is = leb-false bound i is

bound_above : (bound : ℕ) (o : Option ℕ) → IsUnder (bound_with bound o) o
bound_above bound None = tt
bound_above bound (Some i) = above_if bound i (nat_le bound i) refl

-- the key of a row that isn't the one that names the element just below names none there
lower_here : (key own_key : List ℕ) (i : ℕ) (o : Option ℕ) → IsArrayIndex key i → index_of own_key ≡ o → (same_name own_key key ≡ true → ⊥) → IsUnder (suc i) o → IsUnder i o
lower_here key own_key i None index e other under = tt
lower_here key own_key i (Some k) index e other under = elim (cases_lt k i) as (λ _. k < i) [
  | inl lt ↦ lt
  | inr past ↦
      let same : k ≡ i = omega (arith, under, past) in
      absurd (other ((bytes_decides own_key key).1 ((index_is own_key k e).text ∙ ap (λ n. signed_decimal (pos n)) same ∙ sym index.text)))
]

module _ {S : Type 0} where
  insert_under : (n : ℕ) (key : List ℕ) (s : S) → IsUnder n (index_of key) → (rows : Rows S) (i : ℕ) → AreUnder n (keys_of rows) → AreUnder n (keys_of (insert rows i (key, s)))
  insert_under n key s here [] zero under = (here, tt)
  insert_under n key s here [] (suc i) under = (here, tt)
  insert_under n key s here (r ∷ rows) zero under = (here, under)
  insert_under n key s here (r ∷ rows) (suc i) under = (under.0, insert_under n key s here rows i under.1)

  last_inserted : (rows : Rows S) (r : List ℕ × S) → rows ++ r ∷ [] ≡ insert rows (length rows) r
  last_inserted [] r = refl
  last_inserted (x ∷ rows) r = ap (λ more. x ∷ more) (last_inserted rows r)

  lower_row : (key : List ℕ) (i : ℕ) → IsArrayIndex key i → (r : List ℕ × S) (rows : Rows S) (t : Bool) → same_name r.0 key ≡ t → cond t (Some r.1) (own key rows) ≡ None → (own key rows ≡ None → AreUnder i (keys_of rows)) → IsUnder (suc i) (index_of r.0) → IsUnder i (index_of r.0) × AreUnder i (keys_of rows)
  lower_row key i index r rows true same absent more under = absurd (none-some r.1 (sym absent))
  lower_row key i index r rows false same absent more under = (lower_here key r.0 i (index_of r.0) index refl (λ e. true≢false (sym e ∙ same)) under, more absent)

  lower_rows : (key : List ℕ) (i : ℕ) → IsArrayIndex key i → (rows : Rows S) → own key rows ≡ None → AreUnder (suc i) (keys_of rows) → AreUnder i (keys_of rows)
  lower_rows key i index [] absent under = tt
  lower_rows key i index (r ∷ rows) absent under = lower_row key i index r rows (same_name r.0 key) refl absent (λ e. lower_rows key i index rows e under.1) under.0

  -- with the same keys
  bound_same : (n : ℕ) (old new : Rows S) → keys_of new ≡ keys_of old → highest n old ≡ None → highest n new ≡ None
  bound_same n old new same none = none_above n new (subst (AreUnder n) (sym same) (are_under n old none))

  pub bound_set : (n : ℕ) (items : Rows S) (i : ℕ) (r : List ℕ × S) → r ≡ get_or items i r → (x : List ℕ × S) → x.0 ≡ r.0 → highest n items ≡ None → highest n (set items i x) ≡ None
  bound_set n items i r read x same none = bound_same n items (set items i x) (keys_set items i r x read same) none

  pub bound_removed : (n : ℕ) (rows new : Rows S) (i : ℕ) → new ≡ remove rows i → highest n rows ≡ None → highest n new ≡ None
  bound_removed n rows new i is none =
      ap (highest n) is ∙ none_above n (remove rows i) (subst (AreUnder n) (sym (keys_remove rows i)) (under_removed n (keys_of rows) i (are_under n rows none)))

  -- with a key more
  pub bound_put : (bound new : ℕ) (rows items : Rows S) (i : ℕ) (key : List ℕ) (s : S) → new ≡ bound_with bound (index_of key) → items ≡ insert rows i (key, s) → highest bound rows ≡ None → highest new items ≡ None
  bound_put bound new rows items i key s above is none =
      let m = bound_with bound (index_of key) in
      ap (λ n. highest n items) above ∙ ap (highest m) is
      ∙ none_above m (insert rows i (key, s)) (insert_under m key s (bound_above bound (index_of key)) rows i (are_under_more bound m (keys_of rows) (bound_grows bound (index_of key)) (are_under bound rows none)))

  pub bound_pushed : (bound new : ℕ) (rows items : Rows S) (key : List ℕ) (s : S) → new ≡ bound_with bound (index_of key) → items ≡ rows ++ (key, s) ∷ [] → highest bound rows ≡ None → highest new items ≡ None
  bound_pushed bound new rows items key s above is none = bound_put bound new rows items (length rows) key s above (is ∙ last_inserted rows (key, s)) none

  -- a higher number is a bound too
  pub bound_more : (bound n : ℕ) (rows items : Rows S) → items ≡ rows → bound ≤ n → highest bound items ≡ None → None ≡ highest n rows
  bound_more bound n rows items same le none = sym (sym (ap (highest n) same) ∙ none_above n items (are_under_more bound n (keys_of items) le (are_under bound items none)))

  -- where no key names the element just below the bound, it is lower
  pub bound_lowered : (bound i : ℕ) (rows : Rows S) (key : List ℕ) → Some i ≡ index_of key → suc i ≡ bound → own key rows ≡ None → highest bound rows ≡ None → highest i rows ≡ None
  bound_lowered bound i rows key names is absent none = none_above i rows (lower_rows key i (index_is key i (sym names)) rows absent (subst (λ n. AreUnder n (keys_of rows)) (sym is) (are_under bound rows none)))

-- ---- the highest element

module _ {S : Type 0} where
  higher_one_if : (t : Bool) (i : ℕ) (s : S) (rest : Option (ℕ × S)) → cond t (higher_of i s rest) rest ≡ higher_than (cond t (higher_of i s None) None) rest
  higher_one_if true i s rest = refl
  higher_one_if false i s rest = refl

  higher_one : (n : ℕ) (o : Option ℕ) (s : S) (rest : Option (ℕ × S)) → higher_if n o s rest ≡ higher_than (higher_if n o s None) rest
  higher_one n None s rest = refl
  higher_one n (Some i) s rest = higher_one_if (nat_le n i) i s rest

  pub none_behind : (a : Option (ℕ × S)) → higher_than a None ≡ a
  none_behind None = refl
  none_behind (Some e) = refl

  three_if : (e f g : ℕ × S) (t u : Bool) → nat_lt f.0 e.0 ≡ t → nat_lt g.0 f.0 ≡ u → higher_than (cond t (Some (e.0, e.1)) (Some f)) (Some g) ≡ higher_than (Some e) (cond u (Some (f.0, f.1)) (Some g))
  three_if e f g true true is are =
      cond-true (nat_lt g.0 e.0) (Some (e.0, e.1)) (Some g) (grind (arith, tests))
      ∙ sym (cond-true (nat_lt f.0 e.0) (Some (e.0, e.1)) (Some f) is)
  three_if e f g true false is are = refl
  three_if e f g false true is are =
      cond-true (nat_lt g.0 f.0) (Some (f.0, f.1)) (Some g) are
      ∙ sym (cond-false (nat_lt f.0 e.0) (Some (e.0, e.1)) (Some f) is)
  three_if e f g false false is are =
      cond-false (nat_lt g.0 f.0) (Some (f.0, f.1)) (Some g) are
      ∙ sym (cond-false (nat_lt g.0 e.0) (Some (e.0, e.1)) (Some g) (grind (arith, tests)))

  higher_behind_all : (a b c : Option (ℕ × S)) → higher_than (higher_than a b) c ≡ higher_than a (higher_than b c)
  higher_behind_all None b c = refl
  higher_behind_all (Some e) None c = refl
  higher_behind_all (Some e) (Some f) None = none_behind (higher_than (Some e) (Some f))
  higher_behind_all (Some e) (Some f) (Some g) = three_if e f g (nat_lt f.0 e.0) (nat_lt g.0 f.0) refl refl

  -- the rows from a place on are its row and the others
  highest_from : (n : ℕ) (rows : Rows S) (i : ℕ) (r : List ℕ × S) → i < length rows → r ≡ get_or rows i r → highest n (drop i rows) ≡ higher_if n (index_of r.0) r.1 (highest n (drop (suc i) rows))
  highest_from n [] i r lt read = absurd (omega arith)
  highest_from n (x ∷ rows) zero r lt read = ap (λ (y : List ℕ × S). higher_if n (index_of y.0) y.1 (highest n rows)) (sym read)
  highest_from n (x ∷ rows) (suc i) r lt read = highest_from n rows i r (omega arith) read

  -- the highest so far, and those that are still read
  pub highest_next : (n : ℕ) (rows : Rows S) (i k : ℕ) (r : List ℕ × S) (found next : Option (ℕ × S)) → i < length rows → r ≡ get_or rows i r → k ≡ suc i → next ≡ higher_behind n r found
      → higher_than found (highest n (drop i rows)) ≡ highest n rows → higher_than next (highest n (drop k rows)) ≡ highest n rows
  highest_next n rows i k r found next lt read is higher so_far =
      ap (λ o. higher_than o (highest n (drop k rows))) higher ∙ ap (λ m. higher_than (higher_behind n r found) (highest n (drop m rows))) is
      ∙ higher_behind_all found (higher_if n (index_of r.0) r.1 None) (highest n (drop (suc i) rows))
      ∙ ap (higher_than found) (sym (higher_one n (index_of r.0) r.1 (highest n (drop (suc i) rows))) ∙ sym (highest_from n rows i r lt read))
      ∙ so_far

  highest_past : (n : ℕ) (rows : Rows S) (i : ℕ) → length rows ≤ i → highest n (drop i rows) ≡ None
  highest_past n [] zero past = refl
  highest_past n [] (suc i) past = refl
  highest_past n (x ∷ rows) zero past = absurd (omega arith)
  highest_past n (x ∷ rows) (suc i) past = highest_past n rows i (omega arith)

  pub highest_done : (n : ℕ) (rows : Rows S) (i : ℕ) (found : Option (ℕ × S)) → length rows ≤ i → higher_than found (highest n (drop i rows)) ≡ highest n rows → found ≡ highest n rows
  highest_done n rows i found past so_far = sym (none_behind found) ∙ ap (higher_than found) (sym (highest_past n rows i past)) ∙ so_far

  -- the element just below the bound is the highest where it stands last
  over_lower : (n bound i : ℕ) (t : S) (o : Option ℕ) (s : S) (rest : Option (ℕ × S)) → suc i ≡ bound → rest ≡ Some (i, t) → IsUnder bound o → higher_if n o s rest ≡ Some (i, t)
  over_lower n bound i t None s rest is e under = e
  over_lower n bound i t (Some j) s rest is e under =
      ap (higher_if n (Some j) s) e
      ∙ cond_same (nat_le n j) (higher_of j s (Some (i, t))) (Some (i, t)) (cond-false (nat_lt i j) (Some (j, s)) (Some (i, t)) (grind (arith, tests)))

  last_highest : (n bound i : ℕ) (r : List ℕ × S) → index_of r.0 ≡ Some i → suc i ≡ bound → n < bound → (rows : Rows S) (k : ℕ) → suc k ≡ length rows → r ≡ get_or rows k r → AreUnder bound (keys_of rows) → highest n rows ≡ Some (i, r.1)
  last_highest n bound i r index is lt [] k last read under = absurd (omega (arith, last))
  last_highest n bound i r index is lt (x ∷ []) zero last read under =
      ap (λ (y : List ℕ × S). higher_if n (index_of y.0) y.1 None) (sym read) ∙ ap (λ o. higher_if n o r.1 None) index
      ∙ cond-true (nat_le n i) (Some (i, r.1)) None (grind (arith, tests))
  last_highest n bound i r index is lt (x ∷ []) (suc k) last read under = absurd (omega (arith, last))
  last_highest n bound i r index is lt (x ∷ y ∷ rows) zero last read under = absurd (omega (arith, last))
  last_highest n bound i r index is lt (x ∷ y ∷ rows) (suc k) last read under = over_lower n bound i r.1 (index_of x.0) x.1 (highest n (y ∷ rows)) is (last_highest n bound i r index is lt (y ∷ rows) k (omega (arith, last)) read under.1) under.0

  pub highest_last : (bound i : ℕ) (rows : Rows S) (k : ℕ) (r : List ℕ × S) → suc k ≡ length rows → r ≡ get_or rows k r → index_of r.0 ≡ Some i → suc i ≡ bound → highest bound rows ≡ None → (n : ℕ) → n < bound → highest n rows ≡ Some (i, r.1)
  highest_last bound i rows k r last read index is none n lt = last_highest n bound i r index is lt rows k last read (are_under bound rows none)
