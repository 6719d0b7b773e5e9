-- Names that are laid out, with an index of their texts, and the bindings that values make of them.
use Rattle.std.proofs.Common.{◌≡◌, ℕ, zero, suc, ◌<◌, ◌≤◌, inl, inr, true≢false, Bool, true, false, List, [], ◌∷◌, ◌++◌, take, length, get_or, set, Option, Some, None, refl, sym, ap, subst, ◌∙◌, arith, if◌then◌else◌}
use Rattle.std.specs.Prelude.{nat_lt}
use Rattle.std.specs.List.{slice_get, position, position_or_len}
use Rattle.std.specs.Option.{option_map}
use Rattle.std.specs.Cmp.Lexicographic.{bytes_decides}
use Rattle.std.specs.declared.boxed.Box.{Box}
use Rattle.std.proofs.lemmas.Bool.{cond-true, cond-false, cases_lt, lt-ltb}
use Rattle.std.proofs.lemmas.List.Quantifiers.{position-Some}
use Rattle.std.proofs.lemmas.List.Sums.{fails_before_first}
use Rattle.std.proofs.lemmas.Option.{none-some, slice_get_read}
use Rattle.indexmap.specs.IndexSet.{IndexSet}
use Rattle.origin_labels.specs.Names.{same_name}
use Rattle.js_values.specs.Records.{Binding, Bindings, found, rebound}
use Rattle.env_records.specs.Layouts.{LaidName, first_place, laid, texts_of, indexed}
use Rattle.env_records.specs.Places.{IsPlace, with_value_at}

-- ---- the first place of a name

pub first_is : (name : List ℕ) (names : List LaidName) (i : ℕ) → i < length names → ((k : ℕ) (d : LaidName) → k < i → same_name (get_or names k d).name name ≡ false) → ((d : LaidName) → same_name (get_or names i d).name name ≡ true) → Some i ≡ first_place name names
first_is name [] i lt before is = absurd (omega arith)
first_is name (n ∷ names) zero lt before is = sym (cond-true (same_name n.name name) (Some 0) (option_map suc (first_place name names)) (is n))
first_is name (n ∷ names) (suc i) lt before is =
    ap (option_map suc) (first_is name names i (omega arith) (λ k d below. before (suc k) d (omega arith)) is)
    ∙ sym (cond-false (same_name n.name name) (Some 0) (option_map suc (first_place name names)) (before 0 n (omega arith)))

pub first_none : (name : List ℕ) (names : List LaidName) → ((k : ℕ) (d : LaidName) → k < length names → same_name (get_or names k d).name name ≡ false) → None ≡ first_place name names
first_none name [] before = refl
first_none name (n ∷ names) before =
    ap (option_map suc) (first_none name names (λ k d below. before (suc k) d (omega arith)))
    ∙ sym (cond-false (same_name n.name name) (Some 0) (option_map suc (first_place name names)) (before 0 n (omega arith)))

-- the name that a loop has come to
pub first_read : (name : List ℕ) (names : List LaidName) (i : ℕ) (n : LaidName) → i < length names → ((k : ℕ) (d : LaidName) → k < i → same_name (get_or names k d).name name ≡ false) → n ≡ get_or names i n → same_name n.name name ≡ true → Some i ≡ first_place name names
first_read name names i n lt before read is = first_is name names i lt before (λ d. ap (λ (x : LaidName). same_name x.name name) (any names i lt d n ∙ sym read) ∙ is)
  where
    any : (names : List LaidName) (i : ℕ) → i < length names → (d n : LaidName) → get_or names i d ≡ get_or names i n
    any [] i lt d n = absurd (omega arith)
    any (x ∷ names) zero lt d n = refl
    any (x ∷ names) (suc i) lt d n = any names i (omega arith) d n

-- ---- the index

texts_at : (names : List LaidName) (k : ℕ) (d : LaidName) → get_or (texts_of names) k d.name ≡ (get_or names k d).name
texts_at [] k d = refl
texts_at (n ∷ names) zero d = refl
texts_at (n ∷ names) (suc k) d = texts_at names k d

texts_length : (names : List LaidName) → length (texts_of names) ≡ length names
texts_length [] = refl
texts_length (n ∷ names) = ap suc (texts_length names)

pub texts_push : (names : List LaidName) (n : LaidName) → texts_of (names ++ n ∷ []) ≡ texts_of names ++ n.name ∷ []
texts_push [] n = refl
texts_push (x ∷ names) n = ap (λ ts. x.name ∷ ts) (texts_push names n)

-- the names up to one, and that one
pub take_next : {X : Type 0} (xs : List X) (i n : ℕ) (x : X) → i < length xs → x ≡ get_or xs i x → n ≡ suc i → take n xs ≡ take i xs ++ x ∷ []
take_next xs i n x lt read is = ap (λ k. take k xs) is ∙ more xs i lt read
  where
    more : (xs : List _) (i : ℕ) → i < length xs → x ≡ get_or xs i x → take (suc i) xs ≡ take i xs ++ x ∷ []
    more [] i lt read = absurd (omega arith)
    more (y ∷ xs) zero lt read = ap (λ z. z ∷ []) (sym read)
    more (y ∷ xs) (suc i) lt read = ap (λ zs. y ∷ zs) (more xs i (omega arith) read)

same_back : (a b : List ℕ) (t : Bool) → same_name a b ≡ t → same_name b a ≡ t
same_back a b true is = (bytes_decides b a).1 (sym ((bytes_decides a b).0 is))
same_back a b false is = other (same_name b a) refl
  where
    other : (t : Bool) → same_name b a ≡ t → t ≡ false
    other false e = refl
    other true e = absurd (true≢false (sym ((bytes_decides a b).1 (sym ((bytes_decides b a).0 e))) ∙ is))

-- no element passes before the end
none_past : {X : Type 0} (p : X → Bool) (xs : List X) → position p xs ≡ None → length xs ≤ position_or_len p xs
none_past p xs e =
    elim (cases_lt (position_or_len p xs) (length xs)) [
      | inl lt ↦ absurd (none-some (position_or_len p xs) (sym e ∙ cond-true (nat_lt (position_or_len p xs) (length xs)) (Some (position_or_len p xs)) None (lt-ltb (position_or_len p xs) (length xs) lt)))
      | inr past ↦ past
    ]

-- what is said of a text is said of the name that has it
at_name : (name : List ℕ) (names : List LaidName) (k : ℕ) (d : LaidName) (t : Bool) → same_name name (get_or (texts_of names) k d.name) ≡ t → same_name (get_or names k d).name name ≡ t
at_name name names k d t e = same_back name (get_or names k d).name t (ap (same_name name) (sym (texts_at names k d)) ∙ e)

-- the first place at which the texts have a name
place_position : (name : List ℕ) (names : List LaidName) (o : Option ℕ) → position (λ k. same_name name k) (texts_of names) ≡ o → o ≡ first_place name names
place_position name names None e =
    let past = none_past (λ k. same_name name k) (texts_of names) e in
    first_none name names (λ k d lt. at_name name names k d false (fails_before_first (λ x. same_name name x) (texts_of names) k d.name (omega (arith, past, texts_length names))))
place_position name names (Some i) e =
    first_is name names i (omega (arith, (position-Some (λ k. same_name name k) (texts_of names) i [] e).0, texts_length names))
    (λ k d below. at_name name names k d false ((position-Some (λ k. same_name name k) (texts_of names) i d.name e).2 k below))
    (λ d. at_name name names i d true (position-Some (λ k. same_name name k) (texts_of names) i d.name e).1)

module _ {H Z : Type 0} where
  -- an index agrees with texts
  pub agrees : (index : Option (Box (IndexSet (List ℕ) H) Z)) (old new : List (List ℕ)) → new ≡ old → indexed index old ≡ old → indexed index new ≡ new
  agrees index old new same has = subst (λ ts. indexed index ts ≡ ts) (sym same) has

  -- an index that there is has the texts
  pub held : (index : Option (Box (IndexSet (List ℕ) H) Z)) (box : Box (IndexSet (List ℕ) H) Z) (texts : List (List ℕ)) → index ≡ Some box → indexed index texts ≡ texts → box.value.keys ≡ texts
  held index box texts is has = ap (λ o. indexed o texts) (sym is) ∙ has

  -- an index finds the place
  pub place_indexed : (name : List ℕ) (names : List LaidName) (index : Option (Box (IndexSet (List ℕ) H) Z)) (box : Box (IndexSet (List ℕ) H) Z) → index ≡ Some box → indexed index (texts_of names) ≡ texts_of names
      → (o : Option ℕ) → o ≡ position (λ k. same_name name k) box.value.keys → o ≡ first_place name names
  place_indexed name names index box is has o e = place_position name names o (ap (position (λ k. same_name name k)) (sym (held index box (texts_of names) is has)) ∙ sym e)

-- ---- the bindings that values make of names

module _ {V : Type 0} where
  pub laid_length : (names : List LaidName) (values : List V) → length values ≡ length names → length (laid names values) ≡ length values
  laid_length [] values e = sym e
  laid_length (n ∷ names) [] e = refl
  laid_length (n ∷ names) (v ∷ values) e = ap suc (laid_length names values (omega (arith, e)))

  pub laid_value : (names : List LaidName) (values : List V) (i : ℕ) → length values ≡ length names → option_map (λ b. b.value) (slice_get (laid names values) i) ≡ slice_get values i
  laid_value [] [] i e = refl
  laid_value [] (v ∷ values) i e = absurd (omega (arith, e))
  laid_value (n ∷ names) [] i e = refl
  laid_value (n ∷ names) (v ∷ values) zero e = refl
  laid_value (n ∷ names) (v ∷ values) (suc i) e = laid_value names values i (omega (arith, e))

  pub laid_mutable : (names : List LaidName) (values : List V) (i : ℕ) → length values ≡ length names → option_map (λ b. b.mutable) (slice_get (laid names values) i) ≡ option_map (λ n. n.mutable) (slice_get names i)
  laid_mutable [] values i e = refl
  laid_mutable (n ∷ names) [] i e = absurd (omega (arith, e))
  laid_mutable (n ∷ names) (v ∷ values) zero e = refl
  laid_mutable (n ∷ names) (v ∷ values) (suc i) e = laid_mutable names values i (omega (arith, e))

  pub laid_set : (names : List LaidName) (values : List V) (i : ℕ) (v : V) → laid names (set values i v) ≡ with_value_at i v (laid names values)
  laid_set [] values i v = refl
  laid_set (n ∷ names) [] i v = refl
  laid_set (n ∷ names) (x ∷ values) zero v = refl
  laid_set (n ∷ names) (x ∷ values) (suc i) v = ap (λ bs. record { name = n.name; mutable = n.mutable; value = x } ∷ bs) (laid_set names values i v)

  pub laid_push : (names : List LaidName) (values : List V) (n : LaidName) (v : V) → length values ≡ length names → laid (names ++ n ∷ []) (values ++ v ∷ []) ≡ laid names values ++ record { name = n.name; mutable = n.mutable; value = v } ∷ []
  laid_push [] [] n v e = refl
  laid_push [] (x ∷ values) n v e = absurd (omega (arith, e))
  laid_push (y ∷ names) [] n v e = absurd (omega (arith, e))
  laid_push (y ∷ names) (x ∷ values) n v e = ap (λ bs. record { name = y.name; mutable = y.mutable; value = x } ∷ bs) (laid_push names values n v (omega (arith, e)))

  -- a place behind one more binding
  place_behind : (name : List ℕ) (b : Binding V) (bindings : Bindings V) (o : Option ℕ) (test : Bool) → IsPlace name bindings o → same_name b.name name ≡ test → IsPlace name (b ∷ bindings) (if test then Some 0 else option_map suc o)
  place_behind name b bindings o true rest e =
      record {
        within = omega arith;
        here = sym (cond-true (same_name b.name name) (Some b) (found name bindings) e);
        changes = λ v. sym (cond-true (same_name b.name name) (record b { value = v } ∷ bindings) (b ∷ rebound name v bindings) e);
      }
  place_behind name b bindings None false rest e = cond-false (same_name b.name name) (Some b) (found name bindings) e ∙ rest
  place_behind name b bindings (Some i) false rest e =
      record {
        within = omega (arith, rest.within);
        here = rest.here ∙ sym (cond-false (same_name b.name name) (Some b) (found name bindings) e);
        changes = λ v. ap (λ bs. b ∷ bs) (rest.changes v) ∙ sym (cond-false (same_name b.name name) (record b { value = v } ∷ bindings) (b ∷ rebound name v bindings) e);
      }

  -- the first place of a name is that of its binding
  pub place_laid : (name : List ℕ) (names : List LaidName) (values : List V) → length values ≡ length names → IsPlace name (laid names values) (first_place name names)
  place_laid name [] values e = refl
  place_laid name (n ∷ names) [] e = absurd (omega (arith, e))
  place_laid name (n ∷ names) (v ∷ values) e =
      place_behind name (record { name = n.name; mutable = n.mutable; value = v }) (laid names values) (first_place name names) (same_name n.name name)
      (place_laid name names values (omega (arith, e))) refl

-- ---- a record as it is kept: names, and a value for each

module _ {V : Type 0} (names : List LaidName) (values : List V) (whole : length values ≡ length names) (bindings : Bindings V) (same : laid names values ≡ bindings) where
  kept_length : length bindings ≡ length values
  kept_length = ap length (sym same) ∙ laid_length names values whole

  pub value_within : (place : ℕ) → place < length bindings → place < length values
  value_within place lt = subst (λ n. place < n) kept_length lt

  pub name_within : (place : ℕ) → place < length bindings → place < length names
  name_within place lt = subst (λ n. place < n) (kept_length ∙ whole) lt

  pub kept_value : (place : ℕ) (v : V) → place < length bindings → v ≡ get_or values place v → option_map (λ b. b.value) (slice_get bindings place) ≡ Some v
  kept_value place v lt read =
      ap (λ (bs : Bindings V). option_map (λ b. b.value) (slice_get bs place)) (sym same)
      ∙ laid_value names values place whole
      ∙ slice_get_read values (length values) place v refl (value_within place lt) read

  pub kept_mutable : (place : ℕ) (mutable : Bool) → option_map (λ n. n.mutable) (slice_get names place) ≡ Some mutable → option_map (λ b. b.mutable) (slice_get bindings place) ≡ Some mutable
  kept_mutable place mutable is =
      ap (λ (bs : Bindings V). option_map (λ b. b.mutable) (slice_get bs place)) (sym same)
      ∙ laid_mutable names values place whole
      ∙ is

  pub kept_place : (name : List ℕ) (o : Option ℕ) → o ≡ first_place name names → IsPlace name bindings o
  kept_place name o is =
      subst (λ (bs : Bindings V). IsPlace name bs o) same
      (subst (λ (p : Option ℕ). IsPlace name (laid names values) p) (sym is) (place_laid name names values whole))
