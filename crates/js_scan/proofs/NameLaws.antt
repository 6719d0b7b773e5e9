-- Names as they are read: a name that is read is one, and no longer one stands there.
use Rattle.std.proofs.Common.{◌≡◌, ℕ, suc, ◌+◌, ◌-◌, ◌<◌, ◌≤◌, ◌==◌, nat_lt, Bool, true, false, ◌&&◌, ◌||◌, ◌↔◌, ◌⊎◌, inl, inr, List, [], ◌∷◌, ◌++◌, length, take, drop, refl, sym, ap, subst, ◌∙◌, arith, Option, Some, None, if◌then◌else◌, append_assoc, zero-le, length-append}
use Rattle.std.specs.Option.{option_map, is_some}
use Rattle.std.specs.Char.{is_digit, digit_value}
use Rattle.std.specs.Str.Parse.{digits_value}
use Rattle.std.proofs.lemmas.Bool.{and_parts, and_from, eqb-true, lt-ltb, ltb-true, cond-true, cond-false, true≢false}
use Rattle.std.proofs.Math.Bool.{or-false}
use Rattle.std.proofs.lemmas.List.{map-append, take-append-drop, drop-drop, append-nil, take_rest}
use Rattle.std.proofs.lemmas.List.Folds.{list_any-append}
use Rattle.std.proofs.lemmas.Grind.{flat_map-append}
use Rattle.std.proofs.Math.Seq.{take-append_seam, drop-append_seam}
use Rattle.js_scan.specs.Units.{is_identifier_start, is_identifier_part, begins_with}
use Rattle.js_scan.specs.Names.{AreHex, NamePart, plain, escape, spelled_name_part, part_unit, is_escape, IsNamePart, AreNameParts, IsName, spelled_name, name_value, has_escape, BeginsName}
use Rattle.js_scan.specs.Found.{FindsName}
use Rattle.js_scan.specs.NameReading.{escaped_unit, unit_at, passing, start_at, part_at, ReadsName}
use Rattle.js_scan.specs.Hexadecimal.{begins_with_hexadecimal, hexadecimal_value}
use Rattle.js_scan.proofs.HexadecimalLaws.{hexadecimal_from_test, test_from_hexadecimal}
use Rattle.js_scan.proofs.UnitLaws.{part_no_backslash, start_is_part}

-- ---- what is read is a part

-- what a test lets through
through : (b : Bool) (o : Option ℕ) (v : ℕ) → (if b then o else None) ≡ Some v → (b ≡ true) × (o ≡ Some v)
through true o v e = (refl, e)
through false o v e = cc

-- a part that stands at the front, the unit that it stands for and its length
record StandsPart (us : List ℕ) (unit n : ℕ) : Type 0 where
  part : NamePart
  is : IsNamePart part
  whole : us ≡ spelled_name_part part ++ drop n us
  length_is : length (spelled_name_part part) ≡ n
  unit_is : unit ≡ part_unit part
  escape_is : nat_lt 1 n ≡ is_escape part

-- a unit as itself
plain_stands : (u : ℕ) (us : List ℕ) → StandsPart (u ∷ us) u 1
plain_stands u us = record { part = plain u; is = tt; whole = refl; length_is = refl; unit_is = refl; escape_is = refl }

-- four digits
digits_stand : (us : List ℕ) (v : ℕ) → hexadecimal_value 4 us ≡ Some v → StandsPart (92 ∷ 117 ∷ us) v 6
unfolding hexadecimal_value
digits_stand us v e =
    let t = through (begins_with_hexadecimal 4 us) (Some (digits_value 16 (take 4 us))) v e in
    let are = hexadecimal_from_test 4 us t.0 in
    record {
      part = escape (take 4 us);
      is = are;
      whole = ap (λ xs. 92 ∷ 117 ∷ xs) (sym (take-append-drop 4 us));
      length_is = ap (λ n. suc (suc n)) are.0;
      unit_is = let f = t.1 in cc f;
      escape_is = refl;
    }

-- an escape
escape_stands : (us : List ℕ) (v : ℕ) → escaped_unit us ≡ Some v → StandsPart (92 ∷ us) v 6
unfolding escaped_unit
escape_stands [] v e = cc e
escape_stands (u ∷ us) v e =
    let t = through (u == 117) (hexadecimal_value 4 us) v e in
    subst (λ x. StandsPart (92 ∷ x ∷ us) v 6) (sym (eqb-true u 117 t.0)) (digits_stand us v t.1)

-- a unit with a length of 6
mapped : (o : Option ℕ) (x : ℕ × ℕ) → option_map (λ v. (v, 6)) o ≡ Some x → (o ≡ Some x.0) × (x.1 ≡ 6)
mapped None x e = cc e
mapped (Some v) x e = let f : (v, 6) ≡ x = cc e in (ap (λ y. Some y.0) f, sym (ap (λ y. y.1) f))

-- by the test for `\`
stands_at : (b : Bool) (u : ℕ) (us : List ℕ) (x : ℕ × ℕ) → (u == 92) ≡ b → (if b then option_map (λ v. (v, 6)) (escaped_unit us) else Some (u, 1)) ≡ Some x → StandsPart (u ∷ us) x.0 x.1
stands_at true u us x t e =
    let m = mapped (escaped_unit us) x e in
    subst (λ n. StandsPart (u ∷ us) x.0 n) (sym m.1) (subst (λ y. StandsPart (y ∷ us) x.0 6) (sym (eqb-true u 92 t)) (escape_stands us x.0 m.0))
stands_at false u us x t e = let f : (u, 1) ≡ x = cc e in subst (λ y. StandsPart (u ∷ us) y.0 y.1) f (plain_stands u us)

-- what is read is a part
stands : (us : List ℕ) (x : ℕ × ℕ) → unit_at us ≡ Some x → StandsPart us x.0 x.1
unfolding unit_at
stands [] x e = cc e
stands (u ∷ us) x e = stands_at (u == 92) u us x refl e

-- ---- a part is read

-- a part of a name
abbrev IsPart : NamePart → Type 0
IsPart p = IsNamePart p × (is_identifier_part (part_unit p) ≡ true)

-- an escape is read
escape_read : (ds us : List ℕ) → AreHex 4 ds → unit_at (92 ∷ 117 ∷ (ds ++ us)) ≡ Some (digits_value 16 ds, 6)
unfolding unit_at escaped_unit hexadecimal_value
escape_read ds us h =
    let front : take 4 (ds ++ us) ≡ ds = ap (λ n. take n (ds ++ us)) (sym h.0) ∙ take-append_seam ds us in
    let test : begins_with_hexadecimal 4 (ds ++ us) ≡ true = test_from_hexadecimal 4 (ds ++ us) (subst (AreHex 4) (sym front) h) in
    ap (option_map (λ v. (v, 6))) (cond-true (begins_with_hexadecimal 4 (ds ++ us)) (Some (digits_value 16 (take 4 (ds ++ us)))) None test ∙ ap (λ xs. Some (digits_value 16 xs)) front)

-- any part is read
part_read : (p : NamePart) (us : List ℕ) → IsPart p → unit_at (spelled_name_part p ++ us) ≡ Some (part_unit p, length (spelled_name_part p))
unfolding unit_at
part_read (plain u) us h = cond-false (u == 92) (option_map (λ v. (v, 6)) (escaped_unit us)) (Some (u, 1)) (part_no_backslash u h.1)
part_read (escape ds) us h = let l : 6 ≡ length (spelled_name_part (escape ds)) = omega arith in escape_read ds us h.0 ∙ ap (λ n. Some (digits_value 16 ds, n)) l

-- parts of one spelling are one
same_part : (p q : NamePart) → spelled_name_part p ≡ spelled_name_part q → p ≡ q
same_part (plain u) (plain v) e = let f : u ≡ v = cc e in ap plain f
same_part (plain u) (escape es) e = cc e
same_part (escape ds) (plain v) e = cc e
same_part (escape ds) (escape es) e = let f : ds ≡ es = cc e in ap escape f

-- a unit that was read, with its length
abbrev found_part : NamePart → ℕ × ℕ
found_part p = (part_unit p, length (spelled_name_part p))

-- one part stands at the front
one_part : (p q : NamePart) (xs ys : List ℕ) → IsPart p → IsPart q → spelled_name_part p ++ xs ≡ spelled_name_part q ++ ys → (p ≡ q) × (xs ≡ ys)
one_part p q xs ys i j e =
    let s : Some (found_part p) ≡ Some (found_part q) = sym (part_read p xs i) ∙ ap unit_at e ∙ part_read q ys j in
    let f : found_part p ≡ found_part q = cc s in
    let l : length (spelled_name_part p) ≡ length (spelled_name_part q) = ap (λ x. x.1) f in (
      same_part p q (sym (take-append_seam (spelled_name_part p) xs) ∙ ap (λ n. take n (spelled_name_part p ++ xs)) l ∙ ap (take (length (spelled_name_part q))) e ∙ take-append_seam (spelled_name_part q) ys),
      sym (drop-append_seam (spelled_name_part p) xs) ∙ ap (λ n. drop n (spelled_name_part p ++ xs)) l ∙ ap (drop (length (spelled_name_part q))) e ∙ drop-append_seam (spelled_name_part q) ys,
    )

-- by the test
passes_at : (b : Bool) (t : ℕ → Bool) (y x : ℕ × ℕ) → t y.0 ≡ b → (if b then Some y else None) ≡ Some x → (Some y ≡ Some x) × (t x.0 ≡ true)
passes_at true t y x h e = let f : y ≡ x = cc e in (e, subst (λ z. t z.0 ≡ true) f h)
passes_at false t y x h e = cc e

-- what passes
passes : (t : ℕ → Bool) (o : Option (ℕ × ℕ)) (x : ℕ × ℕ) → passing t o ≡ Some x → (o ≡ Some x) × (t x.0 ≡ true)
unfolding passing
passes t None x e = cc e
passes t (Some y) x e = passes_at (t y.0) t y x refl e

-- a part behind the first is read
part_found : (p : NamePart) (us : List ℕ) → IsPart p → part_at (spelled_name_part p ++ us) ≡ Some (found_part p)
unfolding part_at passing
part_found p us h = ap (passing is_identifier_part) (part_read p us h) ∙ cond-true (is_identifier_part (part_unit p)) (Some (found_part p)) None h.1

-- and so is the first
start_found : (p : NamePart) (us : List ℕ) → IsNamePart p → is_identifier_start (part_unit p) ≡ true → start_at (spelled_name_part p ++ us) ≡ Some (found_part p)
unfolding start_at passing
start_found p us i s =
    ap (passing is_identifier_start) (part_read p us (i, start_is_part (part_unit p) s)) ∙ cond-true (is_identifier_start (part_unit p)) (Some (found_part p)) None s

-- ---- names

-- the parts of a name are parts
are_parts : (ps : List NamePart) → IsName ps → AreNameParts ps
unfolding AreNameParts IsName
are_parts [] h = absurd h
are_parts (p ∷ ps) h = (h.0, start_is_part (part_unit p) h.1, h.2)

-- parts of one spelling are one list
one_list : (ps qs : List NamePart) → AreNameParts ps → AreNameParts qs → spelled_name ps ≡ spelled_name qs → ps ≡ qs
unfolding AreNameParts spelled_name unit_at
one_list [] [] i j e = refl
one_list [] (q ∷ qs) i j e = let clash : None ≡ Some (found_part q) = ap unit_at e ∙ part_read q (spelled_name qs) (j.0, j.1) in cc clash
one_list (p ∷ ps) [] i j e = let clash : None ≡ Some (found_part p) = ap unit_at (sym e) ∙ part_read p (spelled_name ps) (i.0, i.1) in cc clash
one_list (p ∷ ps) (q ∷ qs) i j e =
    let both = one_part p q (spelled_name ps) (spelled_name qs) (i.0, i.1) (j.0, j.1) e in
    let f = both.0 in
    let g : ps ≡ qs = one_list ps qs i.2 j.2 both.1 in
    cc

-- a text spells one name
pub one_name : (ps qs : List NamePart) → IsName ps → IsName qs → spelled_name ps ≡ spelled_name qs → ps ≡ qs
one_name ps qs i j e = one_list ps qs (are_parts ps i) (are_parts qs j) e

-- a name begins with an escape or with what may start it
pub name_first : (ps : List NamePart) → IsName ps → (u : ℕ) × (us : List ℕ) × (spelled_name ps ≡ u ∷ us) × (((u ≡ 92) × (begins_with 117 us ≡ true)) ⊎ (is_identifier_start u ≡ true))
unfolding IsName spelled_name begins_with
name_first [] h = absurd h
name_first (plain u ∷ ps) h = (u, spelled_name ps, refl, inr h.1)
name_first (escape ds ∷ ps) h = (92, 117 ∷ (ds ++ spelled_name ps), refl, inl (refl, refl))

-- no parts that stand at the front are longer than those that nothing goes on behind
longest_parts : (ps qs : List NamePart) (rest others : List ℕ) → AreNameParts ps → AreNameParts qs → part_at rest ≡ None → spelled_name ps ++ rest ≡ spelled_name qs ++ others → length (spelled_name qs) ≤ length (spelled_name ps)
unfolding AreNameParts spelled_name
longest_parts [] [] rest others i j n e = zero-le
longest_parts [] (q ∷ qs) rest others i j n e =
    let clash : None ≡ Some (found_part q) = sym n ∙ ap part_at (e ∙ append_assoc (spelled_name_part q) (spelled_name qs) others) ∙ part_found q (spelled_name qs ++ others) (j.0, j.1) in cc clash
longest_parts (p ∷ ps) [] rest others i j n e = zero-le
longest_parts (p ∷ ps) (q ∷ qs) rest others i j n e =
    let both =
    one_part p q (spelled_name ps ++ rest) (spelled_name qs ++ others) (i.0, i.1) (j.0, j.1)
    (sym (append_assoc (spelled_name_part p) (spelled_name ps) rest) ∙ e ∙ append_assoc (spelled_name_part q) (spelled_name qs) others) in
    let first : length (spelled_name_part p) ≡ length (spelled_name_part q) = ap (λ x. length (spelled_name_part x)) both.0 in
    let more : length (spelled_name qs) ≤ length (spelled_name ps) = longest_parts ps qs rest others i.2 j.2 n both.1 in
    simp length-append (omega arith)

-- a name at the front begins with what may start one
name_starts : (ps : List NamePart) (rest : List ℕ) → IsName ps → start_at (spelled_name ps ++ rest) ≡ None → ⊥
unfolding IsName spelled_name
name_starts [] rest i e = i
name_starts (p ∷ ps) rest i e =
    let clash : None ≡ Some (found_part p) = sym e ∙ ap start_at (append_assoc (spelled_name_part p) (spelled_name ps) rest) ∙ start_found p (spelled_name ps ++ rest) i.0 i.1 in cc clash

-- so no name stands where nothing starts one
pub none_begins : (us : List ℕ) → start_at us ≡ None → BeginsName us → ⊥
none_begins us e b = name_starts b.0 b.1 b.2 (ap start_at (sym b.3) ∙ e)

-- one more part
parts_more : (ps : List NamePart) (p : NamePart) → AreNameParts ps → IsPart p → AreNameParts (ps ++ p ∷ [])
unfolding AreNameParts
parts_more [] p i h = (h.0, h.1, tt)
parts_more (q ∷ ps) p i h = (i.0, i.1, parts_more ps p i.2 h)

-- behind a name
name_more : (ps : List NamePart) (p : NamePart) → IsName ps → IsPart p → IsName (ps ++ p ∷ [])
unfolding IsName
name_more [] p i h = absurd i
name_more (q ∷ ps) p i h = (i.0, i.1, parts_more ps p i.2 h)

-- its spelling is added
spelled_more : (ps : List NamePart) (p : NamePart) → spelled_name (ps ++ p ∷ []) ≡ spelled_name ps ++ spelled_name_part p
unfolding spelled_name
spelled_more ps p = flat_map-append spelled_name_part ps (p ∷ []) ∙ ap (λ xs. spelled_name ps ++ xs) (append-nil (spelled_name_part p))

-- ---- what was read so far

-- the first part is a name
pub first_read : (us : List ℕ) (x : ℕ × ℕ) → start_at us ≡ Some x → ReadsName us (x.0 ∷ []) x.1 (nat_lt 1 x.1)
unfolding start_at IsName AreNameParts spelled_name name_value has_escape
first_read us x e =
    let t = passes is_identifier_start (unit_at us) x e in
    let s = stands us x t.0 in
    record {
      parts = s.part ∷ [];
      is = (s.is, subst (λ u. is_identifier_start u ≡ true) s.unit_is t.1, tt);
      whole = s.whole ∙ ap (λ xs. xs ++ drop x.1 us) (sym (append-nil (spelled_name_part s.part)));
      length_is = ap length (append-nil (spelled_name_part s.part)) ∙ s.length_is;
      text_is = ap (λ u. u ∷ []) s.unit_is;
      escaped_is = s.escape_is ∙ sym (or-false (is_escape s.part));
    }

-- one more part
pub more_read : (us text : List ℕ) (n : ℕ) (escaped : Bool) (x : ℕ × ℕ) → ReadsName us text n escaped → part_at (drop n us) ≡ Some x → ReadsName us (text ++ x.0 ∷ []) (n + x.1) (escaped || nat_lt 1 x.1)
unfolding part_at name_value has_escape
more_read us text n escaped x r e =
    let t = passes is_identifier_part (unit_at (drop n us)) x e in
    let s = stands (drop n us) x t.0 in
    let more = spelled_more r.parts s.part in
    record {
      parts = r.parts ++ s.part ∷ [];
      is = name_more r.parts s.part r.is (s.is, subst (λ u. is_identifier_part u ≡ true) s.unit_is t.1);
      whole =
          r.whole ∙ ap (λ xs. spelled_name r.parts ++ xs) (s.whole ∙ ap (λ xs. spelled_name_part s.part ++ xs) (drop-drop x.1 n us))
          ∙ sym (append_assoc (spelled_name r.parts) (spelled_name_part s.part) (drop (n + x.1) us)) ∙ ap (λ xs. xs ++ drop (n + x.1) us) (sym more);
      length_is = ap length more ∙ length-append (spelled_name r.parts) (spelled_name_part s.part) ∙ ap (λ k. k + length (spelled_name_part s.part)) r.length_is ∙ ap (λ k. n + k) s.length_is;
      text_is = ap (λ xs. xs ++ x.0 ∷ []) r.text_is ∙ ap (λ u. name_value r.parts ++ u ∷ []) s.unit_is ∙ sym (map-append part_unit r.parts (s.part ∷ []));
      escaped_is = ap (λ b. b || nat_lt 1 x.1) r.escaped_is ∙ ap (λ b. has_escape r.parts || b) (s.escape_is ∙ sym (or-false (is_escape s.part))) ∙ sym (list_any-append is_escape r.parts (s.part ∷ []));
    }

-- what was read stands there
pub read_within : (us text : List ℕ) (n : ℕ) (escaped : Bool) → ReadsName us text n escaped → n ≤ length us
read_within us text n escaped r = let l : length us ≡ length (spelled_name r.parts) + length (drop n us) = ap length r.whole ∙ length-append (spelled_name r.parts) (drop n us) in omega (arith, r.length_is)

-- a part has a unit at least
part_length : (p : NamePart) → 0 < length (spelled_name_part p)
part_length (plain u) = omega arith
part_length (escape ds) = omega arith

-- so less is left behind one more
pub less_left : (us text : List ℕ) (n : ℕ) (escaped : Bool) (x : ℕ × ℕ) → ReadsName us text n escaped → part_at (drop n us) ≡ Some x → (n + x.1 ≤ length us) × (length us - (n + x.1) < length us - n)
unfolding part_at
less_left us text n escaped x r e =
    let within : n + x.1 ≤ length us = read_within us (text ++ x.0 ∷ []) (n + x.1) (escaped || nat_lt 1 x.1) (more_read us text n escaped x r e) in
    let s = stands (drop n us) x (passes is_identifier_part (unit_at (drop n us)) x e).0 in
    let some : 0 < x.1 = subst (λ k. 0 < k) s.length_is (part_length s.part) in
    (within, omega arith)

-- what the code reads is what stands behind
pub part_behind : (us : List ℕ) (n : ℕ) (found : Option (ℕ × ℕ)) (o : Option (ℕ × ℕ)) → found ≡ part_at (take (length us - n) (drop n us)) → found ≡ o → part_at (drop n us) ≡ o
part_behind us n found o e f = sym (e ∙ ap part_at (take_rest us n)) ∙ f

-- no part follows
pub all_read : (us text : List ℕ) (n : ℕ) (escaped : Bool) → ReadsName us text n escaped → part_at (drop n us) ≡ None → FindsName us (record { text = text; length = n; escaped = escaped })
all_read us text n escaped r e = record {
  parts = r.parts;
  is = r.is;
  whole = r.whole;
  length_is = r.length_is;
  text = r.text_is;
  escaped = r.escaped_is;
  longest = λ others rest i w. subst (λ k. length (spelled_name others) ≤ k) r.length_is (longest_parts r.parts others (drop n us) rest (are_parts r.parts r.is) (are_parts others i) e (sym r.whole ∙ w));
}

-- what begins a name
pub start_begins : (us : List ℕ) (x : ℕ × ℕ) → start_at us ≡ Some x → BeginsName us
start_begins us x e = let r = first_read us x e in (r.parts, drop x.1 us, r.is, r.whole)

-- whether it does
pub begins_is : (us : List ℕ) (found : Option (ℕ × ℕ)) (b : Bool) → found ≡ start_at us → b ≡ is_some found → (b ≡ true) ↔ BeginsName us
begins_is us None b e f = ((λ h. absurd (true≢false (sym h ∙ f))), (λ begins. absurd (none_begins us (sym e) begins)))
begins_is us (Some x) b e f = ((λ h. start_begins us x (sym e)), (λ begins. f))
