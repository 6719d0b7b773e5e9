-- What is read of a text: it is NaN, or a literal spells the text. With its number that tells each answer.
use Rattle.std.proofs.Common.{◌≡◌, ℕ, ◌*◌, ◌^◌, ◌<◌, ◌==◌, ◌⊎◌, ◌&&◌, ◌||◌, not, List, [], ◌∷◌, ◌++◌, length, take, drop, Bool, true, false, refl, sym, ap, subst, ◌∙◌, arith, inl, inr, ⊎_elim, append_assoc, Option, Some, None, if◌then◌else◌, ℤ, pos, ◌↔◌, Result, Ok, Err, bytes_eq}
use Rattle.js_number.specs.declared.int.LeftNumbers.{LeftNumbers}
use Rattle.js_number.specs.declared.num.Num.{Num}
use Rattle.js_number.specs.declared.num.Num.TheVariants.{Nan, Int}
use Rattle.js_number.specs.Profile.{IsProfile, in_profile}
use Rattle.js_number.specs.Number.{number}
use Rattle.std.specs.List.{list_all}
use Rattle.std.specs.Option.{option_map}
use Rattle.std.specs.Char.{is_digit}
use Rattle.std.specs.Str.Parse.{digits_value, AllDigits}
use Rattle.std.proofs.Math.Nat.{mul-one}
use Rattle.std.proofs.lemmas.List.{take-append-drop, length-take-le}
use Rattle.std.proofs.lemmas.List.Sums.{prefix_len-le-length}
use Rattle.std.proofs.lemmas.Bool.{cond-false, or_cases, or_parts, and_parts, eqb-true, eqb-false, not-false}
use Rattle.std.proofs.lemmas.Slice.Eq.{bytes_eq-Decides}
use Rattle.js_number.specs.declared.numeric_text.PowerOfTen.{PowerOfTen}
use Rattle.js_number.specs.declared.numeric_text.Spelled.{Spelled}
use Rattle.js_number.specs.declared.numeric_text.Spelled.TheVariants.{NoLiteral, NoInteger, Integer}
use Rattle.js_number.specs.Literal.{Sign, unsigned, plus, minus, Mantissa, integer, pointed, fraction, Exponent, none, power, Literal, empty, hexadecimal, decimal, infinity, is_blank, AreBlank, AreDigits, spelled_sign, spelled_mantissa, spelled_exponent, spelling, IsMantissa, IsExponent, IsLiteral, mantissa_value, at_exponent, signed, HasValue, SpellsLiteral, IsNumeric, SpellsNumber}
use Rattle.js_number.specs.NumericText.{digit_count, after_blanks, lone_digits, power_of, signed_power, exponent_of, scaled, integer_if, scaled_where, with_exponent, with_fraction, infinity_word, is_infinity, decimal_of, hexadecimal_if, hexadecimal_of, unsigned_of, signed_integer, number_spelled, number_behind_blanks, number_of_text}
use Rattle.js_number.proofs.Blanks.{digits_first, skips}
use Rattle.js_number.proofs.Scaling.{up_found, down_found}
use Rattle.js_number.proofs.Answered.{through, left, answered, answers}
use Rattle.js_number.proofs.Spelled.{power_value, whole_of, fraction_of, has_digit, above_is, below_is, value_read, scaled_value, hex_test, hex_units, is_minus, literal_number, spelled_read}

-- a count that is not 0
not_empty : (n : ℕ) → (n == 0) ≡ false → 0 < n
not_empty n e = let h = eqb-false n 0 e in omega arith

-- digits, and then only blanks
record Lone (radix : ℕ) (us ds : List ℕ) : Type 0 where
  after : List ℕ
  digits : AreDigits radix ds
  blank : AreBlank after
  whole : us ≡ ds ++ after

-- what was read as digits is so
lone_found : (radix : ℕ) (us ds : List ℕ) → lone_digits radix us ≡ Some ds → Lone radix us ds
unfolding lone_digits
lone_found radix us ds e =
    let t = through (digit_count radix us == 0 || not (list_all is_blank (drop (digit_count radix us) us))) (Some (take (digit_count radix us) us)) ds e in
    let parts = or_parts (digit_count radix us == 0) (not (list_all is_blank (drop (digit_count radix us) us))) t.0 in
    let d : take (digit_count radix us) us ≡ ds = let f = t.1 in cc f in
    let some : 0 < digit_count radix us = not_empty (digit_count radix us) parts.0 in
    let l : length ds ≡ digit_count radix us = ap length (sym d) ∙ length-take-le (digit_count radix us) us (prefix_len-le-length (λ u. is_digit u radix) us) in
    record {
      after = drop (digit_count radix us) us;
      digits = (subst (λ n. 0 < n) (sym l) some, subst (λ xs. AllDigits radix xs) d (digits_first radix us));
      blank = not-false (list_all is_blank (drop (digit_count radix us) us)) parts.1;
      whole = sym (take-append-drop (digit_count radix us) us) ∙ ap (λ xs. xs ++ drop (digit_count radix us) us) d;
    }

-- an exponent, or none, and then only blanks
record Power (us : List ℕ) : Type 0 where
  exponent : Exponent
  after : List ℕ
  is_exponent : IsExponent exponent
  blank : AreBlank after
  whole : us ≡ spelled_exponent exponent ++ after

-- what a map of an option came from
mapped : {X Y : Type 0} (f : X → Y) (o : Option X) (y : Y) → option_map f o ≡ Some y → (x : X) × (o ≡ Some x)
mapped f None y e = cc
mapped f (Some x) y e = (x, refl)

-- an exponent by its letter, its sign and its digits
size_found : (x : ℕ) (letter : (x ≡ 101) ⊎ (x ≡ 69)) (s : Sign) (negative : Bool) (us : List ℕ) (p : PowerOfTen) → power_of negative us ≡ Some p → Power (x ∷ (spelled_sign s ++ us))
unfolding power_of
size_found x letter s negative us p e =
    let m = mapped (λ ds. record { negative = negative; size = digits_value 10 ds }) (lone_digits 10 us) p e in
    let l = lone_found 10 us m.0 m.1 in
    record {
      exponent = power x s m.0;
      after = l.after;
      is_exponent = (letter, l.digits);
      blank = l.blank;
      whole = ap (λ xs. x ∷ (spelled_sign s ++ xs)) l.whole ∙ ap (λ xs. x ∷ xs) (sym (append_assoc (spelled_sign s) m.0 l.after));
    }

-- an exponent by the test for its sign
signed_at : (a b : Bool) (x : ℕ) (letter : (x ≡ 101) ⊎ (x ≡ 69)) (u : ℕ) (us : List ℕ) (p : PowerOfTen) → (u == 45) ≡ a → (u == 43) ≡ b → (if a then power_of true us else (if b then power_of false us else power_of false (u ∷ us))) ≡ Some p → Power (x ∷ u ∷ us)
signed_at true b x letter u us p s t e = subst (λ y. Power (x ∷ y ∷ us)) (sym (eqb-true u 45 s)) (size_found x letter minus true us p e)
signed_at false true x letter u us p s t e = subst (λ y. Power (x ∷ y ∷ us)) (sym (eqb-true u 43 t)) (size_found x letter plus false us p e)
signed_at false false x letter u us p s t e = size_found x letter unsigned false (u ∷ us) p e

-- an exponent behind its letter
signed_found : (x : ℕ) (letter : (x ≡ 101) ⊎ (x ≡ 69)) (us : List ℕ) (p : PowerOfTen) → signed_power us ≡ Some p → Power (x ∷ us)
unfolding signed_power
signed_found x letter [] p e = size_found x letter unsigned false [] p e
signed_found x letter (u ∷ us) p e = signed_at (u == 45) (u == 43) x letter u us p refl refl e

-- no exponent, and then only blanks
blank_power : (b : Bool) (us : List ℕ) (p : PowerOfTen) → list_all is_blank us ≡ b → (if b then Some (power_value none) else None) ≡ Some p → Power us
blank_power true us p t e = record { exponent = none; after = us; is_exponent = tt; blank = t; whole = refl }
blank_power false us p t e = cc e

-- an exponent by the test for its letter
exponent_at : (b : Bool) (u : ℕ) (us : List ℕ) (p : PowerOfTen) → (u == 101 || u == 69) ≡ b → (if b then signed_power us else (if list_all is_blank (u ∷ us) then Some (power_value none) else None)) ≡ Some p → Power (u ∷ us)
exponent_at true u us p t e = signed_found u (⊎_elim (λ h. inl (eqb-true u 101 h)) (λ h. inr (eqb-true u 69 h)) (or_cases (u == 101) (u == 69) t)) us p e
exponent_at false u us p t e = blank_power (list_all is_blank (u ∷ us)) (u ∷ us) p refl e

-- what was read as an exponent is so
exponent_found : (us : List ℕ) (p : PowerOfTen) → exponent_of us ≡ Some p → Power us
unfolding exponent_of
exponent_found [] p e = blank_power true [] p refl e
exponent_found (u ∷ us) p e = exponent_at (u == 101 || u == 69) u us p refl e

-- a number that may have a sign, and then only blanks
record Decimal (us : List ℕ) : Type 0 where
  literal : Sign → Literal
  text : List ℕ
  after : List ℕ
  spells : (s : Sign) → spelling (literal s) ≡ spelled_sign s ++ text
  is_literal : (s : Sign) → IsLiteral (literal s)
  blank : AreBlank after
  whole : us ≡ text ++ after

-- it is no literal, or one
abbrev Case : List ℕ → Spelled → Type 0
Case us r = (r ≡ NoLiteral) ⊎ Decimal us

-- a mantissa with what was read behind it
tail_at : (m : Mantissa) (us : List ℕ) (o : Option PowerOfTen) → IsMantissa m → exponent_of us ≡ o → Case (spelled_mantissa m ++ us) (scaled_where (whole_of m) (fraction_of m) o)
unfolding scaled_where
tail_at m us None i e = inl refl
tail_at m us (Some p) i e =
    let q = exponent_found us p e in
    inr (record {
      literal = λ s. decimal s m q.exponent;
      text = spelled_mantissa m ++ spelled_exponent q.exponent;
      after = q.after;
      spells = λ s. refl;
      is_literal = λ s. (i, q.is_exponent);
      blank = q.blank;
      whole = ap (λ xs. spelled_mantissa m ++ xs) q.whole ∙ sym (append_assoc (spelled_mantissa m) (spelled_exponent q.exponent) q.after);
    })

tail_found : (m : Mantissa) (us : List ℕ) → IsMantissa m → Case (spelled_mantissa m ++ us) (scaled_where (whole_of m) (fraction_of m) (exponent_of us))
tail_found m us i = tail_at m us (exponent_of us) i refl

mantissa_case : (m : Mantissa) (us : List ℕ) → IsMantissa m → Case (spelled_mantissa m ++ us) (with_exponent (whole_of m) (fraction_of m) us)
unfolding with_exponent
mantissa_case m us i =
    subst (Case (spelled_mantissa m ++ us)) (sym (cond-false (length (whole_of m) == 0 && length (fraction_of m) == 0) NoLiteral (scaled_where (whole_of m) (fraction_of m) (exponent_of us)) (has_digit m i))) (tail_found m us i)

-- a mantissa without a point
no_point_found : (ds us : List ℕ) → AllDigits 10 ds → Case (ds ++ us) (with_exponent ds [] us)
unfolding with_exponent
no_point_found [] us a = inl refl
no_point_found (d ∷ ds) us a = mantissa_case (integer (d ∷ ds)) us (omega arith, a)

-- a mantissa with a point
point_found : (ds fs us : List ℕ) → AllDigits 10 ds → AllDigits 10 fs → Case (ds ++ (46 ∷ (fs ++ us))) (with_exponent ds fs us)
unfolding with_exponent
point_found [] [] us a b = inl refl
point_found [] (f ∷ fs) us a b = mantissa_case (fraction (f ∷ fs)) us (omega arith, b)
point_found (d ∷ ds) fs us a b = subst (λ xs. Case xs (with_exponent (d ∷ ds) fs us)) (append_assoc (d ∷ ds) (46 ∷ fs) us) (mantissa_case (pointed (d ∷ ds) fs) us ((omega arith, a), b))

-- a mantissa by the test for its point
fraction_at : (b : Bool) (ds : List ℕ) (u : ℕ) (us : List ℕ) → AllDigits 10 ds → (u == 46) ≡ b → Case (ds ++ u ∷ us) (if b then with_exponent ds (take (digit_count 10 us) us) (drop (digit_count 10 us) us) else with_exponent ds [] (u ∷ us))
fraction_at true ds u us a t =
    let whole : ds ++ (46 ∷ (take (digit_count 10 us) us ++ drop (digit_count 10 us) us)) ≡ ds ++ u ∷ us = ap (λ xs. ds ++ (46 ∷ xs)) (take-append-drop (digit_count 10 us) us) ∙ ap (λ y. ds ++ y ∷ us) (sym (eqb-true u 46 t)) in
    subst (λ xs. Case xs (with_exponent ds (take (digit_count 10 us) us) (drop (digit_count 10 us) us))) whole (point_found ds (take (digit_count 10 us) us) (drop (digit_count 10 us) us) a (digits_first 10 us))
fraction_at false ds u us a t = no_point_found ds (u ∷ us) a

-- what stands behind the first digits
fraction_found : (ds us : List ℕ) → AllDigits 10 ds → Case (ds ++ us) (with_fraction ds us)
unfolding with_fraction
fraction_found ds [] a = no_point_found ds [] a
fraction_found ds (u ∷ us) a = fraction_at (u == 46) ds u us a refl

-- the word Infinity, and then only blanks
infinity_found : (us : List ℕ) → is_infinity us ≡ true → Decimal us
unfolding is_infinity
infinity_found us e =
    let p = and_parts (bytes_eq (take 8 us) infinity_word) (list_all is_blank (drop 8 us)) e in
    record {
      literal = infinity;
      text = infinity_word;
      after = drop 8 us;
      spells = λ s. refl;
      is_literal = λ s. tt;
      blank = p.1;
      whole = sym (take-append-drop 8 us) ∙ ap (λ xs. xs ++ drop 8 us) ((bytes_eq-Decides (take 8 us) infinity_word).0 p.0);
    }

-- a decimal number by that test
decimal_by : (b : Bool) (us : List ℕ) → is_infinity us ≡ b → Case us (if b then NoInteger else with_fraction (take (digit_count 10 us) us) (drop (digit_count 10 us) us))
decimal_by true us e = inr (infinity_found us e)
decimal_by false us e = subst (λ xs. Case xs (with_fraction (take (digit_count 10 us) us) (drop (digit_count 10 us) us))) (take-append-drop (digit_count 10 us) us) (fraction_found (take (digit_count 10 us) us) (drop (digit_count 10 us) us) (digits_first 10 us))

decimal_found : (us : List ℕ) → Case us (decimal_of us)
unfolding decimal_of
decimal_found us = decimal_by (is_infinity us) us refl

-- a literal, and then only blanks
record Behind (us : List ℕ) : Type 0 where
  literal : Literal
  after : List ℕ
  is_literal : IsLiteral literal
  blank : AreBlank after
  whole : us ≡ spelling literal ++ after

-- a decimal number with its sign is a literal
as_literal : (s : Sign) (us : List ℕ) → Decimal us → Behind (spelled_sign s ++ us)
as_literal s us d = record {
  literal = d.literal s;
  after = d.after;
  is_literal = d.is_literal s;
  blank = d.blank;
  whole = ap (λ xs. spelled_sign s ++ xs) d.whole ∙ sym (append_assoc (spelled_sign s) d.text d.after) ∙ ap (λ xs. xs ++ d.after) (sym (d.spells s));
}

-- the text is no literal and counts as NaN, or it is one
abbrev Read : List ℕ → Result Num LeftNumbers → Type 0
Read us r = (r ≡ Ok Nan) ⊎ Behind us

-- a decimal number behind its sign
signed_read : (negative : Bool) (s : Sign) (us : List ℕ) → Read (spelled_sign s ++ us) (number_spelled negative (decimal_of us))
signed_read negative s us = ⊎_elim (λ e. inl (ap (number_spelled negative) e)) (λ d. inr (as_literal s us d)) (decimal_found us)

-- a hexadecimal number
hex_case : (o : Option (List ℕ)) (x : ℕ) (us : List ℕ) → (x ≡ 120) ⊎ (x ≡ 88) → lone_digits 16 us ≡ o → Read (48 ∷ x ∷ us) (number_spelled false (hexadecimal_if o))
hex_case None x us h e = inl refl
hex_case (Some ds) x us h e =
    let l = lone_found 16 us ds e in
    inr (record { literal = hexadecimal x ds; after = l.after; is_literal = (h, l.digits); blank = l.blank; whole = ap (λ xs. 48 ∷ x ∷ xs) l.whole })

hex_behind : (x : ℕ) (us : List ℕ) → (x ≡ 120) ⊎ (x ≡ 88) → Read (48 ∷ x ∷ us) (number_spelled false (hexadecimal_of us))
unfolding hexadecimal_of
hex_behind x us h = hex_case (lone_digits 16 us) x us h refl

-- a number without a sign by the test for `0x`
unsigned_behind_at : (b : Bool) (u x : ℕ) (us : List ℕ) → hex_test u x ≡ b → Read (u ∷ x ∷ us) (number_spelled false (if b then hexadecimal_of us else decimal_of (u ∷ x ∷ us)))
unsigned_behind_at true u x us t =
    let p = hex_units u x t in
    subst (λ y. Read (y ∷ x ∷ us) (number_spelled false (hexadecimal_of us))) (sym p.0) (hex_behind x us p.1)
unsigned_behind_at false u x us t = signed_read false unsigned (u ∷ x ∷ us)

-- a number without a sign
unsigned_behind : (us : List ℕ) → Read us (number_spelled false (unsigned_of us))
unfolding unsigned_of hex_test
unsigned_behind [] = signed_read false unsigned []
unsigned_behind (u ∷ []) = signed_read false unsigned (u ∷ [])
unsigned_behind (u ∷ x ∷ us) = unsigned_behind_at (hex_test u x) u x us refl

-- a number by the test for its sign
behind_at : (a b : Bool) (u : ℕ) (us : List ℕ) → (u == 45) ≡ a → (u == 43) ≡ b → Read (u ∷ us) (if a then number_spelled true (decimal_of us) else (if b then number_spelled false (decimal_of us) else number_spelled false (unsigned_of (u ∷ us))))
behind_at true b u us s t = subst (λ y. Read (y ∷ us) (number_spelled true (decimal_of us))) (sym (eqb-true u 45 s)) (signed_read true minus us)
behind_at false true u us s t = subst (λ y. Read (y ∷ us) (number_spelled false (decimal_of us))) (sym (eqb-true u 43 t)) (signed_read false plus us)
behind_at false false u us s t = unsigned_behind (u ∷ us)

-- what was read behind blanks is so
behind_found : (us : List ℕ) → Read us (number_behind_blanks us)
unfolding number_behind_blanks
behind_found [] = inr (record { literal = empty; after = []; is_literal = tt; blank = refl; whole = refl })
behind_found (u ∷ us) = behind_at (u == 45) (u == 43) u us refl refl

-- what was read of a text is so
text_found : (text : List ℕ) → (number_of_text text ≡ Ok Nan) ⊎ IsNumeric text
unfolding number_of_text
text_found text =
    let s = skips text in
    ⊎_elim inl (λ b. inr (record {
      literal = b.literal;
      spells = record { before = s.before; after = b.after; is_literal = b.is_literal; blank_before = s.blank; blank_after = b.blank; spelled = s.whole ∙ ap (λ xs. s.before ++ xs) b.whole };
    })) (behind_found (after_blanks text))

-- ---- the number of a literal

-- the exact value of a mantissa with an exponent
value_found : (m : Mantissa) (e : Exponent) (n : ℕ) → scaled (whole_of m) (fraction_of m) (power_value e) ≡ Some n → n * (at_exponent (mantissa_value m) e).below ≡ (at_exponent (mantissa_value m) e).above
unfolding scaled
value_found m none n h = ap (λ b. n * b) (below_is m) ∙ up_found (whole_of m) (fraction_of m) 0 n h ∙ mul-one (digits_value 10 (whole_of m ++ fraction_of m)) ∙ sym (above_is m)
value_found m (power x minus ds) n h = ap (λ b. n * (b * 10 ^ digits_value 10 ds)) (below_is m) ∙ down_found (whole_of m) (fraction_of m) (digits_value 10 ds) n h ∙ sym (above_is m)
value_found m (power x plus ds) n h = ap (λ b. n * b) (below_is m) ∙ up_found (whole_of m) (fraction_of m) (digits_value 10 ds) n h ∙ ap (λ v. v * 10 ^ digits_value 10 ds) (sym (above_is m))
value_found m (power x unsigned ds) n h = ap (λ b. n * b) (below_is m) ∙ up_found (whole_of m) (fraction_of m) (digits_value 10 ds) n h ∙ ap (λ v. v * 10 ^ digits_value 10 ds) (sym (above_is m))

-- a sign, as a literal has it and as it is read
sign_is : (s : Sign) (n : ℕ) → signed_integer (is_minus s) n ≡ signed s n
sign_is minus n = refl
sign_is plus n = refl
sign_is unsigned n = refl

-- an integer is of the profile, or it is none
number_is : (m z : ℤ) → number m ≡ Ok (Int z) → IsProfile z × (m ≡ z)
number_is m z e =
    let p = answered (Some m) z e in
    (p.0, let q = p.1 in let f : m ≡ z = cc q in f)

-- the number of a decimal literal
decimal_is : (s : Sign) (m : Mantissa) (e : Exponent) (o : Option ℕ) (z : ℤ) → scaled (whole_of m) (fraction_of m) (power_value e) ≡ o → number_spelled (is_minus s) (integer_if o) ≡ Ok (Int z) → IsProfile z × HasValue (decimal s m e) z
decimal_is s m e None z h k = cc k
decimal_is s m e (Some n) z h k =
    let p = number_is (signed_integer (is_minus s) n) z k in
    (p.0, (n, sym p.1 ∙ sign_is s n, value_found m e n h))

-- a number of a literal is its value
literal_found : (l : Literal) (z : ℤ) → IsLiteral l → literal_number l ≡ Ok (Int z) → IsProfile z × HasValue l z
literal_found empty z i e = let f : pos 0 ≡ z = cc e in (subst IsProfile f (omega arith), sym f)
literal_found (hexadecimal x ds) z i e = let p = number_is (pos (digits_value 16 ds)) z e in (p.0, sym p.1)
literal_found (decimal s m x) z i e = decimal_is s m x (scaled (whole_of m) (fraction_of m) (power_value x)) z refl e
literal_found (infinity s) z i e = cc e

-- and its value is its number
literal_has : (l : Literal) (z : ℤ) → IsLiteral l → IsProfile z → HasValue l z → literal_number l ≡ Ok (Int z)
literal_has empty z i p h = ap (λ n. Ok (Int n)) (sym h)
literal_has (hexadecimal x ds) z i p h = answers (Some (pos (digits_value 16 ds))) z p (ap Some (sym h))
literal_has (decimal s m e) z i p h =
    ap (λ o. number_spelled (is_minus s) (integer_if o)) (value_read m e h.0 i.0 h.2) ∙ answers (Some (signed_integer (is_minus s) h.0)) z p (ap Some (sign_is s h.0 ∙ sym h.1))
literal_has (infinity s) z i p h = absurd h

-- none is NaN
number_no_nan : (b : Bool) (m : ℤ) → (if b then Ok (Int m) else left) ≡ Ok Nan → ⊥
number_no_nan true m e = cc e
number_no_nan false m e = cc e

spelled_no_nan : (negative : Bool) (o : Option ℕ) → number_spelled negative (integer_if o) ≡ Ok Nan → ⊥
spelled_no_nan negative None e = cc e
spelled_no_nan negative (Some n) e = number_no_nan (in_profile (signed_integer negative n)) (signed_integer negative n) e

literal_no_nan : (l : Literal) → literal_number l ≡ Ok Nan → ⊥
literal_no_nan empty e = cc e
literal_no_nan (hexadecimal x ds) e = number_no_nan (in_profile (pos (digits_value 16 ds))) (pos (digits_value 16 ds)) e
literal_no_nan (decimal s m x) e = spelled_no_nan (is_minus s) (scaled (whole_of m) (fraction_of m) (power_value x)) e
literal_no_nan (infinity s) e = cc e

-- ---- what is answered

-- an integer is answered where the text is a literal with that value, which is of the profile
number_found : (text : List ℕ) (z : ℤ) → number_of_text text ≡ Ok (Int z) → IsProfile z × SpellsNumber text z
number_found text z e = ⊎_elim (λ n. let clash : Ok Nan ≡ Ok (Int z) = sym n ∙ e in cc clash)
    (λ n. let p = literal_found n.literal z n.spells.is_literal (sym (spelled_read text n.literal n.spells) ∙ e) in (p.0, record { literal = n.literal; spells = n.spells; value = p.1 }))
    (text_found text)

pub answer_exact : (text : List ℕ) (r : Result Num LeftNumbers) (z : ℤ) → r ≡ number_of_text text → (r ≡ Ok (Int z)) ↔ (IsProfile z × SpellsNumber text z)
answer_exact text r z e =
    (λ h. number_found text z (sym e ∙ h), λ p. let s = p.1 in e ∙ spelled_read text s.literal s.spells ∙ literal_has s.literal z s.spells.is_literal p.0 s.value)

-- and NaN where it is no literal
pub answer_nan : (text : List ℕ) (r : Result Num LeftNumbers) → r ≡ number_of_text text → (r ≡ Ok Nan) ↔ (IsNumeric text → ⊥)
answer_nan text r e =
    (λ h n. literal_no_nan n.literal (sym (spelled_read text n.literal n.spells) ∙ (sym e ∙ h)), λ no. e ∙ ⊎_elim (λ n. n) (λ n. absurd (no n)) (text_found text))
