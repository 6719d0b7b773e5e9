-- What the reader of a string finds is there.
use Rattle.std.proofs.Common.{◌≡◌, ℕ, suc, ◌+◌, ◌-◌, ◌*◌, ◌^◌, ◌≤◌, ◌<◌, ◌==◌, Bool, true, false, not, ◌&&◌, nat_le, Some, None, List, [], ◌∷◌, ◌++◌, length, get_or, take, drop, refl, sym, ap, subst, ◌∙◌, arith, if◌then◌else◌, append_assoc}
use Rattle.std.specs.List.{list_all, slice_range}
use Rattle.std.specs.Char.{is_digit, digit_value}
use Rattle.std.specs.Str.Parse.{digits_value, AllDigits}
use Rattle.std.proofs.lemmas.Bool.{cond-true, leb-true, le-leb, and_right, or_left, not_from_false, not-true, and_parts, and_from, eqb-true, ltb-true, lt-ltb, true≢false, cond_both}
use Rattle.std.proofs.lemmas.List.{take-append-drop, take_all, length-take, length-take-le, length-append, append-nil, flat_map_more, drop-drop}
use Rattle.std.proofs.lemmas.Int.Digits.{digits_value-lt, digits_more, digits_value_more}
use Rattle.std.proofs.Math.Nat.{pow-le-pow_right}
use Rattle.js_scan.specs.Units.{is_line_terminator, is_quote, begins_with, begins_with_digit}
use Rattle.js_scan.specs.Names.{AreHex}
use Rattle.js_scan.specs.Found.{FindsString}
use Rattle.js_scan.specs.declared.strings.Ahead.{Ahead}
use Rattle.js_scan.specs.declared.strings.Ahead.TheVariants.{Value, Nothing, Quote, LineEnd, BadEscape}
use Rattle.js_scan.specs.Hexadecimal.{begins_with_hexadecimal, hexadecimal_value}
use Rattle.js_scan.proofs.HexadecimalLaws.{hexadecimal_from_test, test_from_hexadecimal}
use Rattle.js_scan.specs.StringReading.{by_number, hexadecimal_escape, digit_escape, line_continuation, escape, look_ahead}
use Rattle.js_scan.specs.Strings.{StringPart, plain, character, null_character, hexadecimal, unicode, continuation, spelled_string_part, spelled_string_parts, string_part_value, string_value, spelled_string, OpensString, HasBadEscape, escaped_character, is_plain, is_escapable, IsStringPart, AreStringParts, IsString, ends_open, IsBadEscape}
use Rattle.js_scan.proofs.StringLaws.{cut, cut_escape, cut_digit, stopped_at, parts_before, spelled_whole, one_string}

-- a part of this value and of so many units stands at the front
pub record SpellsPart (quote : ℕ) (us value : List ℕ) (n : ℕ) : Type 0 where
  pub part : StringPart
  pub is : IsStringPart quote part (drop n us)
  pub whole : us ≡ spelled_string_part part ++ drop n us
  pub length_is : length (spelled_string_part part) ≡ n
  pub value_is : string_part_value part ≡ value

-- what the reader finds ahead stands there
abbrev pub StandsAhead : ℕ → List ℕ → Ahead → Type 0
StandsAhead quote us (Value unit n) = SpellsPart quote us (unit ∷ []) n
StandsAhead quote us (Nothing n) = SpellsPart quote us [] n
StandsAhead quote us Quote = us ≡ quote ∷ drop 1 us
StandsAhead quote us LineEnd = ends_open us ≡ true
StandsAhead quote us BadEscape = IsBadEscape quote us

-- an escape is bad where what would be cut off is no part
bad_at : (quote u : ℕ) (us : List ℕ) → (IsStringPart quote (cut (92 ∷ u ∷ us)).0 (cut (92 ∷ u ∷ us)).1 → ⊥) → IsBadEscape quote (92 ∷ u ∷ us)
bad_at quote u us none = (u, us, refl, stopped_at quote (92 ∷ u ∷ us) none)

-- `\x`
two_digits_ahead : (quote : ℕ) (us : List ℕ) → StandsAhead quote (92 ∷ 120 ∷ us) (hexadecimal_escape 2 us)
unfolding hexadecimal_escape hexadecimal_value IsStringPart cut cut_escape
two_digits_ahead quote us =
    cond_both (begins_with_hexadecimal 2 us) (Some (digits_value 16 (take 2 us))) None (λ o. StandsAhead quote (92 ∷ 120 ∷ us) (by_number 4 o))
    (λ e. let are = hexadecimal_from_test 2 us e in
    record { part = hexadecimal (take 2 us); is = are; whole = ap (λ xs. 92 ∷ 120 ∷ xs) (sym (take-append-drop 2 us)); length_is = ap (λ n. suc (suc n)) are.0; value_is = refl })
    (λ e. bad_at quote 120 us (λ are. true≢false (sym (test_from_hexadecimal 2 us are) ∙ e)))

-- `\u`
four_digits_ahead : (quote : ℕ) (us : List ℕ) → StandsAhead quote (92 ∷ 117 ∷ us) (hexadecimal_escape 4 us)
unfolding hexadecimal_escape hexadecimal_value IsStringPart cut cut_escape
four_digits_ahead quote us =
    cond_both (begins_with_hexadecimal 4 us) (Some (digits_value 16 (take 4 us))) None (λ o. StandsAhead quote (92 ∷ 117 ∷ us) (by_number 6 o))
    (λ e. let are = hexadecimal_from_test 4 us e in
    record { part = unicode (take 4 us); is = are; whole = ap (λ xs. 92 ∷ 117 ∷ xs) (sym (take-append-drop 4 us)); length_is = ap (λ n. suc (suc n)) are.0; value_is = refl })
    (λ e. bad_at quote 117 us (λ are. true≢false (sym (test_from_hexadecimal 4 us are) ∙ e)))

-- `\` and a digit
digit_stands_ahead : (quote u : ℕ) (us : List ℕ) → (u == 120) ≡ false → (u == 117) ≡ false → is_digit u 10 ≡ true → StandsAhead quote (92 ∷ u ∷ us) (digit_escape u us)
unfolding digit_escape IsStringPart cut cut_escape cut_digit
digit_stands_ahead quote u us e f d =
    cond_both (u == 48 && not (begins_with_digit us)) (Value 0 2) BadEscape (StandsAhead quote (92 ∷ u ∷ us))
    (λ h. let parts = and_parts (u == 48) (not (begins_with_digit us)) h in
    subst (λ w. SpellsPart quote (92 ∷ w ∷ us) (0 ∷ []) 2) (sym (eqb-true u 48 parts.0)) (record { part = null_character; is = not-true (begins_with_digit us) parts.1; whole = refl; length_is = refl; value_is = refl }))
    (λ h. bad_at quote u us (rw (e, f, d) (cond_both {A = StringPart × List ℕ} (u == 48) (null_character, us) (continuation [], us) (λ c. IsStringPart quote c.0 c.1 → ⊥)
    (λ zero apart. true≢false (sym (and_from (u == 48) (not (begins_with_digit us)) zero (not_from_false (begins_with_digit us) apart)) ∙ h))
    (λ other is. is))))

-- `\` and a line terminator
line_end_stands_ahead : (quote u : ℕ) (us : List ℕ) → is_line_terminator u ≡ true → StandsAhead quote (92 ∷ u ∷ us) (line_continuation u us)
unfolding line_continuation IsStringPart begins_with
line_end_stands_ahead quote u [] h =
    cond_both (u == 13 && false) (Nothing 3) (Nothing 2) (StandsAhead quote (92 ∷ u ∷ []))
    (λ e. absurd (true≢false (sym e ∙ and_right (u == 13) false refl)))
    (λ e. record { part = continuation (u ∷ []); is = (h, e); whole = refl; length_is = refl; value_is = refl })
line_end_stands_ahead quote u (v ∷ us) h =
    cond_both (u == 13 && v == 10) (Nothing 3) (Nothing 2) (StandsAhead quote (92 ∷ u ∷ v ∷ us))
    (λ e. let parts = and_parts (u == 13) (v == 10) e in
    record { part = continuation (u ∷ v ∷ []); is = (eqb-true u 13 parts.0, eqb-true v 10 parts.1); whole = refl; length_is = refl; value_is = refl })
    (λ e. record { part = continuation (u ∷ []); is = (h, e); whole = refl; length_is = refl; value_is = refl })

-- `\` and any other unit
character_stands_ahead : (quote u : ℕ) (us : List ℕ) → (u == 120) ≡ false → (u == 117) ≡ false → is_digit u 10 ≡ false → is_line_terminator u ≡ false → SpellsPart quote (92 ∷ u ∷ us) (escaped_character u ∷ []) 2
unfolding IsStringPart is_escapable
character_stands_ahead quote u us e f g h = record { part = character u; is = rw (g, e, f, h); whole = refl; length_is = refl; value_is = refl }

-- `\`
escape_stands_ahead : (quote : ℕ) (us : List ℕ) → StandsAhead quote (92 ∷ us) (escape us)
unfolding escape ends_open is_line_terminator
escape_stands_ahead quote [] = refl
escape_stands_ahead quote (u ∷ us) =
    cond_both (u == 120) _ _ (StandsAhead quote (92 ∷ u ∷ us)) (λ e. subst (λ w. StandsAhead quote (92 ∷ w ∷ us) (hexadecimal_escape 2 us)) (sym (eqb-true u 120 e)) (two_digits_ahead quote us))
    (λ e. cond_both (u == 117) _ _ (StandsAhead quote (92 ∷ u ∷ us)) (λ f. subst (λ w. StandsAhead quote (92 ∷ w ∷ us) (hexadecimal_escape 4 us)) (sym (eqb-true u 117 f)) (four_digits_ahead quote us))
    (λ f. cond_both (is_digit u 10) _ _ (StandsAhead quote (92 ∷ u ∷ us)) (λ d. digit_stands_ahead quote u us e f d)
    (λ d. cond_both (is_line_terminator u) _ _ (StandsAhead quote (92 ∷ u ∷ us)) (λ h. line_end_stands_ahead quote u us h)
    (λ h. character_stands_ahead quote u us e f d h))))

-- a string ends without its quote at a line terminator
ends_open_at : (u : ℕ) (us : List ℕ) → is_line_terminator u ≡ true → ends_open (u ∷ us) ≡ true
unfolding ends_open
ends_open_at u [] h = or_left (is_line_terminator u) (u == 92) h
ends_open_at u (v ∷ us) h = h

-- a unit as itself
plain_stands_ahead : (quote u : ℕ) (us : List ℕ) → (u == 92) ≡ false → (u == quote) ≡ false → is_line_terminator u ≡ false → SpellsPart quote (u ∷ us) (u ∷ []) 1
unfolding IsStringPart is_plain
plain_stands_ahead quote u us e f h = record { part = plain u; is = rw (f, e, h); whole = refl; length_is = refl; value_is = refl }

-- what the reader finds ahead stands there
pub stands_ahead : (quote : ℕ) (us : List ℕ) → StandsAhead quote us (look_ahead quote us)
unfolding look_ahead ends_open
stands_ahead quote [] = refl
stands_ahead quote (u ∷ us) =
    cond_both (u == 92) _ _ (StandsAhead quote (u ∷ us)) (λ e. subst (λ w. StandsAhead quote (w ∷ us) (escape us)) (sym (eqb-true u 92 e)) (escape_stands_ahead quote us))
    (λ e. cond_both (u == quote) _ _ (StandsAhead quote (u ∷ us)) (λ f. ap (λ w. w ∷ us) (eqb-true u quote f))
    (λ f. cond_both (is_line_terminator u) _ _ (StandsAhead quote (u ∷ us)) (λ h. ends_open_at u us h)
    (λ h. plain_stands_ahead quote u us e f h)))

-- the units of parts, and one more part
spelled_push : (ps : List StringPart) (p : StringPart) → spelled_string_parts (ps ++ p ∷ []) ≡ spelled_string_parts ps ++ spelled_string_part p
unfolding spelled_string_parts
spelled_push ps p = sym (flat_map_more spelled_string_part [] ps p)

-- the same in front of a rest
spelled_push_before : (ps : List StringPart) (p : StringPart) (rest : List ℕ) → spelled_string_parts (ps ++ p ∷ []) ++ rest ≡ spelled_string_parts ps ++ (spelled_string_part p ++ rest)
spelled_push_before ps p rest = ap (λ us. us ++ rest) (spelled_push ps p) ∙ append_assoc (spelled_string_parts ps) (spelled_string_part p) rest

-- the value of parts, and one more part
value_push : (ps : List StringPart) (p : StringPart) → string_value (ps ++ p ∷ []) ≡ string_value ps ++ string_part_value p
unfolding string_value
value_push ps p = sym (flat_map_more string_part_value [] ps p)

-- parts, and one more part
parts_push : (quote : ℕ) (ps : List StringPart) (p : StringPart) (rest : List ℕ) → AreStringParts quote ps (spelled_string_part p ++ rest) → IsStringPart quote p rest → AreStringParts quote (ps ++ p ∷ []) rest
unfolding AreStringParts spelled_string_parts
parts_push quote [] p rest are is = (is, tt)
parts_push quote (q ∷ ps) p rest are is = (subst (λ us. IsStringPart quote q us) (sym (spelled_push_before ps p rest)) are.0, parts_push quote ps p rest are.1 is)

-- a string is read up to this place, and its value so far is this
pub record ReadTo (units : List ℕ) (quote : ℕ) (value : List ℕ) (at : ℕ) : Type 0 where
  pub parts : List StringPart
  pub are : AreStringParts quote parts (drop at units)
  pub whole : units ≡ quote ∷ (spelled_string_parts parts ++ drop at units)
  pub length_is : length (quote ∷ spelled_string_parts parts) ≡ at
  pub value_is : value ≡ string_value parts

-- behind its quote none of its value is read
pub quote_read : (units : List ℕ) (quote : ℕ) (rest : List ℕ) → units ≡ quote ∷ rest → ReadTo units (get_or units 0 0) [] 1
unfolding AreStringParts spelled_string_parts string_value
quote_read units quote rest e = record { parts = []; are = tt; whole = rw e refl; length_is = refl; value_is = refl }

-- its first unit is a quote
pub quote_first : (units : List ℕ) (quote : ℕ) (rest : List ℕ) → units ≡ quote ∷ rest → is_quote quote ≡ true → is_quote (get_or units 0 0) ≡ true
quote_first units quote rest e i = rw e i

-- what was read is within the units
pub read_within : (units : List ℕ) (quote : ℕ) (value : List ℕ) (at : ℕ) → ReadTo units quote value at → at ≤ length units
read_within units quote value at r = omega (arith, ap length r.whole, length-append (spelled_string_parts r.parts) (drop at units), r.length_is)

-- each part has a unit at least
part_has_unit : (p : StringPart) → 0 < length (spelled_string_part p)
part_has_unit (plain u) = omega arith
part_has_unit (character u) = omega arith
part_has_unit null_character = omega arith
part_has_unit (hexadecimal ds) = omega arith
part_has_unit (unicode ds) = omega arith
part_has_unit (continuation end) = omega arith

-- from this place the reader goes so many units further, to this value
pub record ReadOn (units : List ℕ) (quote : ℕ) (value : List ℕ) (at n : ℕ) : Type 0 where
  pub read : ReadTo units quote value (at + n)
  pub moves : 0 < n

-- where the reader goes is within the units
pub on_within : (units : List ℕ) (quote : ℕ) (value : List ℕ) (at n : ℕ) → ReadOn units quote value at n → at + n ≤ length units
on_within units quote value at n r = read_within units quote value (at + n) r.read

module _ (units : List ℕ) (quote : ℕ) (value : List ℕ) (at : ℕ) (r : ReadTo units quote value at) where
  -- one more part
  read_part : (more : List ℕ) (n : ℕ) → SpellsPart quote (drop at units) more n → ReadTo units quote (value ++ more) (at + n)
  read_part more n s =
      let rest : drop n (drop at units) ≡ drop (at + n) units = drop-drop n at units in
      let is : IsStringPart quote s.part (drop (at + n) units) = subst (λ us. IsStringPart quote s.part us) rest s.is in
      let ahead : drop at units ≡ spelled_string_part s.part ++ drop (at + n) units = s.whole ∙ ap (λ us. spelled_string_part s.part ++ us) rest in
      record {
        parts = r.parts ++ s.part ∷ [];
        are = parts_push quote r.parts s.part (drop (at + n) units) (subst (λ us. AreStringParts quote r.parts us) ahead r.are) is;
        whole = r.whole ∙ ap (λ us. quote ∷ (spelled_string_parts r.parts ++ us)) ahead ∙ ap (λ us. quote ∷ us) (sym (spelled_push_before r.parts s.part (drop (at + n) units)));
        length_is = omega (arith, ap length (spelled_push r.parts s.part), length-append (spelled_string_parts r.parts) (spelled_string_part s.part), s.length_is, r.length_is);
        value_is = ap (λ us. us ++ more) r.value_is ∙ ap (λ us. string_value r.parts ++ us) (sym s.value_is) ∙ sym (value_push r.parts s.part);
      }

  -- what stands ahead, where the reader found this
  stands_found : (found : Ahead) → found ≡ look_ahead quote (drop at units) → StandsAhead quote (drop at units) found
  stands_found found e = subst (λ x. StandsAhead quote (drop at units) x) (sym e) (stands_ahead quote (drop at units))

  -- a part of this value and of so many units takes the reader further
  read_on : (more : List ℕ) (n : ℕ) → SpellsPart quote (drop at units) more n → ReadOn units quote (value ++ more) at n
  read_on more n s = record { read = read_part more n s; moves = omega (arith, part_has_unit s.part, s.length_is) }

  -- a unit is read
  pub value_read : (unit n : ℕ) → Value unit n ≡ look_ahead quote (drop at units) → ReadOn units quote (value ++ unit ∷ []) at n
  value_read unit n e = read_on (unit ∷ []) n (stands_found (Value unit n) e)

  -- a line continuation is read
  pub nothing_read : (n : ℕ) → Nothing n ≡ look_ahead quote (drop at units) → ReadOn units quote value at n
  nothing_read n e = subst (λ v. ReadOn units quote v at n) (append-nil value) (read_on [] n (stands_found (Nothing n) e))

  -- behind its last part a string has its quote
  pub quote_found : is_quote quote ≡ true → Quote ≡ look_ahead quote (drop at units) → FindsString units value (at + 1)
  quote_found i e =
      let ahead : drop at units ≡ quote ∷ drop (at + 1) units = stands_found Quote e ∙ ap (λ us. quote ∷ us) (drop-drop 1 at units) in
      let whole : units ≡ spelled_string quote r.parts ++ drop (at + 1) units = r.whole ∙ ap (λ us. quote ∷ (spelled_string_parts r.parts ++ us)) ahead ∙ sym (spelled_whole quote r.parts (drop (at + 1) units)) in
      let is : IsString quote r.parts = parts_before quote r.parts quote (drop (at + 1) units) [] (subst (λ us. AreStringParts quote r.parts us) ahead r.are) in
      let n : length (spelled_string quote r.parts) ≡ at + 1 = omega (arith, length-append (spelled_string_parts r.parts) (quote ∷ []), r.length_is) in
      record {
        quote = quote;
        parts = r.parts;
        is_quote = i;
        is = is;
        whole = whole;
        length_is = n;
        value_is = r.value_is;
        longest = λ q others behind are f.
            let one = one_string quote q r.parts others (drop (at + 1) units) behind i is are (sym whole ∙ f) in
            let same : spelled_string quote r.parts ≡ spelled_string q others = cc in
            omega (arith, ap length same, n);
      }

  -- it has no end on its line
  pub line_end_found : is_quote quote ≡ true → LineEnd ≡ look_ahead quote (drop at units) → OpensString units
  line_end_found i e = (quote, r.parts, drop at units, i, r.whole, r.are, stands_found LineEnd e)

  -- its first bad escape is here
  pub bad_escape_found : is_quote quote ≡ true → BadEscape ≡ look_ahead quote (drop at units) → HasBadEscape units at
  bad_escape_found i e = (quote, r.parts, drop at units, i, r.whole, r.are, stands_found BadEscape e, sym r.length_is)
