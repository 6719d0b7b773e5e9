-- Laws of texts.
use Rattle.std.proofs.Common.{◌≡◌, ℕ, ◌+◌, ◌/◌, ◌<◌, ◌≤◌, Bool, true, false, cond, not, eqb, List, [], ◌∷◌, ◌++◌, map, Option, Some, None, refl, ap, ◌∙◌, inl, inr, arith}
use Rattle.std.specs.Prelude.{◌==◌, nat_lt}
use Rattle.std.specs.List.{list_all, flat_map}
use Rattle.std.specs.Option.{unwrap_or}
use Rattle.std.specs.Str.{encode_utf8_all}
use Rattle.std.specs.Char.Utf16.{utf16_chars, lone_unit_char, surrogate_pair_char, utf16_lossy_chars}
use Rattle.std.proofs.Math.Utf8.{encode, next}
use Rattle.std.proofs.lemmas.Bool.{cases_lt, ltb-true, lt-ltb, le-ltb, lt-leb, eqb-true, and_parts, and_from}
use Rattle.std.proofs.lemmas.List.Folds.{list_all-append}
use Rattle.std.proofs.lemmas.Str.{utf16_chars_lone, encode_ascii}
use Rattle.flow_text.specs.Utf8.{utf8_of}
use Rattle.flow_text.specs.Written.{escaped, escaped_unit}

-- ---- bytes and units other than LF

-- the number isn't LF
abbrev isnt_line_end : ℕ → Bool
isnt_line_end b = not (b == 10)

isnt_at : (b : ℕ) (t : Bool) → eqb b 10 ≡ t → 128 ≤ b → not t ≡ true
isnt_at b true is high = absurd (omega (arith, eqb-true b 10 is))
isnt_at b false is high = refl

-- a number past ASCII isn't LF
high_isnt : (b : ℕ) → 128 ≤ b → isnt_line_end b ≡ true
high_isnt b high = isnt_at b _ refl high

two_isnt : (a b : ℕ) → 128 ≤ a → 128 ≤ b → list_all isnt_line_end (a ∷ b ∷ []) ≡ true
two_isnt a b h k = and_from _ _ (high_isnt a h) (and_from _ _ (high_isnt b k) refl)

three_isnt : (a b c : ℕ) → 128 ≤ a → 128 ≤ b → 128 ≤ c → list_all isnt_line_end (a ∷ b ∷ c ∷ []) ≡ true
three_isnt a b c h k l = and_from _ _ (high_isnt a h) (two_isnt b c k l)

four_isnt : (a b c d : ℕ) → 128 ≤ a → 128 ≤ b → 128 ≤ c → 128 ≤ d → list_all isnt_line_end (a ∷ b ∷ c ∷ d ∷ []) ≡ true
four_isnt a b c d h k l m = and_from _ _ (high_isnt a h) (three_isnt b c d k l m)

-- no byte of a character other than LF is LF
encode_isnt : (c : ℕ) → isnt_line_end c ≡ true → list_all isnt_line_end (encode c) ≡ true
unfolding encode
encode_isnt c h =
    elim (cases_lt c 128) [
      | inl one ↦ rw (lt-ltb c 128 one) (and_from _ _ h refl)
      | inr more ↦ elim (cases_lt c 2048) [
        | inl two ↦ rw (le-ltb c 128 more, lt-ltb c 2048 two) (two_isnt (192 + c / 64) (next c) (omega arith) (omega arith))
        | inr most ↦ elim (cases_lt c 65536) [
          | inl three ↦ rw (le-ltb c 128 more, le-ltb c 2048 most, lt-ltb c 65536 three)
              (three_isnt (224 + c / 4096) (next (c / 64)) (next c) (omega arith) (omega arith) (omega arith))
          | inr four ↦ rw (le-ltb c 128 more, le-ltb c 2048 most, le-ltb c 65536 four)
              (four_isnt (240 + c / 262144) (next (c / 4096)) (next (c / 64)) (next c) (omega arith) (omega arith) (omega arith) (omega arith))
        ]
      ]
    ]

encode_all_isnt : (cs : List ℕ) → list_all isnt_line_end cs ≡ true → list_all isnt_line_end (encode_utf8_all cs) ≡ true
encode_all_isnt [] h = refl
encode_all_isnt (c ∷ cs) h =
    let parts = and_parts (isnt_line_end c) (list_all isnt_line_end cs) h in
    list_all-append isnt_line_end (encode c) (encode_utf8_all cs) ∙ and_from _ _ (encode_isnt c parts.0) (encode_all_isnt cs parts.1)

-- the character that a unit or a pair gave, or U+FFFD
abbrev or_replacement : Option ℕ → ℕ
or_replacement o = unwrap_or o 0xFFFD

alone_isnt : (u : ℕ) (surrogate : Bool) → isnt_line_end u ≡ true → isnt_line_end (or_replacement (cond surrogate None (Some u))) ≡ true
alone_isnt u true h = refl
alone_isnt u false h = h

either_isnt : (paired : Bool) (o p : Option ℕ) (os ps : List (Option ℕ)) → isnt_line_end (or_replacement o) ≡ true → list_all isnt_line_end (map or_replacement os) ≡ true
    → isnt_line_end (or_replacement p) ≡ true → list_all isnt_line_end (map or_replacement ps) ≡ true → list_all isnt_line_end (map or_replacement (cond paired (o ∷ os) (p ∷ ps))) ≡ true
either_isnt true o p os ps first others second rest = and_from _ _ first others
either_isnt false o p os ps first others second rest = and_from _ _ second rest

-- no character of such units is LF
chars_isnt : (units : List ℕ) → list_all isnt_line_end units ≡ true → list_all isnt_line_end (utf16_lossy_chars units) ≡ true
unfolding utf16_chars
chars_isnt [] h = refl
chars_isnt (u ∷ []) h = and_from _ _ (alone_isnt u _ (and_parts (isnt_line_end u) true h).0) refl
chars_isnt (u ∷ v ∷ us) h =
    let parts = and_parts (isnt_line_end u) (list_all isnt_line_end (v ∷ us)) h in
    let others = and_parts (isnt_line_end v) (list_all isnt_line_end us) parts.1 in
    either_isnt _ (Some (surrogate_pair_char u v)) (lone_unit_char u) (utf16_chars us) (utf16_chars (v ∷ us))
    (high_isnt (surrogate_pair_char u v) (omega arith)) (chars_isnt us others.1) (alone_isnt u _ parts.0) (chars_isnt (v ∷ us) parts.1)

escape_isnt : (backslash line_feed return : Bool) (u : ℕ) → eqb u 10 ≡ line_feed
    → list_all isnt_line_end (cond backslash (92 ∷ 92 ∷ []) (cond line_feed (92 ∷ 110 ∷ []) (cond return (92 ∷ 114 ∷ []) (u ∷ [])))) ≡ true
escape_isnt true line_feed return u is = refl
escape_isnt false true return u is = refl
escape_isnt false false true u is = refl
escape_isnt false false false u is = and_from _ _ (ap not is) refl

-- an escape holds no LF
escaped_unit_isnt : (u : ℕ) → list_all isnt_line_end (escaped_unit u) ≡ true
unfolding escaped_unit
escaped_unit_isnt u = escape_isnt _ _ _ u refl

escaped_isnt : (units : List ℕ) → list_all isnt_line_end (escaped units) ≡ true
unfolding escaped
escaped_isnt [] = refl
escaped_isnt (u ∷ us) = list_all-append isnt_line_end (escaped_unit u) (flat_map escaped_unit us) ∙ and_from _ _ (escaped_unit_isnt u) (escaped_isnt us)

-- an escaped text's bytes hold no line end
pub no_line_end : (units : List ℕ) → list_all (λ b. not (b == 10)) (utf8_of (escaped units)) ≡ true
unfolding utf8_of
no_line_end units = encode_all_isnt (utf16_lossy_chars (escaped units)) (chars_isnt (escaped units) (escaped_isnt units))

-- ---- ASCII

ascii_char : (u : ℕ) (us : List ℕ) → u < 128 → utf16_chars (u ∷ us) ≡ Some u ∷ utf16_chars us
ascii_char u us low =
    utf16_chars_lone u us (λ pair. omega (arith, pair.0)) ∙ rw (lt-leb 0xD800 u (omega arith)) refl

-- an ASCII character at the front is its own byte
ascii_front : (u : ℕ) (us : List ℕ) → u < 128 → utf8_of (u ∷ us) ≡ u ∷ utf8_of us
unfolding utf8_of
ascii_front u us low =
    ap (λ (os : List (Option ℕ)). encode_utf8_all (map or_replacement os)) (ascii_char u us low) ∙ ap (λ (bytes : List ℕ). bytes ++ utf8_of us) (encode_ascii u low)

no_bytes : utf8_of [] ≡ []
unfolding utf8_of utf16_chars
no_bytes = refl

-- ASCII is spelled by its own units
pub ascii_bytes : (units : List ℕ) → list_all (λ u. nat_lt u 128) units ≡ true → utf8_of units ≡ units
ascii_bytes [] below = no_bytes
ascii_bytes (u ∷ us) below =
    let parts = and_parts (nat_lt u 128) (list_all (λ x. nat_lt x 128) us) below in
    ascii_front u us (ltb-true u 128 parts.0) ∙ ap (λ (bytes : List ℕ). u ∷ bytes) (ascii_bytes us parts.1)

-- so is an ASCII front, whatever follows
pub ascii_front_bytes : (front rest : List ℕ) → list_all (λ u. nat_lt u 128) front ≡ true → utf8_of (front ++ rest) ≡ front ++ utf8_of rest
ascii_front_bytes [] rest below = refl
ascii_front_bytes (u ∷ us) rest below =
    let parts = and_parts (nat_lt u 128) (list_all (λ x. nat_lt x 128) us) below in
    ascii_front u (us ++ rest) (ltb-true u 128 parts.0) ∙ ap (λ (bytes : List ℕ). u ∷ bytes) (ascii_front_bytes us rest parts.1)
