-- The text of UTF-8 bytes is spelled by those bytes.
use Rattle.std.proofs.Common.{◌≡◌, ℕ, ◌+◌, ◌-◌, ◌/◌, ◌%◌, ◌<◌, true, List, [], ◌∷◌, ◌++◌, map, Option, Some, refl, ap, ◌∙◌, inl, inr, arith}
use Rattle.std.specs.List.{flat_map}
use Rattle.std.specs.Option.{unwrap_or}
use Rattle.std.specs.Str.{chars, IsUtf8, encode_utf8_all, all_scalars}
use Rattle.std.specs.Char.Escape.{encode_utf16}
use Rattle.std.specs.Char.Utf16.{utf16_chars, lone_unit_char, surrogate_pair_char}
use Rattle.std.proofs.Math.Utf8.{scalar, scalar_cases}
use Rattle.std.proofs.str.Utf16.{IsPair, one_unit, two_units, lone_unit_char_low, lone_unit_char_high}
use Rattle.std.proofs.lemmas.Bool.{cases_lt, and_parts}
use Rattle.std.proofs.lemmas.Str.{utf16_chars-nil, utf16_chars_lone, utf16_chars_pair, encodes-chars, scalars-chars}
use Rattle.flow_text.specs.Utf8.{units_of, utf8_of}

lone_scalar : (c : ℕ) → scalar c ≡ true → lone_unit_char c ≡ Some c
lone_scalar c is = elim (scalar_cases c is) [ inl low ↦ lone_unit_char_low c low | inr high ↦ lone_unit_char_high c high.0 ]

not_first : (c v : ℕ) → scalar c ≡ true → ¬ (IsPair c v)
not_first c v is pair = elim (scalar_cases c is) [ inl low ↦ omega (arith, pair.0) | inr high ↦ omega (arith, pair.1, high.0) ]

-- the units of a character are read as that character
char_again : (c : ℕ) (us : List ℕ) → scalar c ≡ true → utf16_chars (encode_utf16 c ++ us) ≡ Some c ∷ utf16_chars us
char_again c us is =
    elim (cases_lt c 0x1_0000) [
      | inl one ↦ rw (one_unit c one) (utf16_chars_lone c us (not_first c _ is) ∙ ap (λ (o : Option ℕ). o ∷ utf16_chars us) (lone_scalar c is))
      | inr two ↦
          let below : c < 1114112 = elim (scalar_cases c is) [ inl low ↦ omega arith | inr high ↦ high.1 ] in
          let u : ℕ = 0xD800 + (c - 0x1_0000) / 0x400 in
          let v : ℕ = 0xDC00 + (c - 0x1_0000) % 0x400 in
          let same : surrogate_pair_char u v ≡ c = omega arith in
          let pair : IsPair u v = (omega arith, omega arith, omega arith, omega arith) in
          rw (two_units c two) (utf16_chars_pair u v us pair ∙ ap (λ (x : ℕ). Some x ∷ utf16_chars us) same)
    ]

abbrev present : ℕ → Option ℕ
present c = Some c

chars_again : (cs : List ℕ) → all_scalars cs ≡ true → utf16_chars (flat_map encode_utf16 cs) ≡ map present cs
chars_again [] are = utf16_chars-nil
chars_again (c ∷ cs) are =
    let parts = and_parts (scalar c) (all_scalars cs) are in
    char_again c (flat_map encode_utf16 cs) parts.0 ∙ ap (λ (os : List (Option ℕ)). Some c ∷ os) (chars_again cs parts.1)

found_again : (cs : List ℕ) → map (λ o. unwrap_or o 0xFFFD) (map present cs) ≡ cs
found_again [] = refl
found_again (c ∷ cs) = ap (λ (ds : List ℕ). c ∷ ds) (found_again cs)

-- the text of UTF-8 bytes is spelled by those bytes
pub utf8_again : (bytes : List ℕ) → IsUtf8 bytes → utf8_of (units_of bytes) ≡ bytes
unfolding utf8_of units_of
utf8_again bytes is =
    ap (λ (os : List (Option ℕ)). encode_utf8_all (map (λ o. unwrap_or o 0xFFFD) os)) (chars_again (chars bytes) (scalars-chars bytes is))
    ∙ ap encode_utf8_all (found_again (chars bytes)) ∙ encodes-chars bytes is
