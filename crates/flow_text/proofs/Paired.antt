-- Units whose surrogates all have a partner are read again from the UTF-8 that spells them.
use Rattle.std.proofs.Common.{◌≡◌, ℕ, suc, ◌<◌, ◌≤◌, Bool, true, false, true≢false, cond, not, List, [], ◌∷◌, map, Option, Some, None, Ok, refl, ap, sym, ◌∙◌, inl, inr, arith}
use Rattle.std.specs.Prelude.{nat_le, nat_lt, ◌&&◌, is_some}
use Rattle.std.specs.List.{list_any, flat_map}
use Rattle.std.specs.Option.{unwrap_or}
use Rattle.std.specs.Str.{IsUtf8, encode_utf8_all, all_scalars}
use Rattle.std.specs.Char.Escape.{encode_utf16}
use Rattle.std.specs.Char.Utf16.{utf16_chars, lone_unit_char, surrogate_pair_char, is_high_surrogate, is_low_surrogate}
use Rattle.std.proofs.Math.Utf8.{scalar, low_scalar}
use Rattle.std.proofs.str.Utf16.{one_unit, pair_units}
use Rattle.std.proofs.lemmas.Bool.{cases_lt, and_parts, and_from, le-leb, lt-ltb, le-ltb, leb-true, ltb-true}
use Rattle.std.proofs.lemmas.Str.{chars-encodes}
use Rattle.flow_text.specs.Text.{AreUnits}
use Rattle.flow_text.specs.Utf8.{text_of_utf8, units_of, utf8_of, are_paired}
use Rattle.flow_text.proofs.Reading.{read_utf8}

-- the characters, with U+FFFD for each that is missing
abbrev characters : List (Option ℕ) → List ℕ
characters os = map (λ o. unwrap_or o 0xFFFD) os

-- no character is missing
abbrev IsWhole : List (Option ℕ) → Type 0
IsWhole os = not (list_any (λ o. not (is_some o)) os) ≡ true

-- where none is missing these are scalar values, and spell the units
record Spells (os : List (Option ℕ)) (us : List ℕ) : Type 0 where
  pub scalars : all_scalars (characters os) ≡ true
  pub again : flat_map encode_utf16 (characters os) ≡ us

abbrev Goes : List (Option ℕ) → List ℕ → Type 0
Goes os us = IsWhole os → Spells os us

above_scalar : (u : ℕ) → 57344 ≤ u → u < 1114112 → scalar u ≡ true
above_scalar u from below = rw (le-ltb u 55296 (omega arith), le-leb 57344 u from, lt-ltb u 1114112 below) refl

-- a unit outside the surrogates is a scalar value
unit_scalar : (u : ℕ) → (nat_le 0xD800 u && nat_lt u 0xE000) ≡ false → u < 65536 → scalar u ≡ true
unit_scalar u apart small =
    elim (cases_lt u 55296) [
      | inl low ↦ low_scalar u low
      | inr from ↦ elim (cases_lt u 57344) [
        | inl below ↦ absurd (true≢false (sym (and_from _ _ (le-leb 0xD800 u from) (lt-ltb u 0xE000 below)) ∙ apart))
        | inr above ↦ above_scalar u above (omega arith)
      ]
    ]

goes_alone : (u : ℕ) (surrogate : Bool) → (nat_le 0xD800 u && nat_lt u 0xE000) ≡ surrogate → u < 65536 → (os : List (Option ℕ)) (us : List ℕ) → Goes os us
    → Goes (cond surrogate None (Some u) ∷ os) (u ∷ us)
goes_alone u true is small os us goes whole = absurd (true≢false (sym whole))
goes_alone u false is small os us goes whole =
    let rest = goes whole in
    record { scalars = and_from _ _ (unit_scalar u is small) rest.scalars; again = rw (one_unit u small) (ap (λ (vs : List ℕ). u ∷ vs) rest.again) }

pair_again : (u v : ℕ) → 0xD800 ≤ u → u < 0xDC00 → 0xDC00 ≤ v → v < 0xE000 → encode_utf16 (surrogate_pair_char u v) ≡ u ∷ v ∷ []
pair_again u v low below from under = ap encode_utf16 (omega arith) ∙ pair_units u v low from under

goes_pair : (u v : ℕ) (pair : Bool) → (is_high_surrogate u && is_low_surrogate v) ≡ pair → (os ps : List (Option ℕ)) (us : List ℕ) → Goes os us → Goes ps (u ∷ v ∷ us)
    → Goes (cond pair (Some (surrogate_pair_char u v) ∷ os) ps) (u ∷ v ∷ us)
goes_pair u v false is os ps us goes alone whole = alone whole
goes_pair u v true is os ps us goes alone whole =
    let rest = goes whole in
    let parts = and_parts (is_high_surrogate u) (is_low_surrogate v) is in
    let high = and_parts _ _ parts.0 in
    let low = and_parts _ _ parts.1 in
    let from : 0xD800 ≤ u = leb-true _ _ high.0 in
    let below : u < 0xDC00 = ltb-true _ _ high.1 in
    let second : 0xDC00 ≤ v = leb-true _ _ low.0 in
    let under : v < 0xE000 = ltb-true _ _ low.1 in
    record {
      scalars = and_from _ _ (above_scalar (surrogate_pair_char u v) (omega arith) (omega arith)) rest.scalars;
      again = rw (pair_again u v from below second under) (ap (λ (vs : List ℕ). u ∷ v ∷ vs) rest.again);
    }

goes : (us : List ℕ) → AreUnits us → Goes (utf16_chars us) us
unfolding utf16_chars
goes [] are whole = record { scalars = refl; again = refl }
goes (u ∷ []) are whole = goes_alone u _ refl (are 0 0 (omega arith)) [] [] (λ end. record { scalars = refl; again = refl }) whole
goes (u ∷ v ∷ us) are whole =
    goes_pair u v _ refl (utf16_chars us) (lone_unit_char u ∷ utf16_chars (v ∷ us)) us (goes us (λ k d below. are (suc (suc k)) d (omega arith)))
    (goes_alone u _ refl (are 0 0 (omega arith)) (utf16_chars (v ∷ us)) (v ∷ us) (goes (v ∷ us) (λ k d below. are (suc k) d (omega arith)))) whole

-- such units are read again from their UTF-8
pub text_again : (us : List ℕ) → AreUnits us → are_paired us ≡ true → text_of_utf8 (utf8_of us) ≡ Ok us
unfolding utf8_of units_of
text_again us are whole =
    let spells = goes us are whole in
    let cs : List ℕ = characters (utf16_chars us) in
    let is : IsUtf8 (encode_utf8_all cs) = (cs, (spells.scalars, refl)) in
    read_utf8 (encode_utf8_all cs) is ∙ ap (λ (xs : List ℕ). Ok (flat_map encode_utf16 xs)) (chars-encodes cs spells.scalars) ∙ ap (λ (xs : List ℕ). Ok xs) spells.again
