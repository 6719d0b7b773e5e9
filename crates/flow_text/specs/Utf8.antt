-- Texts and the UTF-8 bytes that spell them.
use Rattle.std.specs.Prelude.{ℕ, Bool, not, List, Result, Ok, Err, if◌then◌else◌}
use Rattle.std.specs.List.{flat_map}
use Rattle.std.specs.Char.Escape.{encode_utf16}
use Rattle.std.specs.Char.Utf16.{utf16_lossy_chars, has_unpaired_surrogate}
use Rattle.std.specs.Str.{is_utf8, chars, encode_utf8_all}
use Rattle.std.specs.Str.Lossy.{utf8_valid_len}

-- the units of the characters that UTF-8 bytes spell (ECMA-262 6): one unit, or a surrogate pair
unfoldable pub units_of : List ℕ → List ℕ
units_of bytes = flat_map encode_utf16 (chars bytes)

-- the text that the bytes spell, or, where they aren't UTF-8, the length of their longest front that is
unfoldable pub text_of_utf8 : List ℕ → Result (List ℕ) ℕ
text_of_utf8 bytes = if is_utf8 bytes then Ok (units_of bytes) else Err (utf8_valid_len bytes)

-- the UTF-8 of the characters that the units spell, with U+FFFD (EF BF BD) for a surrogate without its partner
unfoldable pub utf8_of : List ℕ → List ℕ
utf8_of units = encode_utf8_all (utf16_lossy_chars units)

-- each surrogate of the units is one of a pair (ECMA-262 6)
abbrev pub are_paired : List ℕ → Bool
are_paired units = not (has_unpaired_surrogate units)
