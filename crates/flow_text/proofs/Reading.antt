-- What reading UTF-8 gives, from whether the bytes are UTF-8.
use Rattle.std.proofs.Common.{◌≡◌, ℕ, Bool, true, false, List, Ok, Err, refl}
use Rattle.std.proofs.lemmas.Str.{is_utf8-from_IsUtf8, IsUtf8-from_is_utf8}
use Rattle.std.specs.Str.{IsUtf8, is_utf8}
use Rattle.std.specs.Str.Lossy.{utf8_valid_len}
use Rattle.flow_text.specs.Utf8.{text_of_utf8, units_of}

-- bytes that are UTF-8 give the units of their characters
pub read_utf8 : (bytes : List ℕ) → IsUtf8 bytes → text_of_utf8 bytes ≡ Ok (units_of bytes)
unfolding text_of_utf8
read_utf8 bytes is = rw (is_utf8-from_IsUtf8 bytes is) refl

not_utf8 : (bytes : List ℕ) (b : Bool) → is_utf8 bytes ≡ b → ¬ (IsUtf8 bytes) → b ≡ false
not_utf8 bytes true e bad = absurd (bad (IsUtf8-from_is_utf8 bytes e))
not_utf8 bytes false e bad = refl

-- bytes that aren't give the length of their longest front that is
pub read_fault : (bytes : List ℕ) → ¬ (IsUtf8 bytes) → text_of_utf8 bytes ≡ Err (utf8_valid_len bytes)
unfolding text_of_utf8
read_fault bytes bad = rw (not_utf8 bytes _ refl bad) refl
