-- String literals (ECMA-262 7.8.4).
use Rattle.std.specs.Prelude.{◌≡◌, ℕ, List, [], ◌∷◌, ◌++◌, length, Bool, true, false, not, ◌==◌, ◌&&◌, ◌||◌, if◌then◌else◌}
use Rattle.std.specs.List.{flat_map}
use Rattle.std.specs.Char.{is_digit}
use Rattle.std.specs.Str.Parse.{digits_value}
use Rattle.js_scan.specs.Units.{is_line_terminator, is_quote, begins_with, begins_with_digit}
use Rattle.js_scan.specs.Names.{AreHex}

-- what stands between the quotes: a unit as itself, or an escape
pub data StringPart : Type 0 where
  plain : ℕ → StringPart
  -- `\` and the unit
  character : ℕ → StringPart
  -- `\0`
  null_character : StringPart
  -- `\x` and two digits
  hexadecimal : List ℕ → StringPart
  -- `\u` and four digits
  unicode : List ℕ → StringPart
  -- `\` and a LineTerminatorSequence
  continuation : List ℕ → StringPart

abbrev pub spelled_string_part : StringPart → List ℕ
spelled_string_part (plain u) = u ∷ []
spelled_string_part (character u) = 92 ∷ u ∷ []
spelled_string_part null_character = 92 ∷ 48 ∷ []
spelled_string_part (hexadecimal ds) = 92 ∷ 120 ∷ ds
spelled_string_part (unicode ds) = 92 ∷ 117 ∷ ds
spelled_string_part (continuation end) = 92 ∷ end

-- what `\` and a unit stand for: `\b`, `\t`, `\n`, `\v`, `\f` and `\r` for a control character, and any other for the unit
unfoldable pub escaped_character : ℕ → ℕ
escaped_character u = if u == 98 then 8 else (if u == 116 then 9 else (if u == 110 then 10 else (if u == 118 then 11 else (if u == 102 then 12 else (if u == 114 then 13 else u)))))

-- the units that a part stands for
abbrev pub string_part_value : StringPart → List ℕ
string_part_value (plain u) = u ∷ []
string_part_value (character u) = escaped_character u ∷ []
string_part_value null_character = 0 ∷ []
string_part_value (hexadecimal ds) = digits_value 16 ds ∷ []
string_part_value (unicode ds) = digits_value 16 ds ∷ []
string_part_value (continuation end) = []

-- a unit that stands as itself: none of the quote, `\` and the line terminators
unfoldable pub is_plain : ℕ → ℕ → Bool
is_plain quote u = not (u == quote || u == 92 || is_line_terminator u)

-- a unit that `\` may stand before: no digit, `x`, `u` or line terminator
unfoldable pub is_escapable : ℕ → Bool
is_escapable u = not (is_digit u 10 || u == 120 || u == 117 || is_line_terminator u)

-- LineTerminatorSequence in front of these units: LF, U+2028, U+2029, CR LF, or a CR that no LF follows
abbrev pub IsLineEnd : List ℕ → List ℕ → Type 0
IsLineEnd [] rest = ⊥
IsLineEnd (u ∷ []) rest = (is_line_terminator u ≡ true) × ((u == 13 && begins_with 10 rest) ≡ false)
IsLineEnd (u ∷ v ∷ []) rest = (u ≡ 13) × (v ≡ 10)
IsLineEnd (u ∷ v ∷ w ∷ us) rest = ⊥

-- a part may stand between these quotes in front of these units
unfoldable pub IsStringPart : ℕ → StringPart → List ℕ → Type 0
IsStringPart quote (plain u) rest = is_plain quote u ≡ true
IsStringPart quote (character u) rest = is_escapable u ≡ true
IsStringPart quote null_character rest = begins_with_digit rest ≡ false
IsStringPart quote (hexadecimal ds) rest = AreHex 2 ds
IsStringPart quote (unicode ds) rest = AreHex 4 ds
IsStringPart quote (continuation end) rest = IsLineEnd end rest

-- the units that spell parts, and the text that they stand for
unfoldable pub spelled_string_parts : List StringPart → List ℕ
spelled_string_parts parts = flat_map spelled_string_part parts

unfoldable pub string_value : List StringPart → List ℕ
string_value parts = flat_map string_part_value parts

-- parts may stand between these quotes in front of these units
unfoldable pub AreStringParts : ℕ → List StringPart → List ℕ → Type 0
AreStringParts quote [] rest = Unit {0}
AreStringParts quote (p ∷ ps) rest = IsStringPart quote p (spelled_string_parts ps ++ rest) × AreStringParts quote ps rest

-- a string's parts, with its quote behind them
abbrev pub IsString : ℕ → List StringPart → Type 0
IsString quote parts = AreStringParts quote parts (quote ∷ [])

abbrev pub spelled_string : ℕ → List StringPart → List ℕ
spelled_string quote parts = quote ∷ (spelled_string_parts parts ++ quote ∷ [])

-- a string ends here without its quote: at the end, at a line terminator, or at a `\` that is the last unit
unfoldable pub ends_open : List ℕ → Bool
ends_open [] = true
ends_open (u ∷ []) = is_line_terminator u || u == 92
ends_open (u ∷ v ∷ us) = is_line_terminator u

-- `\` stands here with a unit behind it, and they begin no part
abbrev pub IsBadEscape : ℕ → List ℕ → Type 0
IsBadEscape quote us = (u : ℕ) × (rest : List ℕ) × (us ≡ 92 ∷ u ∷ rest) × ((part : StringPart) (behind : List ℕ) → us ≡ spelled_string_part part ++ behind → IsStringPart quote part behind → ⊥)

-- a string begins at the front of the units, and has no end on its line
abbrev pub OpensString : List ℕ → Type 0
OpensString us = (quote : ℕ) × (parts : List StringPart) × (rest : List ℕ) × (is_quote quote ≡ true) × (us ≡ quote ∷ (spelled_string_parts parts ++ rest)) × AreStringParts quote parts rest × (ends_open rest ≡ true)

-- a string begins at the front of the units, and its first bad escape stands at this place
abbrev pub HasBadEscape : List ℕ → ℕ → Type 0
HasBadEscape us at = (quote : ℕ) × (parts : List StringPart) × (rest : List ℕ) × (is_quote quote ≡ true) × (us ≡ quote ∷ (spelled_string_parts parts ++ rest)) × AreStringParts quote parts rest × IsBadEscape quote rest
    × (at ≡ length (quote ∷ spelled_string_parts parts))
