-- Identifier names and reserved words (ECMA-262 7.6, 7.6.1).
use Rattle.std.specs.Prelude.{◌≡◌, ℕ, List, [], ◌∷◌, ◌++◌, Bool, true, false, not, ◌&&◌, length, map, codes, if◌then◌else◌}
use Rattle.std.specs.List.{list_all, list_any, flat_map}
use Rattle.std.specs.Str.Parse.{digits_value, AllDigits}
use Rattle.std.specs.Str.{bytes_eq}
use Rattle.js_ast.specs.declared.token.TokenKind.{TokenKind}
use Rattle.js_ast.specs.declared.token.TokenKind.TheVariants as kind
use Rattle.js_scan.specs.Units.{is_identifier_start, is_identifier_part}

-- hexadecimal digits, so many
abbrev pub AreHex : ℕ → List ℕ → Type 0
AreHex count ds = (length ds ≡ count) × AllDigits 16 ds

-- a unit of a name: as itself, or by `\u` and four hexadecimal digits
pub data NamePart : Type 0 where
  plain : ℕ → NamePart
  escape : List ℕ → NamePart

abbrev pub spelled_name_part : NamePart → List ℕ
spelled_name_part (plain u) = u ∷ []
spelled_name_part (escape ds) = 92 ∷ 117 ∷ ds

-- the unit that a part stands for
abbrev pub part_unit : NamePart → ℕ
part_unit (plain u) = u
part_unit (escape ds) = digits_value 16 ds

abbrev pub is_escape : NamePart → Bool
is_escape (plain u) = false
is_escape (escape ds) = true

abbrev pub IsNamePart : NamePart → Type 0
IsNamePart (plain u) = Unit {0}
IsNamePart (escape ds) = AreHex 4 ds

-- each part stands for a unit that a name may have behind its first
unfoldable pub AreNameParts : List NamePart → Type 0
AreNameParts [] = Unit {0}
AreNameParts (p ∷ ps) = IsNamePart p × (is_identifier_part (part_unit p) ≡ true) × AreNameParts ps

-- IdentifierName
unfoldable pub IsName : List NamePart → Type 0
IsName [] = ⊥
IsName (p ∷ ps) = IsNamePart p × (is_identifier_start (part_unit p) ≡ true) × AreNameParts ps

-- the units that spell a name
unfoldable pub spelled_name : List NamePart → List ℕ
spelled_name parts = flat_map spelled_name_part parts

-- the units that it stands for
unfoldable pub name_value : List NamePart → List ℕ
name_value parts = map part_unit parts

-- an escape is among its parts
unfoldable pub has_escape : List NamePart → Bool
has_escape parts = list_any is_escape parts

-- a name stands at the front of the units
abbrev pub BeginsName : List ℕ → Type 0
BeginsName us = (parts : List NamePart) × (rest : List ℕ) × IsName parts × (us ≡ spelled_name parts ++ rest)

-- Keyword, FutureReservedWord, NullLiteral and BooleanLiteral
abbrev pub reserved_words : List (List ℕ)
reserved_words = codes "break" ∷ codes "case" ∷ codes "catch" ∷ codes "continue" ∷ codes "debugger" ∷ codes "default" ∷ codes "delete" ∷ codes "do" ∷ codes "else"
    ∷ codes "finally" ∷ codes "for" ∷ codes "function" ∷ codes "if" ∷ codes "in" ∷ codes "instanceof" ∷ codes "new" ∷ codes "return" ∷ codes "switch" ∷ codes "this"
    ∷ codes "throw" ∷ codes "try" ∷ codes "typeof" ∷ codes "var" ∷ codes "void" ∷ codes "while" ∷ codes "with" ∷ codes "class" ∷ codes "const" ∷ codes "enum"
    ∷ codes "export" ∷ codes "extends" ∷ codes "import" ∷ codes "super" ∷ codes "null" ∷ codes "true" ∷ codes "false" ∷ []

-- the text is one of the list
abbrev pub is_one_of : List (List ℕ) → List ℕ → Bool
is_one_of texts text = list_any (bytes_eq text) texts

unfoldable pub is_reserved : List ℕ → Bool
is_reserved text = is_one_of reserved_words text

-- what a name of this value is
abbrev pub word_kind : List ℕ → TokenKind
word_kind text = if is_reserved text then kind.Reserved else kind.Name

-- a name that is no reserved word (ECMA-262 7.6), as its units stand: an escape would be no unit of a name
unfoldable pub is_identifier : List ℕ → Bool
is_identifier [] = false
is_identifier (u ∷ us) = is_identifier_start u && (list_all is_identifier_part us && not (is_reserved (u ∷ us)))
