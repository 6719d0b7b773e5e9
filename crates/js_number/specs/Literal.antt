-- StringNumericLiteral (ECMA-262 9.3.1): its trees, the texts that they spell, and their exact values.
use Rattle.std.specs.Prelude.{◌≡◌, ℕ, ◌+◌, ◌*◌, ◌^◌, ◌<◌, ◌==◌, Bool, true, ◌||◌, ◌⊎◌, List, [], ◌∷◌, ◌++◌, length, codes, ℤ, pos, neg_ℤ}
use Rattle.std.specs.List.{list_all, list_any}
use Rattle.std.specs.Str.Parse.{digits_value, AllDigits}

-- WhiteSpace (ECMA-262 7.2): TAB, VT, FF, U+FEFF and the category Zs, in which SP and NBSP are
abbrev pub white_space : List ℕ
white_space = 0x9 ∷ 0xB ∷ 0xC ∷ 0xFEFF ∷ 0x20 ∷ 0xA0 ∷ 0x1680 ∷ 0x2000 ∷ 0x2001 ∷ 0x2002 ∷ 0x2003 ∷ 0x2004 ∷ 0x2005 ∷ 0x2006 ∷ 0x2007 ∷ 0x2008 ∷ 0x2009 ∷ 0x200A ∷ 0x202F ∷ 0x205F ∷ 0x3000 ∷ []

-- LineTerminator (ECMA-262 7.3): LF, CR, U+2028 and U+2029
abbrev pub line_terminators : List ℕ
line_terminators = 0xA ∷ 0xD ∷ 0x2028 ∷ 0x2029 ∷ []

-- StrWhiteSpaceChar
abbrev pub is_blank : ℕ → Bool
is_blank u = list_any (λ b. b == u) white_space || list_any (λ b. b == u) line_terminators

-- StrWhiteSpace, or nothing
abbrev pub AreBlank : List ℕ → Type 0
AreBlank us = list_all is_blank us ≡ true

-- a sign, or none
pub data Sign : Type 0 where
  unsigned : Sign
  plus : Sign
  minus : Sign

-- StrUnsignedDecimalLiteral without its exponent: `5` or `1` and `5` of `1.5`, and `5` of `.5`
pub data Mantissa : Type 0 where
  integer : List ℕ → Mantissa
  pointed : List ℕ → List ℕ → Mantissa
  fraction : List ℕ → Mantissa

-- ExponentPart, or none, with the unit `e` or `E`
pub data Exponent : Type 0 where
  none : Exponent
  power : ℕ → Sign → List ℕ → Exponent

-- StringNumericLiteral without the blanks at both ends; a hexadecimal one has the unit `x` or `X`
pub data Literal : Type 0 where
  empty : Literal
  hexadecimal : ℕ → List ℕ → Literal
  decimal : Sign → Mantissa → Exponent → Literal
  infinity : Sign → Literal

-- the units of a sign
abbrev pub spelled_sign : Sign → List ℕ
spelled_sign unsigned = []
spelled_sign plus = 43 ∷ []
spelled_sign minus = 45 ∷ []

-- the units of a mantissa, with its point
abbrev pub spelled_mantissa : Mantissa → List ℕ
spelled_mantissa (integer ds) = ds
spelled_mantissa (pointed ds fs) = ds ++ 46 ∷ fs
spelled_mantissa (fraction fs) = 46 ∷ fs

-- the units of an exponent
abbrev pub spelled_exponent : Exponent → List ℕ
spelled_exponent none = []
spelled_exponent (power e sign ds) = e ∷ (spelled_sign sign ++ ds)

-- the units of a literal
abbrev pub spelling : Literal → List ℕ
spelling empty = []
spelling (hexadecimal x ds) = 48 ∷ x ∷ ds
spelling (decimal sign m e) = spelled_sign sign ++ (spelled_mantissa m ++ spelled_exponent e)
spelling (infinity sign) = spelled_sign sign ++ codes "Infinity"

-- DecimalDigits, or HexDigits: one digit or more
abbrev pub AreDigits : ℕ → List ℕ → Type 0
AreDigits radix ds = (0 < length ds) × AllDigits radix ds

-- a digit stands before the point or behind it
abbrev pub IsMantissa : Mantissa → Type 0
IsMantissa (integer ds) = AreDigits 10 ds
IsMantissa (pointed ds fs) = AreDigits 10 ds × AllDigits 10 fs
IsMantissa (fraction fs) = AreDigits 10 fs

-- the letter is `e` or `E`, with a digit behind it
abbrev pub IsExponent : Exponent → Type 0
IsExponent none = Unit {0}
IsExponent (power e sign ds) = ((e ≡ 101) ⊎ (e ≡ 69)) × AreDigits 10 ds

-- the parts of a literal are digits, and its letters are the right ones
abbrev pub IsLiteral : Literal → Type 0
IsLiteral empty = Unit {0}
IsLiteral (hexadecimal x ds) = ((x ≡ 120) ⊎ (x ≡ 88)) × AreDigits 16 ds
IsLiteral (decimal sign m e) = IsMantissa m × IsExponent e
IsLiteral (infinity sign) = Unit {0}

-- a fraction that isn't below zero: what stands above its line, and below it
pub record Ratio : Type 0 where
  pub above : ℕ
  pub below : ℕ

-- the value of a mantissa: digits behind the point count as tenths, hundredths and so on
abbrev pub mantissa_value : Mantissa → Ratio
mantissa_value (integer ds) = record { above = digits_value 10 ds; below = 1 }
mantissa_value (pointed ds fs) = record { above = digits_value 10 ds * 10 ^ length fs + digits_value 10 fs; below = 10 ^ length fs }
mantissa_value (fraction fs) = record { above = digits_value 10 fs; below = 10 ^ length fs }

-- a value times the power of ten that the exponent says
abbrev pub at_exponent : Ratio → Exponent → Ratio
at_exponent r none = r
at_exponent r (power e minus ds) = record { above = r.above; below = r.below * 10 ^ digits_value 10 ds }
at_exponent r (power e _ ds) = record { above = r.above * 10 ^ digits_value 10 ds; below = r.below }

-- a size with its sign
abbrev pub signed : Sign → ℕ → ℤ
signed minus n = neg_ℤ (pos n)
signed _ n = pos n

-- the MV of the literal, exact and not rounded, is the integer z; Infinity has none
abbrev pub HasValue : Literal → ℤ → Type 0
HasValue empty z = z ≡ pos 0
HasValue (hexadecimal x ds) z = z ≡ pos (digits_value 16 ds)
HasValue (decimal sign m e) z = (n : ℕ) × (z ≡ signed sign n) × (let r = at_exponent (mantissa_value m) e in n * r.below ≡ r.above)
HasValue (infinity sign) z = ⊥

-- the text is a literal between blanks
pub record SpellsLiteral (text : List ℕ) (literal : Literal) : Type 0 where
  pub before : List ℕ
  pub after : List ℕ
  pub is_literal : IsLiteral literal
  pub blank_before : AreBlank before
  pub blank_after : AreBlank after
  pub spelled : text ≡ before ++ (spelling literal ++ after)

-- it is some literal, and one whose exact value is the integer z
pub record IsNumeric (text : List ℕ) : Type 0 where
  pub literal : Literal
  pub spells : SpellsLiteral text literal

pub record SpellsNumber (text : List ℕ) (z : ℤ) : Type 0 where
  pub literal : Literal
  pub spells : SpellsLiteral text literal
  pub value : HasValue literal z
