-- Classes of units (ECMA-262 7.2, 7.3, 7.6). The categories are those of Unicode; a surrogate has one of its own, and is in no class here.
use Rattle.std.specs.Prelude.{ℕ, List, [], ◌∷◌, Bool, true, false, ◌==◌, ◌||◌}
use Rattle.std.specs.Char.{is_digit}
use Rattle.ucd_category.specs.declared.GeneralCategory.{GeneralCategory}
use Rattle.ucd_category.specs.declared.GeneralCategory.TheVariants.{UppercaseLetter, LowercaseLetter, TitlecaseLetter, ModifierLetter, OtherLetter, LetterNumber, NonspacingMark, SpacingMark, DecimalNumber, ConnectorPunctuation, SpaceSeparator}
use Rattle.unicode.specs.GeneralCategory.{general_category}

-- the categories Lu, Ll, Lt, Lm, Lo and Nl
abbrev pub is_letter : GeneralCategory → Bool
is_letter UppercaseLetter = true
is_letter LowercaseLetter = true
is_letter TitlecaseLetter = true
is_letter ModifierLetter = true
is_letter OtherLetter = true
is_letter LetterNumber = true
is_letter _ = false

-- the categories Mn, Mc, Nd and Pc
abbrev pub is_mark : GeneralCategory → Bool
is_mark NonspacingMark = true
is_mark SpacingMark = true
is_mark DecimalNumber = true
is_mark ConnectorPunctuation = true
is_mark _ = false

-- the category Zs
abbrev pub is_space : GeneralCategory → Bool
is_space SpaceSeparator = true
is_space _ = false

-- WhiteSpace: TAB, VT, FF, SP, NBSP, U+FEFF and the category Zs
unfoldable pub is_white_space : ℕ → Bool
is_white_space u = u == 9 || u == 11 || u == 12 || u == 32 || u == 160 || u == 65279 || is_space (general_category u)

-- LineTerminator: LF, CR, U+2028 and U+2029
unfoldable pub is_line_terminator : ℕ → Bool
is_line_terminator u = u == 10 || u == 13 || u == 8232 || u == 8233

-- what an identifier may start with, written as itself: a letter, `$` or `_`
unfoldable pub is_identifier_start : ℕ → Bool
is_identifier_start u = is_letter (general_category u) || u == 36 || u == 95

-- what it may have behind that: these, marks, and the joiners U+200C and U+200D
unfoldable pub is_identifier_part : ℕ → Bool
is_identifier_part u = is_identifier_start u || is_mark (general_category u) || u == 8204 || u == 8205

-- `"` and `'`
unfoldable pub is_quote : ℕ → Bool
is_quote u = u == 34 || u == 39

-- the units begin with this one
unfoldable pub begins_with : ℕ → List ℕ → Bool
begins_with unit [] = false
begins_with unit (u ∷ us) = u == unit

-- the units begin with a decimal digit
unfoldable pub begins_with_digit : List ℕ → Bool
begins_with_digit [] = false
begins_with_digit (u ∷ us) = is_digit u 10
