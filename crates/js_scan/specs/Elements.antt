-- The input elements of a source (ECMA-262 7): separators and lexemes.
use Rattle.std.specs.Prelude.{◌≡◌, ℕ, ◌≤◌, List, [], ◌∷◌, ◌++◌, Bool, true, false, length}
use Rattle.std.specs.List.{list_any}
use Rattle.js_number.specs.Literal.{Literal, spelling}
use Rattle.js_scan.specs.Units.{is_white_space, is_line_terminator, is_quote}
use Rattle.js_scan.specs.Names.{NamePart, IsName, spelled_name}
use Rattle.js_scan.specs.Numbers.{IsNumeric}
use Rattle.js_scan.specs.Strings.{StringPart, IsString, spelled_string}
use Rattle.js_scan.specs.Comments.{has_close, spelled_line_comment, spelled_block_comment}
use Rattle.js_scan.specs.Punctuators.{is_punctuator}

pub data Element : Type 0 where
  white_space : ℕ → Element
  line_terminator : ℕ → Element
  -- `//` and these units
  line_comment : List ℕ → Element
  -- these units between `/*` and `*/`
  block_comment : List ℕ → Element
  name : List NamePart → Element
  punctuator : List ℕ → Element
  number : Literal → Element
  -- these parts between two quotes
  string : ℕ → List StringPart → Element

-- the units that spell an element
unfoldable pub spelled : Element → List ℕ
spelled (white_space u) = u ∷ []
spelled (line_terminator u) = u ∷ []
spelled (line_comment body) = spelled_line_comment body
spelled (block_comment body) = spelled_block_comment body
spelled (name parts) = spelled_name parts
spelled (punctuator text) = text
spelled (number literal) = spelling literal
spelled (string quote parts) = spelled_string quote parts

-- its parts are of their classes
unfoldable pub IsElement : Element → Type 0
IsElement (white_space u) = is_white_space u ≡ true
IsElement (line_terminator u) = is_line_terminator u ≡ true
IsElement (line_comment body) = list_any is_line_terminator body ≡ false
IsElement (block_comment body) = has_close (body ++ 42 ∷ []) ≡ false
IsElement (name parts) = IsName parts
IsElement (punctuator text) = is_punctuator text ≡ true
IsElement (number literal) = IsNumeric literal
IsElement (string quote parts) = (is_quote quote ≡ true) × IsString quote parts

-- the element may stand at the front of the units
abbrev pub Stands : List ℕ → Element → List ℕ → Type 0
Stands us e rest = IsElement e × (us ≡ spelled e ++ rest)

-- it stands at the front of the units, before the rest, and none that may stand there is longer
pub record Next (us : List ℕ) (e : Element) (rest : List ℕ) : Type 0 where
  pub is : IsElement e
  pub whole : us ≡ spelled e ++ rest
  pub longest : (f : Element) (others : List ℕ) → Stands us f others → length (spelled f) ≤ length (spelled e)

-- white space, a line terminator or a comment
unfoldable pub is_separator : Element → Bool
is_separator (white_space u) = true
is_separator (line_terminator u) = true
is_separator (line_comment body) = true
is_separator (block_comment body) = true
is_separator _ = false

-- a line terminator, or a comment between `/*` and `*/` that holds one
unfoldable pub breaks_line : Element → Bool
breaks_line (line_terminator u) = true
breaks_line (block_comment body) = list_any is_line_terminator body
breaks_line _ = false
