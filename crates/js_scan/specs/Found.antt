-- What the parts of the scanner answer of the units ahead.
use Rattle.std.specs.Prelude.{◌≡◌, ℕ, ◌<◌, ◌≤◌, List, [], ◌∷◌, ◌++◌, Bool, true, false, ◌&&◌, ◌||◌, ◌==◌, length, take, drop, Option, Some, None, Result, Ok, Err, if◌then◌else◌}
use Rattle.std.specs.List.{list_any}
use Rattle.js_number.specs.Literal.{Literal, spelling}
use Rattle.js_ast.specs.declared.token.TokenKind.{TokenKind}
use Rattle.js_scan.specs.declared.fault.ScanFault.{ScanFault}
use Rattle.js_scan.specs.declared.fault.ScanFault.TheVariants as fault
use Rattle.js_scan.specs.declared.class.Class.{Class}
use Rattle.js_scan.specs.declared.class.Class.TheVariants as class
use Rattle.js_scan.specs.declared.names.Word.{Word}
use Rattle.js_scan.specs.declared.strings.Quoted.{Quoted}
use Rattle.js_scan.specs.declared.strings.Quoted.TheVariants.{Closed, Open, BadEscape}
use Rattle.js_scan.specs.declared.element.Found.{Found}
use Rattle.js_scan.specs.declared.element.Found.TheVariants.{Separator, Lexeme}
use Rattle.js_scan.specs.Units.{is_white_space, is_line_terminator, is_quote, begins_with, begins_with_digit}
use Rattle.js_scan.specs.Names.{NamePart, IsName, BeginsName, spelled_name, name_value, has_escape}
use Rattle.js_scan.specs.Numbers.{IsNumeric}
use Rattle.js_scan.specs.Strings.{StringPart, IsString, spelled_string, string_value, OpensString, HasBadEscape}
use Rattle.js_scan.specs.Comments.{has_close, spelled_line_comment, spelled_block_comment, OpensComment}
use Rattle.js_scan.specs.Punctuators.{is_punctuator}
use Rattle.js_scan.specs.Elements.{Element, Next, spelled, is_separator, breaks_line}
use Rattle.js_scan.specs.declared.state.State.{State}
use Rattle.js_scan.specs.Tokens.{IsAccepted, IsBad, token}

-- a digit stands first, or `.` and a digit
unfoldable pub begins_number : List ℕ → Bool
begins_number [] = false
begins_number (u ∷ us) = begins_with_digit (u ∷ us) || (u == 46 && begins_with_digit us)

-- what the first units tell of the element that they begin
unfoldable pub class_at : List ℕ → Class
class_at [] = class.Other
class_at (u ∷ us) =
    if u == 47 && begins_with 47 us then class.LineComment else (if u == 47 && begins_with 42 us then class.BlockComment else (if is_quote u then class.Quoted else
    (if begins_number (u ∷ us) then class.Number else (if is_white_space u || is_line_terminator u then class.Blank else class.Other))))

-- a name stands at the front, and no longer one does
pub record FindsName (us : List ℕ) (word : Word) : Type 0 where
  pub parts : List NamePart
  pub is : IsName parts
  pub whole : us ≡ spelled_name parts ++ drop word.length us
  pub length_is : length (spelled_name parts) ≡ word.length
  pub text : word.text ≡ name_value parts
  pub escaped : word.escaped ≡ has_escape parts
  pub longest : (others : List NamePart) (rest : List ℕ) → IsName others → us ≡ spelled_name others ++ rest → length (spelled_name others) ≤ word.length

abbrev pub FindsWord : List ℕ → Option Word → Type 0
FindsWord us (Some word) = FindsName us word
FindsWord us None = BeginsName us → ⊥

-- a number of so many units stands at the front, and no longer one does
pub record FindsNumber (us : List ℕ) (n : ℕ) : Type 0 where
  pub literal : Literal
  pub is : IsNumeric literal
  pub whole : us ≡ spelling literal ++ drop n us
  pub length_is : length (spelling literal) ≡ n
  pub longest : (l : Literal) (rest : List ℕ) → IsNumeric l → us ≡ spelling l ++ rest → length (spelling l) ≤ n

-- a punctuator of so many units stands at the front, or 0 where none does, and no longer one does
pub record FindsPunctuator (us : List ℕ) (n : ℕ) : Type 0 where
  pub within : n ≤ length us
  pub is : 0 < n → is_punctuator (take n us) ≡ true
  pub longest : (text rest : List ℕ) → is_punctuator text ≡ true → us ≡ text ++ rest → length text ≤ n

-- a comment to the end of the line, of so many units
pub record FindsLineComment (us : List ℕ) (n : ℕ) : Type 0 where
  pub body : List ℕ
  pub is : list_any is_line_terminator body ≡ false
  pub whole : us ≡ spelled_line_comment body ++ drop n us
  pub length_is : length (spelled_line_comment body) ≡ n
  pub longest : (b rest : List ℕ) → list_any is_line_terminator b ≡ false → us ≡ spelled_line_comment b ++ rest → length (spelled_line_comment b) ≤ n

-- a comment between `/*` and `*/` of so many units, that holds a line terminator or doesn't
pub record FindsBlockComment (us : List ℕ) (n : ℕ) (breaks : Bool) : Type 0 where
  pub body : List ℕ
  pub is : has_close (body ++ 42 ∷ []) ≡ false
  pub whole : us ≡ spelled_block_comment body ++ drop n us
  pub length_is : length (spelled_block_comment body) ≡ n
  pub breaks_is : breaks ≡ list_any is_line_terminator body
  pub longest : (b rest : List ℕ) → has_close (b ++ 42 ∷ []) ≡ false → us ≡ spelled_block_comment b ++ rest → length (spelled_block_comment b) ≤ n

abbrev pub FindsBlock : List ℕ → Option (ℕ × Bool) → Type 0
FindsBlock us (Some found) = FindsBlockComment us found.0 found.1
FindsBlock us None = OpensComment us

-- a string stands at the front, of so many units and with this value
pub record FindsString (us : List ℕ) (value : List ℕ) (n : ℕ) : Type 0 where
  pub quote : ℕ
  pub parts : List StringPart
  pub is_quote : is_quote quote ≡ true
  pub is : IsString quote parts
  pub whole : us ≡ spelled_string quote parts ++ drop n us
  pub length_is : length (spelled_string quote parts) ≡ n
  pub value_is : value ≡ string_value parts
  pub longest : (q : ℕ) (others : List StringPart) (rest : List ℕ) → IsString q others → us ≡ spelled_string q others ++ rest → length (spelled_string q others) ≤ n

abbrev pub FindsQuoted : List ℕ → Quoted → Type 0
FindsQuoted us (Closed value n) = FindsString us value n
FindsQuoted us Open = OpensString us
FindsQuoted us (BadEscape at) = HasBadEscape us at

-- the longest element that stands at the front, which is a separator of so many units, or makes a token
abbrev pub FindsElement : State → List ℕ → Found → Type 0
FindsElement s us (Separator n breaks) = (e : Element) × Next us e (drop n us) × (is_separator e ≡ true) × (length (spelled e) ≡ n) × (breaks_line e ≡ breaks)
FindsElement s us (Lexeme t) = (e : Element) × (behind : List ℕ) × (k : TokenKind) × Next us e behind × IsAccepted s e behind k × (t ≡ token s e k)

-- it, or the fault, or no memory
abbrev pub Finds : State → List ℕ → Result Found ScanFault → Type 0
Finds s us (Ok found) = FindsElement s us found
Finds s us (Err fault.OutOfMemory) = Unit {0}
Finds s us (Err f) = IsBad s us f
