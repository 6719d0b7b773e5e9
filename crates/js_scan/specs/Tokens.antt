-- The tokens of a source, and why a source has none.
use Rattle.std.specs.Prelude.{◌≡◌, ℕ, ◌+◌, List, [], ◌∷◌, ◌++◌, Bool, true, false, not, ◌&&◌, ◌||◌, length, codes, if◌then◌else◌}
use Rattle.std.specs.Str.{bytes_eq}
use Rattle.js_number.specs.Literal.{Literal, spelling, SpellsNumber}
use Rattle.js_number.specs.Profile.{IsProfile}
use Rattle.js_ast.specs.declared.token.TokenKind.{TokenKind}
use Rattle.js_ast.specs.declared.token.TokenKind.TheVariants as kind
use Rattle.js_ast.specs.declared.token.Token.{Token}
use Rattle.js_scan.specs.declared.fault.ScanFault.{ScanFault}
use Rattle.js_scan.specs.declared.state.State.{State}
use Rattle.js_scan.specs.declared.fault.ScanFault.TheVariants as fault
use Rattle.js_scan.specs.Units.{is_quote, begins_with, begins_with_digit}
use Rattle.js_scan.specs.Names.{NamePart, BeginsName, name_value, has_escape, is_reserved, word_kind, is_one_of}
use Rattle.js_scan.specs.Strings.{string_value, OpensString, HasBadEscape}
use Rattle.js_scan.specs.Comments.{begins_comment, OpensComment}
use Rattle.js_scan.specs.Elements.{Element, name, punctuator, number, string, spelled, Stands, Next, is_separator, breaks_line}

-- at the first unit; there is no token before
abbrev pub start : State
start = record { at = 0; newline = false; dot = false; divides = false }

-- a `/` behind this token is a punctuator: behind a name, a number, a string, a closing bracket, `++`, `--`, and behind those reserved
-- words that are values or that follow `.`
unfoldable pub divides_behind : Bool → TokenKind → List ℕ → Bool
divides_behind dot kind.Name text = true
divides_behind dot kind.Reserved text = dot || is_one_of (codes "this" ∷ codes "null" ∷ codes "true" ∷ codes "false" ∷ []) text
divides_behind dot kind.Punctuator text = is_one_of (codes ")" ∷ codes "]" ∷ codes "}" ∷ codes "++" ∷ codes "--" ∷ []) text
divides_behind dot (kind.Number n) text = true
divides_behind dot (kind.String value) text = true

unfoldable pub is_dot : TokenKind → List ℕ → Bool
is_dot kind.Punctuator text = bytes_eq text (codes ".")
is_dot _ text = false

-- behind a separator, and behind a token
abbrev pub past : State → Element → State
past s e = record { at = s.at + length (spelled e); newline = s.newline || breaks_line e; dot = s.dot; divides = s.divides }

abbrev pub after : State → Token → State
after s t = record { at = t.to; newline = false; dot = is_dot t.kind t.text; divides = divides_behind s.dot t.kind t.text }

-- the text of a lexeme: what a name stands for, and the units of any other
abbrev pub text_of : Element → List ℕ
text_of (name parts) = name_value parts
text_of e = spelled e

-- the token that a lexeme makes
abbrev pub token : State → Element → TokenKind → Token
token s e k = record { kind = k; text = text_of e; from = s.at; to = s.at + length (spelled e); newline = s.newline }

-- The lexeme is accepted in front of the rest, as this kind of token. A name has no `\` behind it, and is no reserved word spelled with an
-- escape. A punctuator that begins with `/` begins no comment and no regular expression. A number's exact value is a number of the
-- profile, and neither a digit nor a name stands behind it.
unfoldable pub IsAccepted : State → Element → List ℕ → TokenKind → Type 0
IsAccepted s (name parts) rest k = (begins_with 92 rest ≡ false) × ((has_escape parts && is_reserved (name_value parts)) ≡ false) × (k ≡ word_kind (name_value parts))
IsAccepted s (punctuator text) rest k = ((not (begins_with 47 text) || (s.divides && not (begins_comment (text ++ rest)))) ≡ true) × (k ≡ kind.Punctuator)
IsAccepted s (number l) rest k = (n : _) × IsProfile n × SpellsNumber (spelling l) n × (begins_with_digit rest ≡ false) × (BeginsName rest → ⊥) × (k ≡ kind.Number n)
IsAccepted s (string quote parts) rest k = k ≡ kind.String (string_value parts)
IsAccepted s _ rest k = ⊥

-- From one state and the units ahead of it to another: separators and lexemes in turn, each the longest that can stand there, and the
-- tokens of the lexemes.
pub data Splits : State → List ℕ → List Token → State → List ℕ → Type 0 where
  nothing : (s : State) (us : List ℕ) → Splits s us [] s us
  separator : (s : State) (us : List ℕ) (e : Element) (behind : List ℕ) (ts : List Token) (to : State) (rest : List ℕ) → Next us e behind → is_separator e ≡ true
      → Splits (past s e) behind ts to rest → Splits s us ts to rest
  lexeme : (s : State) (us : List ℕ) (e : Element) (behind : List ℕ) (t : Token) (ts : List Token) (to : State) (rest : List ℕ) (k : TokenKind) → Next us e behind → IsAccepted s e behind k
      → t ≡ token s e k → Splits (after s t) behind ts to rest → Splits s us (t ∷ ts) to rest

-- the source has these tokens
abbrev pub IsTokens : List ℕ → List Token → Type 0
IsTokens source ts = (end : State) × Splits start source ts end []

-- no element can stand at the front of the units, which don't begin with a quote
abbrev pub BeginsNone : List ℕ → Type 0
BeginsNone us = (u : ℕ) × (rest : List ℕ) × (us ≡ u ∷ rest) × (is_quote u ≡ false) × ((e : Element) (behind : List ℕ) → Stands us e behind → ⊥)

-- A name stands at the front and isn't accepted, and this is the place of its fault: of the `\` behind it, or of its first unit where it is a
-- reserved word with an escape.
abbrev pub HasBadName : State → List ℕ → ℕ → Type 0
HasBadName s us at = (parts : List NamePart) × (rest : List ℕ) × Next us (name parts) rest × ((k : TokenKind) → IsAccepted s (name parts) rest k → ⊥)
    × (at ≡ (if begins_with 92 rest then length (spelled (name parts)) else 0))

-- a number stands at the front and isn't accepted
abbrev pub HasBadNumber : State → List ℕ → Type 0
HasBadNumber s us = (l : Literal) × (rest : List ℕ) × Next us (number l) rest × ((k : TokenKind) → IsAccepted s (number l) rest k → ⊥)

-- what stands here is no lexeme, and this is the fault, with its place behind this one
pub data IsBad (s : State) (us : List ℕ) : ScanFault → Type 0 where
  no_token : (at : ℕ) → BeginsNone us → at ≡ s.at → IsBad s us (fault.BadToken at)
  bad_name : (at : ℕ) (behind : ℕ) → HasBadName s us behind → at ≡ s.at + behind → IsBad s us (fault.BadToken at)
  bad_escape : (at : ℕ) (behind : ℕ) → HasBadEscape us behind → at ≡ s.at + behind → IsBad s us (fault.BadToken at)
  open_comment : (at : ℕ) → OpensComment us → at ≡ s.at → IsBad s us (fault.Unterminated at)
  open_string : (at : ℕ) → OpensString us → at ≡ s.at → IsBad s us (fault.Unterminated at)
  regular_expression : (at : ℕ) → begins_with 47 us ≡ true → begins_comment us ≡ false → s.divides ≡ false → at ≡ s.at → IsBad s us (fault.RegExpLiteral at)
  bad_number : (at : ℕ) → HasBadNumber s us → at ≡ s.at → IsBad s us (fault.NumberLiteral at)

-- the source has no tokens: in front of its first bad lexeme there are separators and lexemes, and this is the fault of that lexeme
abbrev pub IsFault : List ℕ → ScanFault → Type 0
IsFault source f = (ts : List Token) × (s : State) × (rest : List ℕ) × Splits start source ts s rest × IsBad s rest f

-- the fault is that of the source, but for want of memory
abbrev pub IsFaultOf : List ℕ → ScanFault → Type 0
IsFaultOf source fault.OutOfMemory = Unit {0}
IsFaultOf source f = IsFault source f

-- the place of a fault
abbrev pub fault_at : ScanFault → ℕ
fault_at (fault.BadToken at) = at
fault_at (fault.Unterminated at) = at
fault_at (fault.RegExpLiteral at) = at
fault_at (fault.NumberLiteral at) = at
fault_at fault.OutOfMemory = 0
