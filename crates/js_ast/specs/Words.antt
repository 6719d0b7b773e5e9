-- What the grammar asks of a token: which name, literal, reserved word or punctuator it is.
use Rattle.std.specs.Prelude.{ℕ, List, [], ◌∷◌, Option, Some, None, codes, ℤ, if◌then◌else◌}
use Rattle.std.specs.Str.{bytes_eq}
use Rattle.js_ast.specs.declared.token.Token.{Token}
use Rattle.js_ast.specs.declared.token.TokenKind.{TokenKind}
use Rattle.js_ast.specs.declared.token.TokenKind.TheVariants as kind
use Rattle.js_ast.specs.declared.words.Keyword.{Keyword}
use Rattle.js_ast.specs.declared.words.Keyword.TheVariants as key
use Rattle.js_ast.specs.declared.words.Sign.{Sign}
use Rattle.js_ast.specs.declared.words.Sign.TheVariants as sign

-- a string literal has its token's text and its value; a token that is none of the others has a text that no source gives it
pub data Word : Type 0 where
  a_name : List ℕ → Word
  a_number : ℤ → Word
  a_string : List ℕ → List ℕ → Word
  a_key : Keyword → Word
  a_sign : Sign → Word
  none_known : Word

-- the value of the row whose text this is
abbrev pub in_table : {X : Type 0} → List (List ℕ × X) → List ℕ → Option X
in_table [] text = None
in_table (row ∷ rows) text = if bytes_eq text row.0 then Some row.1 else in_table rows text

-- the reserved words
abbrev pub keywords : List (List ℕ × Keyword)
keywords = (codes "break", key.Break) ∷ (codes "case", key.Case) ∷ (codes "catch", key.Catch) ∷ (codes "continue", key.Continue) ∷ (codes "debugger", key.Debugger) ∷ (codes "default", key.Default)
    ∷ (codes "delete", key.Delete) ∷ (codes "do", key.Do) ∷ (codes "else", key.Else) ∷ (codes "finally", key.Finally) ∷ (codes "for", key.For) ∷ (codes "function", key.Function)
    ∷ (codes "if", key.If) ∷ (codes "in", key.In) ∷ (codes "instanceof", key.Instanceof) ∷ (codes "new", key.New) ∷ (codes "return", key.Return) ∷ (codes "switch", key.Switch)
    ∷ (codes "this", key.This) ∷ (codes "throw", key.Throw) ∷ (codes "try", key.Try) ∷ (codes "typeof", key.Typeof) ∷ (codes "var", key.Var) ∷ (codes "void", key.Void)
    ∷ (codes "while", key.While) ∷ (codes "with", key.With) ∷ (codes "class", key.Class) ∷ (codes "const", key.Const) ∷ (codes "enum", key.Enum) ∷ (codes "export", key.Export)
    ∷ (codes "extends", key.Extends) ∷ (codes "import", key.Import) ∷ (codes "super", key.Super) ∷ (codes "null", key.Null) ∷ (codes "true", key.True) ∷ (codes "false", key.False) ∷ []

-- the punctuators
abbrev pub signs : List (List ℕ × Sign)
signs = (codes "{", sign.OpenBrace) ∷ (codes "}", sign.CloseBrace) ∷ (codes "(", sign.OpenParen) ∷ (codes ")", sign.CloseParen) ∷ (codes "[", sign.OpenBracket) ∷ (codes "]", sign.CloseBracket)
    ∷ (codes ".", sign.Dot) ∷ (codes ";", sign.Semicolon) ∷ (codes ",", sign.Comma) ∷ (codes "<", sign.Less) ∷ (codes ">", sign.Greater) ∷ (codes "<=", sign.LessEqual)
    ∷ (codes ">=", sign.GreaterEqual) ∷ (codes "==", sign.Equal) ∷ (codes "!=", sign.NotEqual) ∷ (codes "===", sign.StrictEqual) ∷ (codes "!==", sign.StrictNotEqual) ∷ (codes "+", sign.Plus)
    ∷ (codes "-", sign.Minus) ∷ (codes "*", sign.Star) ∷ (codes "/", sign.Slash) ∷ (codes "%", sign.Percent) ∷ (codes "++", sign.PlusPlus) ∷ (codes "--", sign.MinusMinus)
    ∷ (codes "<<", sign.ShiftLeft) ∷ (codes ">>", sign.ShiftRight) ∷ (codes ">>>", sign.ShiftRightZero) ∷ (codes "&", sign.And) ∷ (codes "|", sign.Or) ∷ (codes "^", sign.Xor)
    ∷ (codes "!", sign.Not) ∷ (codes "~", sign.Tilde) ∷ (codes "&&", sign.AndAnd) ∷ (codes "||", sign.OrOr) ∷ (codes "?", sign.Question) ∷ (codes ":", sign.Colon)
    ∷ (codes "=", sign.Assign) ∷ (codes "+=", sign.PlusAssign) ∷ (codes "-=", sign.MinusAssign) ∷ (codes "*=", sign.StarAssign) ∷ (codes "/=", sign.SlashAssign) ∷ (codes "%=", sign.PercentAssign)
    ∷ (codes "<<=", sign.ShiftLeftAssign) ∷ (codes ">>=", sign.ShiftRightAssign) ∷ (codes ">>>=", sign.ShiftRightZeroAssign) ∷ (codes "&=", sign.AndAssign) ∷ (codes "|=", sign.OrAssign) ∷ (codes "^=", sign.XorAssign) ∷ []

abbrev pub key_word : Option Keyword → Word
key_word (Some k) = a_key k
key_word None = none_known

abbrev pub sign_word : Option Sign → Word
sign_word (Some s) = a_sign s
sign_word None = none_known

unfoldable pub word_by : TokenKind → List ℕ → Word
word_by kind.Name text = a_name text
word_by (kind.Number n) text = a_number n
word_by (kind.String value) text = a_string text value
word_by kind.Reserved text = key_word (in_table keywords text)
word_by kind.Punctuator text = sign_word (in_table signs text)

-- the word that a token is
abbrev pub word_of : Token → Word
word_of t = word_by t.kind t.text

-- the text of a token that is an identifier name, reserved or not
abbrev pub name_by : TokenKind → List ℕ → Option (List ℕ)
name_by kind.Name text = Some text
name_by kind.Reserved text = Some text
name_by _ text = None

abbrev pub identifier_name : Token → Option (List ℕ)
identifier_name t = name_by t.kind t.text
