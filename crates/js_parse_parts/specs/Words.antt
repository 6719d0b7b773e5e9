-- The words of the code, as the grammar sees them.
use Rattle.js_ast.specs.Words.{a_name, a_number, a_string, a_key, a_sign, none_known}
use Rattle.js_ast.specs.Words as words
use Rattle.js_parse_parts.specs.declared.words.Word.{Word}
use Rattle.js_parse_parts.specs.declared.words.Word.TheVariants as word

-- the word of a token
abbrev pub word_of : Word → words.Word
word_of (word.Name text) = a_name text.now
word_of (word.Number n) = a_number n.now
word_of (word.String text value) = a_string text.now value.now
word_of (word.Key k) = a_key k
word_of (word.Sign s) = a_sign s
word_of word.Unknown = none_known
