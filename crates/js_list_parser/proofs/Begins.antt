-- How what spells a tree begins, and how single tokens are read.
use Rattle.std.proofs.Common.{◌≡◌, ℕ, Bool, true, false, List, [], ◌∷◌, Option, Some, None, Ok, ℤ, refl, ap}
use Rattle.js_ast.specs.declared.token.Token.{Token}
use Rattle.js_ast.specs.declared.token.TokenKind.{TokenKind}
use Rattle.js_ast.specs.declared.token.TokenKind.TheVariants as kind
use Rattle.js_ast.specs.declared.operators.UnaryOperator.{UnaryOperator}
use Rattle.js_ast.specs.declared.operators.UnaryOperator.TheVariants as unary_operator
use Rattle.js_ast.specs.declared.words.Keyword.{Keyword}
use Rattle.js_ast.specs.declared.words.Sign.{Sign}
use Rattle.js_ast.specs.Words.{Word, a_name, a_number, a_string, a_sign, in_table, keywords, signs, key_word, sign_word, word_by, word_of, name_by}
use Rattle.js_ast.specs.Trees.{Ident, Key, name_key, string_key, number_key, Expr, name, number, string, this, null, boolean, paren, array, object, function, member, index, new_with, new_bare, call, postfix, unary, binary, conditional, assign, comma, at_of}
use Rattle.js_ast.specs.Levels.{unary_word}
use Rattle.js_ast.specs.Grammar.{Takes, TakesName, ReadsIdent, ReadsKey, Reads, place_of}
use Rattle.js_list_parser.specs.Reading.{word_at, behind}
use Rattle.js_list_parser.specs.ExpressionParsing.{expect, taken, name_at, key_by, key_at, has_key, ident_at, begins_expression}

-- the word of a token that is taken
pub takes_word : (w : Word) (ts z : List Token) → Takes w ts z → word_at ts ≡ Some w
takes_word w ts z h = rw h.1 (ap Some h.2)

-- what is behind a token that is taken
pub takes_behind : (w : Word) (ts z : List Token) → Takes w ts z → behind ts ≡ z
takes_behind w ts z h = ap behind h.1

-- the place of an expression is that of its first token
pub reads_place : (e : Expr) (ts z : List Token) → Reads e ts z → at_of e ≡ place_of ts
reads_place (name at text) ts z h = h.0
reads_place (number at n) ts z h = h.0
reads_place (string at text v) ts z h = h.0
reads_place (this at) ts z h = h.0
reads_place (null at) ts z h = h.0
reads_place (boolean at b) ts z h = h.0
reads_place (paren at e) ts z h = h.0
reads_place (array at items final) ts z h = h.0
reads_place (object at props final) ts z h = h.0
reads_place (function at f) ts z h = h.0
reads_place (member at e text) ts z h = h.0
reads_place (index at e i) ts z h = h.0
reads_place (new_with at e args) ts z h = h.0
reads_place (new_bare at e) ts z h = h.0
reads_place (call at e args) ts z h = h.0
reads_place (postfix at e o) ts z h = h.0
reads_place (unary at o e) ts z h = h.0
reads_place (binary at l o r) ts z h = h.0
reads_place (conditional at c a b) ts z h = h.0
reads_place (assign at l o r) ts z h = h.0
reads_place (comma at l r) ts z h = h.0

-- an operator in front begins an expression
pub unary-begins : (o : UnaryOperator) → begins_expression (Some (unary_word o)) ≡ true
unary-begins unary_operator.Delete = refl
unary-begins _ = refl

-- a token in a word that begins an expression
begins : (w : Word) (ts z : List Token) → begins_expression (Some w) ≡ true → Takes w ts z → begins_expression (word_at ts) ≡ true
begins w ts z b h = rw (takes_word w ts z h) b

-- the first token of an expression begins one
pub reads_begins : (e : Expr) (ts z : List Token) → Reads e ts z → begins_expression (word_at ts) ≡ true
reads_begins (name at text) ts z h = begins _ ts z refl h.1
reads_begins (number at n) ts z h = begins _ ts z refl h.1
reads_begins (string at text v) ts z h = begins _ ts z refl h.1
reads_begins (this at) ts z h = begins _ ts z refl h.1
reads_begins (null at) ts z h = begins _ ts z refl h.1
reads_begins (boolean at true) ts z h = begins _ ts z refl h.1
reads_begins (boolean at false) ts z h = begins _ ts z refl h.1
reads_begins (paren at e) ts z h = begins _ ts _ refl h.1.1
reads_begins (array at items final) ts z h = begins _ ts _ refl h.1.1
reads_begins (object at props final) ts z h = begins _ ts _ refl h.1.1
reads_begins (function at f) ts z h = begins _ ts _ refl h.1.1
reads_begins (member at e text) ts z h = reads_begins e ts h.1.0 h.1.1
reads_begins (index at e i) ts z h = reads_begins e ts h.1.0 h.1.1
reads_begins (new_with at e args) ts z h = begins _ ts _ refl h.1.1
reads_begins (new_bare at e) ts z h = begins _ ts _ refl h.1.1
reads_begins (call at e args) ts z h = reads_begins e ts h.1.0 h.1.1
reads_begins (postfix at e o) ts z h = reads_begins e ts h.1.0 h.1.1
reads_begins (unary at o e) ts z h = begins _ ts _ (unary-begins o) h.1.1
reads_begins (binary at l o r) ts z h = reads_begins l ts h.1.0 h.1.1
reads_begins (conditional at c a b) ts z h = reads_begins c ts h.1.0 h.1.1
reads_begins (assign at l o r) ts z h = reads_begins l ts h.1.0 h.1.1
reads_begins (comma at l r) ts z h = reads_begins l ts h.1.0 h.1.1

-- ---- single tokens

-- a token that is taken passes its test
pub expect_reads : (test : Word → Bool) (w : Word) (ts z : List Token) → test w ≡ true → Takes w ts z → expect test ts ≡ Ok z
unfolding expect
expect_reads test w ts z p h = rw (h.1, h.2, p) refl

-- what the first token is, is taken
pub taken_reads : {A : Type 0} (found : List Token → Option A) (a : A) (ts z : List Token) → found ts ≡ Some a → behind ts ≡ z → taken (found ts) ts ≡ Ok (a, z)
unfolding taken
taken_reads found a ts z f b = rw (f, b) refl

-- a name that is bound is found
pub ident_found : (i : Ident) (ts z : List Token) → ReadsIdent i ts z → ident_at ts ≡ Some i
ident_found i ts z h = rw (takes_word (a_name i.text) ts z h.1, ← h.0) refl

-- a name that is bound is read
pub ident_reads : (i : Ident) (ts z : List Token) → ReadsIdent i ts z → taken (ident_at ts) ts ≡ Ok (i, z)
ident_reads i ts z h = taken_reads ident_at i ts z (ident_found i ts z h) (takes_behind (a_name i.text) ts z h.1)

-- an identifier name is found
pub name_found : (text : List ℕ) (ts z : List Token) → TakesName text ts z → name_at ts ≡ Some text
name_found text ts z h = rw h.1 h.2

-- an identifier name is read
pub name_reads : (text : List ℕ) (ts z : List Token) → TakesName text ts z → taken (name_at ts) ts ≡ Ok (text, z)
name_reads text ts z h = taken_reads name_at text ts z (name_found text ts z h) (ap behind h.1)

-- ---- keys

-- a reserved word is no punctuator
key_no_sign : (x : Option Keyword) (s : Sign) → key_word x ≡ a_sign s → ⊥
key_no_sign None s h = cc
key_no_sign (Some k) s h = cc

-- a reserved word is no string
key_no_string : (x : Option Keyword) (u v : List ℕ) → key_word x ≡ a_string u v → ⊥
key_no_string None u v h = cc
key_no_string (Some k) u v h = cc

-- a reserved word is no number
key_no_number : (x : Option Keyword) (n : ℤ) → key_word x ≡ a_number n → ⊥
key_no_number None n h = cc
key_no_number (Some k) n h = cc

-- a punctuator is no string
sign_no_string : (x : Option Sign) (u v : List ℕ) → sign_word x ≡ a_string u v → ⊥
sign_no_string None u v h = cc
sign_no_string (Some k) u v h = cc

-- a punctuator is no number
sign_no_number : (x : Option Sign) (n : ℤ) → sign_word x ≡ a_number n → ⊥
sign_no_number None n h = cc
sign_no_number (Some k) n h = cc

-- a punctuator is no key
pub key-sign : (k : TokenKind) (text : List ℕ) (s : Sign) → word_by k text ≡ a_sign s → key_by k text ≡ None
unfolding word_by
key-sign kind.Name text s h = absurd cc
key-sign kind.Reserved text s h = absurd (key_no_sign (in_table keywords text) s h)
key-sign (kind.String v) text s h = absurd cc
key-sign (kind.Number n) text s h = absurd cc
key-sign kind.Punctuator text s h = refl

-- a string is a key
key-string : (k : TokenKind) (text u v : List ℕ) → word_by k text ≡ a_string u v → key_by k text ≡ Some (string_key u v)
unfolding word_by
key-string kind.Name text u v h = absurd cc
key-string kind.Reserved text u v h = absurd (key_no_string (in_table keywords text) u v h)
key-string (kind.String x) text u v h = cc
key-string (kind.Number n) text u v h = absurd cc
key-string kind.Punctuator text u v h = absurd (sign_no_string (in_table signs text) u v h)

-- a number is a key
key-number : (k : TokenKind) (text : List ℕ) (n : ℤ) → word_by k text ≡ a_number n → key_by k text ≡ Some (number_key n)
unfolding word_by
key-number kind.Name text n h = absurd cc
key-number kind.Reserved text n h = absurd (key_no_number (in_table keywords text) n h)
key-number (kind.String x) text n h = absurd cc
key-number (kind.Number m) text n h = cc
key-number kind.Punctuator text n h = absurd (sign_no_number (in_table signs text) n h)

-- an identifier name is a key
key-name : (k : TokenKind) (text u : List ℕ) → name_by k text ≡ Some u → key_by k text ≡ Some (name_key u)
key-name kind.Name text u h = cc
key-name kind.Reserved text u h = cc
key-name (kind.String x) text u h = absurd cc
key-name (kind.Number m) text u h = absurd cc
key-name kind.Punctuator text u h = absurd cc

-- a key is found
pub key_found : (k : Key) (ts z : List Token) → ReadsKey k ts z → key_at ts ≡ Some k
key_found (name_key text) ts z h = rw h.1 (key-name (h.0).kind (h.0).text text h.2)
key_found (string_key text v) ts z h = rw h.1 (key-string (h.0).kind (h.0).text text v h.2)
key_found (number_key n) ts z h = rw h.1 (key-number (h.0).kind (h.0).text n h.2)

-- a key is one token
pub key_behind : (k : Key) (ts z : List Token) → ReadsKey k ts z → behind ts ≡ z
key_behind (name_key text) ts z h = ap behind h.1
key_behind (string_key text v) ts z h = ap behind h.1
key_behind (number_key n) ts z h = ap behind h.1

-- a key is read
pub key_reads : (k : Key) (ts z : List Token) → ReadsKey k ts z → taken (key_at ts) ts ≡ Ok (k, z)
key_reads k ts z h = taken_reads key_at k ts z (key_found k ts z h) (key_behind k ts z h)

-- a punctuator is no key
pub sign_no_key : (s : Sign) (ts z : List Token) → Takes (a_sign s) ts z → has_key (key_at ts) ≡ false
sign_no_key s ts z h = rw (h.1, key-sign (h.0).kind (h.0).text s h.2) refl

-- at a punctuator stands no key
pub sign_at_no_key : (s : Sign) (ts : List Token) → word_at ts ≡ Some (a_sign s) → key_at ts ≡ None
sign_at_no_key s [] h = absurd cc
sign_at_no_key s (t ∷ ts) h = let p : word_of t ≡ a_sign s = cc in key-sign t.kind t.text s p
