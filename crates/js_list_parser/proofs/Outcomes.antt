-- What follows where a reader answers with Ok: its parts did, and which tokens were taken.
use Rattle.std.proofs.Common.{◌≡◌, ℕ, zero, suc, ◌<◌, ◌≤◌, Bool, true, false, cond, if◌then◌else◌, leb, inl, inr, List, [], ◌∷◌, length, Option, Some, None, Result, Ok, Err, ℤ, refl, ap, subst, arith}
use Rattle.std.proofs.lemmas.Bool.{leb-false}
use Rattle.js_ast.specs.declared.token.Token.{Token}
use Rattle.js_ast.specs.declared.token.TokenKind.{TokenKind}
use Rattle.js_ast.specs.declared.token.TokenKind.TheVariants as kind
use Rattle.js_ast.specs.declared.words.Sign.TheVariants as sign
use Rattle.js_ast.specs.Words.{Word, a_name, a_number, a_string, a_sign, word_of, word_by, name_by}
use Rattle.js_ast.specs.Trees.{Ident, Key, name_key, string_key, number_key, Expr}
use Rattle.js_ast.specs.Levels.{level}
use Rattle.js_ast.specs.Grammar.{Takes, sign_part, TakesName, ReadsIdent, ReadsKey, place_of, is_close_brace}
use Rattle.js_list_parser.specs.Reading.{Refusal, refused, syntax, nesting, Read, ◌>>=◌, word_at, behind, Turn, again, done, turned, turns, loop, room}
use Rattle.js_list_parser.specs.ExpressionParsing.{is_open_paren, is_close_paren, is_close_bracket, is_open_brace, is_colon, expect, taken, name_at, key_by, key_at, ident_by, ident_at, Reaches}
use Rattle.js_list_parser.proofs.Levels.{bare-level}

-- the first of two answers, and then the second from there
pub bind_ok : {A B : Type 0} (r : Result A Refusal) (f : A → Result B Refusal) (b : B) → (r >>= f) ≡ Ok b → (a : A) × (r ≡ Ok a) × (f a ≡ Ok b)
bind_ok (Ok a) f b e = (a, refl, e)
bind_ok (Err x) f b e = absurd cc

-- what is read
pub same_tree : {A : Type 0} (a b : A) (y z : List Token) → (let r : Read A = Ok (a, y) in r ≡ Ok (b, z)) → a ≡ b
same_tree a b y z e = let p : (let t : _ × List Token = (a, y) in t ≡ (b, z)) = cc in ap (λ (t : _ × List Token). t.0) p

-- the tokens behind what is read
pub same_rest : {A : Type 0} (a b : A) (y z : List Token) → (let r : Read A = Ok (a, y) in r ≡ Ok (b, z)) → y ≡ z
same_rest a b y z e = let p : (let t : _ × List Token = (a, y) in t ≡ (b, z)) = cc in ap (λ (t : _ × List Token). t.1) p

-- what is known of an answer is known of the same answer
pub told : {A : Type 0} (P : A → List Token → Type 0) (a b : A) (y z : List Token) → P a y → (let r : Read A = Ok (a, y) in r ≡ Ok (b, z)) → P b z
told P a b y z h e = subst (λ (x : List Token). P b x) (same_rest a b y z e) (subst (λ (x : _). P x y) (same_tree a b y z e) h)

-- there was room
pub room_ok : {A : Type 0} (limit parts : ℕ) (ts : List Token) (r : Read A) (x : A × List Token) → room limit parts ts r ≡ Ok x → (parts < limit) × (r ≡ Ok x)
room_ok limit parts ts r x e = go (leb limit parts) refl e
  where
    go : (b : Bool) → leb limit parts ≡ b → cond b (Err (refused nesting ts)) r ≡ Ok x → (parts < limit) × (r ≡ Ok x)
    go true h e = absurd cc
    go false h e = (leb-false limit parts h, e)

-- the test was passed
pub if_ok : {A : Type 0} (b : Bool) (r : Result A Refusal) (x : Refusal) (a : A) → (if b then r else Err x) ≡ Ok a → (b ≡ true) × (r ≡ Ok a)
if_ok true r x a e = (refl, e)
if_ok false r x a e = absurd cc

-- ---- loops keep what each turn keeps

-- what is known before the first turn is known before each, and so at the end
sound-turns : {S A : Type 0} (step : S → List Token → Read (Turn S A)) (Inv : S → List Token → Type 0) (Out : A → List Token → Type 0)
    → ((s : S) (ts : List Token) (t : S) (z : List Token) → Inv s ts → step s ts ≡ Ok (again t, z) → Inv t z)
    → ((s : S) (ts : List Token) (a : A) (z : List Token) → Inv s ts → step s ts ≡ Ok (done a, z) → Out a z)
    → (n : ℕ) (s : S) (ts : List Token) (a : A) (z : List Token) → Inv s ts → turns step n s ts ≡ Ok (a, z) → Out a z
sound-turns step Inv Out keeps ends zero s ts a z i e = absurd cc
sound-turns step Inv Out keeps ends (suc n) s ts a z i e =
    let h = bind_ok (step s ts) (λ x. turned (turns step n) x.0 x.1) (a, z) e in
    go (h.0).0 (h.0).1 h.1 h.2 (λ t m j g. sound-turns step Inv Out keeps ends n t m a z j g)
  where
    go : (t : Turn _ _) (m : List Token) → step s ts ≡ Ok (t, m) → turned (turns step n) t m ≡ Ok (a, z) → ((u : _) (y : List Token) → Inv u y → turns step n u y ≡ Ok (a, z) → Out a z) → Out a z
    go (again t) m h e ih = ih t m (keeps s ts t m i h) e
    go (done b) m h e ih = subst (λ (y : List Token). Out a y) (same_rest b a m z e) (subst (λ (y : _). Out y m) (same_tree b a m z e) (ends s ts b m i h))

-- so it is of the whole loop
sound-loop : {S A : Type 0} (step : S → List Token → Read (Turn S A)) (Inv : S → List Token → Type 0) (Out : A → List Token → Type 0)
    → ((s : S) (ts : List Token) (t : S) (z : List Token) → Inv s ts → step s ts ≡ Ok (again t, z) → Inv t z)
    → ((s : S) (ts : List Token) (a : A) (z : List Token) → Inv s ts → step s ts ≡ Ok (done a, z) → Out a z)
    → (s : S) (ts : List Token) (a : A) (z : List Token) → Inv s ts → loop step s ts ≡ Ok (a, z) → Out a z
unfolding loop
sound-loop step Inv Out keeps ends s ts a z i e = sound-turns step Inv Out keeps ends (suc (length ts)) s ts a z i e

-- what a turn leaves
abbrev pub After : {S A : Type 0} → (S → List Token → Type 0) → (A → List Token → Type 0) → Turn S A → List Token → Type 0
After Inv Out (again s) z = Inv s z
After Inv Out (done a) z = Out a z

-- the same, by one fact of a turn that goes on or ends
pub turns_sound : {S A : Type 0} (step : S → List Token → Read (Turn S A)) (Inv : S → List Token → Type 0) (Out : A → List Token → Type 0)
    → ((s : S) (ts : List Token) (t : Turn S A) (z : List Token) → Inv s ts → step s ts ≡ Ok (t, z) → After Inv Out t z) → (s : S) (ts : List Token) (a : A) (z : List Token) → Inv s ts → loop step s ts ≡ Ok (a, z) → Out a z
turns_sound step Inv Out each = sound-loop step Inv Out (λ s ts t z i e. each s ts (again t) z i e) (λ s ts a z i e. each s ts (done a) z i e)

-- ---- single tokens

-- a token in this word
took : (w : Word) (ts z : List Token) → word_at ts ≡ Some w → behind ts ≡ z → Takes w ts z
took w [] z h b = absurd cc
took w (t ∷ ts) z h b = let is : word_of t ≡ w = cc in (t, ap (λ (y : List Token). t ∷ y) b, is)

-- the first token is taken
pub takes : (w : Word) (ts : List Token) → word_at ts ≡ Some w → Takes w ts (behind ts)
takes w ts h = took w ts (behind ts) h refl

-- a token that passes a test which only one word passes
pub expect_sound : (test : Word → Bool) (w : Word) → ((v : Word) → test v ≡ true → v ≡ w) → (ts z : List Token) → expect test ts ≡ Ok z → Takes w ts z
unfolding expect
expect_sound test w only [] z e = absurd cc
expect_sound test w only (t ∷ ts) z e =
    let p = if_ok (test (word_of t)) (Ok ts) (refused syntax (t ∷ ts)) z e in
    let is : ts ≡ z = cc in
    (t, ap (λ (y : List Token). t ∷ y) is, only (word_of t) p.0)

-- there was such a token, and what is behind it is left
taken_ok : {A : Type 0} (found : Option A) (ts : List Token) (a : A) (z : List Token) → taken found ts ≡ Ok (a, z) → (found ≡ Some a) × (behind ts ≡ z)
unfolding taken
taken_ok (Some b) ts a z e = (ap Some (same_tree b a (behind ts) z e), same_rest b a (behind ts) z e)
taken_ok None ts a z e = absurd cc

-- a name that is bound stands there
pub ident_is : (i : Ident) (ts : List Token) → ident_at ts ≡ Some i → ReadsIdent i ts (behind ts)
ident_is i ts e = go (word_at ts) refl e
  where
    go : (w : Option Word) → word_at ts ≡ w → ident_by w (place_of ts) ≡ Some i → ReadsIdent i ts (behind ts)
    go (Some (a_name text)) h e = let p : record { at = place_of ts; text = text } ≡ i = cc in rw (← p) (refl, takes (a_name text) ts h)
    go _ h e = absurd cc

-- and is taken
pub ident_sound : (ts : List Token) (i : Ident) (z : List Token) → taken (ident_at ts) ts ≡ Ok (i, z) → ReadsIdent i ts z
ident_sound ts i z e = let p = taken_ok (ident_at ts) ts i z e in rw (← p.1) (ident_is i ts p.0)

-- an identifier name is taken
pub name_sound : (ts : List Token) (text : List ℕ) (z : List Token) → taken (name_at ts) ts ≡ Ok (text, z) → TakesName text ts z
name_sound ts text z e = go ts (taken_ok (name_at ts) ts text z e)
  where
    go : (ts : List Token) → (name_at ts ≡ Some text) × (behind ts ≡ z) → TakesName text ts z
    go [] p = let q = p.0 in absurd cc
    go (t ∷ ts) p = (t, ap (λ (y : List Token). t ∷ y) p.1, p.0)

-- ---- keys

-- a key that is a name
key-named : (x : TokenKind) (text u : List ℕ) → key_by x text ≡ Some (name_key u) → name_by x text ≡ Some u
key-named kind.Name text u e = cc
key-named kind.Reserved text u e = cc
key-named _ text u e = absurd cc

-- a string
key-string : (x : TokenKind) (text u v : List ℕ) → key_by x text ≡ Some (string_key u v) → word_by x text ≡ a_string u v
unfolding word_by
key-string (kind.String w) text u v e = cc
key-string _ text u v e = absurd cc

-- a number
key-number : (x : TokenKind) (text : List ℕ) (n : ℤ) → key_by x text ≡ Some (number_key n) → word_by x text ≡ a_number n
unfolding word_by
key-number (kind.Number m) text n e = cc
key-number _ text n e = absurd cc

-- the key of a property
pub key_sound : (ts : List Token) (k : Key) (z : List Token) → taken (key_at ts) ts ≡ Ok (k, z) → ReadsKey k ts z
key_sound ts k z e = let p = taken_ok (key_at ts) ts k z e in go ts k p.0 p.1
  where
    go : (ts : List Token) (k : Key) → key_at ts ≡ Some k → behind ts ≡ z → ReadsKey k ts z
    go [] k h b = absurd cc
    go (t ∷ ts) (name_key text) h b = (t, ap (λ (y : List Token). t ∷ y) b, key-named t.kind t.text text h)
    go (t ∷ ts) (string_key text v) h b = (t, ap (λ (y : List Token). t ∷ y) b, key-string t.kind t.text text v h)
    go (t ∷ ts) (number_key n) h b = (t, ap (λ (y : List Token). t ∷ y) b, key-number t.kind t.text n h)

-- ---- the tests of tokens

-- each test is passed by one word
pub paren_opens : (v : Word) → is_open_paren v ≡ true → v ≡ a_sign sign.OpenParen
paren_opens (a_sign sign.OpenParen) h = refl
paren_opens _ h = absurd cc

pub paren_closes : (v : Word) → is_close_paren v ≡ true → v ≡ a_sign sign.CloseParen
paren_closes (a_sign sign.CloseParen) h = refl
paren_closes _ h = absurd cc

bracket_closes : (v : Word) → is_close_bracket v ≡ true → v ≡ a_sign sign.CloseBracket
bracket_closes (a_sign sign.CloseBracket) h = refl
bracket_closes _ h = absurd cc

pub brace_opens : (v : Word) → is_open_brace v ≡ true → v ≡ a_sign sign.OpenBrace
brace_opens (a_sign sign.OpenBrace) h = refl
brace_opens _ h = absurd cc

pub brace_closes : (v : Word) → is_close_brace v ≡ true → v ≡ a_sign sign.CloseBrace
brace_closes (a_sign sign.CloseBrace) h = refl
brace_closes _ h = absurd cc

pub colon : (v : Word) → is_colon v ≡ true → v ≡ a_sign sign.Colon
colon (a_sign sign.Colon) h = refl
colon _ h = absurd cc

-- the tokens that pass the tests are taken
pub open_paren_sound : (ts z : List Token) → expect is_open_paren ts ≡ Ok z → sign_part sign.OpenParen ts z
open_paren_sound = expect_sound is_open_paren (a_sign sign.OpenParen) paren_opens

pub close_paren_sound : (ts z : List Token) → expect is_close_paren ts ≡ Ok z → sign_part sign.CloseParen ts z
close_paren_sound = expect_sound is_close_paren (a_sign sign.CloseParen) paren_closes

pub close_bracket_sound : (ts z : List Token) → expect is_close_bracket ts ≡ Ok z → sign_part sign.CloseBracket ts z
close_bracket_sound = expect_sound is_close_bracket (a_sign sign.CloseBracket) bracket_closes

pub open_brace_sound : (ts z : List Token) → expect is_open_brace ts ≡ Ok z → sign_part sign.OpenBrace ts z
open_brace_sound = expect_sound is_open_brace (a_sign sign.OpenBrace) brace_opens

pub close_brace_sound : (ts z : List Token) → expect is_close_brace ts ≡ Ok z → sign_part sign.CloseBrace ts z
close_brace_sound = expect_sound is_close_brace (a_sign sign.CloseBrace) brace_closes

pub colon_sound : (ts z : List Token) → expect is_colon ts ≡ Ok z → sign_part sign.Colon ts z
colon_sound = expect_sound is_colon (a_sign sign.Colon) colon

-- ---- levels

-- a level that a `new` without arguments has
pub reached_low : (wanted : ℕ) (e : Expr) → wanted ≤ 15 → Reaches wanted e → wanted ≤ level e
reached_low wanted e low (inl h) = h
reached_low wanted e low (inr h) = omega (arith, bare-level e h.0)
