-- What a reader gives, if it gives anything.
use Rattle.std.proofs.Common.{◌≡◌, ℕ, zero, suc, ◌<◌, Bool, true, false, cond, leb, List, [], ◌∷◌, length, Option, Some, None, Result, Ok, Err, refl, subst}
use Rattle.std.proofs.lemmas.Bool.{leb-false}
use Rattle.js_ast.specs.declared.token.Token.{Token}
use Rattle.js_ast.specs.declared.words.Keyword.TheVariants as key
use Rattle.js_ast.specs.declared.words.Sign.TheVariants as sign
use Rattle.js_ast.specs.Words.{Word, a_key, a_sign, word_of}
use Rattle.js_ast.specs.Trees.{Ident, Expr}
use Rattle.js_ast.specs.Grammar.{sign_part, key_part, ReadsIdent, MaybeLabel, on_line, is_close_brace, is_semicolon, may_elide, Ends}
use Rattle.js_list_parser.specs.Reading.{Refusal, Read, ◌>>=◌, behind, Turn, again, done, turned, turns, loop, room}
use Rattle.js_list_parser.specs.ExpressionParsing.{is_open_paren, is_close_paren, is_open_brace, is_colon, expect, taken, ident_at}
use Rattle.js_list_parser.specs.StatementParsing.{is_while, semicolon_here, ending, label_by, label}
use Rattle.js_list_parser.proofs.Outcomes.{expect_sound, ident_is, ident_sound, open_paren_sound, close_paren_sound, open_brace_sound, close_brace_sound, colon_sound}

-- a result, if it is one, is so
pub record Gives {A : Type 0} (r : Result A Refusal) (P : A → Type 0) : Type 0 where
  pub is : (a : A) → r ≡ Ok a → P a

-- two results are equal only where their values are
same_result : {A : Type 0} (a b : A) → (let r : Result A Refusal = Ok a in r ≡ Ok b) → a ≡ b
same_result a b e = cc

-- a value that is so
pub gives-ok : {A : Type 0} {P : A → Type 0} {a : A} → P a → Gives (Ok a) P
gives-ok {P = P} {a = a} h = record { is = λ b e. subst P (same_result a b e) h }

-- a refusal gives nothing
pub gives-err : {A : Type 0} {P : A → Type 0} {e : Refusal} → Gives (Err e) P
gives-err = record { is = λ b h. absurd cc }

-- and so it is more
pub gives-more : {A : Type 0} {r : Result A Refusal} {P Q : A → Type 0} → Gives r P → ((a : A) → P a → Q a) → Gives r Q
gives-more h k = record { is = λ a e. k a (h.is a e) }

-- one reader, and then another
pub gives-bind : {A B : Type 0} {r : Result A Refusal} {f : A → Result B Refusal} {P : A → Type 0} {Q : B → Type 0} → Gives r P → ((a : A) → P a → Gives (f a) Q) → Gives (r >>= f) Q
gives-bind {A = A} {B = B} {r = r} {f = f} {P = P} {Q = Q} h k = record { is = go r h.is }
  where
    go : (r : Result A Refusal) → ((a : A) → r ≡ Ok a → P a) → (b : B) → (r >>= f) ≡ Ok b → Q b
    go (Ok a) h b e = (k a (h a refl)).is b e
    go (Err d) h b e = absurd cc

-- a test
pub gives-cond : {A : Type 0} {r s : Result A Refusal} {P : A → Type 0} (b : Bool) → (b ≡ true → Gives r P) → (b ≡ false → Gives s P) → Gives (cond b r s) P
gives-cond true h k = h refl
gives-cond false h k = k refl

-- a node round parts has room
pub gives-room : {A : Type 0} (limit parts : ℕ) (ts : List Token) {r : Read A} {P : A × List Token → Type 0} → (parts < limit → Gives r P) → Gives (room limit parts ts r) P
gives-room limit parts ts h = gives-cond (leb limit parts) (λ e. gives-err) (λ e. h (leb-false limit parts e))

-- ---- loops keep what each turn keeps

-- what holds of a state that goes on, and of what a loop ends with
abbrev pub Turned : {S A : Type 0} → (S → List Token → Type 0) → (A → List Token → Type 0) → Turn S A → List Token → Type 0
Turned Inv Out (again s) ts = Inv s ts
Turned Inv Out (done a) ts = Out a ts

-- by induction on the fuel
gives-turns : {S A : Type 0} (step : S → List Token → Read (Turn S A)) (Inv : S → List Token → Type 0) (Out : A → List Token → Type 0) → ((s : S) (ts : List Token) → Inv s ts → Gives (step s ts) (λ x. Turned Inv Out x.0 x.1))
    → (n : ℕ) (s : S) (ts : List Token) → Inv s ts → Gives (turns step n s ts) (λ x. Out x.0 x.1)
gives-turns step Inv Out each zero s ts i = gives-err
gives-turns step Inv Out each (suc n) s ts i = gives-bind (each s ts i) (λ x h. go (λ t z j. gives-turns step Inv Out each n t z j) x.0 x.1 h)
  where
    go : ((t : _) (z : List Token) → Inv t z → Gives (turns step n t z) (λ x. Out x.0 x.1)) → (t : Turn _ _) (z : List Token) → Turned Inv Out t z → Gives (turned (turns step n) t z) (λ x. Out x.0 x.1)
    go ih (again t) z h = ih t z h
    go ih (done a) z h = gives-ok h

-- what holds at the start and is kept by each turn holds at the end
pub gives-loop : {S A : Type 0} (step : S → List Token → Read (Turn S A)) (Inv : S → List Token → Type 0) (Out : A → List Token → Type 0) → ((s : S) (ts : List Token) → Inv s ts → Gives (step s ts) (λ x. Turned Inv Out x.0 x.1))
    → (s : S) (ts : List Token) → Inv s ts → Gives (loop step s ts) (λ x. Out x.0 x.1)
unfolding loop
gives-loop step Inv Out each s ts i = gives-turns step Inv Out each (suc (length ts)) s ts i

-- ---- single tokens

-- `(`
pub gives-open-paren : (ts : List Token) → Gives (expect is_open_paren ts) (sign_part sign.OpenParen ts)
gives-open-paren ts = record { is = open_paren_sound ts }

-- `)`
pub gives-close-paren : (ts : List Token) → Gives (expect is_close_paren ts) (sign_part sign.CloseParen ts)
gives-close-paren ts = record { is = close_paren_sound ts }

-- `{`
pub gives-open-brace : (ts : List Token) → Gives (expect is_open_brace ts) (sign_part sign.OpenBrace ts)
gives-open-brace ts = record { is = open_brace_sound ts }

-- `}`
pub gives-close-brace : (ts : List Token) → Gives (expect is_close_brace ts) (sign_part sign.CloseBrace ts)
gives-close-brace ts = record { is = close_brace_sound ts }

-- `:`
pub gives-colon : (ts : List Token) → Gives (expect is_colon ts) (sign_part sign.Colon ts)
gives-colon ts = record { is = colon_sound ts }

-- only one word is a semicolon
pub semicolons : (v : Word) → is_semicolon v ≡ true → v ≡ a_sign sign.Semicolon
semicolons (a_sign sign.Semicolon) h = refl
semicolons _ h = absurd cc

-- `;`
pub gives-semicolon : (ts : List Token) → Gives (expect is_semicolon ts) (sign_part sign.Semicolon ts)
gives-semicolon ts = record { is = expect_sound is_semicolon (a_sign sign.Semicolon) semicolons ts }

-- only one word is `while`
pub whiles : (v : Word) → is_while v ≡ true → v ≡ a_key key.While
whiles (a_key key.While) h = refl
whiles _ h = absurd cc

-- `while`
pub gives-while : (ts : List Token) → Gives (expect is_while ts) (key_part key.While ts)
gives-while ts = record { is = expect_sound is_while (a_key key.While) whiles ts }

-- a name that is bound
pub gives-ident : (ts : List Token) → Gives (taken (ident_at ts) ts) (λ x. ReadsIdent x.0 ts x.1)
gives-ident ts = record { is = λ x e. ident_sound ts x.0 x.1 e }

-- the end of a statement
semicolon_takes : (ts : List Token) → semicolon_here ts ≡ true → sign_part sign.Semicolon ts (behind ts)
semicolon_takes [] h = absurd cc
semicolon_takes (t ∷ ts) h = (t, refl, semicolons (word_of t) h)

-- a semicolon that is written, or left out where it may be
pub gives-ending : (before : Option Expr) (ts : List Token) → Gives (ending before ts) (λ x. Ends before x.0 ts x.1)
unfolding ending
gives-ending before ts = gives-cond (semicolon_here ts) (λ h. gives-ok (semicolon_takes ts h)) (λ n. gives-cond (may_elide before ts) (λ h. gives-ok (refl, h)) (λ h. gives-err))

-- a label, or none
pub gives-label : (ts : List Token) → Gives (label ts) (λ x. MaybeLabel x.0 ts x.1)
unfolding label label_by
gives-label ts = go (on_line ts) (ident_at ts) refl refl
  where
    go : (b : Bool) (i : Option Ident) → on_line ts ≡ b → ident_at ts ≡ i → Gives (label_by b i ts) (λ x. MaybeLabel x.0 ts x.1)
    go true (Some i) l h = gives-ok (l, ident_is i ts h)
    go true None l h = gives-ok refl
    go false i l h = gives-ok refl
