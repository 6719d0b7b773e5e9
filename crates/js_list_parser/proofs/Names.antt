-- An expression that begins with a name is that name, or the token behind it goes on with an expression: so a label is no expression.
use Rattle.std.proofs.Common.{◌≡◌, ℕ, ◌⊎◌, inl, inr, List, Some, refl, sym, ap, ◌∙◌}
use Rattle.js_ast.specs.declared.token.Token.{Token}
use Rattle.js_ast.specs.declared.operators.UnaryOperator.{UnaryOperator}
use Rattle.js_ast.specs.declared.operators.UnaryOperator.TheVariants as unary_operator
use Rattle.js_ast.specs.declared.words.Sign.TheVariants as sign
use Rattle.js_ast.specs.Words.{Word, a_name, a_sign}
use Rattle.js_ast.specs.Trees.{Expr, name, number, string, this, null, boolean, paren, array, object, function, member, index, new_with, new_bare, call, postfix, unary, binary, conditional, assign, comma}
use Rattle.js_ast.specs.Levels.{unary_word}
use Rattle.js_ast.specs.Grammar.{Takes, Reads, place_of}
use Rattle.js_list_parser.specs.Reading.{word_at, behind, by_nothing}
use Rattle.js_list_parser.specs.ExpressionParsing.{suffix_of, suffix_at}
use Rattle.js_list_parser.proofs.Begins.{takes_word, takes_behind}
use Rattle.js_list_parser.proofs.Levels.{suffix-postfix, suffix-binary, suffix-assign}

-- the expression is the name, or the token behind the name goes on
abbrev pub NameAlone : Expr → List ℕ → List Token → List Token → Type 0
NameAlone e text ts z = ((e ≡ name (place_of ts) text) × (behind ts ≡ z)) ⊎ (suffix_at (behind ts) ≡ by_nothing → ⊥)

-- a token in another word is no name
other : (w : Word) (text : List ℕ) (ts z : List Token) → (w ≡ a_name text → ⊥) → Takes w ts z → word_at ts ≡ Some (a_name text) → ⊥
other w text ts z no_name h e = let p : Some w ≡ Some (a_name text) = sym (takes_word w ts z h) ∙ e in let q : w ≡ a_name text = cc in no_name q

-- an operator in front is no name
unary-other : (o : UnaryOperator) (text : List ℕ) → unary_word o ≡ a_name text → ⊥
unary-other unary_operator.Delete text h = cc
unary-other _ text h = cc

-- the left part is the name, or it goes on itself
longer : (l e : Expr) (w : Word) (text : List ℕ) (ts a m z : List Token) → NameAlone l text ts a → Takes w a m → (suffix_of (Some w) ≡ by_nothing → ⊥) → NameAlone e text ts z
longer l e w text ts a m z (inl h) t goes_on = inr (λ n. goes_on (sym (ap suffix_of (takes_word w a m t)) ∙ sym (ap suffix_at h.1) ∙ n))
longer l e w text ts a m z (inr h) t goes_on = inr h

-- by cases on the expression
pub reads_name : (e : Expr) (text : List ℕ) (ts z : List Token) → Reads e ts z → word_at ts ≡ Some (a_name text) → NameAlone e text ts z
reads_name (name at u) text ts z h e =
    let p : Some (a_name u) ≡ Some (a_name text) = sym (takes_word (a_name u) ts z h.1) ∙ e in
    let q : u ≡ text = cc in
    inl (rw (h.0, q) refl, takes_behind (a_name u) ts z h.1)
reads_name (number at n) text ts z h e = absurd (other _ text ts z (λ p. cc) h.1 e)
reads_name (string at u v) text ts z h e = absurd (other _ text ts z (λ p. cc) h.1 e)
reads_name (this at) text ts z h e = absurd (other _ text ts z (λ p. cc) h.1 e)
reads_name (null at) text ts z h e = absurd (other _ text ts z (λ p. cc) h.1 e)
reads_name (boolean at b) text ts z h e = absurd (other _ text ts z (λ p. cc) h.1 e)
reads_name (paren at i) text ts z h e = absurd (other _ text ts _ (λ p. cc) h.1.1 e)
reads_name (array at items final) text ts z h e = absurd (other _ text ts _ (λ p. cc) h.1.1 e)
reads_name (object at props final) text ts z h e = absurd (other _ text ts _ (λ p. cc) h.1.1 e)
reads_name (function at f) text ts z h e = absurd (other _ text ts _ (λ p. cc) h.1.1 e)
reads_name (new_with at i args) text ts z h e = absurd (other _ text ts _ (λ p. cc) h.1.1 e)
reads_name (new_bare at i) text ts z h e = absurd (other _ text ts _ (λ p. cc) h.1.1 e)
reads_name (unary at o i) text ts z h e = absurd (other _ text ts _ (unary-other o text) h.1.1 e)
reads_name (member at l u) text ts z h e = longer l _ _ text ts h.1.0 _ z (reads_name l text ts h.1.0 h.1.1 e) h.1.2.1 (λ n. cc)
reads_name (index at l i) text ts z h e = longer l _ _ text ts h.1.0 _ z (reads_name l text ts h.1.0 h.1.1 e) h.1.2.1 (λ n. cc)
reads_name (call at l args) text ts z h e = longer l _ _ text ts h.1.0 _ z (reads_name l text ts h.1.0 h.1.1 e) h.1.2.1 (λ n. cc)
reads_name (postfix at l o) text ts z h e = longer l _ _ text ts h.1.0 _ z (reads_name l text ts h.1.0 h.1.1 e) h.1.2.1 (λ n. let p = sym (suffix-postfix o) ∙ n in cc)
reads_name (binary at l o r) text ts z h e = longer l _ _ text ts h.1.0 _ z (reads_name l text ts h.1.0 h.1.1 e) h.1.2.1 (λ n. let p = sym (suffix-binary o) ∙ n in cc)
reads_name (conditional at l a b) text ts z h e = longer l _ _ text ts h.1.0 _ z (reads_name l text ts h.1.0 h.1.1 e) h.1.2.1 (λ n. cc)
reads_name (assign at l o r) text ts z h e = longer l _ _ text ts h.1.0 _ z (reads_name l text ts h.1.0 h.1.1 e) h.1.2.1 (λ n. let p = sym (suffix-assign o) ∙ n in cc)
reads_name (comma at l r) text ts z h e = longer l _ _ text ts h.1.0 _ z (reads_name l text ts h.1.0 h.1.1 e) h.1.2.1 (λ n. cc)

-- before a colon only the name itself is an expression, and the colon is behind it
pub reads_label : (e : Expr) (text : List ℕ) (ts z : List Token) → Reads e ts z → word_at ts ≡ Some (a_name text) → word_at (behind ts) ≡ Some (a_sign sign.Colon) → (e ≡ name (place_of ts) text) × (behind ts ≡ z)
reads_label e text ts z h w c = go (reads_name e text ts z h w)
  where
    go : NameAlone e text ts z → (e ≡ name (place_of ts) text) × (behind ts ≡ z)
    go (inl p) = p
    go (inr n) = absurd (n (ap suffix_of c))
