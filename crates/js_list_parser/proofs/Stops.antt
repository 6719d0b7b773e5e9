-- Which tokens end an expression.
use Rattle.std.proofs.Common.{◌≡◌, ℕ, suc, ◌<◌, ◌≤◌, Bool, true, false, not, ◌&&◌, ◌||◌, leb, List, [], ◌∷◌, Option, Some, None, refl, ap, arith}
use Rattle.std.proofs.lemmas.Bool.{leb-true}
use Rattle.js_ast.specs.declared.token.Token.{Token}
use Rattle.js_ast.specs.declared.operators.UnaryOperator.{UnaryOperator}
use Rattle.js_ast.specs.declared.operators.UnaryOperator.TheVariants as unary_operator
use Rattle.js_ast.specs.declared.operators.BinaryOperator.{BinaryOperator}
use Rattle.js_ast.specs.declared.operators.BinaryOperator.TheVariants as binary_operator
use Rattle.js_ast.specs.declared.words.Keyword.TheVariants as key
use Rattle.js_ast.specs.declared.words.Sign.TheVariants as sign
use Rattle.js_ast.specs.Words.{Word, a_name, a_number, a_string, a_key, a_sign, word_of}
use Rattle.js_ast.specs.Trees.{Expr, new_bare, postfix, unary, binary, conditional, assign, comma}
use Rattle.js_ast.specs.Levels.{binding, ends_postfix}
use Rattle.js_ast.specs.Grammar.{on_line, is_close_brace, is_semicolon, continues, may_elide}
use Rattle.js_list_parser.specs.Reading.{word_at, Suffix, by_member, by_index, by_call, by_postfix, by_nothing}
use Rattle.js_list_parser.specs.ExpressionParsing.{operand_level, suffix_of, suffix_at, is_base, applies_by, applies, is_call, captured, Stops, is_closer, begins_or_follows_statement, begins_statement_or_end}

-- ---- truth values

-- the test of an order that doesn't hold
pub not_le : (a b : ℕ) → b < a → leb a b ≡ false
not_le a b h = elim (leb a b) as (λ v. leb a b ≡ v → leb a b ≡ false) [ true ↦ λ t. absurd (omega (arith, leb-true a b t)) | false ↦ λ t. t ] refl

-- both
pub and_true : (a b : Bool) → a ≡ true → b ≡ true → (a && b) ≡ true
and_true true b p q = q
and_true false b p q = p

-- not the first
pub and_false : (a b : Bool) → a ≡ false → (a && b) ≡ false
and_false true b p = absurd cc
and_false false b p = refl

-- not the second
pub and_false_right : (a b : Bool) → b ≡ false → (a && b) ≡ false
and_false_right true b p = p
and_false_right false b p = refl

-- both are so
pub and_parts : (a b : Bool) → (a && b) ≡ true → (a ≡ true) × (b ≡ true)
and_parts true b e = (refl, e)
and_parts false b e = absurd cc

-- neither is so
pub or_parts : (a b : Bool) → (a || b) ≡ false → (a ≡ false) × (b ≡ false)
or_parts true b p = absurd cc
or_parts false b p = (refl, p)

-- neither
pub or_false : (a b : Bool) → a ≡ false → b ≡ false → (a || b) ≡ false
or_false true b p q = absurd cc
or_false false b p q = q

-- not so is false
pub not_false : (b : Bool) → not b ≡ false → b ≡ true
not_false true h = refl
not_false false h = absurd cc

-- not so is true
pub not_true : (b : Bool) → not b ≡ true → b ≡ false
not_true true h = absurd cc
not_true false h = refl

-- ---- operators

-- operators between have 12 at most
pub binding-low : (o : BinaryOperator) → binding o ≤ 12
binding-low binary_operator.Multiply = omega arith
binding-low _ = omega arith

-- operators between have 3 at least
pub binding-high : (o : BinaryOperator) → 3 ≤ binding o
binding-high binary_operator.Multiply = omega arith
binding-high _ = omega arith

-- operands have 13 at least
pub operand_level-low : (o : UnaryOperator) → 13 ≤ operand_level o
operand_level-low unary_operator.Increment = omega arith
operand_level-low _ = omega arith

-- ---- a token that goes on with nothing

-- where a token goes on with no expression at a level above 0, no last part takes it
pub captured_nowhere : (free : Bool) (e : Expr) (ts : List Token) → is_call (suffix_at ts) ≡ false → ((wanted : ℕ) (r : Expr) → 1 ≤ wanted → applies wanted free r ts ≡ false) → captured free e ts ≡ false
captured_nowhere free (new_bare at e) ts c h = or_false _ _ c (or_false _ _ (h 16 e (omega arith)) (captured_nowhere free e ts c h))
captured_nowhere free (unary at o e) ts c h = let low = operand_level-low o in or_false _ _ (h (operand_level o) e (omega arith)) (captured_nowhere free e ts c h)
captured_nowhere free (binary at l o r) ts c h = or_false _ _ (h (suc (binding o)) r (omega arith)) (captured_nowhere free r ts c h)
captured_nowhere free (conditional at e a b) ts c h = or_false _ _ (h 1 b (omega arith)) (captured_nowhere free b ts c h)
captured_nowhere free (assign at l o r) ts c h = or_false _ _ (h 1 r (omega arith)) (captured_nowhere free r ts c h)
captured_nowhere free (comma at l r) ts c h = or_false _ _ (h 1 r (omega arith)) (captured_nowhere free r ts c h)
captured_nowhere free _ ts c h = refl

-- a token that goes on with nothing ends each expression
pub nothing_stops : (wanted : ℕ) (free : Bool) (e : Expr) (z : List Token) → suffix_at z ≡ by_nothing → Stops wanted free e z
nothing_stops wanted free e z h = (rw h refl, captured_nowhere free e z (rw h refl) (λ w r l. rw h refl))

-- a closer goes on with nothing
suffix-closer : (w : Option Word) → is_closer w ≡ true → suffix_of w ≡ by_nothing
suffix-closer None h = refl
suffix-closer (Some (a_sign sign.CloseParen)) h = cc
suffix-closer _ h = cc

-- a closer ends each expression
pub closer_stops : (wanted : ℕ) (free : Bool) (e : Expr) (z : List Token) → is_closer (word_at z) ≡ true → Stops wanted free e z
closer_stops wanted free e z h = nothing_stops wanted free e z (suffix-closer (word_at z) h)

-- a comma ends an expression above the lowest level
pub comma_stops : (wanted : ℕ) (free : Bool) (e : Expr) (z : List Token) → word_at z ≡ Some (a_sign sign.Comma) → 1 ≤ wanted → Stops wanted free e z
comma_stops wanted free e z h l = (rw h (not_le wanted 0 l), captured_nowhere free e z (rw h refl) (λ w r m. rw h (not_le w 0 m)))

-- `in` ends an expression where it isn't allowed
pub in_stops : (wanted : ℕ) (e : Expr) (z : List Token) → word_at z ≡ Some (a_key key.In) → Stops wanted false e z
in_stops wanted e z h = (rw h refl, captured_nowhere false e z (rw h refl) (λ w r m. rw h refl))

-- ---- an elided semicolon

-- `.`, `[` and `(` want a base
abbrev pub wants_base : Suffix → Bool
wants_base by_member = true
wants_base by_index = true
wants_base by_call = true
wants_base _ = false

-- what is no base has no member, no element and no call
pub no_base : (wanted : ℕ) (free : Bool) (e : Expr) (line : Bool) (s : Suffix) → wants_base s ≡ true → is_base e ≡ false → applies_by wanted free e line s ≡ false
no_base wanted free e line by_member h b = and_false (is_base e) _ b
no_base wanted free e line by_index h b = and_false (is_base e) _ b
no_base wanted free e line by_call h b = and_false (is_base e) _ b
no_base wanted free e line _ h b = absurd cc

-- what ends with `++` or `--` is no base
ends_postfix-base : (e : Expr) → ends_postfix e ≡ true → is_base e ≡ false
ends_postfix-base (postfix at e o) h = refl
ends_postfix-base (unary at o e) h = refl
ends_postfix-base (binary at l o r) h = let low = binding-low o in and_false _ _ (not_le 15 (binding o) (omega arith))
ends_postfix-base (conditional at c a b) h = refl
ends_postfix-base (assign at l o r) h = refl
ends_postfix-base (comma at l r) h = refl
ends_postfix-base _ h = absurd cc

-- behind `++` or `--` no last part is a base
pub postfix_stops : (wanted : ℕ) (free : Bool) (e : Expr) (z : List Token) → wants_base (suffix_at z) ≡ true → ends_postfix e ≡ true → Stops wanted free e z
postfix_stops wanted free (postfix at e o) z w h = (no_base wanted free (postfix at e o) (on_line z) (suffix_at z) w refl, refl)
postfix_stops wanted free (unary at o e) z w h = let inner = postfix_stops (operand_level o) free e z w h in (no_base wanted free (unary at o e) (on_line z) (suffix_at z) w refl, or_false _ _ inner.0 inner.1)
postfix_stops wanted free (binary at l o r) z w h =
    let inner = postfix_stops (suc (binding o)) free r z w h in (no_base wanted free (binary at l o r) (on_line z) (suffix_at z) w (ends_postfix-base (binary at l o r) h), or_false _ _ inner.0 inner.1)
postfix_stops wanted free (conditional at c a b) z w h = let inner = postfix_stops 1 free b z w h in (no_base wanted free (conditional at c a b) (on_line z) (suffix_at z) w refl, or_false _ _ inner.0 inner.1)
postfix_stops wanted free (assign at l o r) z w h = let inner = postfix_stops 1 free r z w h in (no_base wanted free (assign at l o r) (on_line z) (suffix_at z) w refl, or_false _ _ inner.0 inner.1)
postfix_stops wanted free (comma at l r) z w h = let inner = postfix_stops 1 free r z w h in (no_base wanted free (comma at l r) (on_line z) (suffix_at z) w refl, or_false _ _ inner.0 inner.1)
postfix_stops wanted free _ z w h = absurd cc

-- `++` and `--`
abbrev is_postfix : Suffix → Bool
is_postfix (by_postfix o) = true
is_postfix _ = false

-- they don't go on on another line
off_line : (wanted : ℕ) (free : Bool) (e : Expr) (s : Suffix) → is_postfix s ≡ true → applies_by wanted free e false s ≡ false
off_line wanted free e (by_postfix o) h = refl
off_line wanted free e _ h = absurd cc

-- they are no call
postfix_no_call : (s : Suffix) → is_postfix s ≡ true → is_call s ≡ false
postfix_no_call (by_postfix o) h = refl
postfix_no_call _ h = absurd cc

-- `++` and `--` on another line
pub line_stops : (wanted : ℕ) (free : Bool) (e : Expr) (z : List Token) → is_postfix (suffix_at z) ≡ true → on_line z ≡ false → Stops wanted free e z
line_stops wanted free e z s l =
    (rw l (off_line wanted free e (suffix_at z) s), captured_nowhere free e z (postfix_no_call (suffix_at z) s) (λ w r m. rw l (off_line w free r (suffix_at z) s)))

-- the words that begin a statement and could go on with an expression
abbrev is_bracket : Word → Bool
is_bracket (a_sign sign.OpenParen) = true
is_bracket (a_sign sign.OpenBracket) = true
is_bracket _ = false

-- `+` and `-`
abbrev is_sum : Word → Bool
is_sum (a_sign sign.Plus) = true
is_sum (a_sign sign.Minus) = true
is_sum _ = false

-- `++` and `--`
abbrev is_step_sign : Word → Bool
is_step_sign (a_sign sign.PlusPlus) = true
is_step_sign (a_sign sign.MinusMinus) = true
is_step_sign _ = false

-- the other words that begin a statement go on with nothing
others-stop : (w : Word) → begins_or_follows_statement (Some w) ≡ true → is_bracket w ≡ false → is_sum w ≡ false → is_step_sign w ≡ false → suffix_of (Some w) ≡ by_nothing
others-stop (a_sign sign.OpenParen) b p q r = cc
others-stop (a_key key.In) b p q r = cc
others-stop (a_name text) b p q r = cc
others-stop (a_number n) b p q r = cc
others-stop (a_string text v) b p q r = cc
others-stop _ b p q r = cc

-- before a bracket a semicolon is left out behind `++` or `--` alone
brackets-elide : (w : Word) (e : Expr) (line : Bool) → is_bracket w ≡ true → (is_close_brace w || (line && not (is_semicolon w || continues (Some e) w))) ≡ true → (wants_base (suffix_of (Some w)) ≡ true) × (ends_postfix e ≡ true)
brackets-elide (a_sign sign.OpenParen) e line b h = (refl, not_false _ (not_true _ (and_parts line _ h).1))
brackets-elide (a_sign sign.OpenBracket) e line b h = (refl, not_false _ (not_true _ (and_parts line _ h).1))
brackets-elide _ e line b h = absurd cc

-- before `+` and `-` none is left out
sums-elide : (w : Word) (e : Expr) (line : Bool) → is_sum w ≡ true → (is_close_brace w || (line && not (is_semicolon w || continues (Some e) w))) ≡ true → ⊥
sums-elide (a_sign sign.Plus) e line b h = let p = (and_parts line false h).1 in cc
sums-elide (a_sign sign.Minus) e line b h = let p = (and_parts line false h).1 in cc
sums-elide _ e line b h = cc

-- before `++` and `--` one is left out on another line
steps-elide : (w : Word) (e : Expr) (line : Bool) → is_step_sign w ≡ true → (is_close_brace w || (line && not (is_semicolon w || continues (Some e) w))) ≡ true → (is_postfix (suffix_of (Some w)) ≡ true) × (line ≡ true)
steps-elide (a_sign sign.PlusPlus) e line b h = (refl, (and_parts line true h).0)
steps-elide (a_sign sign.MinusMinus) e line b h = (refl, (and_parts line true h).0)
steps-elide _ e line b h = absurd cc

-- where a semicolon may be left out and a statement or the end of one follows, no part of the expression goes on
pub elided_stops : (wanted : ℕ) (free : Bool) (e : Expr) (z : List Token) → may_elide (Some e) z ≡ true → begins_statement_or_end z ≡ true → Stops wanted free e z
elided_stops wanted free e [] h b = nothing_stops wanted free e [] refl
elided_stops wanted free e (t ∷ ts) h b = go (is_bracket (word_of t)) (is_sum (word_of t)) (is_step_sign (word_of t)) refl refl refl
  where
    go : (p q r : Bool) → is_bracket (word_of t) ≡ p → is_sum (word_of t) ≡ q → is_step_sign (word_of t) ≡ r → Stops wanted free e (t ∷ ts)
    go true q r p' q' r' = let x = brackets-elide (word_of t) e t.newline p' h in postfix_stops wanted free e (t ∷ ts) x.0 x.1
    go false true r p' q' r' = absurd (sums-elide (word_of t) e t.newline q' h)
    go false false true p' q' r' = let x = steps-elide (word_of t) e t.newline r' h in line_stops wanted free e (t ∷ ts) x.0 (ap not x.1)
    go false false false p' q' r' = nothing_stops wanted free e (t ∷ ts) (others-stop (word_of t) b p' q' r')
