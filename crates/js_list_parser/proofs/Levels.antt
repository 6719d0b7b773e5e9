-- Levels: which tokens a left operand would take.
use Rattle.std.proofs.Common.{◌≡◌, ℕ, suc, ◌≤◌, min, Bool, true, false, not, leb, ◌⊎◌, inl, inr, List, Some, refl, ap, arith}
use Rattle.std.proofs.lemmas.Bool.{le-leb}
use Rattle.js_ast.specs.declared.token.Token.{Token}
use Rattle.js_ast.specs.declared.operators.UnaryOperator.{UnaryOperator}
use Rattle.js_ast.specs.declared.operators.UnaryOperator.TheVariants as unary_operator
use Rattle.js_ast.specs.declared.operators.PostfixOperator.{PostfixOperator}
use Rattle.js_ast.specs.declared.operators.PostfixOperator.TheVariants as postfix_operator
use Rattle.js_ast.specs.declared.operators.BinaryOperator.{BinaryOperator}
use Rattle.js_ast.specs.declared.operators.BinaryOperator.TheVariants as binary_operator
use Rattle.js_ast.specs.declared.operators.AssignOperator.{AssignOperator}
use Rattle.js_ast.specs.declared.operators.AssignOperator.TheVariants as assign_operator
use Rattle.js_ast.specs.Trees.{Expr, name, paren, member, index, new_bare, unary, binary, conditional, assign, comma}
use Rattle.js_ast.specs.Levels.{postfix_word, binary_word, assign_word, binding, is_step, level, is_bare_new, is_target}
use Rattle.js_ast.specs.Grammar.{on_line}
use Rattle.js_ast.specs.Validity.{IsBase, Valid}
use Rattle.js_list_parser.specs.Reading.{Suffix, by_member, by_index, by_call, by_postfix, by_binary, by_conditional, by_assign, by_comma, by_nothing}
use Rattle.js_list_parser.specs.ExpressionParsing.{operand_level, suffix_of, suffix_at, is_base, applies_by, is_call, captured, Reaches}
use Rattle.js_list_parser.proofs.Stops.{not_le, and_true, and_false_right, or_false, binding-low, binding-high, operand_level-low}

-- ---- the tables of suffixes

-- the word of an operator behind gives it
pub suffix-postfix : (o : PostfixOperator) → suffix_of (Some (postfix_word o)) ≡ by_postfix o
suffix-postfix postfix_operator.Increment = refl
suffix-postfix postfix_operator.Decrement = refl

-- the word of an operator between gives it
pub suffix-binary : (o : BinaryOperator) → suffix_of (Some (binary_word o)) ≡ by_binary o
suffix-binary binary_operator.Multiply = refl
suffix-binary _ = refl

-- the word of an assignment gives it
pub suffix-assign : (o : AssignOperator) → suffix_of (Some (assign_word o)) ≡ by_assign o
suffix-assign assign_operator.Assign = refl
suffix-assign _ = refl

-- ---- levels

-- the level at which a suffix goes on, plus one, or 0 if it doesn't
abbrev pub own : Suffix → ℕ
own by_member = 17
own by_index = 17
own by_call = 16
own (by_postfix o) = 15
own (by_binary o) = suc (binding o)
own by_conditional = 3
own (by_assign o) = 2
own by_comma = 1
own by_nothing = 0

-- a suffix below the wanted level doesn't go on
pub not_wanted : (wanted : ℕ) (free : Bool) (e : Expr) (line : Bool) (s : Suffix) → own s ≤ wanted → applies_by wanted free e line s ≡ false
not_wanted w free e line by_member h = and_false_right _ _ (not_le w (min 16 (level e)) (omega arith))
not_wanted w free e line by_index h = and_false_right _ _ (not_le w (min 16 (level e)) (omega arith))
not_wanted w free e line by_call h = and_false_right _ _ (not_le w 15 (omega arith))
not_wanted w free e line (by_postfix o) h = and_false_right line _ (and_false_right (is_target e) _ (not_le w 14 (omega arith)))
not_wanted w free e line (by_binary o) h = and_false_right _ _ (and_false_right _ _ (not_le w (binding o) (omega arith)))
not_wanted w free e line by_conditional h = and_false_right _ _ (not_le w 2 (omega arith))
not_wanted w free e line (by_assign o) h = and_false_right _ _ (not_le w 1 (omega arith))
not_wanted w free e line by_comma h = not_le w 0 (omega arith)
not_wanted w free e line by_nothing h = refl

-- a suffix of a low level is no call
no_call : (s : Suffix) → own s ≤ 13 → is_call s ≡ false
no_call by_call h = absurd (omega arith)
no_call _ h = refl

pub bare-level : (e : Expr) → is_bare_new e ≡ true → level e ≡ 15
bare-level (new_bare at e) h = refl
bare-level _ h = absurd cc

-- what has 16 is no `new` without arguments
pub not_bare : (e : Expr) → 16 ≤ level e → is_bare_new e ≡ false
not_bare (new_bare at e) h = absurd (omega arith)
not_bare _ h = refl

-- what `new` makes an instance of has 15 at least
callee-level : (e : Expr) → (16 ≤ level e) ⊎ (is_bare_new e ≡ true) → 15 ≤ level e
callee-level e (inl h) = omega arith
callee-level e (inr h) = omega (arith, bare-level e h)

-- what a binary operator, `?` or a comma stands behind doesn't take it
pub not_captured : (e : Expr) (free : Bool) (ts : List Token) → Valid e → own (suffix_at ts) ≤ 13 → own (suffix_at ts) ≤ suc (level e) → (own (suffix_at ts) ≤ 1) ⊎ (3 ≤ level e) → captured free e ts ≡ false
not_captured (new_bare at e) free ts v l h c =
    let high = callee-level e v.1 in
    or_false _ _ (no_call (suffix_at ts) l) (or_false _ _ (not_wanted 16 free e (on_line ts) (suffix_at ts) (omega arith)) (not_captured e free ts v.0 l (omega arith) (inr (omega arith))))
not_captured (unary at o e) free ts v l h c =
    let high = v.1 in let low = operand_level-low o in
    or_false _ _ (not_wanted (operand_level o) free e (on_line ts) (suffix_at ts) (omega arith)) (not_captured e free ts v.0 l (omega arith) (inr (omega arith)))
not_captured (binary at l o r) free ts v s h c =
    let high = binding-high o in let le = v.3 in
    or_false _ _ (not_wanted (suc (binding o)) free r (on_line ts) (suffix_at ts) h) (not_captured r free ts v.2 s (omega arith) (inr (omega arith)))
not_captured (conditional at e a b) free ts v l h (inl low) =
    or_false _ _ (not_wanted 1 free b (on_line ts) (suffix_at ts) low) (not_captured b free ts v.4 l (omega arith) (inl low))
not_captured (conditional at e a b) free ts v l h (inr high) = absurd (omega arith)
not_captured (assign at l o r) free ts v s h (inl low) =
    or_false _ _ (not_wanted 1 free r (on_line ts) (suffix_at ts) low) (not_captured r free ts v.2 s (omega arith) (inl low))
not_captured (assign at l o r) free ts v s h (inr high) = absurd (omega arith)
not_captured (comma at l r) free ts v s h (inl low) =
    or_false _ _ (not_wanted 1 free r (on_line ts) (suffix_at ts) low) (not_captured r free ts v.1 s (omega arith) (inl low))
not_captured (comma at l r) free ts v s h (inr high) = absurd (omega arith)
not_captured _ free ts v l h c = refl

-- ---- bases and targets

-- a base passes the test
pub base-is : (e : Expr) → IsBase e → is_base e ≡ true
base-is e b = and_true (leb 15 (level e)) _ (le-leb 15 (level e) b.0) (ap not b.1)

-- a base takes nothing of what is behind it
pub base_captured : (e : Expr) (free : Bool) (ts : List Token) → IsBase e → captured free e ts ≡ false
base_captured (new_bare at e) free ts b = let p = b.1 in absurd cc
base_captured (unary at o e) free ts b = let p = b.0 in absurd (omega arith)
base_captured (binary at l o r) free ts b = let p = b.0 in let low = binding-low o in absurd (omega arith)
base_captured (conditional at c a e) free ts b = let p = b.0 in absurd (omega arith)
base_captured (assign at l o r) free ts b = let p = b.0 in absurd (omega arith)
base_captured (comma at l r) free ts b = let p = b.0 in absurd (omega arith)
base_captured _ free ts b = refl

-- a target takes nothing of what is behind it
pub target_captured : (e : Expr) (free : Bool) (ts : List Token) → is_target e ≡ true → captured free e ts ≡ false
target_captured (name at text) free ts h = refl
target_captured (member at e text) free ts h = refl
target_captured (index at e i) free ts h = refl
target_captured (paren at e) free ts h = refl
target_captured _ free ts h = absurd cc

-- a target has 15 at least
pub target-level : (e : Expr) → Valid e → is_target e ≡ true → 15 ≤ level e
target-level (name at text) v h = omega arith
target-level (paren at e) v h = omega arith
target-level (member at e text) v h = let p = v.1.0 in omega arith
target-level (index at e i) v h = let p = v.1.0 in omega arith
target-level _ v h = absurd cc

-- ---- levels that are wanted

-- what is no `new` without arguments reaches its level alone
pub reached : (wanted : ℕ) (e : Expr) → is_bare_new e ≡ false → Reaches wanted e → wanted ≤ level e
reached wanted e b (inl h) = h
reached wanted e b (inr h) = let p = h.0 in absurd cc

-- an operand has the level that its operator wants
pub operand-reached : (o : UnaryOperator) (e : Expr) → Valid e → 13 ≤ level e → (is_step o ≡ true → is_target e ≡ true) → operand_level o ≤ level e
operand-reached unary_operator.Increment e v h t = target-level e v (t refl)
operand-reached unary_operator.Decrement e v h t = target-level e v (t refl)
operand-reached _ e v h t = h
