-- What completes the parts of an expression completes it.
use Rattle.std.proofs.Common.{◌≡◌, ℕ, suc, ◌<◌, ◌≤◌, min, max, inl, inr, Bool, true, false, not, ◌&&◌, ◌||◌, leb, List, [], ◌∷◌, ◌++◌, Some, None, codes, refl, sym, ◌∙◌, append_assoc, arith}
use Rattle.std.proofs.lemmas.Bool.{leb-true}
use Rattle.js_ast.specs.declared.token.Token.{Token}
use Rattle.js_ast.specs.declared.token.TokenKind.TheVariants as kind
use Rattle.js_ast.specs.declared.operators.UnaryOperator.{UnaryOperator}
use Rattle.js_ast.specs.declared.operators.UnaryOperator.TheVariants as unary_operator
use Rattle.js_ast.specs.declared.operators.PostfixOperator.{PostfixOperator}
use Rattle.js_ast.specs.declared.operators.BinaryOperator.{BinaryOperator}
use Rattle.js_ast.specs.declared.operators.AssignOperator.{AssignOperator}
use Rattle.js_ast.specs.declared.words.Keyword.TheVariants as key
use Rattle.js_ast.specs.declared.words.Sign.TheVariants as sign
use Rattle.js_ast.specs.Words.{Word, a_name, a_number, a_string, a_key, a_sign, word_by, word_of}
use Rattle.js_ast.specs.Trees.{Expr, name, number, string, this, null, boolean, paren, array, object, function, member, index, new_with, new_bare, call, postfix, unary, binary, conditional, assign, comma, no_exprs, no_items, no_properties, no_statements, at_of, function_of}
use Rattle.js_ast.specs.Levels.{unary_word, postfix_word, binary_word, assign_word, binding, is_in, is_step, level, is_bare_new, is_target}
use Rattle.js_ast.specs.Grammar.{Part, ◌⨾◌, At, OnLine, Takes, TakesName, sign_part, parens, Reads, on_line}
use Rattle.js_ast.specs.Validity.{no_in, IsBase, Valid}
use Rattle.js_ast.specs.Depth.{depth}
use Rattle.js_list_parser.specs.Reading.{behind, Suffix, by_member, by_index, by_call, by_postfix, by_binary, by_conditional, by_assign, by_comma, by_nothing}
use Rattle.js_list_parser.specs.ExpressionParsing.{operand_level, is_base, applies_by, suffix_at, begins_at}
use Rattle.js_list_parser.proofs.Stops.{and_true, and_parts, binding-low, operand_level-low}
use Rattle.js_list_parser.proofs.Begins.{reads_place}
use Rattle.js_list_parser.proofs.Levels.{not_bare}
use Rattle.js_list_parser.proofs.Outcomes.{reached_low}
use Rattle.js_list_parser.proofs.Soundness.{FoundExpression}
use Rattle.js_list_parser.proofs.ExpressionSound.{suffix_word, suffix_takes, base_is, allowed, operand_level-high, callee_valid}
use Rattle.js_list_parser.proofs.Fronts.{Front, Any, expr_fixed}
use Rattle.js_list_parser.proofs.Viable.{Opens, opens_start, opens_nothing, opens_token, opens_front, opens_at, opens_grown, behind_token, opens_open_paren, opens_close_paren, opens_close_brace, opens_close_bracket, opens_colon, token_of, name_token, opens_name, opens_expression, Completes, CompletesTarget, CompletesOperand, CompletesFunction, starts_completes, Beyond, Round, round_empty}
use Rattle.js_list_parser.proofs.ExpressionRefusedLists.{CompletesArguments, empty_body}
use Rattle.js_list_parser.proofs.ExpressionRefusedLiterals.{CompletesItems, CompletesProperties}

-- ---- expressions that begin with a token of their own

module _ (wanted : ℕ) (low : wanted ≤ 16) (free : Bool) (t : Token) where
  -- in parentheses
  pub round_paren : word_of t ≡ a_sign sign.OpenParen → Round (Completes 0 true) (Completes wanted free) (t ∷ []) 0
  round_paren is = record {
    round = λ l limit w lt b c. let s = c.shallow in record {
      tree = paren t.from c.tree;
      valid = c.valid;
      shallow = omega arith;
      reaches = inl (omega arith);
      without_in = λ k. refl;
      opens = opens_at _ t (opens_token _ _ t is (opens_start _ _ c.opens opens_close_paren));
    };
  }

  -- an array
  pub round_array : word_of t ≡ a_sign sign.OpenBracket → Round CompletesItems (Completes wanted free) (t ∷ []) 0
  round_array is = record {
    round = λ l limit w lt b c. let s = c.shallow in record {
      tree = array t.from c.items c.final;
      valid = (c.valid, c.last);
      shallow = omega arith;
      reaches = inl (omega arith);
      without_in = λ k. refl;
      opens = opens_at _ t (opens_token _ _ t is c.opens);
    };
  }

  -- an object
  pub round_object : word_of t ≡ a_sign sign.OpenBrace → Round CompletesProperties (Completes wanted free) (t ∷ []) 0
  round_object is = record {
    round = λ l limit w lt b c. let s = c.shallow in record {
      tree = object t.from c.properties c.final;
      valid = (c.valid, c.last);
      shallow = omega arith;
      reaches = inl (omega arith);
      without_in = λ k. refl;
      opens = opens_at _ t (opens_token _ _ t is c.opens);
    };
  }

  -- a function without a name
  pub round_function : word_of t ≡ a_key key.Function → Round CompletesFunction (Completes wanted free) (t ∷ []) 0
  round_function is = record {
    round = λ l limit w lt b c. let s = c.shallow in record {
      tree = function t.from (function_of t.from None c.params c.body);
      valid = (refl, c.valid);
      shallow = omega arith;
      reaches = inl (omega arith);
      without_in = λ k. refl;
      opens = opens_at _ t (opens_token _ _ t is (opens_nothing _ c.opens));
    };
  }

  -- a function with a name
  pub round_named : word_of t ≡ a_key key.Function → (n : Token) (text : List ℕ) → word_of n ≡ a_name text → Round CompletesFunction (Completes wanted free) (t ∷ n ∷ []) 0
  round_named is n text named = record {
    round = λ l limit w lt b c. let s = c.shallow in record {
      tree = function t.from (function_of t.from (Some (record { at = n.from; text = text })) c.params c.body);
      valid = (refl, c.valid);
      shallow = omega arith;
      reaches = inl (omega arith);
      without_in = λ k. refl;
      opens = opens_at _ t (opens_token _ _ t is (record { each = λ y. let r = c.opens.each y in (r.0, (w ++ r.0, (refl, (n, refl, named)), r.1)) }));
    };
  }

  -- `new` without arguments
  pub round_new : word_of t ≡ a_key key.New → Round (Completes 16 free) (Completes wanted free) (t ∷ []) 0
  round_new is = record {
    round = λ l limit w lt b c. let s = c.shallow in record {
      tree = new_bare t.from c.tree;
      valid = (c.valid, callee_valid c.tree c.reaches);
      shallow = omega arith;
      reaches = inr (refl, low);
      without_in = c.without_in;
      opens = opens_at _ t (opens_token _ _ t is c.opens);
    };
  }

  -- `new` with arguments
  pub round_new_with : word_of t ≡ a_key key.New → (e : Expr) {ts m : List Token} → Valid e → 16 ≤ level e → (free ≡ false → no_in e ≡ true) → (front : Front Any ts m (Reads e)) → (o : sign_part sign.OpenParen m (behind m))
      → Round CompletesArguments (Completes wanted free) (t ∷ (front.word ++ (o.0 ∷ []))) (suc (depth e))
  round_new_with is e v high without front o = record {
    round = λ l limit w lt b c. let s = c.shallow in record {
      tree = new_with t.from e c.args;
      valid = (v, high, c.valid);
      shallow = omega arith;
      reaches = inl low;
      without_in = without;
      opens = opens_at _ t (opens_token _ _ t is (rw append_assoc (opens_front _ _ front (opens_token _ _ o.0 o.2 c.opens))));
    };
  }

  -- an operator that doesn't change its operand
  pub round_unary : (o : UnaryOperator) → wanted ≤ 13 → is_step o ≡ false → word_of t ≡ unary_word o → Round (Completes (operand_level o) free) (Completes wanted free) (t ∷ []) 0
  round_unary o le no_step is = record {
    round = λ l limit w lt b c.
        let s = c.shallow in let h = operand_level-high o in let high = reached_low (operand_level o) c.tree h c.reaches in let least = operand_level-low o in
        record {
          tree = unary t.from o c.tree;
          valid = (c.valid, omega arith, λ k. let q = sym no_step ∙ k in absurd cc);
          shallow = omega arith;
          reaches = inl le;
          without_in = c.without_in;
          opens = opens_at _ t (opens_token _ _ t is c.opens);
        };
  }

  -- `++` or `--`
  pub round_step : (o : UnaryOperator) → wanted ≤ 13 → word_of t ≡ unary_word o → Round (CompletesTarget (operand_level o) free) (Completes wanted free) (t ∷ []) 0
  round_step o le is = record {
    round = λ l limit w lt b c.
        let s = c.is.shallow in let h = operand_level-high o in let high = reached_low (operand_level o) c.is.tree h c.is.reaches in let least = operand_level-low o in
        record {
          tree = unary t.from o c.is.tree;
          valid = (c.is.valid, omega arith, λ k. c.target);
          shallow = omega arith;
          reaches = inl le;
          without_in = c.is.without_in;
          opens = opens_at _ t (opens_token _ _ t is c.is.opens);
        };
  }

-- ---- a token that begins an expression

-- with no operator allowed, it is no operator
no_operator : (a b : Bool) → (a || not b) ≡ true → b ≡ true → a ≡ true
no_operator true b h k = refl
no_operator false true h k = absurd cc
no_operator false false h k = absurd cc

module _ (wanted : ℕ) (low : wanted ≤ 16) (free : Bool) (t : Token) where
  -- one token is the whole expression
  alone : (e : Expr) → Valid e → depth e ≡ 0 → level e ≡ 17 → no_in e ≡ true → ((y : List Token) → Reads e (t ∷ y) y) → Completes wanted free 2 (t ∷ [])
  alone e v p l n r = record { tree = e; valid = v; shallow = omega arith; reaches = inl (omega arith); without_in = λ k. n; opens = record { each = λ y. (y, r y) } }

  -- an operator in front, and a name
  operator : (o : UnaryOperator) → wanted ≤ 13 → word_of t ≡ unary_word o → Completes wanted free 2 (t ∷ [])
  operator o le is = record {
    tree = unary t.from o (name 0 (codes "a"));
    valid = (tt, omega arith, λ k. refl);
    shallow = omega arith;
    reaches = inl le;
    without_in = λ k. refl;
    opens = opens_at _ t (opens_token _ _ t is opens_expression);
  }

  -- a token that begins an expression begins one that may stand there
  pub first_completes : begins_at wanted (Some (word_of t)) ≡ true → Completes wanted free 2 (t ∷ [])
  first_completes b = go (word_of t) refl b
    where
      -- where an operator may stand
      small : (leb wanted 13 || not true) ≡ true → wanted ≤ 13
      small h = leb-true wanted 13 (no_operator (leb wanted 13) true h refl)

      go : (w : Word) → word_of t ≡ w → begins_at wanted (Some w) ≡ true → Completes wanted free 2 (t ∷ [])
      go (a_name text) h b = alone (name t.from text) tt refl refl refl (λ y. (refl, (t, refl, h)))
      go (a_number n) h b = alone (number t.from n) tt refl refl refl (λ y. (refl, (t, refl, h)))
      go (a_string text v) h b = alone (string t.from text v) tt refl refl refl (λ y. (refl, (t, refl, h)))
      go (a_key key.This) h b = alone (this t.from) tt refl refl refl (λ y. (refl, (t, refl, h)))
      go (a_key key.Null) h b = alone (null t.from) tt refl refl refl (λ y. (refl, (t, refl, h)))
      go (a_key key.True) h b = alone (boolean t.from true) tt refl refl refl (λ y. (refl, (t, refl, h)))
      go (a_key key.False) h b = alone (boolean t.from false) tt refl refl refl (λ y. (refl, (t, refl, h)))
      go (a_sign sign.OpenParen) h b = round_empty (round_paren wanted low free t h) (starts_completes 0 true 1 (omega arith) (omega arith))
      go (a_sign sign.OpenBracket) h b =
          round_empty (round_array wanted low free t h) (record { items = no_items; final = false; valid = tt; last = λ k. absurd cc; shallow = omega arith; opens = opens_nothing _ opens_close_bracket })
      go (a_sign sign.OpenBrace) h b =
          round_empty (round_object wanted low free t h) (record { properties = no_properties; final = false; valid = tt; last = λ k. absurd cc; shallow = omega arith; opens = opens_nothing _ opens_close_brace })
      go (a_key key.Function) h b = round_empty (round_function wanted low free t h)
          (record { params = []; body = no_statements; valid = tt; shallow = omega arith; opens = opens_start _ _ (opens_start _ _ opens_open_paren (opens_nothing _ opens_close_paren)) empty_body })
      go (a_key key.New) h b = round_empty (round_new wanted low free t h) (starts_completes 16 free 1 (omega arith) (omega arith))
      go (a_key key.Delete) h b = operator unary_operator.Delete (small b) h
      go (a_key key.Void) h b = operator unary_operator.Void (small b) h
      go (a_key key.Typeof) h b = operator unary_operator.Typeof (small b) h
      go (a_sign sign.Plus) h b = operator unary_operator.Plus (small b) h
      go (a_sign sign.Minus) h b = operator unary_operator.Minus (small b) h
      go (a_sign sign.PlusPlus) h b = operator unary_operator.Increment (small b) h
      go (a_sign sign.MinusMinus) h b = operator unary_operator.Decrement (small b) h
      go (a_sign sign.Tilde) h b = operator unary_operator.BitNot (small b) h
      go (a_sign sign.Not) h b = operator unary_operator.Not (small b) h
      go _ h b = absurd cc

-- ---- an operand becomes a target by a member

-- the base that an expression is, or becomes by arguments of each `new` that has none
record Based (e : Expr) : Type 0 where
  tree : Expr
  valid : Valid tree
  base : IsBase tree
  same_depth : depth tree ≡ depth e
  same_in : no_in tree ≡ no_in e
  rest : List Token → List Token
  reads : (us y : List Token) → Reads e us (rest y) → Reads tree us y

-- `(` and `)` as arguments
arguments_of : List Token → List Token
arguments_of y = token_of kind.Punctuator (codes "(") ∷ token_of kind.Punctuator (codes ")") ∷ y

-- they spell no arguments
called : (y : List Token) → parens (λ a b. a ≡ b) (arguments_of y) y
unfolding word_by arguments_of
called y = (_, (_, refl, refl), (_, refl, (_, refl, refl)))

-- such a base of the level of `new` with arguments
abbrev HighBase : Expr → Type 0
HighBase e = (b : Based e) × (16 ≤ level b.tree)

-- the expression itself
itself : (e : Expr) → Valid e → IsBase e → Based e
itself e v b = record { tree = e; valid = v; base = b; same_depth = refl; same_in = refl; rest = λ y. y; reads = λ us y h. h }

-- where it has that level
high_itself : (e : Expr) → Valid e → 16 ≤ level e → HighBase e
unfolding itself
high_itself e v h = (itself e v (omega arith, not_bare e h), h)

-- `new` with arguments round a base
new_base : (at : ℕ) (e : Expr) → HighBase e → HighBase (new_bare at e)
new_base at e b =
    let i = b.0 in let d = i.same_depth in (
      record {
        tree = new_with at i.tree no_exprs;
        valid = (i.valid, b.1, tt);
        base = (omega arith, refl);
        same_depth = omega arith;
        same_in = i.same_in;
        rest = λ y. i.rest (arguments_of y);
        reads = λ us y h. let (p, (m, k, r)) = h in (p, (m, k, (arguments_of y, i.reads m (arguments_of y) r, called y)));
      },
      omega arith,
    )

-- each `new` without arguments gets some
bare_base : (e : Expr) → is_bare_new e ≡ true → Valid e → HighBase e
bare_base (new_bare at e) k v = new_base at e (elim v.1 [ inl h ↦ high_itself e v.0 h | inr b ↦ bare_base e b v.0 ])
bare_base _ k v = absurd cc

-- each expression of a base's level is one, or becomes one
based : (e : Expr) → Valid e → 15 ≤ level e → Based e
based e v high = go (is_bare_new e) refl
  where
    go : (b : Bool) → is_bare_new e ≡ b → Based e
    go true h = (bare_base e h v).0
    go false h = itself e v (high, h)

-- a point and a name
member_of : List Token → List Token
member_of y = token_of kind.Punctuator (codes ".") ∷ name_token ∷ y

-- they go on with a base
named : (y : List Token) → (sign_part sign.Dot ⨾ TakesName (codes "a")) (member_of y) y
unfolding word_by member_of
named y = (_, (_, refl, refl), (name_token, refl, refl))

-- a member of such a base
opens_member : (e : Expr) (b : Based e) {word : List Token} → Opens (Reads e) word → Opens (Reads (member (at_of b.tree) b.tree (codes "a"))) word
opens_member e b {word} o = record {
  each = λ y.
      let r = o.each (b.rest (member_of y)) in
      let h = b.reads (word ++ r.0) (member_of y) r.1 in
      (r.0, (reads_place b.tree (word ++ r.0) (member_of y) h, (member_of y, h, named y)));
}

-- an operand that is begun begins a target
pub operand_target : {wanted : ℕ} {free : Bool} (l : ℕ) (w : List Token) → wanted ≡ 15 → CompletesOperand wanted free l w → CompletesTarget wanted free l w
operand_target {wanted = wanted} {free = free} l w is c = elim c.change [
  | inl t ↦ record { is = c.is; target = t.0 }
  | inr lt ↦
      let high = reached_low wanted c.is.tree (omega arith) c.is.reaches in
      let b = based c.is.tree c.is.valid (omega arith) in
      let d = b.same_depth in let base = (b.base).0 in
      record {
        is = record {
          tree = member (at_of b.tree) b.tree (codes "a");
          valid = (b.valid, b.base);
          shallow = omega arith;
          reaches = inl (omega arith);
          without_in = λ k. b.same_in ∙ c.is.without_in k;
          opens = opens_member c.is.tree b c.is.opens;
        };
        target = refl;
      }
]

-- ---- expressions that begin with an expression

-- the level of an operand that is changed
pub step-level : (o : UnaryOperator) → is_step o ≡ true → operand_level o ≡ 15
step-level unary_operator.Increment h = refl
step-level unary_operator.Decrement h = refl
step-level _ h = absurd cc

module _ (wanted : ℕ) (free : Bool) (l : ℕ) (start : List Token) (e : Expr) (ts : List Token) (f : FoundExpression l wanted free e start ts) where
  -- the expression's tokens
  abbrev pub front : Front Any start ts (Reads e)
  front = expr_fixed e start ts f.reads

  -- a token that goes on, behind them
  abbrev pub Before : Token → List Token
  Before t = front.word ++ (t ∷ [])

  -- all tokens through that one
  pub before_parts : (t : Token) (rest : List Token) → ts ≡ t ∷ rest → start ≡ Before t ++ rest
  before_parts t rest p = behind_token front.word start ts t rest front.parts p

  -- the expression, the token and a beginning
  goes_on : (w : Word) (q : Part) (t : Token) {word : List Token} → word_of t ≡ w → Opens q word → Opens (At (at_of e) (Reads e ⨾ (Takes w ⨾ q))) (Before t ++ word)
  goes_on w q t is o = rw append_assoc (opens_grown e _ front (opens_token w q t is o))

  -- a member, of which the name is to come
  pub member_completes : (t : Token) → word_of t ≡ a_sign sign.Dot → IsBase e → wanted ≤ min 16 (level e) → (limit : ℕ) → suc (depth e) < limit → CompletesTarget wanted free limit (Before t)
  member_completes t is base high limit lt = record {
    is = record {
      tree = member (at_of e) e (codes "a");
      valid = (f.valid, base);
      shallow = lt;
      reaches = inl high;
      without_in = f.without_in;
      opens = opens_grown e _ front (opens_token _ _ t is opens_name);
    };
    target = refl;
  }

  -- an element
  pub round_index : (t : Token) → word_of t ≡ a_sign sign.OpenBracket → IsBase e → wanted ≤ min 16 (level e) → Round (Completes 0 true) (CompletesTarget wanted free) (Before t) (suc (depth e))
  round_index t is base high = record {
    round = λ k limit w lt b c. let s = c.shallow in record {
      is = record {
        tree = index (at_of e) e c.tree;
        valid = (f.valid, base, c.valid);
        shallow = omega arith;
        reaches = inl high;
        without_in = f.without_in;
        opens = goes_on _ _ t is (opens_start _ _ c.opens opens_close_bracket);
      };
      target = refl;
    };
  }

  -- a call
  pub round_call : (t : Token) → word_of t ≡ a_sign sign.OpenParen → IsBase e → wanted ≤ 15 → Round CompletesArguments (Completes wanted free) (Before t) (suc (depth e))
  round_call t is base high = record {
    round = λ k limit w lt b c. let s = c.shallow in record {
      tree = call (at_of e) e c.args;
      valid = (f.valid, base, c.valid);
      shallow = omega arith;
      reaches = inl high;
      without_in = f.without_in;
      opens = goes_on _ _ t is c.opens;
    };
  }

  -- an operator between
  pub round_binary : (t : Token) (o : BinaryOperator) → word_of t ≡ binary_word o → (free || not (is_in o)) ≡ true → binding o ≤ level e → wanted ≤ binding o → Round (Completes (suc (binding o)) free) (Completes wanted free) (Before t) (suc (depth e))
  round_binary t o is in_allowed left high = record {
    round = λ k limit w lt b c.
        let s = c.shallow in let bl = binding-low o in
        record {
          tree = binary (at_of e) e o c.tree;
          valid = (f.valid, left, c.valid, reached_low (suc (binding o)) c.tree (omega arith) c.reaches);
          shallow = omega arith;
          reaches = inl high;
          without_in = λ i. and_true (not (is_in o)) (no_in e && no_in c.tree) (allowed free (not (is_in o)) in_allowed i) (and_true (no_in e) (no_in c.tree) (f.without_in i) (c.without_in i));
          opens = goes_on _ _ t is c.opens;
        };
  }

  -- a conditional, of which the second part is begun
  pub round_conditional : (t : Token) → word_of t ≡ a_sign sign.Question → 3 ≤ level e → wanted ≤ 2 → Round (Completes 1 true) (Completes wanted free) (Before t) (suc (depth e))
  round_conditional t is left high = record {
    round = λ k limit w lt b c. let s = c.shallow in record {
      tree = conditional (at_of e) e c.tree (name 0 (codes "a"));
      valid = (f.valid, left, c.valid, reached_low 1 c.tree (omega arith) c.reaches, tt, omega arith);
      shallow = omega arith;
      reaches = inl high;
      without_in = λ i. and_true (no_in e) true (f.without_in i) refl;
      opens = goes_on _ _ t is (opens_start _ _ c.opens (opens_start _ _ opens_colon opens_expression));
    };
  }

  -- a conditional, of which the last part is begun
  pub round_alternative : (t : Token) → word_of t ≡ a_sign sign.Question → 3 ≤ level e → wanted ≤ 2 → (a : Expr) {n m : List Token} → Valid a → 1 ≤ level a → (g : Front Any n m (Reads a)) (c : Token) → word_of c ≡ a_sign sign.Colon
      → Round (Completes 1 free) (Completes wanted free) (Before t ++ (g.word ++ (c ∷ []))) (suc (max (depth e) (depth a)))
  round_alternative t is left high a va la g colon is_colon = record {
    round = λ k limit w lt b c. let s = c.shallow in record {
      tree = conditional (at_of e) e a c.tree;
      valid = (f.valid, left, va, la, c.valid, reached_low 1 c.tree (omega arith) c.reaches);
      shallow = omega arith;
      reaches = inl high;
      without_in = λ i. and_true (no_in e) (no_in c.tree) (f.without_in i) (c.without_in i);
      opens = rw append_assoc (goes_on _ _ t is (rw append_assoc (opens_front _ _ g (opens_token _ _ colon is_colon c.opens))));
    };
  }

  -- an assignment
  pub round_assign : (t : Token) (o : AssignOperator) → word_of t ≡ assign_word o → is_target e ≡ true → wanted ≤ 1 → Round (Completes 1 free) (Completes wanted free) (Before t) (suc (depth e))
  round_assign t o is left high = record {
    round = λ k limit w lt b c. let s = c.shallow in record {
      tree = assign (at_of e) e o c.tree;
      valid = (f.valid, left, c.valid, reached_low 1 c.tree (omega arith) c.reaches);
      shallow = omega arith;
      reaches = inl high;
      without_in = λ i. and_true (no_in e) (no_in c.tree) (f.without_in i) (c.without_in i);
      opens = goes_on _ _ t is c.opens;
    };
  }

  -- a comma
  pub round_comma : (t : Token) → word_of t ≡ a_sign sign.Comma → wanted ≤ 0 → Round (Completes 1 free) (Completes wanted free) (Before t) (suc (depth e))
  round_comma t is high = record {
    round = λ k limit w lt b c. let s = c.shallow in record {
      tree = comma (at_of e) e c.tree;
      valid = (f.valid, c.valid, reached_low 1 c.tree (omega arith) c.reaches);
      shallow = omega arith;
      reaches = inl high;
      without_in = λ i. and_true (no_in e) (no_in c.tree) (f.without_in i) (c.without_in i);
      opens = goes_on _ _ t is c.opens;
    };
  }

  -- `++` or `--` behind it
  postfix_completes : (t : Token) (o : PostfixOperator) → word_of t ≡ postfix_word o → (not t.newline) ≡ true → is_target e ≡ true → wanted ≤ 14 → Completes wanted free (suc (suc (depth e))) (Before t)
  postfix_completes t o is line target high = record {
    tree = postfix (at_of e) e o;
    valid = (f.valid, target);
    shallow = omega arith;
    reaches = inl high;
    without_in = f.without_in;
    opens = opens_grown e (OnLine (Takes (postfix_word o))) front (record { each = λ y. (y, (line, (t, refl, is))) });
  }

  -- a token that goes on with the expression goes on to some tree
  pub through : (s : Suffix) → suffix_at ts ≡ s → applies_by wanted free e (on_line ts) s ≡ true → Beyond (Completes wanted free) front.word ts
  through s w a = go s w a
    where
      beyond : (s : Suffix) (t : Takes (suffix_word s) ts (behind ts)) (n : ℕ) → Completes wanted free n (Before t.0) → Beyond (Completes wanted free) front.word ts
      beyond s t n c = record { token = t.0; rest = behind ts; parts = t.1; limit = n; is = c }

      go : (s : Suffix) → suffix_at ts ≡ s → applies_by wanted free e (on_line ts) s ≡ true → Beyond (Completes wanted free) front.word ts
      go by_member w a =
          let t = suffix_takes by_member ts refl w in let p = and_parts (is_base e) (leb wanted (min 16 (level e))) a in
          beyond by_member t _ (member_completes t.0 t.2 (base_is e p.0) (leb-true wanted (min 16 (level e)) p.1) (suc (suc (depth e))) (omega arith)).is
      go by_index w a =
          let t = suffix_takes by_index ts refl w in let p = and_parts (is_base e) (leb wanted (min 16 (level e))) a in
          beyond by_index t _ (round_empty (round_index t.0 t.2 (base_is e p.0) (leb-true wanted (min 16 (level e)) p.1)) (starts_completes 0 true 1 (omega arith) (omega arith))).is
      go by_call w a =
          let t = suffix_takes by_call ts refl w in let p = and_parts (is_base e) (leb wanted 15) a in
          beyond by_call t _ (round_empty (round_call t.0 t.2 (base_is e p.0) (leb-true wanted 15 p.1)) (record { args = no_exprs; valid = tt; shallow = omega arith; opens = opens_nothing _ opens_close_paren }))
      go (by_postfix o) w a =
          let t = suffix_takes (by_postfix o) ts refl w in
          let p = and_parts (on_line ts) (is_target e && leb wanted 14) a in let q = and_parts (is_target e) (leb wanted 14) p.1 in
          let line : not (t.0).newline ≡ true = rw (t.1) at p.0 in
          beyond (by_postfix o) t _ (postfix_completes t.0 o t.2 line q.0 (leb-true wanted 14 q.1))
      go (by_binary o) w a =
          let t = suffix_takes (by_binary o) ts refl w in
          let p = and_parts (free || not (is_in o)) (leb (binding o) (level e) && leb wanted (binding o)) a in let q = and_parts (leb (binding o) (level e)) (leb wanted (binding o)) p.1 in
          let low = binding-low o in
          beyond (by_binary o) t _ (round_empty (round_binary t.0 o t.2 p.0 (leb-true (binding o) (level e) q.0) (leb-true wanted (binding o) q.1)) (starts_completes (suc (binding o)) free 1 (omega arith) (omega arith)))
      go by_conditional w a =
          let t = suffix_takes by_conditional ts refl w in let p = and_parts (leb 3 (level e)) (leb wanted 2) a in
          beyond by_conditional t _ (round_empty (round_conditional t.0 t.2 (leb-true 3 (level e) p.0) (leb-true wanted 2 p.1)) (starts_completes 1 true 1 (omega arith) (omega arith)))
      go (by_assign o) w a =
          let t = suffix_takes (by_assign o) ts refl w in let p = and_parts (is_target e) (leb wanted 1) a in
          beyond (by_assign o) t _ (round_empty (round_assign t.0 o t.2 p.0 (leb-true wanted 1 p.1)) (starts_completes 1 free 1 (omega arith) (omega arith)))
      go by_comma w a =
          let t = suffix_takes by_comma ts refl w in
          beyond by_comma t _ (round_empty (round_comma t.0 t.2 (leb-true wanted 0 a)) (starts_completes 1 free 1 (omega arith) (omega arith)))
      go by_nothing w a = absurd cc
