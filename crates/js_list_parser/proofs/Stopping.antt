-- Where the parser stops behind an expression: a token that doesn't end a valid expression begins what goes on with it. It goes on with the whole
-- expression, or with a last part that would take the token, and so with what stands round that part.
use Rattle.std.proofs.Common.{◌≡◌, ℕ, suc, ◌≤◌, max, ◌⊎◌, inl, inr, Bool, true, false, not, ◌&&◌, ◌||◌, List, [], ◌∷◌, ◌++◌, Some, refl, sym, ap, subst, ◌∙◌, append_assoc, arith}
use Rattle.std.proofs.lemmas.List.{append_cancel_right}
use Rattle.js_ast.specs.declared.token.Token.{Token}
use Rattle.js_ast.specs.declared.operators.UnaryOperator.{UnaryOperator}
use Rattle.js_ast.specs.declared.words.Keyword.TheVariants as key
use Rattle.js_ast.specs.Words.{Word, a_key}
use Rattle.js_ast.specs.Trees.{Expr, new_bare, unary, binary, conditional, assign, comma, no_exprs}
use Rattle.js_ast.specs.Levels.{binding, is_in, is_step, level, is_bare_new, unary_word, binary_word, assign_word}
use Rattle.js_ast.specs.Grammar.{Takes, Reads}
use Rattle.js_ast.specs.Validity.{no_in, Valid}
use Rattle.js_ast.specs.Depth.{depth}
use Rattle.js_list_parser.specs.Reading.{Suffix, by_call}
use Rattle.js_list_parser.specs.ExpressionParsing.{operand_level, suffix_of, suffix_at, applies, is_call, captured, Stops, Reaches}
use Rattle.js_list_parser.proofs.Stops.{and_parts, or_parts}
use Rattle.js_list_parser.proofs.Begins.{takes_word}
use Rattle.js_list_parser.proofs.Levels.{suffix-binary, suffix-assign, target-level, reached, operand-reached}
use Rattle.js_list_parser.proofs.ExpressionSound.{suffix_takes}
use Rattle.js_list_parser.proofs.Soundness.{FoundExpression}
use Rattle.js_list_parser.proofs.Fronts.{expr_fixed}
use Rattle.js_list_parser.proofs.Viable.{behind_token, opens_nothing, opens_close_paren, Completes, CompletesTarget, Beyond, Round, round_empty}
use Rattle.js_list_parser.proofs.ExpressionRounds.{round_new, round_new_with, round_unary, round_step, operand_target, step-level, Before, before_parts, round_binary, round_alternative, round_assign, round_comma, through}

-- ---- going on at a token

-- some word and then the token are completed
record Goes (C : ℕ → List Token → Type 0) (ts : List Token) (x : Token) (others : List Token) : Type 0 where
  word : List Token
  parts : ts ≡ word ++ (x ∷ others)
  limit : ℕ
  is : C limit (word ++ x ∷ [])

-- so are they in what stands round a part
goes_round : {C D : ℕ → List Token → Type 0} {pre : List Token} {base : ℕ} {ts m : List Token} {x : Token} {others : List Token} → Round C D pre base → ts ≡ pre ++ m → Goes C m x others → Goes D ts x others
goes_round {pre = pre} {base = base} {x = x} {others = others} r p g =
    let n = suc (max g.limit base) in record {
      word = pre ++ g.word;
      parts = p ∙ ap (λ (u : List Token). pre ++ u) g.parts ∙ sym (append_assoc pre g.word (x ∷ others));
      limit = n;
      is = rw append_assoc (r.round g.limit n (g.word ++ x ∷ []) (omega arith) (omega arith) g.is);
    }

-- what completes one completes the other
goes_as : {C D : ℕ → List Token → Type 0} {ts : List Token} {x : Token} {others : List Token} → ((l : ℕ) (w : List Token) → C l w → (n : ℕ) × D n w) → Goes C ts x others → Goes D ts x others
goes_as {x = x} k g = let n = k g.limit (g.word ++ x ∷ []) g.is in record { word = g.word; parts = g.parts; limit = n.0; is = n.1 }

-- the first of equal lists
same_first : (x y : Token) (a b : List Token) → x ∷ a ≡ y ∷ b → y ≡ x
same_first x y a b e = cc

-- the token behind a word
goes_beyond : {C : ℕ → List Token → Type 0} {ts : List Token} {x : Token} {others : List Token} (word : List Token) → ts ≡ word ++ (x ∷ others) → Beyond C word (x ∷ others) → Goes C ts x others
goes_beyond {C = C} {x = x} {others = others} word p b = record {
  word = word;
  parts = p;
  limit = b.limit;
  is = subst (λ (t : Token). C b.limit (word ++ t ∷ [])) (same_first x b.token others b.rest b.parts) b.is;
}

-- ---- an expression that the token goes on with

-- a parenthesis goes on to a call
call_is : (s : Suffix) → is_call s ≡ true → s ≡ by_call
call_is by_call h = refl
call_is _ h = absurd cc

-- behind a `new` without arguments that takes no token stands no parenthesis
bare_ends : (free : Bool) (e : Expr) (z : List Token) → captured free e z ≡ false → is_bare_new e ≡ true → is_call (suffix_at z) ≡ false
bare_ends free (new_bare at e) z h b = (or_parts _ _ h).0
bare_ends free _ z h b = absurd cc

-- what holds of one or the other
one_of : {P : Type 0} (a b : Bool) → (a || b) ≡ true → (b ≡ true → P) → (a ≡ true → b ≡ false → P) → P
one_of a true h f g = f refl
one_of true false h f g = g refl refl
one_of false false h f g = absurd cc

-- where `in` is not allowed, the operator is another one
other_operator : (free b c : Bool) → (free ≡ false → (b && c) ≡ true) → (free || b) ≡ true
other_operator true b c h = refl
other_operator false b c h = (and_parts b c (h refl)).0

-- a valid expression that may stand where a level is wanted, with its tokens
record Spelled (wanted : ℕ) (free : Bool) (e : Expr) (ts z : List Token) : Type 0 where
  valid : Valid e
  reaches : Reaches wanted e
  without_in : free ≡ false → no_in e ≡ true
  reads : Reads e ts z

-- it is one that the parser finds
as_found : {wanted : ℕ} {free : Bool} {e : Expr} {ts z : List Token} → Spelled wanted free e ts z → (is_bare_new e ≡ true → is_call (suffix_at z) ≡ false) → FoundExpression (suc (depth e)) wanted free e ts z
as_found s n = record { valid = s.valid; shallow = omega arith; reaches = s.reaches; without_in = s.without_in; reads = s.reads; no_arguments = n }

-- so is what stands to the left of a token that is no parenthesis
as_left : {wanted : ℕ} {free : Bool} {e : Expr} {ts m : List Token} (w : Word) (n : List Token) → Spelled wanted free e ts m → Takes w m n → is_call (suffix_of (Some w)) ≡ false → FoundExpression (suc (depth e)) wanted free e ts m
as_left {m = m} w n s t c = as_found s (λ b. ap (λ v. is_call (suffix_of v)) (takes_word w m n t) ∙ c)

-- a `new` without arguments stands where 16 at most is wanted
bare_low : (wanted at : ℕ) (e : Expr) → Reaches wanted (new_bare at e) → wanted ≤ 16
bare_low wanted at e (inl h) = omega arith
bare_low wanted at e (inr h) = h.1

-- what `new` makes an instance of
callee_reaches : (e : Expr) → (16 ≤ level e) ⊎ (is_bare_new e ≡ true) → Reaches 16 e
callee_reaches e (inl h) = inl h
callee_reaches e (inr h) = inr (h, omega arith)

-- it is no `new` without arguments where a parenthesis is left for another one
callee_high : (free : Bool) (e : Expr) (z : List Token) → (16 ≤ level e) ⊎ (is_bare_new e ≡ true) → captured free e z ≡ false → is_call (suffix_at z) ≡ true → 16 ≤ level e
callee_high free e z (inl h) n c = h
callee_high free e z (inr h) n c = let p = sym c ∙ bare_ends free e z n h in absurd cc

-- what completes an operand of `++` or `--` may become a target
operand_goes : (o : UnaryOperator) (free : Bool) (l : ℕ) (w : List Token) → is_step o ≡ true → Completes (operand_level o) free l w → CompletesTarget (operand_level o) free (suc l) w
operand_goes o free l w h c =
    let s = c.shallow in
    operand_target (suc l) w (step-level o h) (record {
      is = record { tree = c.tree; valid = c.valid; shallow = omega arith; reaches = c.reaches; without_in = c.without_in; opens = c.opens };
      change = inr (omega arith);
    })

module _ (free : Bool) (x : Token) (others : List Token) where
  -- the token and those behind it
  abbrev z : List Token
  z = x ∷ others

  -- a part that the token goes on with, or whose last part it goes on with
  part : {wanted : ℕ} {e : Expr} {ts : List Token} → Spelled wanted free e ts z → (captured free e z ≡ true → Goes (Completes wanted free) ts x others) → (applies wanted free e z || captured free e z) ≡ true → Goes (Completes wanted free) ts x others
  part {wanted = wanted} {e = e} {ts = ts} s deeper h = one_of (applies wanted free e z) (captured free e z) h deeper (λ a n.
      let f = as_found s (bare_ends free e z n) in
      let front = expr_fixed e ts z f.reads in
      goes_beyond front.word front.parts (through wanted free (suc (depth e)) ts e z f (suffix_at z) refl a))

  -- `new` whose arguments the token begins
  called : {wanted : ℕ} (low : wanted ≤ 16) {e : Expr} {ts m : List Token} (t : Takes (a_key key.New) ts m) → Spelled 16 free e m z → 16 ≤ level e → is_call (suffix_at z) ≡ true → Goes (Completes wanted free) ts x others
  called {wanted = wanted} low {e = e} {ts = ts} {m = m} t s high c =
      let o = suffix_takes by_call z refl (call_is (suffix_at z) c) in
      let front = expr_fixed e m z s.reads in
      let first : o.0 ≡ x = same_first x o.0 others others o.1 in
      record {
        word = t.0 ∷ front.word;
        parts = t.1 ∙ ap (λ (u : List Token). t.0 ∷ u) front.parts;
        limit = suc (suc (suc (depth e)));
        is = subst (λ (u : Token). Completes wanted free (suc (suc (suc (depth e)))) (t.0 ∷ (front.word ++ u ∷ []))) first
            (round_empty (round_new_with wanted low free t.0 t.2 e s.valid high s.without_in front o) (record { args = no_exprs; valid = tt; shallow = omega arith; opens = opens_nothing _ opens_close_paren }));
      }

  -- an operator in front, whose operand goes on
  goes_unary : {wanted : ℕ} (low : wanted ≤ 13) (o : UnaryOperator) {ts m : List Token} (t : Takes (unary_word o) ts m) → Goes (Completes (operand_level o) free) m x others → Goes (Completes wanted free) ts x others
  goes_unary {wanted = wanted} low o {ts = ts} {m = m} t g = go (is_step o) refl
    where
      go : (b : Bool) → is_step o ≡ b → Goes (Completes wanted free) ts x others
      go true h = goes_round (round_step wanted (omega arith) free t.0 o low t.2) t.1 (goes_as (λ l w c. (suc l, operand_goes o free l w h c)) g)
      go false h = goes_round (round_unary wanted (omega arith) free t.0 o low h t.2) t.1 g

  -- where a last part would take the token, it goes on with that part, and so with the expression
  goes_on : (e : Expr) {wanted : ℕ} {ts : List Token} → Spelled wanted free e ts z → captured free e z ≡ true → Goes (Completes wanted free) ts x others
  goes_on (new_bare at e) {wanted = wanted} s h =
      let p = s.reads.1 in let t = p.1 in let v = s.valid in let low = bare_low wanted at e s.reaches in
      let inner : Spelled 16 free e p.0 z = record { valid = v.0; reaches = callee_reaches e v.1; without_in = s.without_in; reads = p.2 } in
      one_of (is_call (suffix_at z)) (applies 16 free e z || captured free e z) h
      (λ k. goes_round (round_new wanted low free t.0 t.2) t.1 (part inner (goes_on e inner) k))
      (λ c n. called low t inner (callee_high free e z v.1 (or_parts _ _ n).1 c) c)
  goes_on (unary at o e) {wanted = wanted} s h =
      let p = s.reads.1 in let v = s.valid in
      let inner : Spelled (operand_level o) free e p.0 z = record { valid = v.0; reaches = inl (operand-reached o e v.0 v.1 v.2); without_in = s.without_in; reads = p.2 } in
      goes_unary (reached wanted (unary at o e) refl s.reaches) o p.1 (part inner (goes_on e inner) h)
  goes_on (binary at l o r) {wanted = wanted} {ts = ts} s h =
      let p = s.reads.1 in let q = p.2 in let t = q.1 in let v = s.valid in let least = v.1 in
      let high = reached wanted (binary at l o r) refl s.reaches in
      let left : Spelled wanted free l ts p.0 = record {
        valid = v.0;
        reaches = inl (omega arith);
        without_in = λ k. (and_parts (no_in l) (no_in r) (and_parts (not (is_in o)) (no_in l && no_in r) (s.without_in k)).1).0;
        reads = p.1;
      } in
      let right : Spelled (suc (binding o)) free r q.0 z = record {
        valid = v.2;
        reaches = inl v.3;
        without_in = λ k. (and_parts (no_in l) (no_in r) (and_parts (not (is_in o)) (no_in l && no_in r) (s.without_in k)).1).1;
        reads = q.2;
      } in
      let f = as_left (binary_word o) q.0 left t (ap is_call (suffix-binary o)) in
      let limit = suc (depth l) in
      goes_round (round_binary wanted free limit ts l p.0 f t.0 o t.2 (other_operator free (not (is_in o)) (no_in l && no_in r) s.without_in) v.1 high)
      (before_parts wanted free limit ts l p.0 f t.0 q.0 t.1) (part right (goes_on r right) h)
  goes_on (conditional at c a b) {wanted = wanted} {ts = ts} s h =
      let p = s.reads.1 in let q = p.2 in let t = q.1 in let r = q.2 in let u = r.2 in let colon = u.1 in let v = s.valid in let least = v.1 in
      let high = reached wanted (conditional at c a b) refl s.reaches in
      let left : Spelled wanted free c ts p.0 = record { valid = v.0; reaches = inl (omega arith); without_in = λ k. (and_parts (no_in c) (no_in b) (s.without_in k)).0; reads = p.1 } in
      let right : Spelled 1 free b u.0 z = record { valid = v.4; reaches = inl v.5; without_in = λ k. (and_parts (no_in c) (no_in b) (s.without_in k)).1; reads = u.2 } in
      let f = as_left _ q.0 left t refl in
      let limit = suc (depth c) in
      let front = expr_fixed a q.0 r.0 r.1 in
      let before = Before wanted free limit ts c p.0 f t.0 in
      let more : q.0 ≡ (front.word ++ (colon.0 ∷ [])) ++ u.0 = behind_token front.word q.0 r.0 colon.0 u.0 front.parts colon.1 in
      let all : ts ≡ (before ++ (front.word ++ (colon.0 ∷ []))) ++ u.0
      = before_parts wanted free limit ts c p.0 f t.0 q.0 t.1 ∙ ap (λ (y : List Token). before ++ y) more ∙ sym (append_assoc before (front.word ++ (colon.0 ∷ [])) u.0) in
      goes_round (round_alternative wanted free limit ts c p.0 f t.0 t.2 v.1 high a v.2 v.3 front colon.0 colon.2) all (part right (goes_on b right) h)
  goes_on (assign at l o r) {wanted = wanted} {ts = ts} s h =
      let p = s.reads.1 in let q = p.2 in let t = q.1 in let v = s.valid in let least = target-level l v.0 v.1 in
      let high = reached wanted (assign at l o r) refl s.reaches in
      let left : Spelled wanted free l ts p.0 = record { valid = v.0; reaches = inl (omega arith); without_in = λ k. (and_parts (no_in l) (no_in r) (s.without_in k)).0; reads = p.1 } in
      let right : Spelled 1 free r q.0 z = record { valid = v.2; reaches = inl v.3; without_in = λ k. (and_parts (no_in l) (no_in r) (s.without_in k)).1; reads = q.2 } in
      let f = as_left (assign_word o) q.0 left t (ap is_call (suffix-assign o)) in
      let limit = suc (depth l) in
      goes_round (round_assign wanted free limit ts l p.0 f t.0 o t.2 v.1 high) (before_parts wanted free limit ts l p.0 f t.0 q.0 t.1) (part right (goes_on r right) h)
  goes_on (comma at l r) {wanted = wanted} {ts = ts} s h =
      let p = s.reads.1 in let q = p.2 in let t = q.1 in let v = s.valid in
      let high = reached wanted (comma at l r) refl s.reaches in
      let left : Spelled wanted free l ts p.0 = record { valid = v.0; reaches = inl (omega arith); without_in = λ k. (and_parts (no_in l) (no_in r) (s.without_in k)).0; reads = p.1 } in
      let right : Spelled 1 free r q.0 z = record { valid = v.1; reaches = inl v.2; without_in = λ k. (and_parts (no_in l) (no_in r) (s.without_in k)).1; reads = q.2 } in
      let f = as_left _ q.0 left t refl in
      let limit = suc (depth l) in
      goes_round (round_comma wanted free limit ts l p.0 f t.0 t.2 high) (before_parts wanted free limit ts l p.0 f t.0 q.0 t.1) (part right (goes_on r right) h)
  goes_on _ s h = absurd cc

-- ---- the law

-- behind a valid expression that may stand where a level is wanted, a token stops the parser, or with it the expression's tokens begin another such
-- expression
pub stops_or_goes_on_at : (wanted : ℕ) (free : Bool) (e : Expr) (ts : List Token) (x : Token) (others : List Token) → Valid e → Reaches wanted e → (free ≡ false → no_in e ≡ true) → (r : Reads e ts (x ∷ others))
    → Stops wanted free e (x ∷ others) ⊎ ((limit : ℕ) × Completes wanted free limit ((expr_fixed e ts (x ∷ others) r).word ++ x ∷ []))
stops_or_goes_on_at wanted free e ts x others v w n r = go (applies wanted free e (x ∷ others) || captured free e (x ∷ others)) refl
  where
    spelled : Spelled wanted free e ts (x ∷ others)
    spelled = record { valid = v; reaches = w; without_in = n; reads = r }

    go : (b : Bool) → (applies wanted free e (x ∷ others) || captured free e (x ∷ others)) ≡ b → Stops wanted free e (x ∷ others) ⊎ ((limit : ℕ) × Completes wanted free limit ((expr_fixed e ts (x ∷ others) r).word ++ x ∷ []))
    go true h =
        let g = part free x others spelled (goes_on free x others e spelled) h in
        let front = expr_fixed e ts (x ∷ others) r in
        let same : g.word ≡ front.word = append_cancel_right g.word front.word (x ∷ others) (sym g.parts ∙ front.parts) in
        inr (g.limit, subst (λ (u : List Token). Completes wanted free g.limit (u ++ x ∷ [])) same g.is)
    go false h = inl (or_parts _ _ h)

-- the same where no level is wanted
pub stops_or_goes_on : (free : Bool) (e : Expr) (ts : List Token) (x : Token) (others : List Token) → Valid e → (free ≡ false → no_in e ≡ true) → (r : Reads e ts (x ∷ others))
    → Stops 0 free e (x ∷ others) ⊎ ((limit : ℕ) × Completes 0 free limit ((expr_fixed e ts (x ∷ others) r).word ++ x ∷ []))
stops_or_goes_on free e ts x others v n r = stops_or_goes_on_at 0 free e ts x others v (inl (omega arith)) n r
