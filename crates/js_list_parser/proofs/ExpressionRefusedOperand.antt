-- One layer: where an operand of `++` and `--` is refused, the tokens so far begin a target whose depth is at most the number, or an expression
-- with room for a member round it.
use Rattle.std.proofs.Common.{◌≡◌, ℕ, suc, ◌<◌, ◌≤◌, ◌⊎◌, inl, inr, Bool, true, if◌then◌else◌, List, [], ◌∷◌, ◌++◌, Option, Some, Err, codes, refl, arith}
use Rattle.js_ast.specs.declared.token.Token.{Token}
use Rattle.js_ast.specs.declared.words.Sign.TheVariants as sign
use Rattle.js_ast.specs.Words.{Word, a_name, a_sign, word_of}
use Rattle.js_ast.specs.Trees.{Expr, name, paren}
use Rattle.js_ast.specs.Grammar.{place_of}
use Rattle.js_ast.specs.Depth.{depth}
use Rattle.js_list_parser.specs.Reading.{Fault, syntax, nesting, refused, word_at, behind, again, room, Parsers}
use Rattle.js_list_parser.specs.ExpressionParsing.{is_close_paren, suffix_at, applies, makes_target, further_at, begins_at, operand_paren, operand_first_by, operand_first, operand_further, operand_step, operand_climb, operand_at}
use Rattle.js_list_parser.proofs.Outcomes.{takes}
use Rattle.js_list_parser.proofs.Soundness.{SoundBelow}
use Rattle.js_list_parser.proofs.OperandComplete.{begins_plain}
use Rattle.js_list_parser.proofs.OperandSound.{FoundOperand, first_sound, operand_kept}
use Rattle.js_list_parser.proofs.ExpressionTurns.{NoLonger, operand_turns}
use Rattle.js_list_parser.proofs.Fronts.{expr_fixed}
use Rattle.js_list_parser.proofs.Viable.{opens_start, opens_token, opens_at, opens_close_paren, opens_expression, Completes, CompletesOperand, found_operand, Beyond, Stuck, stuck_here, stuck_deep, stuck_as, Round, stuck_node, Fails, fails-ok, fails-err, fails-more, fails-bind, fails-last, fails-cond, fails-room, fails-expect, fails-loop, StuckBelow}
use Rattle.js_list_parser.proofs.ExpressionRefusedLists.{gives_read}
use Rattle.js_list_parser.proofs.ExpressionRounds.{first_completes, through}
use Rattle.js_list_parser.proofs.ExpressionRefused.{target_refused}

module _ (wanted : ℕ) (low : wanted ≤ 16) (free : Bool) where
  -- what has room for a member
  other_operand : (l : ℕ) (word : List Token) → Completes wanted free l word → CompletesOperand wanted free (suc l) word
  other_operand l word c = let s = c.shallow in record {
    is = record { tree = c.tree; valid = c.valid; shallow = omega arith; reaches = c.reaches; without_in = c.without_in; opens = c.opens };
    change = inr (omega arith);
  }

  -- the same round nothing more
  round_other : Round (Completes wanted free) (CompletesOperand wanted free) [] 0
  round_other = record {
    round = λ l limit w lt b c. let s = c.shallow in record {
      is = record { tree = c.tree; valid = c.valid; shallow = omega arith; reaches = c.reaches; without_in = c.without_in; opens = c.opens };
      change = inr (omega arith);
    };
  }

  -- the token that is refused begins an expression, or goes on with one
  beyond_other : {word ts : List Token} → Beyond (Completes wanted free) word ts → Beyond (CompletesOperand wanted free) word ts
  beyond_other {word} b = record { token = b.token; rest = b.rest; parts = b.parts; limit = suc b.limit; is = other_operand b.limit (word ++ b.token ∷ []) b.is }

  -- in parentheses
  round_operand : (t : Token) → word_of t ≡ a_sign sign.OpenParen → Round (CompletesOperand 0 true) (CompletesOperand wanted free) (t ∷ []) 0
  round_operand t is = record {
    round = λ l limit w lt b c. let s = c.is.shallow in record {
      is = record {
        tree = paren t.from c.is.tree;
        valid = c.is.valid;
        shallow = omega arith;
        reaches = inl (omega arith);
        without_in = λ k. refl;
        opens = opens_at _ t (opens_token _ _ t is (opens_start _ _ c.is.opens opens_close_paren));
      };
      change = elim c.change [ inl k ↦ inl (k.0, omega arith) | inr k ↦ inr (omega arith) ];
    };
  }

  -- a token that begins an expression begins an operand
  beyond_first : (ts : List Token) → begins_at wanted (word_at ts) ≡ true → Beyond (CompletesOperand wanted free) [] ts
  beyond_first [] b = absurd cc
  beyond_first (t ∷ ts) b = record { token = t; rest = ts; parts = refl; limit = 3; is = other_operand 2 (t ∷ []) (first_completes wanted low free t b) }

module _ (d : ℕ) (sub : Parsers) (sound : SoundBelow d sub) (shrinks : NoLonger sub) (stuck : 0 < d → StuckBelow d sub) (wanted : ℕ) (low : wanted ≤ 16) (free : Bool) where
  -- ---- how an operand begins

  -- nothing is read yet
  at_start : CompletesOperand wanted free (suc d) []
  at_start = record {
    is = record { tree = name 0 (codes "a"); valid = tt; shallow = omega arith; reaches = inl (omega arith); without_in = λ k. refl; opens = opens_expression };
    change = inl (refl, omega arith);
  }

  -- in parentheses
  paren_refused : 0 < d → (ts : List Token) → Fails (operand_paren sub (place_of ts) (behind ts)) (λ f z. Stuck (CompletesOperand 0 true) d f (behind ts) z)
  unfolding operand_paren
  paren_refused lt ts = fails-bind (gives_read (λ e m r. sound.operand 0 true (behind ts) e m (omega arith) r)) ((stuck lt).operand 0 true (behind ts) (omega arith)) (λ x g.
      let front = expr_fixed x.0 (behind ts) x.1 (g.0).reads in
      fails-last _ (fails-expect is_close_paren x.1 (stuck_here front.word front.parts (found_operand g.0 g.1))))

  -- the beginning of an operand
  first_refused : (ts : List Token) → Fails (operand_first sub d wanted free ts) (λ f z. Stuck (CompletesOperand wanted free) (suc d) f ts z)
  unfolding operand_first operand_first_by
  first_refused ts = go (word_at ts) refl
    where
      go : (w : Option Word) → word_at ts ≡ w → Fails (operand_first_by sub d wanted free w ts) (λ f z. Stuck (CompletesOperand wanted free) (suc d) f ts z)
      go (Some (a_name text)) h = fails-ok
      go (Some (a_sign sign.OpenParen)) h =
          let t = takes _ ts h in
          fails-room d 0 ts (λ le. stuck_deep [] refl at_start (beyond_first wanted low free ts (rw h (begins_plain wanted (Some (a_sign sign.OpenParen)) refl refl))))
          (λ lt. fails-more (paren_refused lt ts) (λ f z. stuck_node (round_operand wanted low free t.0 t.2) (omega arith) t.1))
      go w h = other w h
        where
          other : (w : Option Word) → word_at ts ≡ w → Fails (if begins_at wanted w then room d 0 ts (sub.first wanted free ts) else Err (refused syntax ts)) (λ f z. Stuck (CompletesOperand wanted free) (suc d) f ts z)
          other w h = fails-cond (begins_at wanted w)
              (λ b. fails-room d 0 ts (λ le. stuck_deep [] refl at_start (beyond_first wanted low free ts (rw h b))) (λ lt. fails-more ((stuck lt).first wanted free ts low) (λ f z. stuck_node (round_other wanted low free) (omega arith) refl)))
              (λ n. fails-err (stuck_here [] refl at_start))

  -- ---- how it goes on

  module _ (start : List Token) (e : Expr) (ts : List Token) (i : FoundOperand (suc d) wanted free e start ts) (a : applies wanted free e ts ≡ true) where
    -- a token through which the operand would be too deep
    too_deep : Stuck (CompletesOperand wanted free) (suc d) nesting start ts
    too_deep = let front = expr_fixed e start ts (i.0).reads in stuck_deep front.word front.parts (found_operand i.0 i.1) (beyond_other wanted low free (through wanted free (suc d) start e ts i.0 (suffix_at ts) refl a))

    -- an answer of the parser of less depth
    answered : (f : Fault) (z : List Token) → ((f ≡ nesting) × (z ≡ ts)) ⊎ Stuck (Completes wanted free) d f start z → Stuck (CompletesOperand wanted free) (suc d) f start z
    answered f z (inl p) = rw (p.0, p.1) too_deep
    answered f z (inr s) = stuck_node (round_other wanted low free) (omega arith) refl s

    -- a token with what is behind it
    operand_further_refused : Fails (operand_further sub d free e (suffix_at ts) ts) (λ f z. Stuck (CompletesOperand wanted free) (suc d) f start z)
    unfolding operand_further further_at
    operand_further_refused = fails-cond (makes_target (suffix_at ts))
        (λ m. fails-room d (depth e) ts (λ le. too_deep) (λ lt. fails-more (target_refused d sub sound shrinks stuck wanted low free (suc d) start e ts i.0 lt (suffix_at ts) m refl a)
        (λ f z. stuck_as (λ l w c. record { is = c.is; change = inl (c.target, c.is.shallow) }))))
        (λ m. fails-room d 0 ts (λ le. too_deep) (λ lt. fails-more ((stuck lt).further (suc d) wanted free start e ts low i.0 a) (λ f z. answered f z)))

  -- a turn of an operand
  turn_refused : (start : List Token) (e : Expr) (ts : List Token) → FoundOperand (suc d) wanted free e start ts → Fails (operand_step sub d wanted free e ts) (λ f z. Stuck (CompletesOperand wanted free) (suc d) f start z)
  unfolding operand_step
  turn_refused start e ts i = fails-cond (applies wanted free e ts) (λ a. fails-last _ (operand_further_refused start e ts i a)) (λ n. fails-ok)

  -- an operand
  pub operand_refused : (ts : List Token) → Fails (operand_at sub d wanted free ts) (λ f z. Stuck (CompletesOperand wanted free) (suc d) f ts z)
  unfolding operand_at operand_climb
  operand_refused ts = fails-bind (gives_read (λ e m r. first_sound d sub sound wanted low free ts e m r)) (first_refused ts) (λ x i.
      fails-loop (λ e m. FoundOperand (suc d) wanted free e ts m) (operand_turns sub shrinks d wanted free) (λ e m x z j r. operand_kept d sub sound wanted low free ts e m (again x) z j r) (λ e m j. turn_refused ts e m j) x.0 x.1 i)
