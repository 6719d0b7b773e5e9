-- One layer: where an expression is refused, the tokens so far begin a valid one whose depth is at most the number.
use Rattle.std.proofs.Common.{◌≡◌, ℕ, suc, ◌<◌, ◌≤◌, min, ◌⊎◌, inl, inr, Bool, true, not, ◌&&◌, ◌||◌, leb, List, [], ◌∷◌, ◌++◌, Option, Some, None, refl, sym, ap, ◌∙◌, append_assoc, arith}
use Rattle.std.proofs.lemmas.Bool.{leb-true}
use Rattle.js_ast.specs.declared.token.Token.{Token}
use Rattle.js_ast.specs.declared.operators.UnaryOperator.{UnaryOperator}
use Rattle.js_ast.specs.declared.words.Keyword.TheVariants as key
use Rattle.js_ast.specs.declared.words.Sign.TheVariants as sign
use Rattle.js_ast.specs.Words.{Word, a_name, a_number, a_string, a_key, a_sign}
use Rattle.js_ast.specs.Trees.{Ident, Expr}
use Rattle.js_ast.specs.Levels.{unary_word, binding, is_in, is_step, level, is_target}
use Rattle.js_ast.specs.Grammar.{Takes, Reads, place_of, on_line}
use Rattle.js_ast.specs.Depth.{depth}
use Rattle.js_list_parser.specs.Reading.{Fault, nesting, Read, word_at, behind, again, room, Parsers, Suffix, by_member, by_index, by_call, by_postfix, by_binary, by_conditional, by_assign, by_comma, by_nothing}
use Rattle.js_list_parser.specs.ExpressionParsing.{is_close_paren, is_close_bracket, is_colon, name_at, ident_at, function_named, function_by, array_rest, object_rest, paren_rest, new_by, new_rest, operand_level, unary_of, unary_made, unary_operand, unary_rest, unary_by, primary_by, primary, suffix_at, is_base, applies_by, applies, is_call, suffix, makes_target, further_at, climb_step, climb, expression_at, begins_at}
use Rattle.js_list_parser.proofs.Stops.{and_true, and_parts, or_parts, not_false, binding-low}
use Rattle.js_list_parser.proofs.Begins.{unary-begins}
use Rattle.js_list_parser.proofs.Outcomes.{takes, ident_is, reached_low}
use Rattle.js_list_parser.proofs.Soundness.{FoundExpression, SoundBelow}
use Rattle.js_list_parser.proofs.Gives.{Gives, gives-cond, gives-colon}
use Rattle.js_list_parser.proofs.Grown.{Changeable}
use Rattle.js_list_parser.proofs.OperandComplete.{begins_plain}
use Rattle.js_list_parser.proofs.ExpressionSound.{unary-word, suffix_takes, operand_level-high, base_is, callee_level, primary_sound, climb_sound}
use Rattle.js_list_parser.proofs.ExpressionTurns.{NoLonger, climb_turns}
use Rattle.js_list_parser.proofs.Fronts.{Front, Any, expr_fixed}
use Rattle.js_list_parser.proofs.Viable.{Completes, CompletesTarget, starts_completes, found_completes, found_operand, behind_token, Beyond, Stuck, stuck_here, stuck_found, stuck_deep, stuck_as, stuck_node, Fails, fails-ok, fails-err, fails-more, fails-bind, fails-last, fails-cond, fails-room, fails-expect, fails-taken, fails-loop, StuckBelow}
use Rattle.js_list_parser.proofs.ExpressionRefusedLists.{gives_read, function_rest_refused, closed_refused, arguments_refused}
use Rattle.js_list_parser.proofs.ExpressionRefusedLiterals.{items_refused, properties_refused}
use Rattle.js_list_parser.proofs.ExpressionRounds.{round_paren, round_array, round_object, round_function, round_named, round_new, round_new_with, round_unary, round_step, first_completes, operand_target, step-level, Before, before_parts, member_completes, round_index, round_call, round_binary, round_conditional, round_alternative, round_assign, round_comma, through}

-- ---- how an expression goes on

module _ (d : ℕ) (sub : Parsers) (sound : SoundBelow d sub) (shrinks : NoLonger sub) (stuck : 0 < d → StuckBelow d sub) (wanted : ℕ) (low : wanted ≤ 16) (free : Bool) where
  module _ (l : ℕ) (start : List Token) (e : Expr) (ts : List Token) (f : FoundExpression l wanted free e start ts) (lt : depth e < d) where
    -- the parsers of parts
    below : StuckBelow d sub
    below = stuck (omega arith)

    pos : 0 < d
    pos = omega arith

    -- a member or an element
    pub target_refused : (s : Suffix) → makes_target s ≡ true → suffix_at ts ≡ s → applies_by wanted free e (on_line ts) s ≡ true → Fails (suffix sub free e s (behind ts)) (λ g z. Stuck (CompletesTarget wanted free) (suc d) g start z)
    unfolding suffix
    target_refused by_member m w a =
        let t = suffix_takes by_member ts refl w in let p = and_parts (is_base e) (leb wanted (min 16 (level e))) a in
        fails-last _ (fails-taken (name_at (behind ts)) (behind ts) (stuck_here (Before wanted free l start e ts f t.0) (before_parts wanted free l start e ts f t.0 (behind ts) t.1)
        (member_completes wanted free l start e ts f t.0 t.2 (base_is e p.0) (leb-true wanted (min 16 (level e)) p.1) (suc d) (omega arith))))
    target_refused by_index m w a =
        let t = suffix_takes by_index ts refl w in let p = and_parts (is_base e) (leb wanted (min 16 (level e))) a in
        fails-more (closed_refused d sub sound shrinks pos below 0 true (behind ts) is_close_bracket _ (omega arith))
        (λ g z. stuck_node (round_index wanted free l start e ts f t.0 t.2 (base_is e p.0) (leb-true wanted (min 16 (level e)) p.1)) lt (before_parts wanted free l start e ts f t.0 (behind ts) t.1))
    target_refused _ m w a = absurd cc

    -- a token and what stands behind it
    pub suffix_refused : (s : Suffix) → suffix_at ts ≡ s → applies_by wanted free e (on_line ts) s ≡ true → Fails (suffix sub free e s (behind ts)) (λ g z. Stuck (Completes wanted free) (suc d) g start z)
    unfolding suffix
    suffix_refused by_member w a = fails-more (target_refused by_member refl w a) (λ g z. stuck_as (λ k u c. c.is))
    suffix_refused by_index w a = fails-more (target_refused by_index refl w a) (λ g z. stuck_as (λ k u c. c.is))
    suffix_refused by_call w a =
        let t = suffix_takes by_call ts refl w in let p = and_parts (is_base e) (leb wanted 15) a in
        fails-last _ (fails-more (arguments_refused d sub sound shrinks pos below (behind ts))
        (λ g z. stuck_node (round_call wanted free l start e ts f t.0 t.2 (base_is e p.0) (leb-true wanted 15 p.1)) lt (before_parts wanted free l start e ts f t.0 (behind ts) t.1)))
    suffix_refused (by_postfix o) w a = fails-ok
    suffix_refused (by_binary o) w a =
        let t = suffix_takes (by_binary o) ts refl w in
        let p = and_parts (free || not (is_in o)) (leb (binding o) (level e) && leb wanted (binding o)) a in let q = and_parts (leb (binding o) (level e)) (leb wanted (binding o)) p.1 in
        let bl = binding-low o in
        fails-last _ (fails-more (below.expression (suc (binding o)) free (behind ts) (omega arith))
        (λ g z. stuck_node (round_binary wanted free l start e ts f t.0 o t.2 p.0 (leb-true (binding o) (level e) q.0) (leb-true wanted (binding o) q.1)) lt (before_parts wanted free l start e ts f t.0 (behind ts) t.1)))
    suffix_refused by_conditional w a =
        let t = suffix_takes by_conditional ts refl w in let p = and_parts (leb 3 (level e)) (leb wanted 2) a in
        let three = leb-true 3 (level e) p.0 in let two = leb-true wanted 2 p.1 in
        let parts = before_parts wanted free l start e ts f t.0 (behind ts) t.1 in
        fails-bind (gives_read (λ x m h. sound.expression 1 true (behind ts) x m (omega arith) h))
        (fails-more (below.expression 1 true (behind ts) (omega arith)) (λ g z. stuck_node (round_conditional wanted free l start e ts f t.0 t.2 three two) lt parts))
        (λ x g. fails-bind (gives-colon x.1) (fails-expect is_colon x.1 (stuck_node (round_conditional wanted free l start e ts f t.0 t.2 three two) lt parts (stuck_found g))) (λ rest c.
        let front = expr_fixed x.0 (behind ts) x.1 g.reads in let s = g.shallow in
        let more : behind ts ≡ (front.word ++ (c.0 ∷ [])) ++ rest = behind_token front.word (behind ts) x.1 c.0 rest front.parts c.1 in
        let all : start ≡ (Before wanted free l start e ts f t.0 ++ (front.word ++ (c.0 ∷ []))) ++ rest =
        parts ∙ ap (λ (y : List Token). Before wanted free l start e ts f t.0 ++ y) more ∙ sym (append_assoc (Before wanted free l start e ts f t.0) (front.word ++ (c.0 ∷ [])) rest) in
        fails-last _ (fails-more (below.expression 1 free rest (omega arith))
        (λ h z. stuck_node (round_alternative wanted free l start e ts f t.0 t.2 three two x.0 g.valid (reached_low 1 x.0 (omega arith) g.reaches) front c.0 c.2) (omega arith) all))))
    suffix_refused (by_assign o) w a =
        let t = suffix_takes (by_assign o) ts refl w in let p = and_parts (is_target e) (leb wanted 1) a in
        fails-last _ (fails-more (below.expression 1 free (behind ts) (omega arith)) (λ g z. stuck_node (round_assign wanted free l start e ts f t.0 o t.2 p.0 (leb-true wanted 1 p.1)) lt (before_parts wanted free l start e ts f t.0 (behind ts) t.1)))
    suffix_refused by_comma w a =
        let t = suffix_takes by_comma ts refl w in
        fails-last _ (fails-more (below.expression 1 free (behind ts) (omega arith)) (λ g z. stuck_node (round_comma wanted free l start e ts f t.0 t.2 (leb-true wanted 0 a)) lt (before_parts wanted free l start e ts f t.0 (behind ts) t.1)))
    suffix_refused by_nothing w a = absurd cc

  -- the same, at the token that says how it goes on
  pub further_refused : (l : ℕ) (start : List Token) (e : Expr) (ts : List Token) → FoundExpression l wanted free e start ts → applies wanted free e ts ≡ true
      → Fails (further_at sub d free e (suffix_at ts) ts) (λ g z. ((g ≡ nesting) × (z ≡ ts)) ⊎ Stuck (Completes wanted free) (suc d) g start z)
  unfolding further_at
  further_refused l start e ts f a = fails-room d (depth e) ts (λ le. inl (refl, refl)) (λ lt. fails-more (suffix_refused l start e ts f lt (suffix_at ts) refl a) (λ g z s. inr s))

  -- a turn of an expression
  turn_refused : (start : List Token) (e : Expr) (ts : List Token) → FoundExpression (suc d) wanted free e start ts → Fails (climb_step sub d wanted free e ts) (λ g z. Stuck (Completes wanted free) (suc d) g start z)
  unfolding climb_step
  turn_refused start e ts f = fails-cond (applies wanted free e ts) (λ a. fails-room d (depth e) ts
      (λ le. stuck_deep (expr_fixed e start ts f.reads).word (expr_fixed e start ts f.reads).parts (found_completes f) (through wanted free (suc d) start e ts f (suffix_at ts) refl a))
      (λ lt. fails-last _ (suffix_refused (suc d) start e ts f lt (suffix_at ts) refl a))) (λ n. fails-ok)

  -- an expression with all that goes on with it
  pub climb_refused : (start : List Token) (e : Expr) (ts : List Token) → FoundExpression (suc d) wanted free e start ts → Fails (climb sub d wanted free e ts) (λ g z. Stuck (Completes wanted free) (suc d) g start z)
  unfolding climb
  climb_refused start e ts f = fails-loop (λ x m. FoundExpression (suc d) wanted free x start m) (climb_turns sub shrinks d wanted free) (λ x m y z i r. climb_sound d sub sound wanted low free start x m (again y) z i r)
      (λ x m i. turn_refused start x m i) e ts f

  -- ---- how an expression begins

  module _ (ts : List Token) where
    -- what the refusal of a beginning says
    abbrev Refused : Fault → List Token → Type 0
    Refused g z = Stuck (Completes wanted free) (suc d) g ts z

    -- nothing is read yet
    at_start : Completes wanted free (suc d) []
    at_start = starts_completes wanted free (suc d) (omega arith) (omega arith)

    -- a token that begins an expression whose parts have room, or none
    begun : {r : Read Expr} (w : Word) → word_at ts ≡ Some w → begins_at wanted (Some w) ≡ true → (0 < d → Fails r Refused) → Fails (room d 0 ts r) Refused
    begun w h b inner = fails-room d 0 ts (λ le. stuck_deep [] refl at_start beyond) inner
      where
        beyond : Beyond (Completes wanted free) [] ts
        beyond = let t = takes w ts h in record { token = t.0; rest = behind ts; parts = t.1; limit = 2; is = first_completes wanted low free t.0 (rw (t.2) b) }

    -- a function, with a name or without
    function_refused : 0 < d → word_at ts ≡ Some (a_key key.Function) → (i : Option Ident) → ident_at (behind ts) ≡ i → Fails (function_by sub (place_of ts) i (behind ts)) Refused
    unfolding function_by function_named
    function_refused lt h None n =
        let t = takes _ ts h in
        fails-last _ (fails-more (function_rest_refused d sub sound shrinks lt (stuck lt) (behind ts)) (λ g z. stuck_node (round_function wanted low free t.0 t.2) (omega arith) t.1))
    function_refused lt h (Some i) n =
        let t = takes _ ts h in let k = (ident_is i (behind ts) n).1 in
        fails-last _ (fails-more (function_rest_refused d sub sound shrinks lt (stuck lt) (behind (behind ts))) (λ g z. stuck_node (round_named wanted low free t.0 t.2 k.0 i.text k.2) (omega arith) (t.1 ∙ ap (λ (x : List Token). t.0 ∷ x) k.1)))

    -- behind what `new` makes an instance of
    new_by_refused : 0 < d → (t : Takes (a_key key.New) ts (behind ts)) → (e : Expr) (m : List Token) → FoundExpression d 16 free e (behind ts) m → Fails (new_by sub (place_of ts) e (word_at m) m) Refused
    unfolding new_by
    new_by_refused lt t e m f = go (word_at m) refl
      where
        front : Front Any (behind ts) m (Reads e)
        front = expr_fixed e (behind ts) m f.reads

        go : (w : Option Word) → word_at m ≡ w → Fails (new_by sub (place_of ts) e w m) Refused
        go (Some (a_sign sign.OpenParen)) h =
            let o = takes _ m h in let s = f.shallow in
            let called : is_call (suffix_at m) ≡ true = rw h refl in
            let high = callee_level e f.reaches (λ k. let c = f.no_arguments k in let q = sym called ∙ c in cc) in
            fails-last _ (fails-more (arguments_refused d sub sound shrinks lt (stuck lt) (behind m))
            (λ g z. stuck_node (round_new_with wanted low free t.0 t.2 e f.valid high f.without_in front o) (omega arith) (t.1 ∙ ap (λ (x : List Token). t.0 ∷ x) (behind_token front.word (behind ts) m o.0 (behind m) front.parts o.1))))
        go _ h = fails-ok

    -- behind `new`
    new_refused : 0 < d → word_at ts ≡ Some (a_key key.New) → Fails (new_rest sub free (place_of ts) (behind ts)) Refused
    unfolding new_rest
    new_refused lt h =
        let t = takes _ ts h in
        fails-bind (gives_read (λ e m r. sound.expression 16 free (behind ts) e m (omega arith) r))
        (fails-more ((stuck lt).expression 16 free (behind ts) (omega arith)) (λ g z. stuck_node (round_new wanted low free t.0 t.2) (omega arith) t.1)) (λ x f. new_by_refused lt t x.0 x.1 f)

    -- the operand of an operator
    operand_given : (o : UnaryOperator) (m : List Token) → Gives (unary_operand sub free o m) (λ x. FoundExpression d (operand_level o) free x.0 m x.1 × (is_step o ≡ true → Changeable d x.0))
    unfolding unary_operand
    operand_given o m =
        let high = operand_level-high o in
        gives-cond (is_step o) (λ s. gives_read (λ e z r. let p = sound.operand (operand_level o) free m e z (omega arith) r in (p.0, λ k. p.1)))
        (λ n. gives_read (λ e z r. (sound.expression (operand_level o) free m e z (omega arith) r, λ k. let q = sym n ∙ k in absurd cc)))

    -- and where it is refused
    operand_refused : 0 < d → (o : UnaryOperator) → wanted ≤ 13 → (t : Takes (unary_word o) ts (behind ts)) → Fails (unary_operand sub free o (behind ts)) Refused
    unfolding unary_operand
    operand_refused lt o le t =
        let high = operand_level-high o in
        fails-cond (is_step o)
        (λ s. fails-more ((stuck lt).operand (operand_level o) free (behind ts) (omega arith)) (λ g z k. stuck_node (round_step wanted low free t.0 o le t.2) (omega arith) t.1 (stuck_as (λ l w. operand_target l w (step-level o s)) k)))
        (λ n. fails-more ((stuck lt).expression (operand_level o) free (behind ts) (omega arith)) (λ g z. stuck_node (round_unary wanted low free t.0 o le n t.2) (omega arith) t.1))

    -- what is changed is no target
    made_refused : 0 < d → (o : UnaryOperator) → wanted ≤ 13 → (t : Takes (unary_word o) ts (behind ts)) → (e : Expr) (m : List Token) → FoundExpression d (operand_level o) free e (behind ts) m → (is_step o ≡ true → Changeable d e)
        → Fails (unary_made (place_of ts) o e m) Refused
    unfolding unary_made
    made_refused lt o le t e m f c = fails-cond (not (is_step o) || is_target e) (λ k. fails-ok) (λ n.
        let s = not_false (is_step o) (or_parts (not (is_step o)) (is_target e) n).0 in
        let front = expr_fixed e (behind ts) m f.reads in
        fails-err (stuck_node (round_step wanted low free t.0 o le t.2) (omega arith) t.1 (stuck_as (λ l w. operand_target l w (step-level o s))
        (stuck_here front.word front.parts (found_operand f (c s))))))

    -- an operator and its operand, or a token that begins no expression
    unary_refused : (o : Option UnaryOperator) → unary_of (word_at ts) ≡ o → Fails (unary_by sub d wanted free o ts) Refused
    unfolding unary_by unary_rest
    unary_refused None h = fails-err (stuck_here [] refl at_start)
    unary_refused (Some o) h = fails-cond (leb wanted 13) (λ le.
        let is : word_at ts ≡ Some (unary_word o) = unary-word (word_at ts) (rw h refl) ∙ rw h refl in
        let t = takes (unary_word o) ts is in
        begun (unary_word o) is (and_true _ _ (unary-begins o) (rw le refl)) (λ lt. fails-bind (operand_given o (behind ts)) (operand_refused lt o (leb-true wanted 13 le) t) (λ x g. made_refused lt o (leb-true wanted 13 le) t x.0 x.1 g.0 g.1)))
        (λ n. fails-err (stuck_here [] refl at_start))

    -- an expression up to what may be behind it
    pub primary_refused : Fails (primary sub d wanted free ts) Refused
    unfolding primary primary_by array_rest object_rest paren_rest
    primary_refused = go (word_at ts) refl
      where
        go : (w : Option Word) → word_at ts ≡ w → Fails (primary_by sub d wanted free w ts) Refused
        go (Some (a_name text)) h = fails-ok
        go (Some (a_number n)) h = fails-ok
        go (Some (a_string text v)) h = fails-ok
        go (Some (a_key key.This)) h = fails-ok
        go (Some (a_key key.Null)) h = fails-ok
        go (Some (a_key key.True)) h = fails-ok
        go (Some (a_key key.False)) h = fails-ok
        go (Some (a_sign sign.OpenParen)) h = let t = takes _ ts h in begun (a_sign sign.OpenParen) h (begins_plain wanted (Some (a_sign sign.OpenParen)) refl refl)
            (λ lt. fails-more (closed_refused d sub sound shrinks lt (stuck lt) 0 true (behind ts) is_close_paren _ (omega arith)) (λ g z. stuck_node (round_paren wanted low free t.0 t.2) (omega arith) t.1))
        go (Some (a_sign sign.OpenBracket)) h = let t = takes _ ts h in begun (a_sign sign.OpenBracket) h (begins_plain wanted (Some (a_sign sign.OpenBracket)) refl refl)
            (λ lt. fails-last _ (fails-more (items_refused d sub sound shrinks lt (stuck lt) (behind ts)) (λ g z. stuck_node (round_array wanted low free t.0 t.2) (omega arith) t.1)))
        go (Some (a_sign sign.OpenBrace)) h = let t = takes _ ts h in begun (a_sign sign.OpenBrace) h (begins_plain wanted (Some (a_sign sign.OpenBrace)) refl refl)
            (λ lt. fails-last _ (fails-more (properties_refused d sub sound shrinks lt (stuck lt) (behind ts)) (λ g z. stuck_node (round_object wanted low free t.0 t.2) (omega arith) t.1)))
        go (Some (a_key key.Function)) h = begun (a_key key.Function) h (begins_plain wanted (Some (a_key key.Function)) refl refl) (λ lt. function_refused lt h (ident_at (behind ts)) refl)
        go (Some (a_key key.New)) h = begun (a_key key.New) h (begins_plain wanted (Some (a_key key.New)) refl refl) (λ lt. new_refused lt h)
        go w h = unary_refused (unary_of w) (ap unary_of h)

    -- an expression
    pub expression_refused : Fails (expression_at sub d wanted free ts) Refused
    unfolding expression_at
    expression_refused = fails-bind (gives_read (λ e m r. primary_sound d sub sound wanted low free ts e m r)) primary_refused (λ x f. climb_refused ts x.0 x.1 f)
