-- Where a statement is refused, the tokens before have a completion: one layer.
use Rattle.std.proofs.Common.{◌≡◌, ℕ, suc, ◌<◌, Bool, true, false, List, [], ◌∷◌, ◌++◌, Option, Some, Ok, refl, ap, ◌∙◌, arith}
use Rattle.js_ast.specs.declared.token.Token.{Token}
use Rattle.js_ast.specs.declared.words.Keyword.TheVariants as key
use Rattle.js_ast.specs.declared.words.Sign.TheVariants as sign
use Rattle.js_ast.specs.Words.{Word, a_name, a_key, a_sign, word_by, word_of}
use Rattle.js_ast.specs.Trees.{written, Expr, name, block_of, block, empty, expression, labelled, at_of}
use Rattle.js_ast.specs.Grammar.{place_of, is_close_brace, ReadsStatement, ReadsStatements}
use Rattle.js_list_parser.specs.Reading.{Fault, syntax, with_statement, Read, ◌>>=◌, word_at, behind, room, Parsers}
use Rattle.js_list_parser.specs.ExpressionParsing.{expression_at}
use Rattle.js_list_parser.specs.StatementParsing.{expression_rest, expression_statement, block_rest, block_by, block_at, statement_by, statement_at}
use Rattle.js_list_parser.proofs.Begins.{reads_place}
use Rattle.js_list_parser.proofs.Outcomes.{takes}
use Rattle.js_list_parser.proofs.Soundness.{FoundExpression, SoundBelow}
use Rattle.js_list_parser.proofs.StatementSound.{StatementsSound, starts_plain, whole, list}
use Rattle.js_list_parser.proofs.Fronts.{expr_fixed, statements_loose}
use Rattle.js_list_parser.proofs.LocalExpression.{LocalBelow}
use Rattle.js_list_parser.proofs.Viable.{opens_token, opens_closed, opens_close_brace, opens_semicolon, Completes, CompletesStatement, found_completes, debugger_for, Stuck, StuckBelow, stuck_here, stuck_deep, stuck_round, stuck_as, Fails, fails-ok, fails-err, fails-more, fails-bind, fails-last, fails-room, fails-expect}
use Rattle.js_list_parser.proofs.Shapes.{Shape, Holds, holds_start, mark, seq, stuck_first}
use Rattle.js_list_parser.proofs.StatementShapes.{statement_shape, statements_shape}
use Rattle.js_list_parser.proofs.StatementRefused.{stuck_tested, fails-ending, statement_refused}
use Rattle.js_list_parser.proofs.BranchRefused.{Behind, statement_starts, node_refused, opens_key, semicolon, var_shape, var_holds, if_shape, if_holds, do_shape, do_holds, while_holds, jump_shape, continue_holds, break_holds, thrown_shape, return_holds, throw_holds, debugger_holds, var_refused, while_refused, if_refused, do_refused, continue_refused, break_refused, debugger_refused, return_refused, throw_refused}
use Rattle.js_list_parser.proofs.ForRefused.{for_starts, for_refused}
use Rattle.js_list_parser.proofs.SwitchRefused.{switch_shape, switch_holds, switch_refused}
use Rattle.js_list_parser.proofs.TryRefused.{try_starts, try_refused}

-- ---- statements that begin with no word of their own

-- ECMA-262 12.1: the statements of a block, with the brace that closes them
abbrev body_shape : Shape
body_shape = seq (statements_shape false) (mark (a_sign sign.CloseBrace) opens_close_brace)

block_holds : (t : Token) → word_of t ≡ a_sign sign.OpenBrace → (n : ℕ) (w : List Token) → Holds body_shape n w → Behind t n w
block_holds t is n w h =
    let (v, lt) = h.good.0 in
    record { tree = block (block_of t.from h.tree.0); valid = v; shallow = omega arith; opens = opens_key t (a_sign sign.OpenBrace) _ is h.opens }

-- ECMA-262 12.3
empty_holds : (t : Token) → word_of t ≡ a_sign sign.Semicolon → (n : ℕ) → 0 < n → Behind t n []
empty_holds t is n lt = record { tree = empty t.from; valid = tt; shallow = omega arith; opens = record { each = λ y. (y, (refl, (t, refl, is))) } }

-- ECMA-262 12.4
expression_holds : (n : ℕ) (t : Token) (w : List Token) → starts_plain (word_at (t ∷ [])) ≡ true → Completes 0 true n (t ∷ w) → CompletesStatement n (t ∷ w)
expression_holds n t w h c = record {
  tree = expression (at_of c.tree) c.tree written;
  valid = c.valid;
  shallow = c.shallow;
  opens = record { each = λ y. let s = opens_semicolon.each y in let r = (c.opens).each s.0 in (r.0, (h, (reads_place c.tree (t ∷ (w ++ r.0)) s.0 r.1, (s.0, r.1, s.1)))) };
}

-- ECMA-262 12.12
label_holds : (t q : Token) (text : List ℕ) → word_of t ≡ a_name text → word_of q ≡ a_sign sign.Colon → (n : ℕ) (w : List Token) → Holds (statement_shape false) n w → CompletesStatement (suc n) (t ∷ q ∷ w)
label_holds t q text is qis n w h =
    let (v, lt, o) = h.good in
    record { tree = labelled t.from text h.tree; valid = v; shallow = omega arith; opens = opens_key t (a_name text) _ is (opens_token (a_sign sign.Colon) (ReadsStatement h.tree) q qis h.opens) }

-- `with` where a statement may stand
with_stuck : (d : ℕ) (t : Token) (ts : List Token) → word_of t ≡ a_key key.With → Stuck CompletesStatement (suc d) with_statement (t ∷ ts) (t ∷ ts)
unfolding word_by
with_stuck d t ts is = record {
  word = [];
  parts = refl;
  within = statement_starts (suc d) (omega arith);
  deeper = λ e. absurd cc;
  instead = λ e. record { token = t; rest = ts; parts = refl; is_with = is; limit = 2; is = debugger_holds (debugger_for t) refl 1 [] (omega arith) (holds_start semicolon 1 (omega arith)) };
}

-- a token that begins no statement
pub none_stands : (d : ℕ) (ts : List Token) → Stuck CompletesStatement (suc d) syntax ts ts
none_stands d ts = stuck_here [] refl (statement_starts (suc d) (omega arith))

-- ---- one layer, of statements

module _ (d : ℕ) (sub : Parsers) (b : SoundBelow d sub) (c : StatementsSound d sub) (k : 0 < d → StuckBelow d sub) (l : LocalBelow true sub sub)
    (expressions : (ts : List Token) → Fails (expression_at sub d 0 true ts) (λ f z. Stuck (Completes 0 true) (suc d) f ts z)) where
  -- ---- blocks

  body_refused : (at : ℕ) (ts : List Token) → 0 < d → Fails (block_rest sub at ts) (λ f z. Stuck (Holds body_shape) d f ts z)
  unfolding block_rest
  body_refused at ts pos = fails-bind (list d sub b c false ts)
      (fails-more ((k pos).statements false ts) (λ f z s. stuck_first (statements_shape false) (mark (a_sign sign.CloseBrace) opens_close_brace) pos (stuck_as (λ n w h. record { tree = h.trees; good = (h.valid, h.shallow); opens = h.opens }) s)))
      (λ ss f. fails-last _ (fails-expect is_close_brace ss.1 (let front = statements_loose ss.0 ts ss.1 f.reads in
      stuck_here front.word front.parts (record { tree = (ss.0, tt); good = ((f.valid, f.shallow), tt); opens = opens_closed (ReadsStatements ss.0) front }))))

  block_refused : (t : Token) (ts : List Token) → word_of t ≡ a_sign sign.OpenBrace → Fails (block_at sub d (t ∷ ts)) (λ f z. Stuck CompletesStatement (suc d) f (t ∷ ts) z)
  unfolding block_at block_by
  block_refused t ts is = rw is (node_refused CompletesStatement t 0 d ts (statement_starts (suc d) (omega arith)) (λ n lt. block_holds t is n [] (holds_start body_shape n lt))
      (λ pos. fails-more (body_refused t.from ts pos) (λ f z s. stuck_as (block_holds t is) s)))

  -- ---- expression statements

  -- the first token begins no block and no function
  abbrev is_plain : List Token → Bool
  is_plain ts = starts_plain (word_at ts)

  plain_debugger : (t : Token) → is_plain (debugger_for t ∷ []) ≡ true
  unfolding word_by
  plain_debugger t = refl

  -- what completes an expression completes the statement
  expression_stuck : {f : Fault} {ts z : List Token} → is_plain ts ≡ true → Stuck (Completes 0 true) (suc d) f ts z → Stuck CompletesStatement (suc d) f ts z
  expression_stuck h s = stuck_tested is_plain (λ t u v. refl) (λ t i e. plain_debugger t) expression_holds (statement_starts (suc d) (omega arith)) h s

  -- behind a name and a colon
  labelled_refused : (place : ℕ) (text : List ℕ) (at : ℕ) (start m : List Token) → is_plain start ≡ true → FoundExpression (suc d) 0 true (name place text) start m → word_at m ≡ Some (a_sign sign.Colon)
      → Fails (room d 0 m (sub.statement (behind m) >>= λ s. Ok (labelled at text s.0, s.1))) (λ f z. Stuck CompletesStatement (suc d) f start z)
  labelled_refused place text at start m h f colon =
      let (t, e, is) = f.reads.1 in
      let q = takes (a_sign sign.Colon) m colon in
      let named : Completes 0 true (suc d) (t ∷ []) = record { tree = name place text; valid = tt; shallow = omega arith; reaches = f.reaches; without_in = f.without_in; opens = record { each = λ y. (y, (f.reads.0 ∙ ap place_of e, (t, refl, is))) } } in
      let first : is_plain (t ∷ []) ≡ true = rw is refl in
      fails-room d 0 m
      (λ le. stuck_deep (t ∷ []) e (expression_holds (suc d) t [] first named)
      (record { token = q.0; rest = behind m; parts = q.1; limit = 2; is = label_holds t q.0 text is q.2 1 [] (holds_start (statement_shape false) 1 (omega arith)) }))
      (λ pos. fails-last _ (fails-more (statement_refused d sub b c (k pos) l pos (behind m)) (λ g z s.
      stuck_round (t ∷ q.0 ∷ []) (e ∙ ap (λ (x : List Token). t ∷ x) q.1) (λ w x. label_holds t q.0 text is q.2 d w x) (λ n w x. (suc n, label_holds t q.0 text is q.2 n w x)) s)))

  -- behind an expression
  rest_refused : (start m : List Token) (e : Expr) → is_plain start ≡ true → FoundExpression (suc d) 0 true e start m → (w : Option Word) → word_at m ≡ w → Fails (expression_rest sub d (place_of start) e w m) (λ f z. Stuck CompletesStatement (suc d) f start z)
  unfolding expression_rest
  rest_refused start m (name place text) h f (Some (a_sign sign.Colon)) w = labelled_refused place text (place_of start) start m h f w
  rest_refused start m e h f _ w = fails-last _ (fails-ending (Some e) m (expression_stuck h (let front = expr_fixed e start m f.reads in stuck_here front.word front.parts (found_completes f))))

  plain_refused : (ts : List Token) → is_plain ts ≡ true → Fails (expression_statement sub d ts) (λ f z. Stuck CompletesStatement (suc d) f ts z)
  unfolding expression_statement
  plain_refused ts h = fails-bind (whole d sub b c ts) (fails-more (expressions ts) (λ f z s. expression_stuck h s)) (λ e f. rest_refused ts e.1 e.0 h f (word_at e.1) refl)

  -- ---- by the first word

  -- a statement with a word of its own
  node : {A : Type 0} (t : Token) (ts : List Token) {r : Read A} → ((n : ℕ) → 0 < n → Behind t n []) → (0 < d → Fails r (λ f z. Stuck (Behind t) d f ts z)) → Fails (room d 0 (t ∷ ts) r) (λ f z. Stuck CompletesStatement (suc d) f (t ∷ ts) z)
  node t ts start h = node_refused CompletesStatement t 0 d ts (statement_starts (suc d) (omega arith)) start h

  word_refused : (t : Token) (ts : List Token) (w : Word) → word_of t ≡ w → Fails (statement_by sub d (Some w) (t ∷ ts)) (λ f z. Stuck CompletesStatement (suc d) f (t ∷ ts) z)
  unfolding statement_by
  word_refused t ts (a_sign sign.OpenBrace) h = fails-last _ (block_refused t ts h)
  word_refused t ts (a_sign sign.Semicolon) h = node t ts (empty_holds t h) (λ pos. fails-ok)
  word_refused t ts (a_key key.Var) h = node t ts (λ n lt. var_holds t h n [] (holds_start var_shape n lt)) (λ pos. var_refused d sub b c (k pos) l pos t h ts)
  word_refused t ts (a_key key.If) h = node t ts (λ n lt. if_holds t h n [] (holds_start if_shape n lt)) (λ pos. if_refused d sub b c (k pos) l pos t h ts)
  word_refused t ts (a_key key.Do) h = node t ts (λ n lt. do_holds t h n [] (holds_start do_shape n lt)) (λ pos. do_refused d sub b c (k pos) l pos t h ts)
  word_refused t ts (a_key key.While) h = node t ts (λ n lt. while_holds t h n [] (holds_start if_shape n lt)) (λ pos. while_refused d sub b c (k pos) l pos t h ts)
  word_refused t ts (a_key key.For) h = node t ts (for_starts t h) (λ pos. for_refused d sub b c (k pos) l pos t h ts)
  word_refused t ts (a_key key.Continue) h = node t ts (λ n lt. continue_holds t h n [] (holds_start jump_shape n lt)) (λ pos. continue_refused d sub b c (k pos) l pos t h ts)
  word_refused t ts (a_key key.Break) h = node t ts (λ n lt. break_holds t h n [] (holds_start jump_shape n lt)) (λ pos. break_refused d sub b c (k pos) l pos t h ts)
  word_refused t ts (a_key key.Return) h = node t ts (λ n lt. return_holds t h n [] (holds_start thrown_shape n lt)) (λ pos. return_refused d sub b c (k pos) l pos t h ts)
  word_refused t ts (a_key key.Throw) h = node t ts (λ n lt. throw_holds t h n [] (holds_start thrown_shape n lt)) (λ pos. throw_refused d sub b c (k pos) l pos t h ts)
  word_refused t ts (a_key key.Switch) h = node t ts (λ n lt. switch_holds t h n [] (holds_start switch_shape n lt)) (λ pos. switch_refused d sub b c (k pos) l pos t h ts)
  word_refused t ts (a_key key.Try) h = node_refused CompletesStatement t 1 d ts (statement_starts (suc d) (omega arith)) (try_starts t h) (λ pos. try_refused d sub b c (k (omega arith)) l pos t h ts)
  word_refused t ts (a_key key.Debugger) h = node t ts (λ n lt. debugger_holds t h n [] lt (holds_start semicolon n lt)) (λ pos. debugger_refused d sub b c (k pos) l pos t h ts)
  word_refused t ts (a_key key.Function) h = fails-err (none_stands d (t ∷ ts))
  word_refused t ts (a_key key.With) h = fails-err (with_stuck d t ts h)
  word_refused t ts w h = plain_refused (t ∷ ts) (rw h refl)

  -- a statement
  pub any_refused : (ts : List Token) → Fails (statement_by sub d (word_at ts) ts) (λ f z. Stuck CompletesStatement (suc d) f ts z)
  unfolding statement_by
  any_refused [] = plain_refused [] refl
  any_refused (t ∷ ts) = word_refused t ts (word_of t) refl

  pub statement_at_refused : (ts : List Token) → Fails (statement_at sub d ts) (λ f z. Stuck CompletesStatement (suc d) f ts z)
  unfolding statement_at
  statement_at_refused ts = any_refused ts
