-- Where a `switch` statement is refused, the tokens before have a completion: one layer.
use Rattle.std.proofs.Common.{◌≡◌, ℕ, ◌<◌, ◌≤◌, true, false, leb, List, [], Option, Some, Ok, refl, arith}
use Rattle.std.proofs.lemmas.Bool.{leb-false}
use Rattle.js_ast.specs.declared.token.Token.{Token}
use Rattle.js_ast.specs.declared.words.Keyword.TheVariants as key
use Rattle.js_ast.specs.declared.words.Sign.TheVariants as sign
use Rattle.js_ast.specs.Words.{Word, a_key, a_sign, word_of}
use Rattle.js_ast.specs.Trees.{Clauses, no_clauses, case, default, switch, Statements}
use Rattle.js_ast.specs.Grammar.{Takes, is_close_brace, ReadsClauses}
use Rattle.js_ast.specs.Validity.{ValidClauses, defaults}
use Rattle.js_ast.specs.Depth.{depth_clauses}
use Rattle.js_list_parser.specs.Reading.{syntax, ◌>>=◌, word_at, behind, again, loop, Parsers}
use Rattle.js_list_parser.specs.ExpressionParsing.{is_open_brace, is_colon, expect}
use Rattle.js_list_parser.specs.StatementParsing.{case_rest, default_rest, clause_step_by, clause_step, switch_rest}
use Rattle.js_ast.specs.Joined.{joined_clauses}
use Rattle.js_list_parser.proofs.StatementComplete.{defaults_joined}
use Rattle.js_list_parser.proofs.Outcomes.{brace_opens, colon, takes}
use Rattle.js_list_parser.proofs.Soundness.{SoundBelow}
use Rattle.js_list_parser.proofs.StatementSound.{FoundClauses, StatementsSound, reads_clauses, valid_clauses, depth_joined_clauses, clause_sound}
use Rattle.js_list_parser.proofs.Gives.{gives-loop}
use Rattle.js_list_parser.proofs.Fronts.{clauses_loose}
use Rattle.js_list_parser.proofs.Local.{turn_shortens}
use Rattle.js_list_parser.proofs.LocalExpression.{LocalBelow}
use Rattle.js_list_parser.proofs.LocalStatement.{local_clause_step}
use Rattle.js_list_parser.proofs.Viable.{Opens, opens_map, opens_one, opens_closed, opens_colon, opens_open_brace, opens_close_brace, Stuck, StuckBelow, stuck_here, stuck_as, Fails, fails-ok, fails-err, fails-more, fails-bind, fails-last, fails-cond, fails-expect, fails-loop}
use Rattle.js_list_parser.proofs.Shapes.{Shape, Holds, mark, then_shape, seq, stuck_first, fails-seq, fails-then, expression_shape}
use Rattle.js_list_parser.proofs.StatementShapes.{condition_shape, statements_shape, clauses_shape}
use Rattle.js_list_parser.proofs.StatementRefused.{any_level, any_reader, condition_reader}
use Rattle.js_list_parser.proofs.BranchRefused.{Behind, opens_key, stuck_loose}

-- ---- shapes

-- ECMA-262 12.11
abbrev pub switch_shape : Shape
switch_shape = seq condition_shape (then_shape (a_sign sign.OpenBrace) opens_open_brace clauses_shape)

pub switch_holds : (t : Token) → word_of t ≡ a_key key.Switch → (n : ℕ) (w : List Token) → Holds switch_shape n w → Behind t n w
switch_holds t is n w h =
    let (v, lt) = h.good.0 in
    let (x, gt, one) = h.good.1 in
    record { tree = switch t.from h.tree.0 h.tree.1; valid = (v, x, one); shallow = omega arith; opens = opens_key t (a_key key.Switch) _ is h.opens }

-- clauses before others, of which so many are `default` at most
abbrev clauses_before : ℕ → Shape
clauses_before most = record {
  Tree = Clauses;
  Good = λ l cs. ValidClauses cs × (depth_clauses cs < l) × (defaults cs ≤ most);
  part = ReadsClauses;
  least = 0;
  grows = λ l n cs le g. let lt = g.1 in (g.0, omega arith, g.2);
  start = λ l lt. (no_clauses, (tt, lt, omega arith), record { each = λ y. (y, refl) });
}

-- the statements of the last clause, with the brace that closes the clauses
abbrev last_shape : Shape
last_shape = then_shape (a_sign sign.Colon) opens_colon (seq (statements_shape false) (mark (a_sign sign.CloseBrace) opens_close_brace))

abbrev case_shape : Shape
case_shape = seq (expression_shape 0 true any_level) last_shape

case_holds : (o : Opens (Takes (a_key key.Case)) []) (n : ℕ) (w : List Token) → Holds (seq (clauses_before 1) (then_shape (a_key key.Case) o case_shape)) n w → Holds clauses_shape n w
case_holds o n w h =
    let (cs, (e, (ss, u))) = h.tree in
    let (v, lt, one) = h.good.0 in
    let (x, gt, y, z) = (h.good.1).0 in
    let (p, less) = ((h.good.1).1).0 in
    let more : Clauses = case e ss no_clauses in
    record {
      tree = joined_clauses cs more;
      good = (valid_clauses cs more v (x, p, tt), omega (arith, depth_joined_clauses cs more), omega (arith, defaults_joined cs more));
      opens = opens_map _ (λ ts y r. let (m0, c, (m1, k, (m2, f, (m3, q, (m4, s, b))))) = r in (m4, reads_clauses cs more ts m0 m4 c (m4, (m1, k, (m2, f, (m3, q, s))), refl), b)) h.opens;
    }

default_holds : (o : Opens (Takes (a_key key.Default)) []) (n : ℕ) (w : List Token) → Holds (seq (clauses_before 0) (then_shape (a_key key.Default) o last_shape)) n w → Holds clauses_shape n w
default_holds o n w h =
    let (cs, (ss, u)) = h.tree in
    let (v, lt, one) = h.good.0 in
    let (p, less) = (h.good.1).0 in
    let more : Clauses = default ss no_clauses in
    record {
      tree = joined_clauses cs more;
      good = (valid_clauses cs more v (p, tt), omega (arith, depth_joined_clauses cs more), omega (arith, defaults_joined cs more));
      opens = opens_map _ (λ ts y r. let (m0, c, (m1, k, (m3, q, (m4, s, b)))) = r in (m4, reads_clauses cs more ts m0 m4 c (m4, (m1, k, (m3, q, s)), refl), b)) h.opens;
    }

-- ---- one layer

module _ (d : ℕ) (sub : Parsers) (b : SoundBelow d sub) (c : StatementsSound d sub) (k : StuckBelow d sub) (l : LocalBelow true sub sub) (pos : 0 < d) where
  -- the statements of a clause
  last_refused : {B : Type 0} (ts : List Token) (f : Statements × List Token → B) → Fails (expect is_colon ts >>= λ inner. sub.statements false inner >>= λ ss. Ok (f ss)) (λ f z. Stuck (Holds last_shape) d f ts z)
  last_refused ts f = fails-then is_colon _ colon opens_colon (seq (statements_shape false) (mark (a_sign sign.CloseBrace) opens_close_brace)) pos (λ m. fails-last f (fails-more (k.statements false m)
      (λ g z s. stuck_first (statements_shape false) (mark (a_sign sign.CloseBrace) opens_close_brace) pos (stuck_as (λ n w h. record { tree = h.trees; good = (h.valid, h.shallow); opens = h.opens }) s))))

  case_refused : (cs : Clauses) (ts : List Token) → Fails (case_rest sub cs ts) (λ f z. Stuck (Holds case_shape) d f ts z)
  unfolding case_rest
  case_refused cs ts = fails-seq (expression_shape 0 true any_level) last_shape pos (any_reader d sub b c k l pos true ts) (λ e g. last_refused e.1 _)

  default_refused : (cs : Clauses) (ts : List Token) → Fails (default_rest sub cs ts) (λ f z. Stuck (Holds last_shape) d f ts z)
  unfolding default_rest
  default_refused cs ts = last_refused ts _

  -- clauses are complete with a brace
  closed_clauses : {start ts : List Token} (cs : Clauses) → FoundClauses d cs start ts → Stuck (Holds clauses_shape) d syntax start ts
  closed_clauses {start = start} {ts = ts} cs so =
      let front = clauses_loose cs start ts so.reads in
      stuck_here front.word front.parts (record { tree = cs; good = (so.valid, so.shallow, so.single); opens = opens_closed (ReadsClauses cs) front })

  step_refused : (start : List Token) (cs : Clauses) (ts : List Token) → FoundClauses d cs start ts → Fails (clause_step sub cs ts) (λ f z. Stuck (Holds clauses_shape) d f start z)
  unfolding clause_step clause_step_by
  step_refused start cs ts so = go (word_at ts) refl
    where
      go : (w : Option Word) → word_at ts ≡ w → Fails (clause_step_by sub cs w ts) (λ f z. Stuck (Holds clauses_shape) d f start z)
      go (Some (a_key key.Case)) h =
          let t = takes (a_key key.Case) ts h in
          let o = opens_one _ t.0 t.2 in
          fails-more (case_refused cs (behind ts)) (λ f z s. stuck_as (case_holds o) (stuck_loose (clauses_before 1) (a_key key.Case) o case_shape cs (so.valid, so.shallow, so.single) (clauses_loose cs start ts so.reads) t s))
      go (Some (a_key key.Default)) h =
          let t = takes (a_key key.Default) ts h in
          let o = opens_one _ t.0 t.2 in
          fails-cond (leb 1 (defaults cs)) (λ e. fails-err (closed_clauses cs so)) (λ e. let none = leb-false 1 (defaults cs) e in
          fails-more (default_refused cs (behind ts)) (λ f z s. stuck_as (default_holds o) (stuck_loose (clauses_before 0) (a_key key.Default) o last_shape cs (so.valid, so.shallow, omega arith) (clauses_loose cs start ts so.reads) t s)))
      go _ h = fails-ok

  -- clauses, and the brace that closes them
  clauses_refused : {B : Type 0} (ts : List Token) (f : Clauses × List Token → List Token → B) → Fails (loop (clause_step sub) no_clauses ts >>= λ cs. expect is_close_brace cs.1 >>= λ rest. Ok (f cs rest)) (λ f z. Stuck (Holds clauses_shape) d f ts z)
  clauses_refused ts f =
      let none : FoundClauses d no_clauses ts ts = record { valid = tt; shallow = pos; single = omega arith; reads = refl } in
      fails-bind (gives-loop (clause_step sub) (λ cs us. FoundClauses d cs ts us) (λ cs us. FoundClauses d cs ts us) (clause_sound d sub b c ts) no_clauses ts none)
      (fails-loop (λ cs us. FoundClauses d cs ts us) (λ cs us. turn_shortens us _ (local_clause_step l cs us)) (λ cs us es z so e. (clause_sound d sub b c ts cs us so).is (again es, z) e) (step_refused ts) no_clauses ts none)
      (λ cs g. fails-last _ (fails-expect is_close_brace cs.1 (closed_clauses cs.0 g)))

  -- behind the word `switch`
  pub switch_refused : (t : Token) → word_of t ≡ a_key key.Switch → (ts : List Token) → Fails (switch_rest sub t.from ts) (λ f z. Stuck (Behind t) d f ts z)
  unfolding switch_rest
  switch_refused t is ts = fails-more (fails-seq condition_shape (then_shape (a_sign sign.OpenBrace) opens_open_brace clauses_shape) pos (condition_reader d sub b c k l pos ts) (λ e g.
      fails-then is_open_brace _ brace_opens opens_open_brace clauses_shape pos (λ m. clauses_refused m _))) (λ f z s. stuck_as (switch_holds t is) s)
