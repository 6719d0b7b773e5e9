-- Where a part of a statement is refused, the tokens before have a completion: one layer, over the parsers of less depth.
use Rattle.std.proofs.Common.{◌≡◌, ℕ, ◌<◌, ◌≤◌, Bool, true, false, List, [], ◌∷◌, ◌++◌, Option, Some, refl, sym, ap, ◌∙◌, arith}
use Rattle.js_ast.specs.declared.token.Token.{Token}
use Rattle.js_ast.specs.declared.words.Keyword.TheVariants as key
use Rattle.js_ast.specs.declared.words.Sign.TheVariants as sign
use Rattle.js_ast.specs.Words.{Word, a_key, a_sign, word_of}
use Rattle.js_ast.specs.Trees.{Ident, Expr, present, Declarations, one_declaration}
use Rattle.js_ast.specs.Grammar.{Takes, sign_part, may_elide, ReadsIdent, Reads}
use Rattle.js_list_parser.specs.Reading.{Fault, syntax, with_statement, nesting, word_at, behind, again, Parsers}
use Rattle.js_list_parser.specs.ExpressionParsing.{is_open_paren, is_close_paren, ident_at}
use Rattle.js_list_parser.specs.StatementParsing.{semicolon_here, ending, condition, initialiser_by, initialiser, next_declaration, declaration_step_by, declaration_step, declarations_from, declarations, header_part_by, header_part}
use Rattle.js_ast.specs.Joined.{joined_declarations}
use Rattle.js_list_parser.proofs.Outcomes.{paren_opens, takes, reached_low}
use Rattle.js_list_parser.proofs.Soundness.{SoundBelow}
use Rattle.js_list_parser.proofs.StatementSound.{FoundDeclarations, StatementsSound, reads_declarations, valid_declarations, depth_joined_declarations, no_in_joined, condition_sound, initialiser_sound, declaration_step_sound, declarations_sound, header_part_sound}
use Rattle.js_list_parser.proofs.Gives.{gives-more, gives-ident}
use Rattle.js_list_parser.proofs.Fronts.{ident_fixed, maybe_fixed, declarations_fixed}
use Rattle.js_list_parser.proofs.Local.{turn_shortens}
use Rattle.js_list_parser.proofs.LocalExpression.{LocalBelow}
use Rattle.js_list_parser.proofs.LocalStatement.{local_declaration_step}
use Rattle.js_list_parser.proofs.Closed.{in_parens}
use Rattle.js_list_parser.proofs.Viable.{Opens, opens_map, opens_token, opens_open_paren, opens_close_paren, opens_one, Beyond, Replaced, debugger_for, Stuck, StuckBelow, stuck_round, stuck_as, Fails, fails-ok, fails-err, fails-more, fails-bind, fails-last, fails-cond, fails-taken, fails-loop}
use Rattle.js_list_parser.proofs.Shapes.{Shape, Holds, mark, then_shape, seq, stuck_start, stuck_token, stuck_second, Reader, fails-seq, fails-then, fails-end, ident_shape, ident_reader, expression_shape, expression_reader}
use Rattle.js_list_parser.proofs.StatementShapes.{condition_shape, maybe_shape, initialiser_shape, statement_shape, declarations_shape}

-- any level, and that of what stands between commas
pub any_level : 0 ≤ 16
any_level = omega arith

pub above_comma : 1 ≤ 16
above_comma = omega arith

-- the end of a statement is refused where none may be
pub fails-ending : (before : Option Expr) (ts : List Token) {Q : Fault → List Token → Type 0} → Q syntax ts → Fails (ending before ts) Q
unfolding ending
fails-ending before ts q = fails-cond (semicolon_here ts) (λ h. fails-ok) (λ h. fails-cond (may_elide before ts) (λ e. fails-ok) (λ e. fails-err q))

-- behind a token that is taken
pub stuck_behind : {C D : ℕ → List Token → Type 0} {w : Word} {d : ℕ} {f : Fault} {ts m z : List Token} (t : Takes w ts m) → ((n : ℕ) (u : List Token) → C n u → D n (t.0 ∷ u)) → Stuck C d f m z → Stuck D d f ts z
stuck_behind t to s = stuck_round (t.0 ∷ []) t.1 (λ u x. to _ u x) (λ n u x. (n, to n u x)) s

-- what is asked of the first token, which stays: where none is read yet, what completes is another
module _ {C D : ℕ → List Token → Type 0} (test : List Token → Bool) (one : (t : Token) (u v : List Token) → test (t ∷ u) ≡ test (t ∷ v)) (swap : (t : Token) → word_of t ≡ a_key key.With → test (t ∷ []) ≡ true → test (debugger_for t ∷ []) ≡ true)
    (to : (n : ℕ) (t : Token) (w : List Token) → test (t ∷ []) ≡ true → C n (t ∷ w) → D n (t ∷ w)) where
  pub stuck_tested : {d : ℕ} {f : Fault} {ts z : List Token} → D d [] → test ts ≡ true → Stuck C d f ts z → Stuck D d f ts z
  stuck_tested {d = d} {f = f} {ts = ts} {z = z} start h s = go s.word s.parts s.within s.deeper s.instead
    where
      first : (t : Token) (u : List Token) → ts ≡ t ∷ u → test (t ∷ []) ≡ true
      first t u e = one t [] u ∙ sym (ap test e) ∙ h

      go : (w : List Token) → ts ≡ w ++ z → C d w → (f ≡ nesting → Beyond C w z) → (f ≡ with_statement → Replaced C w z) → Stuck D d f ts z
      go [] p c deep with = record {
        word = [];
        parts = p;
        within = start;
        deeper = λ e. let x = deep e in record { token = x.token; rest = x.rest; parts = x.parts; limit = x.limit; is = to x.limit x.token [] (first x.token x.rest (p ∙ x.parts)) x.is };
        instead = λ e. let x = with e in
            record { token = x.token; rest = x.rest; parts = x.parts; is_with = x.is_with; limit = x.limit; is = to x.limit (debugger_for x.token) [] (swap x.token x.is_with (first x.token x.rest (p ∙ x.parts))) x.is };
      }
      go (t ∷ w) p c deep with = record {
        word = t ∷ w;
        parts = p;
        within = to d t w (first t (w ++ z) p) c;
        deeper = λ e. let x = deep e in record { token = x.token; rest = x.rest; parts = x.parts; limit = x.limit; is = to x.limit t (w ++ x.token ∷ []) (first t (w ++ z) p) x.is };
        instead = λ e. let x = with e in
            record { token = x.token; rest = x.rest; parts = x.parts; is_with = x.is_with; limit = x.limit; is = to x.limit t (w ++ debugger_for x.token ∷ []) (first t (w ++ z) p) x.is };
      }

module _ (d : ℕ) (sub : Parsers) (b : SoundBelow d sub) (c : StatementsSound d sub) (k : StuckBelow d sub) (l : LocalBelow true sub sub) (pos : 0 < d) where
  -- an expression of any level
  pub any_reader : (free : Bool) (ts : List Token) → Reader (expression_shape 0 free any_level) d ts (sub.expression 0 free ts)
  any_reader free ts = expression_reader b k 0 free any_level ts

  -- a statement of less depth
  pub statement_refused : (ts : List Token) → Fails (sub.statement ts) (λ f z. Stuck (Holds (statement_shape false)) d f ts z)
  statement_refused ts = fails-more (k.statement ts) (λ f z s. stuck_as (λ n w h. record { tree = h.tree; good = (h.valid, h.shallow, λ e. absurd cc); opens = h.opens }) s)

  -- ---- an expression in parentheses

  abbrev closed_expression : Shape
  closed_expression = seq (expression_shape 0 true any_level) (mark (a_sign sign.CloseParen) opens_close_paren)

  condition_refused : (ts : List Token) → Fails (condition sub ts) (λ f z. Stuck (Holds (then_shape (a_sign sign.OpenParen) opens_open_paren closed_expression)) d f ts z)
  unfolding condition
  condition_refused ts = fails-then is_open_paren _ paren_opens opens_open_paren closed_expression pos (λ m. fails-seq (expression_shape 0 true any_level) (mark (a_sign sign.CloseParen) opens_close_paren) pos (any_reader true m)
      (λ e g. fails-end is_close_paren _ opens_close_paren (λ rest. (e.0, rest)) pos))

  pub condition_reader : (ts : List Token) → Reader condition_shape d ts (condition sub ts)
  condition_reader ts = record {
    gives = gives-more (condition_sound d sub b c ts) (λ x f. ((f.valid, f.shallow), in_parens x.0 ts x.1 f.reads));
    fails = fails-more (condition_refused ts) (λ f z s. stuck_as (λ n w h. record { tree = h.tree.0; good = ((h.good.0).0, (h.good.0).1); opens = h.opens }) s);
  }

  -- ---- variables

  initialiser_refused : (free : Bool) (ts : List Token) → Fails (initialiser sub free ts) (λ f z. Stuck (Holds (initialiser_shape free)) d f ts z)
  unfolding initialiser initialiser_by
  initialiser_refused free ts = go (word_at ts) refl
    where
      go : (w : Option Word) → word_at ts ≡ w → Fails (initialiser_by sub free w ts) (λ f z. Stuck (Holds (initialiser_shape free)) d f ts z)
      go (Some (a_sign sign.Assign)) h =
          let t = takes (a_sign sign.Assign) ts h in
          fails-last _ (fails-more (k.expression 1 free (behind ts) above_comma) (λ f z s. stuck_behind t (λ n w x. record {
            tree = present x.tree;
            good = ((x.valid, reached_low 1 x.tree (omega arith) x.reaches), x.shallow, x.without_in);
            opens = opens_token (a_sign sign.Assign) (Reads x.tree) t.0 t.2 x.opens;
          }) s))
      go _ h = fails-ok

  -- a variable, behind a comma
  abbrev variable_shape : Bool → Shape
  variable_shape free = seq ident_shape (initialiser_shape free)

  variable_holds : (free : Bool) (n : ℕ) (w : List Token) → Holds (variable_shape free) n w → Holds (declarations_shape free) n w
  variable_holds free n w h = record { tree = one_declaration h.tree.0 h.tree.1; good = h.good.1; opens = h.opens }

  next_refused : (free : Bool) (ds : Declarations) (ts : List Token) → Fails (next_declaration sub free ds ts) (λ f z. Stuck (Holds (variable_shape free)) d f ts z)
  unfolding next_declaration
  next_refused free ds ts = fails-seq ident_shape (initialiser_shape free) pos (ident_reader ts pos) (λ i g. fails-last _ (initialiser_refused free i.1))

  -- variables with one more
  abbrev more_variables : (free : Bool) → Opens (sign_part sign.Comma) [] → Shape
  more_variables free o = seq (declarations_shape free) (then_shape (a_sign sign.Comma) o (variable_shape free))

  variables_hold : (free : Bool) (o : Opens (sign_part sign.Comma) []) (n : ℕ) (w : List Token) → Holds (more_variables free o) n w → Holds (declarations_shape free) n w
  variables_hold free o n w h =
      let ds = h.tree.0 in
      let e = one_declaration (h.tree.1).0 (h.tree.1).1 in
      let (v, lt, none) = h.good.0 in
      let (v', lt', none') = (h.good.1).1 in
      record {
        tree = joined_declarations ds e;
        good = (valid_declarations ds e v v', omega (arith, depth_joined_declarations ds e), λ q. no_in_joined ds e (none q) (none' q));
        opens = opens_map _ (λ ts z r. reads_declarations ds e ts r.0 r.2.0 z r.1 r.2.1 r.2.2) h.opens;
      }

  step_refused : (free : Bool) (start : List Token) (ds : Declarations) (ts : List Token) → FoundDeclarations d free ds start ts → Fails (declaration_step sub free ds ts) (λ f z. Stuck (Holds (declarations_shape free)) d f start z)
  unfolding declaration_step declaration_step_by
  step_refused free start ds ts so = go (word_at ts) refl
    where
      go : (w : Option Word) → word_at ts ≡ w → Fails (declaration_step_by sub free ds w ts) (λ f z. Stuck (Holds (declarations_shape free)) d f start z)
      go (Some (a_sign sign.Comma)) h =
          let t = takes (a_sign sign.Comma) ts h in
          let o = opens_one _ t.0 t.2 in
          fails-more (next_refused free ds (behind ts)) (λ f z s. stuck_as (variables_hold free o)
          (stuck_second (declarations_shape free) (then_shape (a_sign sign.Comma) o (variable_shape free)) ds (so.valid, so.shallow, so.without_in) (declarations_fixed ds start ts so.reads) (stuck_token (a_sign sign.Comma) o (variable_shape free) t s)))
      go _ h = fails-ok

  -- variables from behind the first name on
  pub declarations_from_refused : (free : Bool) (i : Ident) (start ts : List Token) → ReadsIdent i start ts → Fails (declarations_from sub free i ts) (λ f z. Stuck (Holds (declarations_shape free)) d f start z)
  unfolding declarations_from
  declarations_from_refused free i start ts r = fails-bind (initialiser_sound d sub b c free ts pos)
      (fails-more (initialiser_refused free ts) (λ f z s. stuck_as (variable_holds free) (stuck_second ident_shape (initialiser_shape free) i tt (ident_fixed i start ts r) s)))
      (λ e f. fails-loop (λ ds us. FoundDeclarations d free ds start us) (λ ds us. turn_shortens us _ (local_declaration_step l free ds us))
      (λ ds us es z so g. (declaration_step_sound d sub b c free start pos ds us so).is (again es, z) g) (step_refused free start)
      (one_declaration i e.0) e.1 (record { valid = f.valid; shallow = f.shallow; without_in = f.without_in; reads = (ts, r, f.reads) }))

  declarations_refused : (free : Bool) (ts : List Token) → Fails (declarations sub free ts) (λ f z. Stuck (Holds (declarations_shape free)) d f ts z)
  unfolding declarations
  declarations_refused free ts = fails-bind (gives-ident ts) (fails-taken (ident_at ts) ts (stuck_start (declarations_shape free) pos)) (λ i r. declarations_from_refused free i.0 ts i.1 r)

  pub declarations_reader : (free : Bool) (ts : List Token) → Reader (declarations_shape free) d ts (declarations sub free ts)
  declarations_reader free ts = record {
    gives = gives-more (declarations_sound d sub b c free ts pos) (λ x f. ((f.valid, f.shallow, f.without_in), declarations_fixed x.0 ts x.1 f.reads));
    fails = declarations_refused free ts;
  }

  -- ---- parts of the header of a `for`

  header_part_refused : (ts : List Token) → Fails (header_part sub ts) (λ f z. Stuck (Holds maybe_shape) d f ts z)
  unfolding header_part header_part_by
  header_part_refused ts = go (word_at ts)
    where
      go : (w : Option Word) → Fails (header_part_by sub w ts) (λ f z. Stuck (Holds maybe_shape) d f ts z)
      go (Some (a_sign sign.Semicolon)) = fails-ok
      go (Some (a_sign sign.CloseParen)) = fails-ok
      go _ = fails-last _ (fails-more (k.expression 0 true ts any_level) (λ f z s. stuck_as (λ n w h. record { tree = present h.tree; good = (h.valid, h.shallow); opens = h.opens }) s))

  pub header_part_reader : (ts : List Token) → Reader maybe_shape d ts (header_part sub ts)
  header_part_reader ts = record {
    gives = gives-more (header_part_sound d sub b c ts pos) (λ x f. ((f.valid, f.shallow), maybe_fixed x.0 ts x.1 f.reads));
    fails = header_part_refused ts;
  }
