-- Where a `for` statement is refused, the tokens before have a completion: one layer.
use Rattle.std.proofs.Common.{◌≡◌, ℕ, ◌<◌, true, false, List, [], ◌∷◌, Option, Some, Ok, refl, arith}
use Rattle.js_ast.specs.declared.token.Token.{Token}
use Rattle.js_ast.specs.declared.words.Keyword.TheVariants as key
use Rattle.js_ast.specs.declared.words.Sign.TheVariants as sign
use Rattle.js_ast.specs.Words.{Word, a_key, a_sign, word_of}
use Rattle.js_ast.specs.Trees.{Ident, Expr, absent, present, First, first_expr, first_var, Target, target_expr, target_var, Statement, for, for_in}
use Rattle.js_ast.specs.Levels.{is_target}
use Rattle.js_ast.specs.Grammar.{◌⨾◌, sign_part, key_part, parens, is_semicolon, ReadsIdent, Reads, ReadsMaybe, ReadsDeclarations, ReadsFirst, ReadsTarget, ReadsStatement}
use Rattle.js_list_parser.specs.Reading.{Fault, ◌>>=◌, word_at, behind, Parsers}
use Rattle.js_list_parser.specs.ExpressionParsing.{is_open_paren, is_close_paren, expect, ident_at}
use Rattle.js_list_parser.specs.StatementParsing.{for_steps, for_each, for_variable_by, for_variable, for_expression_by, for_expression, for_header_by, for_rest}
use Rattle.js_list_parser.proofs.Outcomes.{paren_closes, takes}
use Rattle.js_list_parser.proofs.Soundness.{SoundBelow, FoundExpression}
use Rattle.js_list_parser.proofs.StatementSound.{StatementsSound, inner, declarations_from_sound}
use Rattle.js_list_parser.proofs.Gives.{gives-open-paren, gives-ident, semicolons}
use Rattle.js_list_parser.proofs.Fronts.{first_fixed, target_fixed}
use Rattle.js_list_parser.proofs.LocalExpression.{LocalBelow}
use Rattle.js_list_parser.proofs.Viable.{opens_map, opens_token, opens_open_paren, opens_close_paren, opens_semicolon, Stuck, StuckBelow, stuck_here, stuck_as, Fails, fails-err, fails-more, fails-bind, fails-last, fails-cond, fails-expect, fails-taken}
use Rattle.js_list_parser.proofs.Shapes.{Shape, Holds, holds_start, then_shape, seq, stuck_start, stuck_token, stuck_first, stuck_second, fails-seq, fails-then, expression_shape}
use Rattle.js_list_parser.proofs.StatementShapes.{opens_in, maybe_shape, statement_shape, declarations_shape, first_shape, target_shape}
use Rattle.js_list_parser.proofs.StatementRefused.{any_level, stuck_behind, any_reader, statement_refused, declarations_from_refused, header_part_reader}
use Rattle.js_list_parser.proofs.BranchRefused.{Behind, opens_key}

-- ---- shapes

-- what is behind the parenthesis that closes the header
abbrev body_shape : Shape
body_shape = then_shape (a_sign sign.CloseParen) opens_close_paren (statement_shape false)

-- from the second semicolon on, and from the first
abbrev step_shape : Shape
step_shape = then_shape (a_sign sign.Semicolon) opens_semicolon (seq maybe_shape body_shape)

abbrev steps_shape : Shape
steps_shape = then_shape (a_sign sign.Semicolon) opens_semicolon (seq maybe_shape step_shape)

-- ECMA-262 12.6.3, behind the parenthesis
abbrev pub for_shape : Shape
for_shape = seq first_shape steps_shape

-- from the word `in` on
abbrev in_shape : Shape
in_shape = then_shape (a_key key.In) opens_in (seq (expression_shape 0 true any_level) body_shape)

-- ECMA-262 12.6.4, behind the parenthesis
abbrev each_shape : Shape
each_shape = seq target_shape in_shape

-- `for` before them, with the parenthesis
abbrev in_parenthesis : Shape → Shape
in_parenthesis s = then_shape (a_sign sign.OpenParen) opens_open_paren s

for_whole : (t : Token) → word_of t ≡ a_key key.For → (n : ℕ) (w : List Token) → Holds (in_parenthesis for_shape) n w → Behind t n w
for_whole t is n w h =
    let (first, (test, (step, s))) = h.tree in
    let (v1, lt1, none) = h.good.0 in
    let (v2, lt2) = (h.good.1).0 in
    let (v3, lt3) = ((h.good.1).1).0 in
    let (v4, lt4, k) = ((h.good.1).1).1 in
    record {
      tree = for t.from first test step s;
      valid = (v1, none, v2, v3, v4);
      shallow = omega arith;
      opens = opens_key t (a_key key.For) _ is (opens_map (parens (ReadsFirst first ⨾ (sign_part sign.Semicolon ⨾ (ReadsMaybe test ⨾ (sign_part sign.Semicolon ⨾ ReadsMaybe step)))) ⨾ ReadsStatement s)
          (λ ts z r. let (m0, o, (m1, f, (m2, s1, (m3, e, (m4, s2, (m5, g, (m6, q, x))))))) = r in (m6, (m0, o, (m5, (m1, f, (m2, s1, (m3, e, (m4, s2, g)))), q)), x))
          h.opens);
    }

each_whole : (t : Token) → word_of t ≡ a_key key.For → (n : ℕ) (w : List Token) → Holds (in_parenthesis each_shape) n w → Behind t n w
each_whole t is n w h =
    let (target, (e, s)) = h.tree in
    let (v1, lt1) = h.good.0 in
    let (v2, lt2, x2, y2) = (h.good.1).0 in
    let (v3, lt3, k) = (h.good.1).1 in
    record {
      tree = for_in t.from target e s;
      valid = (v1, v2, v3);
      shallow = omega arith;
      opens = opens_key t (a_key key.For) _ is (opens_map (parens (ReadsTarget target ⨾ (key_part key.In ⨾ Reads e)) ⨾ ReadsStatement s)
          (λ ts z r. let (m0, o, (m1, f, (m2, i, (m3, g, (m4, q, x))))) = r in (m4, (m0, o, (m3, (m1, f, (m2, i, g)), q)), x))
          h.opens);
    }

-- behind the parenthesis
paren_holds : (s : Shape) (p : Token) → word_of p ≡ a_sign sign.OpenParen → (n : ℕ) (w : List Token) → Holds s n w → Holds (in_parenthesis s) n (p ∷ w)
paren_holds s p is n w h = record { tree = h.tree; good = h.good; opens = opens_token (a_sign sign.OpenParen) (s.part h.tree) p is h.opens }

for_holds : (t p : Token) → word_of t ≡ a_key key.For → word_of p ≡ a_sign sign.OpenParen → (n : ℕ) (w : List Token) → Holds for_shape n w → Behind t n (p ∷ w)
for_holds t p is pis n w h = for_whole t is n (p ∷ w) (paren_holds for_shape p pis n w h)

each_holds : (t p : Token) → word_of t ≡ a_key key.For → word_of p ≡ a_sign sign.OpenParen → (n : ℕ) (w : List Token) → Holds each_shape n w → Behind t n (p ∷ w)
each_holds t p is pis n w h = each_whole t is n (p ∷ w) (paren_holds each_shape p pis n w h)

-- nothing is read yet
pub for_starts : (t : Token) → word_of t ≡ a_key key.For → (n : ℕ) → 0 < n → Behind t n []
for_starts t is n lt = for_whole t is n [] (holds_start (in_parenthesis for_shape) n lt)

-- variables as the first part
variables_first : (t : Token) → word_of t ≡ a_key key.Var → (n : ℕ) (w : List Token) → Holds (declarations_shape false) n w → Holds first_shape n (t ∷ w)
variables_first t is n w h = let (v, lt, none) = h.good in record { tree = first_var h.tree; good = (v, lt, none refl); opens = opens_token (a_key key.Var) (ReadsDeclarations h.tree) t is h.opens }

-- ---- one layer

module _ (d : ℕ) (sub : Parsers) (b : SoundBelow d sub) (c : StatementsSound d sub) (k : StuckBelow d sub) (l : LocalBelow true sub sub) (pos : 0 < d) where
  -- the body
  body_refused : {B : Type 0} (ts : List Token) (f : Statement × List Token → B) → Fails (expect is_close_paren ts >>= λ rest. sub.statement rest >>= λ s. Ok (f s)) (λ f z. Stuck (Holds body_shape) d f ts z)
  body_refused ts f = fails-then is_close_paren _ paren_closes opens_close_paren (statement_shape false) pos (λ rest. fails-last f (statement_refused d sub b c k l pos rest))

  -- from the first semicolon on
  steps_refused : (at : ℕ) (first : First) (ts : List Token) → Fails (for_steps sub at first ts) (λ f z. Stuck (Holds steps_shape) d f ts z)
  unfolding for_steps
  steps_refused at first ts =
      fails-then is_semicolon _ semicolons opens_semicolon (seq maybe_shape step_shape) pos (λ second. fails-seq maybe_shape step_shape pos (header_part_reader d sub b c k l pos second) (λ test g.
      fails-then is_semicolon _ semicolons opens_semicolon (seq maybe_shape body_shape) pos (λ third. fails-seq maybe_shape body_shape pos (header_part_reader d sub b c k l pos third) (λ step h. body_refused step.1 _))))

  -- behind the word `in`
  in_refused : (at : ℕ) (target : Target) (ts : List Token) → Fails (for_each sub at target ts) (λ f z. Stuck (Holds (seq (expression_shape 0 true any_level) body_shape)) d f ts z)
  unfolding for_each
  in_refused at target ts = fails-seq (expression_shape 0 true any_level) body_shape pos (any_reader d sub b c k l pos true ts) (λ e g. body_refused e.1 _)

  module _ (t p : Token) (is : word_of t ≡ a_key key.For) (pis : word_of p ≡ a_sign sign.OpenParen) (m : List Token) where
    -- what completes the tokens behind the parenthesis
    abbrev Inside : ℕ → List Token → Type 0
    Inside n w = Behind t n (p ∷ w)

    -- the first part is known
    after_first : (first : First) (ts : List Token) → first_shape.Good d first → ReadsFirst first m ts → Fails (for_steps sub t.from first ts) (λ f z. Stuck Inside d f m z)
    after_first first ts g r = fails-more (steps_refused t.from first ts) (λ f z s. stuck_as (for_holds t p is pis) (stuck_second first_shape steps_shape first g (first_fixed first m ts r) s))

    -- it is refused
    in_first : {f : Fault} {z : List Token} → Stuck (Holds first_shape) d f m z → Stuck Inside d f m z
    in_first s = stuck_as (for_holds t p is pis) (stuck_first first_shape steps_shape pos s)

    -- the target of a `for in` is known
    after_target : (target : Target) (ts : List Token) → target_shape.Good d target → ReadsTarget target m ts → word_at ts ≡ Some (a_key key.In) → Fails (for_each sub t.from target (behind ts)) (λ f z. Stuck Inside d f m z)
    after_target target ts g r h = fails-more (in_refused t.from target (behind ts)) (λ f z s. stuck_as (each_holds t p is pis) (stuck_second target_shape in_shape target g (target_fixed target m ts r)
        (stuck_token (a_key key.In) opens_in (seq (expression_shape 0 true any_level) body_shape) (takes (a_key key.In) ts h) s)))

    -- behind `var`
    variable_refused : (v : List Token) → key_part key.Var m v → Fails (for_variable sub t.from v) (λ f z. Stuck Inside d f m z)
    unfolding for_variable for_variable_by
    variable_refused v q = fails-bind (gives-ident v) (fails-taken (ident_at v) v (in_first (stuck_behind q (variables_first q.0 q.2) (stuck_start (declarations_shape false) pos)))) (λ i r. go i.0 i.1 r (word_at i.1) refl)
      where
        go : (i : Ident) (ts : List Token) → ReadsIdent i v ts → (w : Option Word) → word_at ts ≡ w → Fails (for_variable_by sub t.from i w ts) (λ f z. Stuck Inside d f m z)
        go i ts r (Some (a_key key.In)) h = after_target (target_var i) ts (tt, pos) (v, q, r) h
        go i ts r _ h = fails-bind (declarations_from_sound d sub b c false i v ts pos r)
            (fails-more (declarations_from_refused d sub b c k l pos false i v ts r) (λ f z s. in_first (stuck_behind q (variables_first q.0 q.2) s)))
            (λ ds f. after_first (first_var ds.0) ds.1 (f.valid, f.shallow, f.without_in refl) (v, q, f.reads))

    -- an expression first
    expression_refused : Fails (for_expression sub t.from m) (λ f z. Stuck Inside d f m z)
    unfolding for_expression for_expression_by
    expression_refused = fails-bind (inner d sub b c 0 false any_level m)
        (fails-more (k.expression 0 false m any_level) (λ f z s. in_first (stuck_as (λ n w h. record { tree = first_expr (present h.tree); good = (h.valid, h.shallow, h.without_in refl); opens = h.opens }) s)))
        (λ e f. go e.0 e.1 f (word_at e.1) refl)
      where
        go : (e : Expr) (ts : List Token) → FoundExpression d 0 false e m ts → (w : Option Word) → word_at ts ≡ w → Fails (for_expression_by sub t.from e w ts) (λ f z. Stuck Inside d f m z)
        go e ts f (Some (a_key key.In)) h = fails-cond (is_target e) (λ g. after_target (target_expr e) ts ((f.valid, g), f.shallow) f.reads h)
            (λ g. fails-err (stuck_as (for_holds t p is pis) (stuck_second first_shape steps_shape (first_expr (present e)) (f.valid, f.shallow, f.without_in refl) (first_fixed (first_expr (present e)) m ts f.reads) (stuck_start steps_shape pos))))
        go e ts f _ h = after_first (first_expr (present e)) ts (f.valid, f.shallow, f.without_in refl) f.reads

    header_refused : (w : Option Word) → word_at m ≡ w → Fails (for_header_by sub t.from w m) (λ f z. Stuck Inside d f m z)
    unfolding for_header_by
    header_refused (Some (a_sign sign.Semicolon)) h = after_first (first_expr absent) m (tt, pos, refl) refl
    header_refused (Some (a_key key.Var)) h = variable_refused (behind m) (takes (a_key key.Var) m h)
    header_refused _ h = expression_refused

  -- behind the word `for`
  pub for_refused : (t : Token) → word_of t ≡ a_key key.For → (ts : List Token) → Fails (for_rest sub t.from ts) (λ f z. Stuck (Behind t) d f ts z)
  unfolding for_rest
  for_refused t is ts = fails-bind (gives-open-paren ts) (fails-expect is_open_paren ts (stuck_here [] refl (for_starts t is d pos))) (λ m o. fails-more (header_refused t o.0 is o.2 m (word_at m) refl) (λ f z s. stuck_behind o (λ n w h. h) s))
