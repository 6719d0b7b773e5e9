-- Where a statement with a word of its own is refused behind that word, the tokens before have a completion: one layer.
use Rattle.std.proofs.Common.{◌≡◌, ℕ, suc, ◌<◌, max, Bool, true, false, ◌||◌, List, [], ◌∷◌, ◌++◌, Option, Some, None, Ok, refl, sym, ap, ◌∙◌, append_assoc, arith}
use Rattle.js_ast.specs.declared.token.Token.{Token}
use Rattle.js_ast.specs.declared.words.Keyword.TheVariants as key
use Rattle.js_ast.specs.declared.words.Sign.TheVariants as sign
use Rattle.js_ast.specs.Words.{Word, a_key, a_sign, word_of}
use Rattle.js_ast.specs.Trees.{Ident, Semi, written, Expr, present, Statement, var, if_then, if_else, do_while, while, continue, break, return, throw, debugger}
use Rattle.js_ast.specs.Grammar.{Part, ◌⨾◌, At, Takes, on_line, may_elide, ReadsStatement}
use Rattle.js_ast.specs.Validity.{open_if}
use Rattle.js_list_parser.specs.Reading.{Fault, syntax, Read, ◌>>=◌, word_at, behind, room, Parsers}
use Rattle.js_list_parser.specs.ExpressionParsing.{ident_at}
use Rattle.js_list_parser.specs.StatementParsing.{is_while, semicolon_here, ending, condition, var_rest, else_by, if_rest, do_rest, while_rest, label_by, label, continue_rest, break_rest, return_value, return_nothing, return_rest, throw_value, throw_rest, debugger_rest}
use Rattle.js_list_parser.proofs.Outcomes.{takes}
use Rattle.js_list_parser.proofs.Soundness.{SoundBelow}
use Rattle.js_list_parser.proofs.StatementSound.{FoundStatement, StatementsSound, part, shuts, on_the_line}
use Rattle.js_list_parser.proofs.Lengths.{expr_shortens}
use Rattle.js_list_parser.proofs.Gives.{gives-more, gives-while, gives-label}
use Rattle.js_list_parser.proofs.Fronts.{Front, SameEnd, first_of, line_front, label_fixed, expr_fixed, statement_loose}
use Rattle.js_list_parser.proofs.LocalExpression.{LocalBelow}
use Rattle.js_list_parser.proofs.Closed.{closed, closed_valid, closed_depth, closed_open, closes_statement}
use Rattle.js_list_parser.proofs.Viable.{Opens, opens_start, opens_token, opens_loose, opens_at, opens_semicolon, Completes, CompletesStatement, Stuck, StuckBelow, stuck_here, stuck_deep, stuck_round, stuck_as, Fails, fails-ok, fails-err, fails-more, fails-bind, fails-last, fails-cond, fails-room, fails-expect}
use Rattle.js_list_parser.proofs.Shapes.{Shape, Holds, holds_start, holds_more, mark, then_shape, seq, stuck_start, stuck_first, stuck_second, Reader, fails-seq}
use Rattle.js_list_parser.proofs.StatementShapes.{plain_statement, opens_statement, opens_while, opens_else, condition_shape, value_shape, label_shape, statement_shape, declarations_shape}
use Rattle.js_list_parser.proofs.StatementRefused.{any_level, fails-ending, stuck_tested, statement_refused, condition_reader, declarations_reader}

-- ---- statements by their first token

-- what completes the tokens behind the first one
abbrev pub Behind : Token → ℕ → List Token → Type 0
Behind t n w = CompletesStatement (suc n) (t ∷ w)

-- nothing is read yet
pub statement_starts : (n : ℕ) → 0 < n → CompletesStatement n []
statement_starts n lt = record { tree = plain_statement; valid = tt; shallow = lt; opens = opens_statement }

-- what begins with a token, for which there is room or not
pub node_refused : {A : Type 0} (D : ℕ → List Token → Type 0) (t : Token) (least d : ℕ) (ts : List Token) {r : Read A} → D (suc d) [] → ((n : ℕ) → least < n → D (suc n) (t ∷ [])) → (least < d → Fails r (λ f z. Stuck (λ n w. D (suc n) (t ∷ w)) d f ts z))
    → Fails (room d least (t ∷ ts) r) (λ f z. Stuck D (suc d) f (t ∷ ts) z)
node_refused D t least d ts nothing start h = fails-room d least (t ∷ ts)
    (λ le. stuck_deep [] refl nothing (record { token = t; rest = ts; parts = refl; limit = suc (suc least); is = start (suc least) (omega arith) }))
    (λ lt. fails-more (h lt) (λ f z s. stuck_round (t ∷ []) refl (λ w x. x) (λ n w x. (suc n, x)) s))

-- what is behind a word completes the statement
pub opens_key : (t : Token) (w : Word) (p : Part) {word : List Token} → word_of t ≡ w → Opens p word → Opens (At t.from (Takes w ⨾ p)) (t ∷ word)
opens_key t w p is o = opens_at (Takes w ⨾ p) t (opens_token w p t is o)

-- ---- a statement before a token

module _ (shut : Bool) (w : Word) (o : Opens (Takes w) []) (q : Shape) where
  abbrev before : Shape
  before = seq (statement_shape shut) (then_shape w o q)

  -- the token is to come: the statement's twin is closed
  pub stuck_closed : {d : ℕ} {s : Statement} {ts m : List Token} → FoundStatement d false s ts m → (shut ≡ true → open_if s ≡ false) → q.least < d → Stuck (Holds before) d syntax ts m
  stuck_closed {d = d} {s = s} {ts = ts} {m = m} f off lt =
      let c = closes_statement s ts m f.reads in
      let y = q.start d lt in
      stuck_here c.word c.parts (record {
        tree = (closed s, y.0);
        good = ((closed_valid false s f.valid, rw (closed_depth s) f.shallow, λ e. rw (closed_open s) (off e)), y.1);
        opens = opens_start (ReadsStatement (closed s)) (Takes w ⨾ q.part y.0) c.opens (opens_start (Takes w) (q.part y.0) o y.2);
      })

-- the token is taken, behind a tree that hangs on it
pub stuck_loose : (s : Shape) (w : Word) (o : Opens (Takes w) []) (q : Shape) (a : s.Tree) {d : ℕ} {f : Fault} {ts m n z : List Token} → s.Good d a → Front SameEnd ts m (s.part a) → Takes w m n → Stuck (Holds q) d f n z
    → Stuck (Holds (seq s (then_shape w o q))) d f ts z
stuck_loose s w o q a {d = d} {ts = ts} {n = n} g front t c =
    let here : ts ≡ (front.word ++ t.0 ∷ []) ++ n = front.parts ∙ ap (λ (x : List Token). front.word ++ x) t.1 ∙ sym (append_assoc front.word (t.0 ∷ []) n) in
    let round : (l : ℕ) (u : List Token) → s.Good l a → Holds q l u → Holds (seq s (then_shape w o q)) l ((front.word ++ t.0 ∷ []) ++ u) = λ l u k h. record {
      tree = (a, h.tree);
      good = (k, h.good);
      opens = rw append_assoc (opens_loose (s.part a) (Takes w ⨾ q.part h.tree) t.0 front (ap first_of t.1) (opens_token w (q.part h.tree) t.0 t.2 h.opens));
    } in
    stuck_round (front.word ++ t.0 ∷ []) here (λ u h. round d u g h) (λ l u h. let big = max d l in (big, round big u (s.grows d big a (omega arith) g) (holds_more q l big u (omega arith) h))) c

-- the same behind a statement
stuck_after : (shut : Bool) (w : Word) (o : Opens (Takes w) []) (q : Shape) {d : ℕ} {f : Fault} {s : Statement} {ts m n z : List Token} → FoundStatement d false s ts m → (shut ≡ true → open_if s ≡ false) → Takes w m n → Stuck (Holds q) d f n z
    → Stuck (Holds (seq (statement_shape shut) (then_shape w o q))) d f ts z
stuck_after shut w o q {s = s} {ts = ts} {m = m} k off t c = stuck_loose (statement_shape shut) w o q s (k.valid, k.shallow, off) (statement_loose s ts m k.reads) t c

-- ---- what completes them

abbrev pub semicolon : Shape
semicolon = mark (a_sign sign.Semicolon) opens_semicolon

-- ECMA-262 12.2
abbrev pub var_shape : Shape
var_shape = seq (declarations_shape true) semicolon

pub var_holds : (t : Token) → word_of t ≡ a_key key.Var → (n : ℕ) (w : List Token) → Holds var_shape n w → Behind t n w
var_holds t is n w h = let lt = (h.good.0).1 in record { tree = var t.from h.tree.0 written; valid = (h.good.0).0; shallow = omega arith; opens = opens_key t (a_key key.Var) _ is h.opens }

-- ECMA-262 12.5
abbrev pub if_shape : Shape
if_shape = seq condition_shape (statement_shape false)

pub if_holds : (t : Token) → word_of t ≡ a_key key.If → (n : ℕ) (w : List Token) → Holds if_shape n w → Behind t n w
if_holds t is n w h =
    let (v, lt) = h.good.0 in
    let (x, gt, k) = h.good.1 in
    record { tree = if_then t.from h.tree.0 h.tree.1; valid = (v, x); shallow = omega arith; opens = opens_key t (a_key key.If) _ is h.opens }

abbrev else_shape : Shape
else_shape = seq condition_shape (seq (statement_shape true) (then_shape (a_key key.Else) opens_else (statement_shape false)))

else_holds : (t : Token) → word_of t ≡ a_key key.If → (n : ℕ) (w : List Token) → Holds else_shape n w → Behind t n w
else_holds t is n w h =
    let (v, lt) = h.good.0 in
    let (x, gt, off) = (h.good.1).0 in
    let (y, less, k) = (h.good.1).1 in
    record { tree = if_else t.from h.tree.0 (h.tree.1).0 (h.tree.1).1; valid = (v, x, off refl, y); shallow = omega arith; opens = opens_key t (a_key key.If) _ is h.opens }

-- ECMA-262 12.6.1
abbrev do_end : Shape
do_end = seq condition_shape semicolon

abbrev pub do_shape : Shape
do_shape = seq (statement_shape false) (then_shape (a_key key.While) opens_while do_end)

pub do_holds : (t : Token) → word_of t ≡ a_key key.Do → (n : ℕ) (w : List Token) → Holds do_shape n w → Behind t n w
do_holds t is n w h =
    let (v, lt, k) = h.good.0 in
    let (x, gt) = (h.good.1).0 in
    record { tree = do_while t.from h.tree.0 ((h.tree.1).0) written; valid = (v, x); shallow = omega arith; opens = opens_key t (a_key key.Do) _ is h.opens }

-- ECMA-262 12.6.2
pub while_holds : (t : Token) → word_of t ≡ a_key key.While → (n : ℕ) (w : List Token) → Holds if_shape n w → Behind t n w
while_holds t is n w h =
    let (v, lt) = h.good.0 in
    let (x, gt, k) = h.good.1 in
    record { tree = while t.from h.tree.0 h.tree.1; valid = (v, x); shallow = omega arith; opens = opens_key t (a_key key.While) _ is h.opens }

-- ECMA-262 12.7, 12.8
abbrev pub jump_shape : Shape
jump_shape = seq label_shape semicolon

pub continue_holds : (t : Token) → word_of t ≡ a_key key.Continue → (n : ℕ) (w : List Token) → Holds jump_shape n w → Behind t n w
continue_holds t is n w h = let lt = h.good.0 in record { tree = continue t.from h.tree.0 written; valid = tt; shallow = omega arith; opens = opens_key t (a_key key.Continue) _ is h.opens }

pub break_holds : (t : Token) → word_of t ≡ a_key key.Break → (n : ℕ) (w : List Token) → Holds jump_shape n w → Behind t n w
break_holds t is n w h = let lt = h.good.0 in record { tree = break t.from h.tree.0 written; valid = tt; shallow = omega arith; opens = opens_key t (a_key key.Break) _ is h.opens }

-- ECMA-262 12.9, 12.13
abbrev pub thrown_shape : Shape
thrown_shape = seq value_shape semicolon

pub return_holds : (t : Token) → word_of t ≡ a_key key.Return → (n : ℕ) (w : List Token) → Holds thrown_shape n w → Behind t n w
return_holds t is n w h = let (v, lt) = h.good.0 in record { tree = return t.from (present h.tree.0) written; valid = v; shallow = omega arith; opens = opens_key t (a_key key.Return) _ is h.opens }

pub throw_holds : (t : Token) → word_of t ≡ a_key key.Throw → (n : ℕ) (w : List Token) → Holds thrown_shape n w → Behind t n w
throw_holds t is n w h = let (v, lt) = h.good.0 in record { tree = throw t.from h.tree.0 written; valid = v; shallow = omega arith; opens = opens_key t (a_key key.Throw) _ is h.opens }

-- ECMA-262 12.15
pub debugger_holds : (t : Token) → word_of t ≡ a_key key.Debugger → (n : ℕ) (w : List Token) → 0 < n → Holds semicolon n w → Behind t n w
debugger_holds t is n w lt h = record { tree = debugger t.from written; valid = tt; shallow = omega arith; opens = opens_key t (a_key key.Debugger) _ is h.opens }

-- ---- one layer

-- a label is never refused
label_stands : (ts : List Token) {Q : Fault → List Token → Type 0} → Fails (label ts) Q
unfolding label label_by
label_stands ts {Q} = go (on_line ts) (ident_at ts)
  where
    go : (line : Bool) (i : Option Ident) → Fails (label_by line i ts) Q
    go true (Some i) = fails-ok
    go true None = fails-ok
    go false i = fails-ok

module _ (d : ℕ) (sub : Parsers) (b : SoundBelow d sub) (c : StatementsSound d sub) (k : StuckBelow d sub) (l : LocalBelow true sub sub) (pos : 0 < d) where
  -- what ends a statement is refused
  end_refused : {A : Type 0} (before : Option Expr) (ts : List Token) (f : Semi × List Token → A) → Fails (ending before ts >>= λ n. Ok (f n)) (λ f z. Stuck (Holds semicolon) d f ts z)
  end_refused before ts f = fails-last f (fails-ending before ts (stuck_start semicolon pos))

  pub var_refused : (t : Token) → word_of t ≡ a_key key.Var → (ts : List Token) → Fails (var_rest sub t.from ts) (λ f z. Stuck (Behind t) d f ts z)
  unfolding var_rest
  var_refused t is ts = fails-more (fails-seq (declarations_shape true) semicolon pos (declarations_reader d sub b c k l pos true ts) (λ ds g. end_refused _ ds.1 _)) (λ f z s. stuck_as (var_holds t is) s)

  condition_read : (ts : List Token) → Reader condition_shape d ts (condition sub ts)
  condition_read = condition_reader d sub b c k l pos

  statement_stuck : (ts : List Token) → Fails (sub.statement ts) (λ f z. Stuck (Holds (statement_shape false)) d f ts z)
  statement_stuck = statement_refused d sub b c k l pos

  pub while_refused : (t : Token) → word_of t ≡ a_key key.While → (ts : List Token) → Fails (while_rest sub t.from ts) (λ f z. Stuck (Behind t) d f ts z)
  unfolding while_rest
  while_refused t is ts = fails-more (fails-seq condition_shape (statement_shape false) pos (condition_read ts) (λ e g. fails-last _ (statement_stuck e.1))) (λ f z s. stuck_as (while_holds t is) s)

  -- behind the statement of an `if`
  else_refused : (e : Expr) (s : Statement) (m z : List Token) (at : ℕ) → FoundStatement d false s m z → Fails (else_by sub at e s (word_at z) z) (λ f y. Stuck (Holds (seq (statement_shape true) (then_shape (a_key key.Else) opens_else (statement_shape false)))) d f m y)
  unfolding else_by
  else_refused e s m z at k = go (word_at z) refl
    where
      go : (w : Option Word) → word_at z ≡ w → Fails (else_by sub at e s w z) (λ f y. Stuck (Holds (seq (statement_shape true) (then_shape (a_key key.Else) opens_else (statement_shape false)))) d f m y)
      go (Some (a_key key.Else)) h = fails-last _ (fails-more (statement_stuck (behind z)) (λ f y x. stuck_after true _ opens_else (statement_shape false) k (λ e. shuts (open_if s) z k.shut h) (takes (a_key key.Else) z h) x))
      go _ h = fails-ok

  pub if_refused : (t : Token) → word_of t ≡ a_key key.If → (ts : List Token) → Fails (if_rest sub t.from ts) (λ f z. Stuck (Behind t) d f ts z)
  unfolding if_rest
  if_refused t is ts =
      let r = condition_read ts in
      fails-bind r.gives (fails-more r.fails (λ f z s. stuck_as (if_holds t is) (stuck_first condition_shape (statement_shape false) pos s)))
      (λ e g. fails-bind (part d sub b c e.1) (fails-more (statement_stuck e.1) (λ f z s. stuck_as (if_holds t is) (stuck_second condition_shape (statement_shape false) e.0 g.0 g.1 s)))
      (λ s h. fails-more (else_refused e.0 s.0 e.1 s.1 t.from h) (λ f z x. stuck_as (else_holds t is) (stuck_second condition_shape (seq (statement_shape true) (then_shape (a_key key.Else) opens_else (statement_shape false))) e.0 g.0 g.1 x))))

  pub do_refused : (t : Token) → word_of t ≡ a_key key.Do → (ts : List Token) → Fails (do_rest sub t.from ts) (λ f z. Stuck (Behind t) d f ts z)
  unfolding do_rest
  do_refused t is ts = fails-more whole (λ f z s. stuck_as (do_holds t is) s)
    where
      whole : Fails (do_rest sub t.from ts) (λ f z. Stuck (Holds do_shape) d f ts z)
      whole = fails-bind (part d sub b c ts) (fails-more (statement_stuck ts) (λ f z s. stuck_first (statement_shape false) (then_shape (a_key key.While) opens_while do_end) pos s))
          (λ s h. fails-bind (gives-while s.1) (fails-expect is_while s.1 (stuck_closed false (a_key key.While) opens_while do_end h (λ e. absurd cc) pos))
          (λ m w. fails-more (fails-seq condition_shape semicolon pos (condition_read m) (λ e g. end_refused None e.1 _)) (λ f z x. stuck_after false (a_key key.While) opens_while do_end h (λ e. absurd cc) w x)))

  -- ---- jumps

  label_reader : (ts : List Token) → Reader label_shape d ts (label ts)
  label_reader ts = record { gives = gives-more (gives-label ts) (λ x r. (pos, label_fixed x.0 ts x.1 r)); fails = label_stands ts }

  pub continue_refused : (t : Token) → word_of t ≡ a_key key.Continue → (ts : List Token) → Fails (continue_rest t.from ts) (λ f z. Stuck (Behind t) d f ts z)
  unfolding continue_rest
  continue_refused t is ts = fails-more (fails-seq label_shape semicolon pos (label_reader ts) (λ i g. end_refused None i.1 _)) (λ f z s. stuck_as (continue_holds t is) s)

  pub break_refused : (t : Token) → word_of t ≡ a_key key.Break → (ts : List Token) → Fails (break_rest t.from ts) (λ f z. Stuck (Behind t) d f ts z)
  unfolding break_rest
  break_refused t is ts = fails-more (fails-seq label_shape semicolon pos (label_reader ts) (λ i g. end_refused None i.1 _)) (λ f z s. stuck_as (break_holds t is) s)

  pub debugger_refused : (t : Token) → word_of t ≡ a_key key.Debugger → (ts : List Token) → Fails (debugger_rest t.from ts) (λ f z. Stuck (Behind t) d f ts z)
  unfolding debugger_rest
  debugger_refused t is ts = fails-last _ (fails-ending None ts (stuck_here [] refl (debugger_holds t is d [] pos (holds_start semicolon d pos))))

  -- a value on the line
  value_holds : (n : ℕ) (t : Token) (w : List Token) → on_line (t ∷ []) ≡ true → Completes 0 true n (t ∷ w) → Holds value_shape n (t ∷ w)
  value_holds n t w h x = record { tree = x.tree; good = (x.valid, x.shallow); opens = record { each = λ y. let r = (x.opens).each y in (r.0, (h, r.1)) } }

  value_reader : (ts : List Token) → on_line ts ≡ true → Reader value_shape d ts (sub.expression 0 true ts)
  value_reader ts on = record {
    gives = record { is = λ x e. let f = b.expression 0 true ts x.0 x.1 any_level e in ((f.valid, f.shallow), line_front _ (expr_shortens x.0) (expr_fixed x.0) ts x.1 (on, f.reads)) };
    fails = fails-more (k.expression 0 true ts any_level) (λ f z s. stuck_tested on_line (λ t u v. refl) (λ t i e. e) value_holds (holds_start value_shape d pos) on s);
  }

  pub return_refused : (t : Token) → word_of t ≡ a_key key.Return → (ts : List Token) → Fails (return_rest sub t.from ts) (λ f z. Stuck (Behind t) d f ts z)
  unfolding return_rest return_nothing return_value
  return_refused t is ts = fails-more (fails-cond (semicolon_here ts || may_elide None ts) (λ h. fails-last _ (fails-ending None ts (stuck_start thrown_shape pos)))
      (λ h. fails-seq value_shape semicolon pos (value_reader ts (on_the_line ts h)) (λ e g. end_refused _ e.1 _))) (λ f z s. stuck_as (return_holds t is) s)

  pub throw_refused : (t : Token) → word_of t ≡ a_key key.Throw → (ts : List Token) → Fails (throw_rest sub t.from ts) (λ f z. Stuck (Behind t) d f ts z)
  unfolding throw_rest throw_value
  throw_refused t is ts = fails-more (fails-cond (on_line ts) (λ h. fails-seq value_shape semicolon pos (value_reader ts h) (λ e g. end_refused _ e.1 _)) (λ h. fails-err (stuck_start thrown_shape pos))) (λ f z s. stuck_as (throw_holds t is) s)
