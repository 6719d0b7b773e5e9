-- Shapes: trees with their part of the grammar, so that what completes a part completes the parts round it, whatever their node is.
use Rattle.std.proofs.Common.{◌≡◌, ℕ, suc, ◌<◌, ◌≤◌, max, inl, Bool, true, false, List, [], ◌∷◌, ◌++◌, Result, Ok, codes, refl, arith}
use Rattle.js_ast.specs.declared.token.Token.{Token}
use Rattle.js_ast.specs.Words.{Word}
use Rattle.js_ast.specs.Trees.{Ident, Expr, name}
use Rattle.js_ast.specs.Grammar.{Part, ◌⨾◌, Takes, ReadsIdent, Reads}
use Rattle.js_ast.specs.Validity.{no_in, Valid}
use Rattle.js_ast.specs.Depth.{depth}
use Rattle.js_list_parser.specs.Reading.{Fault, syntax, Refusal, Read, ◌>>=◌, Parsers}
use Rattle.js_list_parser.specs.ExpressionParsing.{expect, taken, ident_at, Reaches}
use Rattle.js_list_parser.proofs.Outcomes.{expect_sound, ident_sound}
use Rattle.js_list_parser.proofs.Soundness.{SoundBelow}
use Rattle.js_list_parser.proofs.Gives.{Gives}
use Rattle.js_list_parser.proofs.Fronts.{Front, Any, expr_fixed, ident_fixed}
use Rattle.js_list_parser.proofs.Viable.{Opens, opens_start, opens_token, opens_front, opens_ident, opens_expression, ident_a, Completes, Stuck, StuckBelow, stuck_here, stuck_round, stuck_as, Fails, fails-more, fails-bind, fails-last, fails-expect, fails-taken}

-- Trees that are good within a number, with their part of the grammar. More is good within a larger number, and above a least number one is there
-- before anything is read.
pub record Shape : Type 1 where
  pub Tree : Type 0
  pub Good : ℕ → Tree → Type 0
  pub part : Tree → Part
  pub least : ℕ
  pub grows : (l n : ℕ) (t : Tree) → l ≤ n → Good l t → Good n t
  pub start : (l : ℕ) → least < l → (t : Tree) × Good l t × Opens (part t) []

-- a tree of the shape completes the word
pub record Holds (s : Shape) (limit : ℕ) (word : List Token) : Type 0 where
  pub tree : s.Tree
  pub good : s.Good limit tree
  pub opens : Opens (s.part tree) word

-- nothing is read yet
pub holds_start : (s : Shape) (l : ℕ) → s.least < l → Holds s l []
holds_start s l lt = let x = s.start l lt in record { tree = x.0; good = x.1; opens = x.2 }

-- within a larger number
pub holds_more : (s : Shape) (l n : ℕ) (w : List Token) → l ≤ n → Holds s l w → Holds s n w
holds_more s l n w le h = record { tree = h.tree; good = s.grows l n h.tree le h.good; opens = h.opens }

-- ---- shapes from shapes

-- a token
abbrev pub mark : (w : Word) → Opens (Takes w) [] → Shape
mark w o = record { Tree = Unit {0}; Good = λ l t. Unit {0}; part = λ t. Takes w; least = 0; grows = λ l n t le g. tt; start = λ l lt. (tt, tt, o) }

-- a token, and then a shape
abbrev pub then_shape : (w : Word) → Opens (Takes w) [] → Shape → Shape
then_shape w o s = record {
  Tree = s.Tree;
  Good = s.Good;
  part = λ t. Takes w ⨾ s.part t;
  least = s.least;
  grows = s.grows;
  start = λ l lt. let x = s.start l lt in (x.0, x.1, opens_start (Takes w) (s.part x.0) o x.2);
}

-- one shape, and then another
abbrev pub seq : Shape → Shape → Shape
seq s t = record {
  Tree = s.Tree × t.Tree;
  Good = λ l x. s.Good l x.0 × t.Good l x.1;
  part = λ x. s.part x.0 ⨾ t.part x.1;
  least = max s.least t.least;
  grows = λ l n x le g. (s.grows l n x.0 le g.0, t.grows l n x.1 le g.1);
  start = λ l lt. let x = s.start l (omega arith) in let y = t.start l (omega arith) in ((x.0, y.0), (x.1, y.1), opens_start (s.part x.0) (t.part y.0) x.2 y.2);
}

-- ---- refusals in a shape

-- nothing is read yet
pub stuck_start : (s : Shape) {d : ℕ} {ts : List Token} → s.least < d → Stuck (Holds s) d syntax ts ts
stuck_start s {d = d} lt = stuck_here [] refl (holds_start s d lt)

-- behind a token
pub stuck_token : (w : Word) (o : Opens (Takes w) []) (s : Shape) {d : ℕ} {f : Fault} {ts m z : List Token} → Takes w ts m → Stuck (Holds s) d f m z → Stuck (Holds (then_shape w o s)) d f ts z
stuck_token w o s h k =
    let round : (l : ℕ) (u : List Token) → Holds s l u → Holds (then_shape w o s) l (h.0 ∷ u) = λ l u c. record { tree = c.tree; good = c.good; opens = opens_token w (s.part c.tree) h.0 h.2 c.opens } in
    stuck_round (h.0 ∷ []) h.1 (λ u c. round _ u c) (λ l u c. (l, round l u c)) k

-- before a shape that is all to come
pub stuck_first : (s t : Shape) {d : ℕ} {f : Fault} {ts z : List Token} → t.least < d → Stuck (Holds s) d f ts z → Stuck (Holds (seq s t)) d f ts z
stuck_first s t {d = d} lt k =
    let round : (l : ℕ) (u : List Token) → t.least < l → Holds s l u → Holds (seq s t) l u
    = λ l u g c. let y = t.start l g in record { tree = (c.tree, y.0); good = (c.good, y.1); opens = opens_start (s.part c.tree) (t.part y.0) c.opens y.2 } in
    stuck_round [] refl (λ u c. round d u lt c) (λ l u c. let n = max l (suc t.least) in (n, round n u (omega arith) (holds_more s l n u (omega arith) c))) k

-- behind a tree whose tokens don't hang on what follows
pub stuck_second : (s t : Shape) (a : s.Tree) {d : ℕ} {f : Fault} {ts m z : List Token} → s.Good d a → Front Any ts m (s.part a) → Stuck (Holds t) d f m z → Stuck (Holds (seq s t)) d f ts z
stuck_second s t a {d = d} g front k =
    let round : (l : ℕ) (u : List Token) → s.Good l a → Holds t l u → Holds (seq s t) l (front.word ++ u) = λ l u g c. record { tree = (a, c.tree); good = (g, c.good); opens = opens_front (s.part a) (t.part c.tree) front c.opens } in
    stuck_round front.word front.parts (λ u c. round d u g c) (λ l u c. let n = max d l in (n, round n u (s.grows d n a (omega arith) g) (holds_more t l n u (omega arith) c))) k

-- ---- readers of shapes

-- what is read of the shape, and what is refused
pub record Reader (s : Shape) (d : ℕ) (ts : List Token) (r : Read s.Tree) : Type 0 where
  pub gives : Gives r (λ x. s.Good d x.0 × Front Any ts x.1 (s.part x.0))
  pub fails : Fails r (λ f z. Stuck (Holds s) d f ts z)

-- a shape, and then another
pub fails-seq : {B : Type 0} (s t : Shape) {d : ℕ} {ts : List Token} {r : Read s.Tree} {k : s.Tree × List Token → Result B Refusal} → t.least < d → Reader s d ts r
    → ((x : s.Tree × List Token) → s.Good d x.0 → Fails (k x) (λ f z. Stuck (Holds t) d f x.1 z)) → Fails (r >>= k) (λ f z. Stuck (Holds (seq s t)) d f ts z)
fails-seq s t lt p next = fails-bind p.gives (fails-more p.fails (λ f z c. stuck_first s t lt c)) (λ x g. fails-more (next x g.0) (λ f z c. stuck_second s t x.0 g.0 g.1 c))

-- a token, and then a shape
pub fails-then : {B : Type 0} (test : Word → Bool) (w : Word) (only : (v : Word) → test v ≡ true → v ≡ w) (o : Opens (Takes w) []) (s : Shape) {d : ℕ} {ts : List Token} {k : List Token → Result B Refusal} → s.least < d
    → ((m : List Token) → Fails (k m) (λ f z. Stuck (Holds s) d f m z)) → Fails (expect test ts >>= k) (λ f z. Stuck (Holds (then_shape w o s)) d f ts z)
fails-then test w only o s {ts = ts} lt next = fails-bind (record { is = expect_sound test w only ts }) (fails-expect test ts (stuck_start (then_shape w o s) lt)) (λ m h. fails-more (next m) (λ f z c. stuck_token w o s h c))

-- a token is the last
pub fails-end : {B : Type 0} (test : Word → Bool) (w : Word) (o : Opens (Takes w) []) {d : ℕ} {ts : List Token} (k : List Token → B) → 0 < d → Fails (expect test ts >>= λ m. Ok (k m)) (λ f z. Stuck (Holds (mark w o)) d f ts z)
fails-end test w o {ts = ts} k pos = fails-last k (fails-expect test ts (stuck_start (mark w o) pos))

-- ---- names and expressions

-- a name that is bound
abbrev pub ident_shape : Shape
ident_shape = record { Tree = Ident; Good = λ l i. Unit {0}; part = ReadsIdent; least = 0; grows = λ l n i le g. tt; start = λ l lt. (ident_a, tt, opens_ident) }

pub ident_reader : {d : ℕ} (ts : List Token) → 0 < d → Reader ident_shape d ts (taken (ident_at ts) ts)
ident_reader ts pos = record {
  gives = record { is = λ x e. (tt, ident_fixed x.0 ts x.1 (ident_sound ts x.0 x.1 e)) };
  fails = fails-taken (ident_at ts) ts (stuck_start ident_shape pos);
}

-- an expression where a level is wanted
abbrev pub expression_shape : (wanted : ℕ) → Bool → wanted ≤ 16 → Shape
expression_shape wanted free le = record {
  Tree = Expr;
  Good = λ l e. Valid e × (depth e < l) × Reaches wanted e × (free ≡ false → no_in e ≡ true);
  part = Reads;
  least = 0;
  grows = λ l n e le g. let lt = g.1 in (g.0, omega arith, g.2, g.3);
  start = λ l lt. (name 0 (codes "a"), (tt, lt, inl (omega arith), λ k. refl), opens_expression);
}

-- what completes an expression is one
pub expression_holds : (wanted : ℕ) (free : Bool) (le : wanted ≤ 16) (l : ℕ) (w : List Token) → Completes wanted free l w → Holds (expression_shape wanted free le) l w
expression_holds wanted free le l w c = record { tree = c.tree; good = (c.valid, c.shallow, c.reaches, c.without_in); opens = c.opens }

pub expression_reader : {d : ℕ} {sub : Parsers} → SoundBelow d sub → StuckBelow d sub → (wanted : ℕ) (free : Bool) (le : wanted ≤ 16) (ts : List Token) → Reader (expression_shape wanted free le) d ts (sub.expression wanted free ts)
expression_reader b k wanted free le ts = record {
  gives = record { is = λ x e. let f = b.expression wanted free ts x.0 x.1 le e in ((f.valid, f.shallow, f.reaches, f.without_in), expr_fixed x.0 ts x.1 f.reads) };
  fails = fails-more (k.expression wanted free ts le) (λ f z s. stuck_as (expression_holds wanted free le) s);
}
