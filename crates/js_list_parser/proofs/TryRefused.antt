-- Where a `try` statement is refused, the tokens before have a completion: one layer.
use Rattle.std.proofs.Common.{◌≡◌, ℕ, ◌<◌, ◌≤◌, Bool, true, false, List, [], ◌∷◌, ◌++◌, Option, Some, None, Ok, refl, sym, ◌∙◌, arith}
use Rattle.js_ast.specs.declared.token.Token.{Token}
use Rattle.js_ast.specs.declared.words.Keyword.TheVariants as key
use Rattle.js_ast.specs.declared.words.Sign.TheVariants as sign
use Rattle.js_ast.specs.Words.{Word, a_key, a_sign, word_of}
use Rattle.js_ast.specs.Trees.{Ident, absent, present, Block, Statement, block, var, empty, expression, if_then, if_else, do_while, while, for, for_in, continue, break, return, throw, switch, labelled, try_catch, try_finally, try_both, debugger, function_declaration}
use Rattle.js_ast.specs.Grammar.{Part, ◌⨾◌, Takes, sign_part, key_part, parens, starts_expression, ReadsIdent, ReadsBlock, ReadsStatement}
use Rattle.js_ast.specs.Validity.{ValidBlock, ValidStatement}
use Rattle.js_ast.specs.Depth.{depth_block, depth_statement}
use Rattle.js_list_parser.specs.Reading.{Fault, ◌>>=◌, word_at, behind, Parsers}
use Rattle.js_list_parser.specs.ExpressionParsing.{is_open_paren, is_close_paren, is_open_brace}
use Rattle.js_list_parser.specs.StatementParsing.{block_in, inner_block_by, inner_block, finally_by, catch_rest, handler_by, try_rest}
use Rattle.js_list_parser.proofs.StatementParts.{takes_word}
use Rattle.js_list_parser.proofs.StatementComplete.{is_block}
use Rattle.js_list_parser.proofs.Outcomes.{paren_opens, paren_closes, brace_opens, takes}
use Rattle.js_list_parser.proofs.Soundness.{SoundBelow}
use Rattle.js_list_parser.proofs.StatementSound.{StatementsSound, part, inner_block_sound}
use Rattle.js_list_parser.proofs.Gives.{gives-more}
use Rattle.js_list_parser.proofs.Fronts.{Front, Any, block_fixed}
use Rattle.js_list_parser.proofs.LocalExpression.{LocalBelow}
use Rattle.js_list_parser.proofs.Viable.{Opens, opens_map, opens_open_paren, opens_close_paren, CompletesStatement, Stuck, StuckBelow, stuck_as, Fails, fails-ok, fails-err, fails-more, fails-bind, fails-last}
use Rattle.js_list_parser.proofs.Shapes.{Shape, Holds, holds_start, then_shape, seq, stuck_start, stuck_token, stuck_first, stuck_second, Reader, fails-seq, fails-then, ident_shape, ident_reader}
use Rattle.js_list_parser.proofs.StatementShapes.{opens_catch, opens_finally, block_shape}
use Rattle.js_list_parser.proofs.StatementRefused.{stuck_tested}
use Rattle.js_list_parser.proofs.BranchRefused.{Behind, opens_key}

-- ---- what begins with `{` is a block

-- the first word
first_word : {w v : Word} (t : Token) (u z : List Token) → word_of t ≡ v → Takes w (t ∷ u) z → v ≡ w
first_word {w} {v} t u z is h = let e : Some (word_of t) ≡ Some w = takes_word h in let same : word_of t ≡ w = cc in sym is ∙ same

pub brace_block : (s : Statement) (t : Token) (u z : List Token) → word_of t ≡ a_sign sign.OpenBrace → ReadsStatement s (t ∷ u) z → is_block s ≡ true
brace_block (block b) t u z is h = refl
brace_block (var at ds semi) t u z is h = absurd (let e = first_word t u (h.1.0) is h.1.1 in cc)
brace_block (empty at) t u z is h = absurd (let e = first_word t u z is h.1 in cc)
brace_block (expression at e semi) t u z is h = absurd (let s : starts_expression (t ∷ u) ≡ true = h.0 in let bad : false ≡ true = rw is at s in cc)
brace_block (if_then at e s) t u z is h = absurd (let e = first_word t u (h.1.0) is h.1.1 in cc)
brace_block (if_else at e s x) t u z is h = absurd (let e = first_word t u (h.1.0) is h.1.1 in cc)
brace_block (do_while at s e semi) t u z is h = absurd (let e = first_word t u (h.1.0) is h.1.1 in cc)
brace_block (while at e s) t u z is h = absurd (let e = first_word t u (h.1.0) is h.1.1 in cc)
brace_block (for at first test step s) t u z is h = absurd (let e = first_word t u (h.1.0) is h.1.1 in cc)
brace_block (for_in at target e s) t u z is h = absurd (let e = first_word t u (h.1.0) is h.1.1 in cc)
brace_block (continue at label semi) t u z is h = absurd (let e = first_word t u (h.1.0) is h.1.1 in cc)
brace_block (break at label semi) t u z is h = absurd (let e = first_word t u (h.1.0) is h.1.1 in cc)
brace_block (return at absent semi) t u z is h = absurd (let e = first_word t u (h.1.0) is h.1.1 in cc)
brace_block (return at (present e) semi) t u z is h = absurd (let e = first_word t u (h.1.0) is h.1.1 in cc)
brace_block (throw at e semi) t u z is h = absurd (let e = first_word t u (h.1.0) is h.1.1 in cc)
brace_block (switch at e cs) t u z is h = absurd (let e = first_word t u (h.1.0) is h.1.1 in cc)
brace_block (labelled at text s) t u z is h = absurd (let e = first_word t u (h.1.0) is h.1.1 in cc)
brace_block (try_catch at b i handler) t u z is h = absurd (let e = first_word t u (h.1.0) is h.1.1 in cc)
brace_block (try_finally at b final) t u z is h = absurd (let e = first_word t u (h.1.0) is h.1.1 in cc)
brace_block (try_both at b i handler final) t u z is h = absurd (let e = first_word t u (h.1.0) is h.1.1 in cc)
brace_block (debugger at semi) t u z is h = absurd (let e = first_word t u (h.1.0) is h.1.1 in cc)
brace_block (function_declaration at f) t u z is h = absurd (let e = first_word t u (h.1.0) is h.1.1 in cc)

-- whether the first token is `{`
abbrev begins_block : List Token → Bool
begins_block [] = false
begins_block (t ∷ ts) = is_open_brace (word_of t)

-- a statement that begins so is a block
statement_block : (n : ℕ) (t : Token) (w : List Token) → begins_block (t ∷ []) ≡ true → CompletesStatement n (t ∷ w) → Holds block_shape n (t ∷ w)
statement_block n t w h c = go c.tree c.valid c.shallow c.opens (brace_block c.tree t (w ++ ((c.opens).each []).0) [] (brace_opens (word_of t) h) ((c.opens).each []).1)
  where
    go : (s : Statement) → ValidStatement false s → depth_statement s < n → Opens (ReadsStatement s) (t ∷ w) → is_block s ≡ true → Holds block_shape n (t ∷ w)
    go (block b) v lt o e = record { tree = b; good = (v, lt); opens = o }
    go _ v lt o e = absurd cc

-- ---- shapes

-- ECMA-262 12.14, with no `catch`
abbrev finally_shape : Shape
finally_shape = seq block_shape (then_shape (a_key key.Finally) opens_finally block_shape)

-- a handler's block, and what may be behind it
abbrev ReadsEnding : Block → Option Block → Part
ReadsEnding b None = ReadsBlock b
ReadsEnding b (Some final) = ReadsBlock b ⨾ (key_part key.Finally ⨾ ReadsBlock final)

abbrev GoodFinal : ℕ → Option Block → Type 0
GoodFinal n None = Unit {0}
GoodFinal n (Some b) = ValidBlock b × (depth_block b < n)

good_final : (l n : ℕ) (b : Option Block) → l ≤ n → GoodFinal l b → GoodFinal n b
good_final l n None le g = tt
good_final l n (Some b) le g = let lt = g.1 in (g.0, omega arith)

abbrev handler_shape : Shape
handler_shape = record {
  Tree = Block × Option Block;
  Good = λ l x. (ValidBlock x.0 × (depth_block x.0 < l)) × GoodFinal l x.1;
  part = λ x. ReadsEnding x.0 x.1;
  least = 1;
  grows = λ l n x le g. let lt = (g.0).1 in (((g.0).0, omega arith), good_final l n x.1 le g.1);
  start = λ l lt. let b = block_shape.start l lt in ((b.0, None), (b.1, tt), b.2);
}

-- from `(` on
abbrev parameter_shape : Shape
parameter_shape = then_shape (a_sign sign.OpenParen) opens_open_paren (seq ident_shape (then_shape (a_sign sign.CloseParen) opens_close_paren handler_shape))

-- with a `catch`
abbrev catch_shape : Shape
catch_shape = seq block_shape (then_shape (a_key key.Catch) opens_catch parameter_shape)

pub finally_holds : (t : Token) → word_of t ≡ a_key key.Try → (n : ℕ) (w : List Token) → Holds finally_shape n w → Behind t n w
finally_holds t is n w h =
    let (v, lt) = h.good.0 in
    let (x, gt) = h.good.1 in
    record { tree = try_finally t.from h.tree.0 h.tree.1; valid = (v, x); shallow = omega arith; opens = opens_key t (a_key key.Try) _ is h.opens }

catch_holds : (t : Token) → word_of t ≡ a_key key.Try → (n : ℕ) (w : List Token) → Holds catch_shape n w → Behind t n w
catch_holds t is n w h = go h.tree.0 ((h.tree.1).0) (((h.tree.1).1).0) (((h.tree.1).1).1) h.good.0 (((h.good.1).1).0) (((h.good.1).1).1) h.opens
  where
    go : (b : Block) (i : Ident) (handler : Block) (final : Option Block) → ValidBlock b × (depth_block b < n) → ValidBlock handler × (depth_block handler < n) → GoodFinal n final
        → Opens (ReadsBlock b ⨾ (key_part key.Catch ⨾ (sign_part sign.OpenParen ⨾ (ReadsIdent i ⨾ (sign_part sign.CloseParen ⨾ ReadsEnding handler final))))) w → Behind t n w
    go b i handler None (v, lt) (x, gt) g o = record {
      tree = try_catch t.from b i handler;
      valid = (v, x);
      shallow = omega arith;
      opens = opens_key t (a_key key.Try) _ is (opens_map (ReadsBlock b ⨾ (key_part key.Catch ⨾ (parens (ReadsIdent i) ⨾ ReadsBlock handler)))
          (λ ts z r. let (m0, p, (m1, q, (m2, o1, (m3, j, (m4, o2, s))))) = r in (m0, p, (m1, q, (m4, (m2, o1, (m3, j, o2)), s)))) o);
    }
    go b i handler (Some final) (v, lt) (x, gt) (y, less) o = record {
      tree = try_both t.from b i handler final;
      valid = (v, x, y);
      shallow = omega arith;
      opens = opens_key t (a_key key.Try) _ is (opens_map (ReadsBlock b ⨾ ((key_part key.Catch ⨾ (parens (ReadsIdent i) ⨾ ReadsBlock handler)) ⨾ (key_part key.Finally ⨾ ReadsBlock final)))
          (λ ts z r. let (m0, p, (m1, q, (m2, o1, (m3, j, (m4, o2, (m5, s, e)))))) = r in (m0, p, (m5, (m1, q, (m4, (m2, o1, (m3, j, o2)), s)), e))) o);
    }

-- nothing is read yet
pub try_starts : (t : Token) → word_of t ≡ a_key key.Try → (n : ℕ) → 1 < n → Behind t n []
try_starts t is n lt = finally_holds t is n [] (holds_start finally_shape n lt)

-- ---- one layer

-- a block among statements isn't refused
block_stands : (s : Statement) (ts : List Token) {Q : Fault → List Token → Type 0} → is_block s ≡ true → Fails (block_in s ts) Q
unfolding block_in
block_stands (block b) ts h = fails-ok
block_stands _ ts h = absurd cc

module _ (d : ℕ) (sub : Parsers) (b : SoundBelow d sub) (c : StatementsSound d sub) (k : StuckBelow d sub) (l : LocalBelow true sub sub) (pos : 1 < d) where
  block_refused : (ts : List Token) → Fails (inner_block sub ts) (λ f z. Stuck (Holds block_shape) d f ts z)
  unfolding inner_block inner_block_by
  block_refused [] = fails-err (stuck_start block_shape pos)
  block_refused (t ∷ ts) = go (word_of t) refl
    where
      go : (w : Word) → word_of t ≡ w → Fails (inner_block_by sub (Some w) (t ∷ ts)) (λ f z. Stuck (Holds block_shape) d f (t ∷ ts) z)
      go (a_sign sign.OpenBrace) h = fails-bind (part d sub b c (t ∷ ts))
          (fails-more (k.statement (t ∷ ts)) (λ f z s. stuck_tested begins_block (λ x u v. refl) (λ x i e. absurd (let bad : false ≡ true = rw i at e in cc)) statement_block (holds_start block_shape d pos) (rw h refl) s))
          (λ s f. block_stands s.0 s.1 (brace_block s.0 t ts s.1 h f.reads))
      go _ h = fails-err (stuck_start block_shape pos)

  block_reader : (ts : List Token) → Reader block_shape d ts (inner_block sub ts)
  block_reader ts = record { gives = gives-more (inner_block_sound d sub b c ts) (λ x f. ((f.valid, f.shallow), block_fixed x.0 ts x.1 f.reads)); fails = block_refused ts }

  -- `finally` behind a block
  final_refused : (ts : List Token) (f : Block × List Token → Statement × List Token) → word_at ts ≡ Some (a_key key.Finally)
      → Fails (inner_block sub (behind ts) >>= λ final. Ok (f final)) (λ f z. Stuck (Holds (then_shape (a_key key.Finally) opens_finally block_shape)) d f ts z)
  final_refused ts f h = fails-last f (fails-more (block_refused (behind ts)) (λ g z s. stuck_token (a_key key.Finally) opens_finally block_shape (takes (a_key key.Finally) ts h) s))

  -- the handler's block, and what may be behind it
  handler_refused : (at : ℕ) (bl : Block) (i : Ident) (ts : List Token) → Fails (inner_block sub ts >>= λ handler. finally_by sub at bl i handler.0 (word_at handler.1) handler.1) (λ f z. Stuck (Holds handler_shape) d f ts z)
  unfolding finally_by
  handler_refused at bl i ts =
      let r = block_reader ts in
      fails-bind r.gives (fails-more r.fails (λ f z s. stuck_as (λ n w h. record { tree = (h.tree, None); good = (h.good, tt); opens = h.opens }) s)) (λ h g. go h.0 h.1 g.0 g.1 (word_at h.1) refl)
    where
      go : (handler : Block) (m : List Token) → block_shape.Good d handler → Front Any ts m (ReadsBlock handler) → (w : Option Word) → word_at m ≡ w → Fails (finally_by sub at bl i handler w m) (λ f z. Stuck (Holds handler_shape) d f ts z)
      go handler m g front (Some (a_key key.Finally)) h = fails-more (final_refused m _ h) (λ f z s. stuck_as (λ n w x. record { tree = (x.tree.0, Some x.tree.1); good = x.good; opens = x.opens })
          (stuck_second block_shape (then_shape (a_key key.Finally) opens_finally block_shape) handler g front s))
      go handler m g front _ h = fails-ok

  -- behind the word `catch`
  catch_refused : (at : ℕ) (bl : Block) (ts : List Token) → Fails (catch_rest sub at bl ts) (λ f z. Stuck (Holds parameter_shape) d f ts z)
  unfolding catch_rest
  catch_refused at bl ts = fails-then is_open_paren _ paren_opens opens_open_paren _ pos (λ m. fails-seq ident_shape _ pos (ident_reader m (omega arith)) (λ i g.
      fails-then is_close_paren _ paren_closes opens_close_paren handler_shape pos (λ rest. handler_refused at bl i.0 rest)))

  -- behind the word `try`
  pub try_refused : (t : Token) → word_of t ≡ a_key key.Try → (ts : List Token) → Fails (try_rest sub t.from ts) (λ f z. Stuck (Behind t) d f ts z)
  unfolding try_rest handler_by
  try_refused t is ts =
      let r = block_reader ts in
      fails-bind r.gives (fails-more r.fails (λ f z s. stuck_as (finally_holds t is) (stuck_first block_shape (then_shape (a_key key.Finally) opens_finally block_shape) pos s))) (λ bl g. go bl.0 bl.1 g.0 g.1 (word_at bl.1) refl)
    where
      go : (bl : Block) (m : List Token) → block_shape.Good d bl → Front Any ts m (ReadsBlock bl) → (w : Option Word) → word_at m ≡ w → Fails (handler_by sub t.from bl w m) (λ f z. Stuck (Behind t) d f ts z)
      go bl m g front (Some (a_key key.Catch)) h = fails-more (catch_refused t.from bl (behind m)) (λ f z s. stuck_as (catch_holds t is)
          (stuck_second block_shape (then_shape (a_key key.Catch) opens_catch parameter_shape) bl g front (stuck_token (a_key key.Catch) opens_catch parameter_shape (takes (a_key key.Catch) m h) s)))
      go bl m g front (Some (a_key key.Finally)) h = fails-more (final_refused m _ h) (λ f z s. stuck_as (finally_holds t is) (stuck_second block_shape (then_shape (a_key key.Finally) opens_finally block_shape) bl g front s))
      go bl m g front _ h = fails-err (stuck_as (finally_holds t is) (stuck_second block_shape (then_shape (a_key key.Finally) opens_finally block_shape) bl g front (stuck_start (then_shape (a_key key.Finally) opens_finally block_shape) pos)))
