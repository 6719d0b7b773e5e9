-- Where a list of statements or a program is refused, the tokens before have a completion.
use Rattle.std.proofs.Common.{◌≡◌, ℕ, suc, ◌<◌, ◌≤◌, max, inl, inr, Bool, true, false, List, [], ◌∷◌, ◌++◌, length, Some, refl, sym, ap, subst, ◌∙◌, append_assoc, append-nil, arith}
use Rattle.std.proofs.lemmas.List.{append_cancel_right}
use Rattle.js_ast.specs.declared.token.Token.{Token}
use Rattle.js_ast.specs.declared.words.Keyword.TheVariants as key
use Rattle.js_ast.specs.Words.{Word, a_key, word_by, word_of}
use Rattle.js_ast.specs.Trees.{Ident, Statement, function_declaration, Statements, no_statements, more_statements, function_of}
use Rattle.js_ast.specs.Grammar.{◌⨾◌, parens, braces, ReadsIdents, ReadsStatement, ReadsStatements}
use Rattle.js_ast.specs.Validity.{ValidStatement, ValidStatements}
use Rattle.js_ast.specs.Depth.{depth_statement, depth_statements}
use Rattle.js_list_parser.specs.Reading.{Fault, syntax, word_at, again, Parsers}
use Rattle.js_list_parser.specs.ExpressionParsing.{function_rest, expression_at}
use Rattle.js_list_parser.specs.StatementParsing.{statement_by, function_declaration_rest, element_by, next_statement, ends_list, statements_step, statements_at}
use Rattle.js_ast.specs.Joined.{joined_statements}
use Rattle.js_list_parser.proofs.Lengths.{statement_shortens}
use Rattle.js_list_parser.proofs.Soundness.{FoundStatements, SoundBelow}
use Rattle.js_list_parser.proofs.StatementSound.{FoundStatement, StatementsSound, reads_statements, valid_statements, depth_joined_statements, plain, element_sound}
use Rattle.js_list_parser.proofs.Gives.{Gives, gives-ok, gives-more, gives-bind, gives-cond, Turned, gives-loop}
use Rattle.js_list_parser.proofs.Fronts.{Front, first_of}
use Rattle.js_list_parser.proofs.Local.{Alike, alike_behind, turn_shortens}
use Rattle.js_list_parser.proofs.LocalExpression.{LocalBelow}
use Rattle.js_list_parser.proofs.LocalStatement.{local_element, local_statements_step}
use Rattle.js_list_parser.proofs.Closed.{closed, closed_valid, closed_depth, Closes, closes_statement}
use Rattle.js_list_parser.proofs.Viable.{Opens, opens_start, opens_open_paren, opens_close_paren, Completes, CompletesStatement, CompletesStatements, CompletesFunction, debugger_for, Stuck, StuckBelow, stuck_here, stuck_as, Fails, fails-ok, fails-more, fails-last, fails-cond, fails-loop}
use Rattle.js_list_parser.proofs.Shapes.{Shape, Holds, holds_start, seq, fails-seq, ident_shape, ident_reader}
use Rattle.js_list_parser.proofs.StatementShapes.{plain_statement, opens_statement}
use Rattle.js_list_parser.proofs.ExpressionRefusedLists.{empty_body}
use Rattle.js_list_parser.proofs.BranchRefused.{node_refused, opens_key}
use Rattle.js_list_parser.proofs.WordRefused.{any_refused}

-- ---- function declarations

-- a statement of a list, where function declarations stand or not
pub record CompletesElement (outer : Bool) (limit : ℕ) (word : List Token) : Type 0 where
  pub tree : Statement
  pub valid : ValidStatement outer tree
  pub shallow : depth_statement tree < limit
  pub opens : Opens (ReadsStatement tree) word

-- a statement is one
element_of : (outer : Bool) (n : ℕ) (w : List Token) → CompletesStatement n w → CompletesElement outer n w
element_of outer n w h = record { tree = h.tree; valid = plain outer h.tree h.valid; shallow = h.shallow; opens = h.opens }

-- the parameters in parentheses and the body of a function
abbrev function_shape : Shape
function_shape = record {
  Tree = List Ident × Statements;
  Good = λ l f. ValidStatements true f.1 × (depth_statements f.1 < l);
  part = λ f. parens (ReadsIdents f.0) ⨾ braces (ReadsStatements f.1);
  least = 0;
  grows = λ l n f le g. let lt = g.1 in (g.0, omega arith);
  start = λ l lt. (([], no_statements), (tt, lt), opens_start _ _ (opens_start _ _ opens_open_paren (opens_start _ _ (record { each = λ y. (y, refl) }) opens_close_paren)) empty_body);
}

-- ECMA-262 13
pub function_holds : (t : Token) → word_of t ≡ a_key key.Function → (n : ℕ) (w : List Token) → Holds (seq ident_shape function_shape) n w → CompletesElement true (suc n) (t ∷ w)
function_holds t is n w h =
    let (v, lt) = h.good.1 in
    record { tree = function_declaration t.from (function_of t.from (Some h.tree.0) (h.tree.1).0 (h.tree.1).1); valid = (refl, (refl, v), refl); shallow = omega arith; opens = opens_key t (a_key key.Function) _ is h.opens }

-- nothing is read yet
element_starts : (outer : Bool) (n : ℕ) → 0 < n → CompletesElement outer n []
element_starts outer n lt = record { tree = plain_statement; valid = tt; shallow = lt; opens = opens_statement }

-- ---- one layer

module _ (d : ℕ) (sub : Parsers) (b : SoundBelow d sub) (c : StatementsSound d sub) (k : 0 < d → StuckBelow d sub) (l : LocalBelow true sub sub)
    (expressions : (ts : List Token) → Fails (expression_at sub d 0 true ts) (λ f z. Stuck (Completes 0 true) (suc d) f ts z))
    (functions : 0 < d → (ts : List Token) → Fails (function_rest sub ts) (λ f z. Stuck CompletesFunction d f ts z)) where
  declaration_refused : (t : Token) → word_of t ≡ a_key key.Function → (ts : List Token) → 0 < d → Fails (function_declaration_rest sub t.from ts) (λ f z. Stuck (λ n w. CompletesElement true (suc n) (t ∷ w)) d f ts z)
  unfolding function_declaration_rest
  declaration_refused t is ts pos = fails-more (fails-seq ident_shape function_shape pos (ident_reader ts pos) (λ i g. fails-last _ (fails-more (functions pos i.1)
      (λ f z s. stuck_as (λ n w h. record { tree = (h.params, h.body); good = (h.valid, h.shallow); opens = h.opens }) s)))) (λ f z s. stuck_as (function_holds t is) s)

  element_refused : (outer : Bool) (ts : List Token) → Fails (element_by sub d outer (word_at ts) ts) (λ f z. Stuck (CompletesElement outer) (suc d) f ts z)
  unfolding element_by
  element_refused false ts = fails-more (any_refused d sub b c k l expressions ts) (λ f z s. stuck_as (element_of false) s)
  element_refused true [] = fails-more (any_refused d sub b c k l expressions []) (λ f z s. stuck_as (element_of true) s)
  element_refused true (t ∷ ts) = go (word_of t) refl (fails-more (any_refused d sub b c k l expressions (t ∷ ts)) (λ f z s. stuck_as (element_of true) s))
    where
      go : (w : Word) → word_of t ≡ w → Fails (statement_by sub d (Some (word_of t)) (t ∷ ts)) (λ f z. Stuck (CompletesElement true) (suc d) f (t ∷ ts) z) → Fails (element_by sub d true (Some w) (t ∷ ts)) (λ f z. Stuck (CompletesElement true) (suc d) f (t ∷ ts) z)
      go (a_key key.Function) h other = node_refused (CompletesElement true) t 0 d ts (element_starts true (suc d) (omega arith)) (λ n lt. function_holds t h n [] (holds_start (seq ident_shape function_shape) n lt)) (λ pos. declaration_refused t h ts pos)
      go w h other = rw h at other

  -- ---- lists

  -- What was read of a list: its statements, before tokens that begin alike as well; and with the last one closed they complete what was read.
  record Reached (outer : Bool) (start : List Token) (ss : Statements) (ts : List Token) : Type 0 where
    found : FoundStatements (suc d) outer ss start ts
    word : List Token
    parts : start ≡ word ++ ts
    each : (y : List Token) → Alike ts y → ReadsStatements ss (word ++ y) y
    completes : CompletesStatements outer (suc d) word

  -- nothing is read yet
  reached_start : (outer : Bool) (ts : List Token) → Reached outer ts no_statements ts
  reached_start outer ts = record {
    found = record { valid = tt; shallow = omega arith; reads = refl };
    word = [];
    parts = refl;
    each = λ y a. refl;
    completes = record { trees = no_statements; valid = tt; shallow = omega arith; opens = record { each = λ y. (y, refl) } };
  }

  -- one statement more completes more
  longer : {outer : Bool} {start ts : List Token} {ss : Statements} (r : Reached outer start ss ts) (n : ℕ) (w : List Token) → suc d ≤ n → ((more : List Token) → Alike ts (w ++ more)) → CompletesElement outer n w → CompletesStatements outer n (r.word ++ w)
  longer {outer = outer} {ss = ss} r n w le a h =
      let lt = r.found.shallow in
      let gt = h.shallow in
      let one = more_statements h.tree no_statements in
      record {
        trees = joined_statements ss one;
        valid = valid_statements outer ss one r.found.valid (h.valid, tt);
        shallow = omega (arith, depth_joined_statements ss one);
        opens = record {
          each = λ y. let x = (h.opens).each y in
              (x.0, rw append_assoc (reads_statements ss one (r.word ++ (w ++ x.0)) (w ++ x.0) y (r.each (w ++ x.0) (a x.0)) (y, x.1, refl)));
        };
      }

  -- only the first token counts
  alike_more : {z : List Token} (u : Token) (more : List Token) → Alike z (u ∷ []) → Alike z (u ∷ more)
  alike_more u more (inl e) = inl e
  alike_more u more (inr s) = inr (record { here = s.here; there = s.there; line = s.line })

  -- tokens that begin with the same one begin alike
  alike_first : (t : Token) (w z more : List Token) (ts : List Token) → ts ≡ (t ∷ w) ++ z → Alike ts ((t ∷ w) ++ more)
  alike_first t w z more ts e = inl (ap first_of e)

  -- what is read of one statement is read before tokens that begin alike as well
  element_reads : (outer : Bool) (ts : List Token) → Gives (element_by sub d outer (word_at ts) ts) (λ x. FoundStatement (suc d) outer x.0 ts x.1 × Front Alike ts x.1 (ReadsStatement x.0))
  element_reads outer ts = record {
    is = λ x e.
        let g = (local_element l l d d refl outer ts).reads x.0 x.1 e in (
          (element_sound d sub b c outer ts (word_at ts) refl).is x e,
          record { word = g.word; parts = g.parts; each = λ y a. ((element_sound d sub b c outer (g.word ++ y) (word_at (g.word ++ y)) refl).is (x.0, y) (g.each y a)).reads },
        );
  }

  -- closed it completes what was read
  element_closed : (outer : Bool) (s : Statement) (ts z : List Token) → FoundStatement (suc d) outer s ts z → (k : Closes (ReadsStatement (closed s)) ts z) → CompletesElement outer (suc d) k.word × ((more : List Token) → Alike ts (k.word ++ more))
  element_closed outer s ts z f k = (record { tree = closed s; valid = closed_valid outer s f.valid; shallow = rw (closed_depth s) f.shallow; opens = k.opens }, go k.word k.parts)
    where
      go : (w : List Token) → ts ≡ w ++ z → (more : List Token) → Alike ts (w ++ more)
      go [] p more = absurd (let short = statement_shortens s ts z f.reads in omega (arith, ap length p))
      go (t ∷ w) p more = alike_first t w z more ts p

  -- a statement more is read
  reached_next : {outer : Bool} {start ts : List Token} {ss : Statements} (r : Reached outer start ss ts) (s : Statement) (z : List Token) → FoundStatement (suc d) outer s ts z → Front Alike ts z (ReadsStatement s)
      → Reached outer start (joined_statements ss (more_statements s no_statements)) z
  reached_next {outer = outer} {start = start} {ts = ts} {ss = ss} r s z f g =
      let one = more_statements s no_statements in
      let lt = r.found.shallow in
      let gt = f.shallow in
      let k = closes_statement s ts z f.reads in
      let (h, a) = element_closed outer s ts z f k in
      record {
        found = record { valid = valid_statements outer ss one r.found.valid (f.valid, tt); shallow = omega (arith, depth_joined_statements ss one); reads = reads_statements ss one start ts z r.found.reads (z, f.reads, refl) };
        word = r.word ++ g.word;
        parts = r.parts ∙ ap (λ (x : List Token). r.word ++ x) g.parts ∙ sym (append_assoc r.word g.word z);
        each = λ y e. rw append_assoc (reads_statements ss one (r.word ++ (g.word ++ y)) (g.word ++ y) y (r.each (g.word ++ y) (rw g.parts (alike_behind g.word z y e))) (y, g.each y e, refl));
        completes = subst (λ (x : List Token). CompletesStatements outer (suc d) (r.word ++ x)) (append_cancel_right k.word g.word z (sym k.parts ∙ g.parts)) (longer r (suc d) k.word (omega arith) a h);
      }

  step_reached : (outer : Bool) (start : List Token) (ss : Statements) (ts : List Token) → Reached outer start ss ts → Gives (statements_step sub d outer ss ts) (λ x. Turned (Reached outer start) (Reached outer start) x.0 x.1)
  unfolding statements_step next_statement
  step_reached outer start ss ts r = gives-cond (ends_list (word_at ts)) (λ h. gives-ok r) (λ h. gives-bind (element_reads outer ts) (λ s p. gives-ok (reached_next r s.0 s.1 p.0 p.1)))

  -- the same within a larger number
  element_more : {outer : Bool} {n : ℕ} {w : List Token} (m : ℕ) → n ≤ m → CompletesElement outer n w → CompletesElement outer m w
  element_more m le h = let lt = h.shallow in record { tree = h.tree; valid = h.valid; shallow = omega arith; opens = h.opens }

  -- a statement is refused behind others
  row_stuck : {outer : Bool} {start ts : List Token} {ss : Statements} {f : Fault} {z : List Token} → Reached outer start ss ts → Stuck (CompletesElement outer) (suc d) f ts z → Stuck (CompletesStatements outer) (suc d) f start z
  unfolding word_by
  row_stuck {outer = outer} {start = start} {ts = ts} {z = z} r s = record {
    word = r.word ++ s.word;
    parts = r.parts ∙ ap (λ (x : List Token). r.word ++ x) s.parts ∙ sym (append_assoc r.word s.word z);
    within = here s.word s.parts s.within;
    deeper = λ e. let x = s.deeper e in record { token = x.token; rest = x.rest; parts = x.parts; limit = max (suc d) x.limit; is = through x.token x.token x.rest x.parts (inl refl) x.limit x.is };
    instead = λ e. let x = s.instead e in
        record { token = x.token; rest = x.rest; parts = x.parts; is_with = x.is_with; limit = max (suc d) x.limit; is = through x.token (debugger_for x.token) x.rest x.parts (inr (record { here = ap Some x.is_with; there = refl; line = refl })) x.limit x.is };
  }
    where
      here : (w : List Token) → ts ≡ w ++ z → CompletesElement outer (suc d) w → CompletesStatements outer (suc d) (r.word ++ w)
      here [] p h = subst (CompletesStatements outer (suc d)) (sym (append-nil r.word)) r.completes
      here (t ∷ w) p h = longer r (suc d) (t ∷ w) (omega arith) (λ more. alike_first t w z more ts p) h

      through : (t u : Token) (rest : List Token) → z ≡ t ∷ rest → Alike (t ∷ rest) (u ∷ []) → (n : ℕ) → CompletesElement outer n (s.word ++ u ∷ []) → CompletesStatements outer (max (suc d) n) ((r.word ++ s.word) ++ u ∷ [])
      through t u rest e a n h =
          let big = max (suc d) n in
          let p : ts ≡ s.word ++ t ∷ rest = s.parts ∙ ap (λ (x : List Token). s.word ++ x) e in
          rw append_assoc (longer r big (s.word ++ u ∷ []) (omega arith) (λ more. rw (p, append_assoc) (alike_behind s.word (t ∷ rest) (u ∷ more) (alike_more u more a))) (element_more big (omega arith) h))

  step_refused : (outer : Bool) (start : List Token) (ss : Statements) (ts : List Token) → Reached outer start ss ts → Fails (statements_step sub d outer ss ts) (λ f z. Stuck (CompletesStatements outer) (suc d) f start z)
  unfolding statements_step next_statement
  step_refused outer start ss ts r = fails-cond (ends_list (word_at ts)) (λ h. fails-ok) (λ h. fails-last _ (fails-more (element_refused outer ts) (λ f z s. row_stuck r s)))

  pub statements_at_refused : (outer : Bool) (ts : List Token) → Fails (statements_at sub d outer ts) (λ f z. Stuck (CompletesStatements outer) (suc d) f ts z)
  unfolding statements_at
  statements_at_refused outer ts = fails-loop (Reached outer ts) (λ ss us. turn_shortens us _ (local_statements_step l l d d refl outer ss us)) (λ ss us es z r e. (step_reached outer ts ss us r).is (again es, z) e) (step_refused outer ts) no_statements ts (reached_start outer ts)

  -- what was read of a list is complete, with its last statement closed
  pub statements_at_complete : (outer : Bool) (ts : List Token) → Gives (statements_at sub d outer ts) (λ x. Stuck (CompletesStatements outer) (suc d) syntax ts x.1)
  unfolding statements_at
  statements_at_complete outer ts = gives-more (gives-loop (statements_step sub d outer) (Reached outer ts) (Reached outer ts) (step_reached outer ts) no_statements ts (reached_start outer ts)) (λ x r. stuck_here r.word r.parts r.completes)
