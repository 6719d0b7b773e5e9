-- Where lists with commas between and the bodies of functions are refused, the tokens so far begin valid ones.
use Rattle.std.proofs.Common.{◌≡◌, ℕ, ◌<◌, ◌≤◌, Bool, true, List, [], ◌∷◌, ◌++◌, Option, Some, Result, Ok, refl, ap, ◌∙◌, append_assoc, arith}
use Rattle.js_ast.specs.declared.token.Token.{Token}
use Rattle.js_ast.specs.declared.words.Sign.TheVariants as sign
use Rattle.js_ast.specs.Words.{Word, a_sign}
use Rattle.js_ast.specs.Trees.{Ident, Expr, Exprs, no_exprs, more_exprs, Statements, no_statements}
use Rattle.js_ast.specs.Grammar.{Part, ◌⨾◌, sign_part, parens, braces, ReadsIdent, ReadsIdents, ReadsExprs, ReadsStatements, is_close_brace}
use Rattle.js_ast.specs.Validity.{ValidExprs, ValidStatements}
use Rattle.js_ast.specs.Depth.{depth_exprs, depth_statements}
use Rattle.js_list_parser.specs.Reading.{syntax, Refusal, Read, ◌>>=◌, word_at, behind, again, loop, Parsers}
use Rattle.js_list_parser.specs.ExpressionParsing.{is_open_paren, is_open_brace, expect, taken, ident_at, body_at, parameter_by, parameter, parameters_by, parameters, function_rest, argument_by, argument, arguments_by, arguments}
use Rattle.js_ast.specs.Joined.{joined_exprs}
use Rattle.js_list_parser.proofs.Outcomes.{takes, reached_low}
use Rattle.js_list_parser.proofs.Soundness.{FoundExpression, FoundStatements, SoundBelow}
use Rattle.js_list_parser.proofs.Gives.{Gives, gives-open-paren, gives-open-brace, gives-ident}
use Rattle.js_list_parser.proofs.FoundLists.{SomeIdents, some_idents, more_idents, parameter_sound, parameters_sound, SomeExprs, some_exprs, exprs_more, exprs_valid, exprs_shallow, SoFarExprs, argument_sound}
use Rattle.js_list_parser.proofs.ExpressionTurns.{NoLonger, parameter_turns, argument_turns}
use Rattle.js_list_parser.proofs.Fronts.{Front, Any, Fixed, token_first, closed, loose, idents_fixed, exprs_fixed, statements_loose}
use Rattle.js_list_parser.proofs.Viable.{Opens, opens_map, opens_start, opens_nothing, opens_token, opens_front, opens_closed, opens_whole, behind_token, opens_open_paren, opens_close_paren, opens_open_brace, opens_close_brace, ident_a, opens_ident, Completes, CompletesStatements, CompletesFunction, Stuck, stuck_here, stuck_found, Beside, stuck_beside, Fails, fails-ok, fails-err, fails-more, fails-bind, fails-last, fails-expect, fails-taken, fails-loop, StuckBelow}

-- what is known of an answer by its parts
pub gives_read : {A : Type 0} {r : Read A} {P : A → List Token → Type 0} → ((a : A) (z : List Token) → r ≡ Ok (a, z) → P a z) → Gives r (λ x. P x.0 x.1)
gives_read h = record { is = λ x e. h x.0 x.1 e }

-- ---- parameters

-- parameters and the parenthesis that closes them, which the word begins
pub record CompletesIdents (limit : ℕ) (word : List Token) : Type 0 where
  pub params : List Ident
  pub opens : Opens (ReadsIdents params ⨾ sign_part sign.CloseParen) word

-- parameters so far
some_idents_fixed : (is : List Ident) → Fixed (SomeIdents is)
some_idents_fixed [] ts z h = absurd h
some_idents_fixed (i ∷ is) ts z h = idents_fixed (i ∷ is) ts z h

-- a parameter and the parenthesis are to come
ident_and_close : Opens (ReadsIdent ident_a ⨾ sign_part sign.CloseParen) []
ident_and_close = opens_start _ _ opens_ident opens_close_paren

-- a turn of the parameters
parameter_refused : (limit : ℕ) (start : List Token) (is : List Ident) (ts : List Token) → SomeIdents is start ts → Fails (parameter is ts) (λ f z. Stuck CompletesIdents limit f start z)
unfolding parameter parameter_by
parameter_refused limit start is ts i = go (word_at ts) refl
  where
    front : Front Any start ts (SomeIdents is)
    front = some_idents_fixed is start ts i

    -- the parenthesis is to come
    closes : Stuck CompletesIdents limit syntax start ts
    closes = stuck_here front.word front.parts (record { params = is; opens = opens_map _ (λ us y h. (h.0, some_idents is us h.0 h.1, h.2)) (opens_start _ _ (opens_whole (SomeIdents is) front) opens_close_paren) })

    -- or behind a comma another parameter
    another : word_at ts ≡ Some (a_sign sign.Comma) → Stuck CompletesIdents limit syntax start (behind ts)
    another h =
        let t = takes _ ts h in
        stuck_here (front.word ++ (t.0 ∷ [])) (behind_token front.word start ts t.0 (behind ts) front.parts t.1) (record {
          params = is ++ ident_a ∷ [];
          opens = opens_map _ (λ us y k. let (a, b, c) = k in (c.2.0, some_idents (is ++ ident_a ∷ []) us c.2.0 (more_idents is ident_a us a c.0 c.2.0 b c.1 c.2.1), c.2.2)) (opens_front _ _ front (opens_token _ _ t.0 t.2 ident_and_close));
        })

    go : (w : Option Word) → word_at ts ≡ w → Fails (parameter_by is w ts) (λ f z. Stuck CompletesIdents limit f start z)
    go (Some (a_sign sign.CloseParen)) h = fails-ok
    go (Some (a_sign sign.Comma)) h = fails-last _ (fails-taken (ident_at (behind ts)) (behind ts) (another h))
    go _ h = fails-err closes

-- parameters
parameters_refused : (limit : ℕ) (ts : List Token) → Fails (parameters ts) (λ f z. Stuck CompletesIdents limit f ts z)
unfolding parameters parameters_by
parameters_refused limit ts = go (word_at ts)
  where
    several : Fails (taken (ident_at ts) ts >>= λ i. loop parameter (i.0 ∷ []) i.1) (λ f z. Stuck CompletesIdents limit f ts z)
    several = fails-bind (gives-ident ts) (fails-taken (ident_at ts) ts (stuck_here [] refl (record { params = ident_a ∷ []; opens = ident_and_close })))
        (λ x i. fails-loop (λ is m. SomeIdents is ts m) parameter_turns (λ is m js y j e. parameter_sound ts is m (again js) y j e) (λ is m j. parameter_refused limit ts is m j) (x.0 ∷ []) x.1 i)

    go : (w : Option Word) → Fails (parameters_by w ts) (λ f z. Stuck CompletesIdents limit f ts z)
    go (Some (a_sign sign.CloseParen)) = fails-ok
    go _ = several

-- ---- bodies of functions

-- statements of a body in a part of the grammar, which the word begins
pub record CompletesBody (P : Statements → Part) (limit : ℕ) (word : List Token) : Type 0 where
  pub body : Statements
  pub valid : ValidStatements true body
  pub shallow : depth_statements body < limit
  pub opens : Opens (P body) word

-- a body in braces
abbrev pub Braced : Statements → Part
Braced body = braces (ReadsStatements body)

-- all of it is to come
pub empty_body : Opens (Braced no_statements) []
empty_body = opens_start _ _ opens_open_brace (opens_nothing _ opens_close_brace)

-- behind a part, in which the body doesn't stand
abbrev pub Behind : Part → (Statements → Part) → Statements → Part
Behind p Q body = p ⨾ Q body

-- ---- lists, where some of them is read

-- arguments and the parenthesis that closes them, which the word begins
pub record CompletesArguments (limit : ℕ) (word : List Token) : Type 0 where
  pub args : Exprs
  pub valid : ValidExprs args
  pub shallow : depth_exprs args < limit
  pub opens : Opens (ReadsExprs args ⨾ sign_part sign.CloseParen) word

-- arguments so far
some_exprs_fixed : (es : Exprs) → Fixed (SomeExprs es)
some_exprs_fixed no_exprs ts z h = absurd h
some_exprs_fixed (more_exprs e es) ts z h = exprs_fixed (more_exprs e es) ts z h

module _ (d : ℕ) (pos : 0 < d) where
  -- no body yet
  pub no_body : (P : Statements → Part) (start ts : List Token) (word : List Token) → start ≡ word ++ ts → Opens (P no_statements) word → Stuck (CompletesBody P) d syntax start ts
  no_body P start ts word e o = stuck_here word e (record { body = no_statements; valid = tt; shallow = pos; opens = o })

  -- a part, and then what the body stands in
  pub then_body : {A B : Type 0} (p : Part) (Q : Statements → Part) (ts : List Token) (rest : A → List Token) {r : Result A Refusal} {k : A → Result B Refusal} → Fixed p → Gives r (λ a. p ts (rest a))
      → Fails r (λ f z. Stuck (CompletesBody (Behind p Q)) d f ts z) → ((a : A) → Fails (k a) (λ f z. Stuck (CompletesBody Q) d f (rest a) z)) → Fails (r >>= k) (λ f z. Stuck (CompletesBody (Behind p Q)) d f ts z)
  then_body p Q ts rest fixed g h next = fails-bind g h (λ a t.
      let front = fixed ts (rest a) t in
      fails-more (next a) (λ f z. stuck_beside {pre = front.word} {base = 0} (record { beside = λ l limit w le b c. record { body = c.body; valid = c.valid; shallow = let s = c.shallow in omega arith; opens = opens_front p (Q c.body) front c.opens } }) (omega arith) front.parts))

module _ (d : ℕ) (sub : Parsers) (sound : SoundBelow d sub) (shrinks : NoLonger sub) (pos : 0 < d) (below : StuckBelow d sub) where
  -- ---- the body of a function

  -- statements and the brace that closes them
  statements_refused : (ts inner : List Token) → sign_part sign.OpenBrace ts inner → Fails {A = Statements × List Token} (sub.statements true inner >>= λ body. expect is_close_brace body.1 >>= λ rest. Ok (body.0, rest)) (λ f z. Stuck (CompletesBody Braced) d f ts z)
  statements_refused ts inner o = fails-bind (gives_read (λ ss m e. sound.bodies inner ss m e)) (fails-more (below.statements true inner) (λ f z. stuck_beside {pre = o.0 ∷ []} {base = 0} inside (omega arith) o.1))
      (λ x g. fails-last _ (fails-expect is_close_brace x.1 (closing x.0 x.1 g)))
    where
      inside : Beside (CompletesStatements true) (CompletesBody Braced) (o.0 ∷ []) 0
      inside = record { beside = λ l limit w le b c. record { body = c.trees; valid = c.valid; shallow = let s = c.shallow in omega arith; opens = opens_token _ _ o.0 o.2 (opens_start _ _ c.opens opens_close_brace) } }

      closing : (ss : Statements) (m : List Token) → FoundStatements d true ss inner m → Stuck (CompletesBody Braced) d syntax ts m
      closing ss m g =
          let front = statements_loose ss inner m g.reads in
          stuck_here (o.0 ∷ front.word) (o.1 ∙ ap (λ (x : List Token). o.0 ∷ x) front.parts) (record { body = ss; valid = g.valid; shallow = g.shallow; opens = opens_token _ _ o.0 o.2 (opens_closed _ front) })

  -- a body in braces
  pub body_refused : (ts : List Token) → Fails (body_at sub ts) (λ f z. Stuck (CompletesBody Braced) d f ts z)
  unfolding body_at
  body_refused ts = fails-bind (gives-open-brace ts) (fails-expect is_open_brace ts (no_body d pos Braced ts ts [] refl empty_body)) (λ inner o. statements_refused ts inner o)

  -- parameters in parentheses, and a body in braces
  pub function_rest_refused : (ts : List Token) → Fails (function_rest sub ts) (λ f z. Stuck CompletesFunction d f ts z)
  unfolding function_rest
  function_rest_refused ts = fails-bind (gives-open-paren ts) (fails-expect is_open_paren ts (stuck_here [] refl nothing_yet)) (λ inner o.
      fails-bind (gives_read (λ is m e. parameters_sound inner is m e)) (fails-more (parameters_refused d inner) (λ f z. stuck_beside {pre = o.0 ∷ []} {base = 1} (params_begin o) pos o.1)) (λ x p.
      fails-last _ (fails-more (body_refused x.1) (λ f z. stuck_beside {pre = (parens_front x.0 inner x.1 o p).word} {base = 0} (body_begins x.0 inner x.1 o p) (omega arith) (parens_front x.0 inner x.1 o p).parts))))
    where
      nothing_yet : CompletesFunction d []
      nothing_yet = record { params = []; body = no_statements; valid = tt; shallow = pos; opens = opens_start _ _ (opens_start _ _ opens_open_paren (opens_nothing _ opens_close_paren)) empty_body }

      params_begin : {inner : List Token} (o : sign_part sign.OpenParen ts inner) → Beside CompletesIdents CompletesFunction (o.0 ∷ []) 1
      params_begin o = record { beside = λ l limit w le b c. record { params = c.params; body = no_statements; valid = tt; shallow = omega arith; opens = opens_start _ _ (opens_token _ _ o.0 o.2 c.opens) empty_body } }

      parens_front : (is : List Ident) (inner m : List Token) → sign_part sign.OpenParen ts inner → (ReadsIdents is ⨾ sign_part sign.CloseParen) inner m → Front Any ts m (parens (ReadsIdents is))
      parens_front is inner m o p = token_first _ _ (closed _ _ (loose _ (idents_fixed is))) ts m (inner, o, p)

      body_begins : (is : List Ident) (inner m : List Token) (o : sign_part sign.OpenParen ts inner) (p : (ReadsIdents is ⨾ sign_part sign.CloseParen) inner m) → Beside (CompletesBody Braced) CompletesFunction (parens_front is inner m o p).word 0
      body_begins is inner m o p = record {
        beside = λ l limit w le b c.
            record { params = is; body = c.body; valid = c.valid; shallow = let s = c.shallow in omega arith; opens = opens_front (parens (ReadsIdents is)) (Braced c.body) (parens_front is inner m o p) c.opens };
      }

  -- ---- expressions with a token behind them

  -- an expression, and a token that is asked for
  pub closed_refused : {A : Type 0} (wanted : ℕ) (free : Bool) (ts : List Token) (test : Word → Bool) (k : Expr × List Token → List Token → A) → wanted ≤ 16
      → Fails (sub.expression wanted free ts >>= λ e. expect test e.1 >>= λ rest. Ok (k e rest)) (λ f z. Stuck (Completes wanted free) d f ts z)
  closed_refused wanted free ts test k low = fails-bind (gives_read (λ e m h. sound.expression wanted free ts e m low h)) (below.expression wanted free ts low) (λ x g. fails-last _ (fails-expect test x.1 (stuck_found g)))

  -- ---- arguments

  -- an expression in a list
  pub expression_given : (ts : List Token) → Gives (sub.expression 1 true ts) (λ x. FoundExpression d 1 true x.0 ts x.1)
  expression_given ts = gives_read (λ e m h. sound.expression 1 true ts e m (omega arith) h)

  -- a turn of the arguments
  argument_refused : (start : List Token) (es : Exprs) (ts : List Token) → SoFarExprs d es start ts → Fails (argument sub es ts) (λ f z. Stuck CompletesArguments d f start z)
  unfolding argument argument_by
  argument_refused start es ts i = go (word_at ts) refl
    where
      front : Front Any start ts (SomeExprs es)
      front = some_exprs_fixed es start ts i.reads

      -- the parenthesis is to come
      closes : Stuck CompletesArguments d syntax start ts
      closes = stuck_here front.word front.parts
          (record { args = es; valid = i.valid; shallow = i.shallow; opens = opens_map _ (λ us y h. (h.0, some_exprs es us h.0 h.1, h.2)) (opens_start _ _ (opens_whole (SomeExprs es) front) opens_close_paren) })

      -- or behind a comma another argument, which is begun
      another : (t : sign_part sign.Comma ts (behind ts)) → Beside (Completes 1 true) CompletesArguments (front.word ++ (t.0 ∷ [])) d
      another t = record {
        beside = λ l limit w le b c.
            let s = c.shallow in let s' = i.shallow in
            record {
              args = joined_exprs es (more_exprs c.tree no_exprs);
              valid = exprs_valid es (more_exprs c.tree no_exprs) i.valid (c.valid, reached_low 1 c.tree (omega arith) c.reaches, tt);
              shallow = exprs_shallow limit es (more_exprs c.tree no_exprs) (omega arith) (omega arith);
              opens = rw append_assoc (opens_map _ (λ us y k. let (a, b, (e, q, (f, r, p))) = k in (f, some_exprs (joined_exprs es (more_exprs c.tree no_exprs)) us f (exprs_more es c.tree us a e f b q r), p))
                  (opens_front _ _ front (opens_token _ _ t.0 t.2 (opens_start _ _ c.opens opens_close_paren))));
            };
      }

      go : (w : Option Word) → word_at ts ≡ w → Fails (argument_by sub es w ts) (λ f z. Stuck CompletesArguments d f start z)
      go (Some (a_sign sign.CloseParen)) h = fails-ok
      go (Some (a_sign sign.Comma)) h = let t = takes _ ts h in fails-last _ (fails-more (below.expression 1 true (behind ts) (omega arith)) (λ f z. stuck_beside (another t) (omega arith) (behind_token front.word start ts t.0 (behind ts) front.parts t.1)))
      go _ h = fails-err closes

  -- arguments, and the parenthesis that closes them
  pub arguments_refused : (ts : List Token) → Fails (arguments sub ts) (λ f z. Stuck CompletesArguments d f ts z)
  unfolding arguments arguments_by
  arguments_refused ts = go (word_at ts)
    where
      alone : Beside (Completes 1 true) CompletesArguments [] 0
      alone = record {
        beside = λ l limit w le b c.
            let s = c.shallow in
            record { args = more_exprs c.tree no_exprs; valid = (c.valid, reached_low 1 c.tree (omega arith) c.reaches, tt); shallow = omega arith; opens = opens_start _ _ c.opens opens_close_paren };
      }

      several : Fails (sub.expression 1 true ts >>= λ e. loop (argument sub) (more_exprs e.0 no_exprs) e.1) (λ f z. Stuck CompletesArguments d f ts z)
      several = fails-bind (expression_given ts) (fails-more (below.expression 1 true ts (omega arith)) (λ f z. stuck_beside alone (omega arith) refl)) (λ x g.
          let s = g.shallow in
          fails-loop (λ es m. SoFarExprs d es ts m) (argument_turns sub shrinks) (λ es m fs y j e. argument_sound d sub sound ts es m (again fs) y j e) (λ es m j. argument_refused ts es m j) (more_exprs x.0 no_exprs) x.1
          (record { valid = (g.valid, reached_low 1 x.0 (omega arith) g.reaches, tt); shallow = omega arith; reads = g.reads }))

      go : (w : Option Word) → Fails (arguments_by sub w ts) (λ f z. Stuck CompletesArguments d f ts z)
      go (Some (a_sign sign.CloseParen)) = fails-ok
      go _ = several
