-- A statement whose semicolon is left out has a twin with a written one: the tokens that spell the one begin the other, whatever follows.
use Rattle.std.proofs.Common.{◌≡◌, ℕ, suc, Bool, false, List, [], ◌∷◌, ◌++◌, length, Option, Some, None, refl, sym, ap, ◌∙◌, append_assoc, arith}
use Rattle.js_ast.specs.declared.token.Token.{Token}
use Rattle.js_ast.specs.declared.words.Sign.TheVariants as sign
use Rattle.js_ast.specs.Words.{Word}
use Rattle.js_ast.specs.Trees.{Semi, written, elided, Expr, absent, present, Statement, block, var, empty, expression, if_then, if_else, do_while, while, for, for_in, continue, break, return, throw, switch, labelled, try_catch, try_finally, try_both, debugger, function_declaration}
use Rattle.js_ast.specs.Grammar.{Part, ◌⨾◌, place_of, At, Takes, sign_part, parens, Ends, StartsExpression, Reads, ReadsStatement}
use Rattle.js_ast.specs.Validity.{ValidStatement, open_if}
use Rattle.js_ast.specs.Depth.{depth_statement}
use Rattle.js_list_parser.proofs.Lengths.{expr_shortens, statement_shortens}
use Rattle.js_list_parser.proofs.Fronts.{first_of, Fixed, Loose, loose, fixed_first, token_first, between, line_front, takes_fixed, ident_fixed, label_fixed, idents_fixed, expr_fixed, maybe_fixed, declarations_fixed, first_fixed, target_fixed, clauses_loose, block_fixed, statement_loose, statements_loose, function_fixed}
use Rattle.js_list_parser.proofs.Viable.{Opens, opens_token, opens_front, opens_loose, opens_whole, opens_semicolon}

-- the twin
abbrev pub closed : Statement → Statement
closed (var at ds semi) = var at ds written
closed (expression at e semi) = expression at e written
closed (if_then at e s) = if_then at e (closed s)
closed (if_else at e s u) = if_else at e s (closed u)
closed (do_while at s e semi) = do_while at s e written
closed (while at e s) = while at e (closed s)
closed (for at first test step s) = for at first test step (closed s)
closed (for_in at target e s) = for_in at target e (closed s)
closed (continue at label semi) = continue at label written
closed (break at label semi) = break at label written
closed (return at e semi) = return at e written
closed (throw at e semi) = throw at e written
closed (labelled at text s) = labelled at text (closed s)
closed (debugger at semi) = debugger at written
closed s = s

-- it is valid
pub closed_valid : (outer : Bool) (s : Statement) → ValidStatement outer s → ValidStatement outer (closed s)
closed_valid outer (if_then at e s) v = (v.0, closed_valid false s v.1)
closed_valid outer (if_else at e s u) v = (v.0, v.1, v.2, closed_valid false u v.3)
closed_valid outer (while at e s) v = (v.0, closed_valid false s v.1)
closed_valid outer (for at first test step s) v = (v.0, v.1, v.2, v.3, closed_valid false s v.4)
closed_valid outer (for_in at target e s) v = (v.0, v.1, closed_valid false s v.2)
closed_valid outer (labelled at text s) v = closed_valid false s v
closed_valid outer _ v = v

-- and has the same depth
pub closed_depth : (s : Statement) → depth_statement (closed s) ≡ depth_statement s
closed_depth (if_then at e s) = rw (closed_depth s) refl
closed_depth (if_else at e s u) = rw (closed_depth u) refl
closed_depth (while at e s) = rw (closed_depth s) refl
closed_depth (for at first test step s) = rw (closed_depth s) refl
closed_depth (for_in at target e s) = rw (closed_depth s) refl
closed_depth (labelled at text s) = ap suc (closed_depth s)
closed_depth _ = refl

-- an `if` at its end is open where the other's is
pub closed_open : (s : Statement) → open_if (closed s) ≡ open_if s
closed_open (if_else at e s u) = closed_open u
closed_open (while at e s) = closed_open s
closed_open (for at first test step s) = closed_open s
closed_open (for_in at target e s) = closed_open s
closed_open (labelled at text s) = closed_open s
closed_open _ = refl

-- ---- parts that are closed

-- the tokens up to z begin a part, whatever follows
pub record Closes (p : Part) (ts z : List Token) : Type 0 where
  pub word : List Token
  pub parts : ts ≡ word ++ z
  pub opens : Opens p word

-- what doesn't hang on what follows
closes_fixed : (p : Part) → Fixed p → (ts z : List Token) → p ts z → Closes p ts z
closes_fixed p f ts z h = let g = f ts z h in record { word = g.word; parts = g.parts; opens = opens_whole p g }

-- a part and then one that is closed
closes_second : (p q : Part) → Fixed p → (ts m z : List Token) → p ts m → Closes q m z → Closes (p ⨾ q) ts z
closes_second p q f ts m z h c =
    let g = f ts m h in
    record { word = g.word ++ c.word; parts = g.parts ∙ ap (λ (x : List Token). g.word ++ x) c.parts ∙ sym (append_assoc g.word c.word z); opens = opens_front p q g c.opens }

-- a part that hangs on the first token behind it, this token, and then what is closed
closes_loose : (p : Part) (w : Word) (q : Part) → Loose p → (ts m k z : List Token) → p ts m → Takes w m k → Closes q k z → Closes (p ⨾ (Takes w ⨾ q)) ts z
closes_loose p w q f ts m k z h t c =
    let g = f ts m h in
    record {
      word = g.word ++ (t.0 ∷ c.word);
      parts = g.parts ∙ ap (λ (x : List Token). g.word ++ x) (t.1 ∙ ap (λ (x : List Token). t.0 ∷ x) c.parts) ∙ sym (append_assoc g.word (t.0 ∷ c.word) z);
      opens = opens_loose p (Takes w ⨾ q) t.0 g (ap first_of t.1) (opens_token w q t.0 t.2 c.opens);
    }

-- a token, and then what is closed
closes_token : (w : Word) (p : Part) (ts m z : List Token) → Takes w ts m → Closes p m z → Closes (Takes w ⨾ p) ts z
closes_token w p ts m z h c = closes_second (Takes w) p (takes_fixed w) ts m z h c

-- the same at a place
closes_key : (at : ℕ) (w : Word) (p : Part) (ts m z : List Token) → at ≡ place_of ts → Takes w ts m → Closes p m z → Closes (At at (Takes w ⨾ p)) ts z
closes_key at w p ts m z e h c = record {
  word = h.0 ∷ c.word;
  parts = h.1 ∙ ap (λ (x : List Token). h.0 ∷ x) c.parts;
  opens = record { each = λ y. let r = c.opens.each y in (r.0, (e ∙ ap place_of h.1, (c.word ++ r.0, (h.0, refl, h.2), r.1))) };
}

-- a part and the end of a statement
closes_end : (p : Part) → Fixed p → (before : Option Expr) (semi : Semi) (ts z : List Token) → (p ⨾ Ends before semi) ts z → Closes (p ⨾ Ends before written) ts z
closes_end p f before written ts z h = closes_second p (sign_part sign.Semicolon) f ts h.0 z h.1 (closes_fixed _ (takes_fixed _) h.0 z h.2)
closes_end p f before elided ts z h = closes_second p (sign_part sign.Semicolon) f ts h.0 z h.1 (record { word = []; parts = (h.2).0; opens = opens_semicolon })

-- the end alone
closes_ends : (before : Option Expr) (semi : Semi) (ts z : List Token) → Ends before semi ts z → Closes (sign_part sign.Semicolon) ts z
closes_ends before written ts z h = closes_fixed _ (takes_fixed _) ts z h
closes_ends before elided ts z h = record { word = []; parts = h.0; opens = opens_semicolon }

-- the tokens of an expression statement: what is asked of the first one stays
closes_expression : (at : ℕ) (e : Expr) (semi : Semi) (ts z : List Token) → StartsExpression (At at (Reads e ⨾ Ends (Some e) semi)) ts z → Closes (StartsExpression (At at (Reads e ⨾ Ends (Some e) written))) ts z
closes_expression at e semi ts z h =
    let c = closes_end (Reads e) (expr_fixed e) (Some e) semi ts z h.1.1 in
    go c.word c.parts c.opens
  where
    go : (w : List Token) → ts ≡ w ++ z → Opens (Reads e ⨾ Ends (Some e) written) w → Closes (StartsExpression (At at (Reads e ⨾ Ends (Some e) written))) ts z
    go [] p o = absurd (let short = statement_shortens (expression at e semi) ts z h in omega (arith, ap length p))
    go (t ∷ w) p o = record { word = t ∷ w; parts = p; opens = record { each = λ y. let r = o.each y in (r.0, (rw p at h.0, (h.1.0 ∙ ap place_of p, r.1))) } }

-- `( .. )`
pub in_parens : (e : Expr) → Fixed (parens (Reads e))
in_parens e = between _ _ _ (loose _ (expr_fixed e))

-- each statement
pub closes_statement : (s : Statement) (ts z : List Token) → ReadsStatement s ts z → Closes (ReadsStatement (closed s)) ts z
closes_statement (block b) ts z h = closes_fixed _ (block_fixed b) ts z h
closes_statement (var at ds semi) ts z h = let (p, (m, t, r)) = h in closes_key at _ _ ts m z p t (closes_end _ (declarations_fixed ds) _ semi m z r)
closes_statement (empty at) ts z h = let (p, (t, e, w)) = h in record { word = t ∷ []; parts = e; opens = record { each = λ y. (y, (p ∙ ap place_of e, (t, refl, w))) } }
closes_statement (expression at e semi) ts z h = closes_expression at e semi ts z h
closes_statement (if_then at e s) ts z h = let (p, (m, t, (n, i, r))) = h in closes_key at _ _ ts m z p t (closes_second _ _ (in_parens e) m n z i (closes_statement s n z r))
closes_statement (if_else at e s u) ts z h = let (p, (m, t, (n, i, (k, r, (l, q, v))))) = h in closes_key at _ _ ts m z p t (closes_second _ _ (in_parens e) m n z i (closes_loose _ _ _ (statement_loose s) n k l z r q (closes_statement u l z v)))
closes_statement (do_while at s e semi) ts z h = let (p, (m, t, (n, r, (k, q, v)))) = h in closes_key at _ _ ts m z p t (closes_loose _ _ _ (statement_loose s) m n k z r q (closes_end _ (in_parens e) None semi k z v))
closes_statement (while at e s) ts z h = let (p, (m, t, (n, i, r))) = h in closes_key at _ _ ts m z p t (closes_second _ _ (in_parens e) m n z i (closes_statement s n z r))
closes_statement (for at first test step s) ts z h = let (p, (m, t, (n, i, r))) = h in
    closes_key at _ _ ts m z p t (closes_second _ _ (between _ _ _ (loose _ (fixed_first _ _ (first_fixed first) (token_first _ _ (fixed_first _ _ (maybe_fixed test) (token_first _ _ (maybe_fixed step))))))) m n z i (closes_statement s n z r))
closes_statement (for_in at target e s) ts z h = let (p, (m, t, (n, i, r))) = h in
    closes_key at _ _ ts m z p t (closes_second _ _ (between _ _ _ (loose _ (fixed_first _ _ (target_fixed target) (token_first _ _ (expr_fixed e))))) m n z i (closes_statement s n z r))
closes_statement (continue at label semi) ts z h = let (p, (m, t, r)) = h in closes_key at _ _ ts m z p t (closes_end _ (label_fixed label) None semi m z r)
closes_statement (break at label semi) ts z h = let (p, (m, t, r)) = h in closes_key at _ _ ts m z p t (closes_end _ (label_fixed label) None semi m z r)
closes_statement (return at absent semi) ts z h = let (p, (m, t, r)) = h in closes_key at _ _ ts m z p t (closes_ends None semi m z r)
closes_statement (return at (present e) semi) ts z h = let (p, (m, t, r)) = h in closes_key at _ _ ts m z p t (closes_end _ (line_front _ (expr_shortens e) (expr_fixed e)) (Some e) semi m z r)
closes_statement (throw at e semi) ts z h = let (p, (m, t, r)) = h in closes_key at _ _ ts m z p t (closes_end _ (line_front _ (expr_shortens e) (expr_fixed e)) (Some e) semi m z r)
closes_statement (switch at e clauses) ts z h = let (p, (m, t, r)) = h in closes_key at _ _ ts m z p t (closes_fixed _ (fixed_first _ _ (in_parens e) (between _ _ _ (clauses_loose clauses))) m z r)
closes_statement (labelled at text s) ts z h = let (p, (m, t, (n, q, r))) = h in closes_key at _ _ ts m z p t (closes_token _ _ m n z q (closes_statement s n z r))
closes_statement (try_catch at b ident handler) ts z h = let (p, (m, t, r)) = h in
    closes_key at _ _ ts m z p t (closes_fixed _ (fixed_first _ _ (block_fixed b) (token_first _ _ (fixed_first _ _ (between _ _ _ (loose _ (ident_fixed ident))) (block_fixed handler)))) m z r)
closes_statement (try_finally at b final) ts z h = let (p, (m, t, r)) = h in closes_key at _ _ ts m z p t (closes_fixed _ (fixed_first _ _ (block_fixed b) (token_first _ _ (block_fixed final))) m z r)
closes_statement (try_both at b ident handler final) ts z h = let (p, (m, t, r)) = h in
    closes_key at _ _ ts m z p t (closes_fixed _ (fixed_first _ _ (block_fixed b) (fixed_first _ _ (token_first _ _ (fixed_first _ _ (between _ _ _ (loose _ (ident_fixed ident))) (block_fixed handler))) (token_first _ _ (block_fixed final)))) m z r)
closes_statement (debugger at semi) ts z h = let (p, (m, t, r)) = h in closes_key at _ _ ts m z p t (closes_ends None semi m z r)
closes_statement (function_declaration at f) ts z h = let (p, (m, t, r)) = h in closes_key at _ _ ts m z p t (closes_fixed _ (function_fixed f) m z r)
