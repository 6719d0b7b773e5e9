-- What spells a tree goes on spelling it where other tokens follow: of an expression any, of statements those that begin alike, or with `}`, or none:
-- there each semicolon may be left out.
use Rattle.std.proofs.Common.{◌≡◌, ℕ, ◌<◌, ◌⊎◌, inl, inr, Bool, true, false, List, [], ◌∷◌, ◌++◌, length, Option, Some, None, refl, sym, ap, ◌∙◌, append_assoc, arith}
use Rattle.js_ast.specs.declared.token.Token.{Token}
use Rattle.js_ast.specs.declared.words.Sign.TheVariants as sign
use Rattle.js_ast.specs.Words.{Word, a_sign, word_of}
use Rattle.js_ast.specs.Trees.{Ident, Key, name_key, string_key, number_key, Semi, written, elided, Expr, name, number, string, this, null, boolean, paren, array, object, function, member, index, new_with, new_bare, call, postfix, unary, binary, conditional, assign, comma, Exprs, no_exprs, more_exprs, MaybeExpr, absent, present, Items, no_items, hole, item, Property, value, getter, setter, Properties, no_properties, more_properties, Declarations, one_declaration, more_declarations, First, first_expr, first_var, Target, target_expr, target_var, Clauses, no_clauses, case, default, Block, block_of, Statement, block, var, empty, expression, if_then, if_else, do_while, while, for, for_in, continue, break, return, throw, switch, labelled, try_catch, try_finally, try_both, debugger, function_declaration, Statements, no_statements, more_statements, Function, function_of}
use Rattle.js_ast.specs.Grammar.{Part, ◌⨾◌, nothing, place_of, on_line, closes, At, OnLine, Takes, TakesName, ReadsIdent, MaybeIdent, MaybeLabel, ReadsIdents, ReadsKey, FinalComma, may_elide, Ends, last_initialiser, starts_expression, Reads, ReadsExprs, ReadsMaybe, ReadsItems, ReadsProperty, ReadsProperties, ReadsInitialiser, ReadsDeclarations, ReadsFirst, ReadsTarget, ReadsClauses, ReadsBlock, ReadsStatement, ReadsStatements, ReadsFunction}
use Rattle.js_list_parser.proofs.Lengths.{Shortens, takes_shortens, at_shortens, first_shortens, end_keeps, expr_shortens, property_shortens, ident_shortens, block_shortens, statement_shortens}

-- ts is a word and then z, and Q holds of the word with any tokens behind it that may stand in place of z
pub record Front (R : List Token → List Token → Type 0) (ts z : List Token) (Q : List Token → List Token → Type 0) : Type 0 where
  pub word : List Token
  pub parts : ts ≡ word ++ z
  pub each : (y : List Token) → R z y → Q (word ++ y) y

-- ---- what may stand in place of tokens

-- anything
abbrev pub Any : List Token → List Token → Type 0
Any z y = Unit {0}

-- the first token, if there is one
abbrev pub first_of : List Token → Option Token
first_of [] = None
first_of (t ∷ ts) = Some t

-- what begins with the same token, or with `}`, or nothing
abbrev pub SameEnd : List Token → List Token → Type 0
SameEnd z y = (first_of z ≡ first_of y) ⊎ (closes y ≡ true)

-- the same behind a word
pub same_end : (w m z y : List Token) → m ≡ w ++ z → SameEnd z y → SameEnd m (w ++ y)
same_end [] m z y p e = rw p e
same_end (t ∷ w) m z y p e = rw p (inl refl)

-- ---- parts

-- a part goes on holding
abbrev pub Fronts : (List Token → List Token → Type 0) → Part → Type 0
Fronts R p = (ts z : List Token) → p ts z → Front R ts z p

-- where anything may follow
abbrev pub Fixed : Part → Type 0
Fixed p = Fronts Any p

-- where what begins alike may follow, or `}`, or nothing
abbrev pub Loose : Part → Type 0
Loose p = Fronts SameEnd p

-- one part, and then another
pub front_then : {R S : List Token → List Token → Type 0} {P Q : List Token → List Token → Type 0} (T : List Token → List Token → Type 0) (ts m z : List Token) → Front S ts m P → (f : Front R m z Q)
    → ((y : List Token) → R z y → S m (f.word ++ y)) → ((u v y : List Token) → P u v → Q v y → T u y) → Front R ts z T
front_then T ts m z f g also both = record {
  word = f.word ++ g.word;
  parts = f.parts ∙ ap (λ (x : List Token). f.word ++ x) g.parts ∙ sym (append_assoc f.word g.word z);
  each = λ y r. rw append_assoc (both (f.word ++ (g.word ++ y)) (g.word ++ y) y (f.each (g.word ++ y) (also y r)) (g.each y r));
}

-- a part that anything may follow, and then another
pub fixed_first : {R : List Token → List Token → Type 0} (p q : Part) → Fixed p → Fronts R q → Fronts R (p ⨾ q)
fixed_first p q f g ts z h = front_then (p ⨾ q) ts h.0 z (f ts h.0 h.1) (g h.0 z h.2) (λ y r. tt) (λ u v y a b. (v, a, b))

-- a loose part, and then another
pub loose_first : (p q : Part) → Loose p → Loose q → Loose (p ⨾ q)
loose_first p q f g ts z h =
    let second = g h.0 z h.2 in
    front_then (p ⨾ q) ts h.0 z (f ts h.0 h.1) second (λ y r. same_end second.word h.0 z y second.parts r) (λ u v y a b. (v, a, b))

-- a part that anything may follow is loose
pub loose : (p : Part) → Fixed p → Loose p
loose p f ts z h = let g = f ts z h in record { word = g.word; parts = g.parts; each = λ y r. g.each y tt }

-- nothing
pub nothing_fixed : Fixed nothing
nothing_fixed ts z h = record { word = []; parts = h; each = λ y r. refl }

-- a token
pub takes_fixed : (w : Word) → Fixed (Takes w)
takes_fixed w ts z h = record { word = h.0 ∷ []; parts = h.1; each = λ y r. (h.0, refl, h.2) }

-- an identifier name
pub name_fixed : (text : List ℕ) → Fixed (TakesName text)
name_fixed text ts z h = record { word = h.0 ∷ []; parts = h.1; each = λ y r. (h.0, refl, h.2) }

-- a loose part and a token
pub closed : (p : Part) (w : Word) → Loose p → Fixed (p ⨾ Takes w)
unfolding takes_fixed
closed p w f ts z h = front_then (p ⨾ Takes w) ts h.0 z (f ts h.0 h.1) (takes_fixed w h.0 z h.2) (λ y r. inl (ap first_of (h.2).1)) (λ u v y a b. (v, a, b))

-- a token and a part
pub token_first : {R : List Token → List Token → Type 0} (w : Word) (p : Part) → Fronts R p → Fronts R (Takes w ⨾ p)
token_first w p f = fixed_first (Takes w) p (takes_fixed w) f

-- a loose part between two tokens
pub between : (v w : Word) (p : Part) → Loose p → Fixed (Takes v ⨾ (p ⨾ Takes w))
between v w p f = token_first v (p ⨾ Takes w) (closed p w f)

-- ---- what is asked of the first token

-- a word with a token at least, before other tokens
starts_word : {X : Type 0} (c : List Token → X) (w z y : List Token) → ((t : Token) (u v : List Token) → c (t ∷ u) ≡ c (t ∷ v)) → length z < length (w ++ z) → c (w ++ z) ≡ c (w ++ y)
starts_word c [] z y one lt = absurd (omega arith)
starts_word c (t ∷ w) z y one lt = one t (w ++ z) (w ++ y)

-- the first token stays
starts : {R : List Token → List Token → Type 0} {X : Type 0} (c : List Token → X) (x : X) (p : Part) → ((t : Token) (u v : List Token) → c (t ∷ u) ≡ c (t ∷ v)) → Shortens (λ ts z. (x ≡ c ts) × p ts z) → Fronts R p → Fronts R (λ ts z. (x ≡ c ts) × p ts z)
starts c x p one s f ts z h =
    let g = f ts z h.1 in
    let shorter : length z < length (g.word ++ z) = rw (← (g.parts)) (s ts z h) in
    record { word = g.word; parts = g.parts; each = λ y r. (h.0 ∙ ap c g.parts ∙ starts_word c g.word z y one shorter, g.each y r) }

-- a part at a place
pub at_front : {R : List Token → List Token → Type 0} (at : ℕ) (p : Part) → Shortens (At at p) → Fronts R p → Fronts R (At at p)
at_front at p s f = starts place_of at p (λ t u v. refl) s f

-- a test of the first token stays
tests : {R : List Token → List Token → Type 0} (c : List Token → Bool) (p : Part) → ((t : Token) (u v : List Token) → c (t ∷ u) ≡ c (t ∷ v)) → Shortens p → Fronts R p → Fronts R (λ ts z. (c ts ≡ true) × p ts z)
tests c p one s f ts z h =
    let g = starts c true p one (λ us y k. s us y k.1) f ts z (sym h.0, h.1) in
    record { word = g.word; parts = g.parts; each = λ y r. let k = g.each y r in (sym k.0, k.1) }

-- a part on the line of what is before it
pub line_front : {R : List Token → List Token → Type 0} (p : Part) → Shortens p → Fronts R p → Fronts R (OnLine p)
line_front p s f = tests on_line p (λ t u v. refl) s f

-- ---- small parts

-- a name that is bound
pub ident_fixed : (i : Ident) → Fixed (ReadsIdent i)
ident_fixed i = at_front i.at _ (ident_shortens i) (takes_fixed _)

-- or none
pub maybe_ident_fixed : (i : Option Ident) → Fixed (MaybeIdent i)
maybe_ident_fixed None = nothing_fixed
maybe_ident_fixed (Some i) = ident_fixed i

-- a label or none
pub label_fixed : (i : Option Ident) → Fixed (MaybeLabel i)
label_fixed None = nothing_fixed
label_fixed (Some i) = line_front (ReadsIdent i) (ident_shortens i) (ident_fixed i)

-- parameters
pub idents_fixed : (is : List Ident) → Fixed (ReadsIdents is)
idents_fixed [] = nothing_fixed
idents_fixed (i ∷ []) = ident_fixed i
idents_fixed (i ∷ j ∷ is) = fixed_first _ _ (ident_fixed i) (token_first _ _ (idents_fixed (j ∷ is)))

-- a key
pub key_fixed : (k : Key) → Fixed (ReadsKey k)
key_fixed (name_key text) = name_fixed text
key_fixed (string_key text v) = takes_fixed _
key_fixed (number_key n) = takes_fixed _

-- a final comma or none
comma_fixed : (final : Bool) → Fixed (FinalComma final)
comma_fixed true = takes_fixed _
comma_fixed false = nothing_fixed

-- a semicolon that may be left out may be so before what begins alike, and before `}`
elide_same : (before : Option Expr) (z y : List Token) → SameEnd z y → may_elide before z ≡ true → may_elide before y ≡ true
elide_same before [] [] e h = refl
elide_same before (t ∷ z) [] e h = refl
elide_same before [] (s ∷ y) (inl e) h = absurd cc
elide_same before (t ∷ z) (s ∷ y) (inl e) h = let same : t ≡ s = cc in rw (← same) h
elide_same before z (s ∷ y) (inr e) h = rw e refl

-- the end of a statement
pub end_loose : (before : Option Expr) (semi : Semi) → Loose (Ends before semi)
end_loose before written = loose _ (takes_fixed _)
end_loose before elided = λ ts z h. record { word = []; parts = h.0; each = λ y r. (refl, elide_same before z y r (rw (h.0) at h.1)) }

-- an expression and its end shorten
expression_shortens : (at : ℕ) (e : Expr) (semi : Semi) → Shortens (At at (Reads e ⨾ Ends (Some e) semi))
expression_shortens at e semi = at_shortens at _ (first_shortens _ _ (expr_shortens e) (end_keeps (Some e) semi))

-- ---- trees

mutual
  pub expr_fixed : (e : Expr) → Fixed (Reads e)
  expr_fixed (name at text) = at_front at _ (expr_shortens (name at text)) (takes_fixed _)
  expr_fixed (number at n) = at_front at _ (expr_shortens (number at n)) (takes_fixed _)
  expr_fixed (string at text v) = at_front at _ (expr_shortens (string at text v)) (takes_fixed _)
  expr_fixed (this at) = at_front at _ (expr_shortens (this at)) (takes_fixed _)
  expr_fixed (null at) = at_front at _ (expr_shortens (null at)) (takes_fixed _)
  expr_fixed (boolean at b) = at_front at _ (expr_shortens (boolean at b)) (takes_fixed _)
  expr_fixed (paren at e) = at_front at _ (expr_shortens (paren at e)) (between _ _ _ (loose _ (expr_fixed e)))
  expr_fixed (array at items final) = at_front at _ (expr_shortens (array at items final)) (between _ _ _ (loose _ (items_fixed items final)))
  expr_fixed (object at props final) = at_front at _ (expr_shortens (object at props final)) (between _ _ _ (loose _ (properties_fixed props final)))
  expr_fixed (function at f) = at_front at _ (expr_shortens (function at f)) (token_first _ _ (function_fixed f))
  expr_fixed (member at e text) = at_front at _ (expr_shortens (member at e text)) (fixed_first _ _ (expr_fixed e) (token_first _ _ (name_fixed text)))
  expr_fixed (index at e i) = at_front at _ (expr_shortens (index at e i)) (fixed_first _ _ (expr_fixed e) (between _ _ _ (loose _ (expr_fixed i))))
  expr_fixed (new_with at e args) = at_front at _ (expr_shortens (new_with at e args)) (token_first _ _ (fixed_first _ _ (expr_fixed e) (between _ _ _ (loose _ (exprs_fixed args)))))
  expr_fixed (new_bare at e) = at_front at _ (expr_shortens (new_bare at e)) (token_first _ _ (expr_fixed e))
  expr_fixed (call at e args) = at_front at _ (expr_shortens (call at e args)) (fixed_first _ _ (expr_fixed e) (between _ _ _ (loose _ (exprs_fixed args))))
  expr_fixed (postfix at e o) = at_front at _ (expr_shortens (postfix at e o)) (fixed_first _ _ (expr_fixed e) (line_front _ (takes_shortens _) (takes_fixed _)))
  expr_fixed (unary at o e) = at_front at _ (expr_shortens (unary at o e)) (token_first _ _ (expr_fixed e))
  expr_fixed (binary at l o r) = at_front at _ (expr_shortens (binary at l o r)) (fixed_first _ _ (expr_fixed l) (token_first _ _ (expr_fixed r)))
  expr_fixed (conditional at c a b) = at_front at _ (expr_shortens (conditional at c a b)) (fixed_first _ _ (expr_fixed c) (token_first _ _ (fixed_first _ _ (expr_fixed a) (token_first _ _ (expr_fixed b)))))
  expr_fixed (assign at l o r) = at_front at _ (expr_shortens (assign at l o r)) (fixed_first _ _ (expr_fixed l) (token_first _ _ (expr_fixed r)))
  expr_fixed (comma at l r) = at_front at _ (expr_shortens (comma at l r)) (fixed_first _ _ (expr_fixed l) (token_first _ _ (expr_fixed r)))

  pub exprs_fixed : (es : Exprs) → Fixed (ReadsExprs es)
  exprs_fixed no_exprs = nothing_fixed
  exprs_fixed (more_exprs e no_exprs) = expr_fixed e
  exprs_fixed (more_exprs e (more_exprs f es)) = fixed_first _ _ (expr_fixed e) (token_first _ _ (exprs_fixed (more_exprs f es)))

  pub maybe_fixed : (e : MaybeExpr) → Fixed (ReadsMaybe e)
  maybe_fixed absent = nothing_fixed
  maybe_fixed (present e) = expr_fixed e

  pub items_fixed : (is : Items) (final : Bool) → Fixed (ReadsItems is final)
  items_fixed no_items final = nothing_fixed
  items_fixed (hole is) final = token_first _ _ (items_fixed is final)
  items_fixed (item e no_items) final = fixed_first _ _ (expr_fixed e) (comma_fixed final)
  items_fixed (item e (hole is)) final = fixed_first _ _ (expr_fixed e) (token_first _ _ (items_fixed (hole is) final))
  items_fixed (item e (item f is)) final = fixed_first _ _ (expr_fixed e) (token_first _ _ (items_fixed (item f is) final))

  pub property_fixed : (p : Property) → Fixed (ReadsProperty p)
  property_fixed (value at k e) = at_front at _ (property_shortens (value at k e)) (fixed_first _ _ (key_fixed k) (token_first _ _ (expr_fixed e)))
  property_fixed (getter at k f) = at_front at _ (property_shortens (getter at k f)) (token_first _ _ (fixed_first _ _ (key_fixed k) (function_fixed f)))
  property_fixed (setter at k f) = at_front at _ (property_shortens (setter at k f)) (token_first _ _ (fixed_first _ _ (key_fixed k) (function_fixed f)))

  pub function_fixed : (f : Function) → Fixed (ReadsFunction f)
  function_fixed (function_of at ident params body) = fixed_first _ _ (maybe_ident_fixed ident) (fixed_first _ _ (between _ _ _ (loose _ (idents_fixed params))) (between _ _ _ (statements_loose body)))

  pub properties_fixed : (ps : Properties) (final : Bool) → Fixed (ReadsProperties ps final)
  properties_fixed no_properties final = nothing_fixed
  properties_fixed (more_properties p no_properties) final = fixed_first _ _ (property_fixed p) (comma_fixed final)
  properties_fixed (more_properties p (more_properties q ps)) final = fixed_first _ _ (property_fixed p) (token_first _ _ (properties_fixed (more_properties q ps) final))

  pub initialiser_fixed : (e : MaybeExpr) → Fixed (ReadsInitialiser e)
  initialiser_fixed absent = nothing_fixed
  initialiser_fixed (present e) = token_first _ _ (expr_fixed e)

  pub declarations_fixed : (ds : Declarations) → Fixed (ReadsDeclarations ds)
  declarations_fixed (one_declaration ident init) = fixed_first _ _ (ident_fixed ident) (initialiser_fixed init)
  declarations_fixed (more_declarations ident init ds) = fixed_first _ _ (fixed_first _ _ (ident_fixed ident) (initialiser_fixed init)) (token_first _ _ (declarations_fixed ds))

  pub first_fixed : (f : First) → Fixed (ReadsFirst f)
  first_fixed (first_expr e) = maybe_fixed e
  first_fixed (first_var ds) = token_first _ _ (declarations_fixed ds)

  pub target_fixed : (t : Target) → Fixed (ReadsTarget t)
  target_fixed (target_expr e) = expr_fixed e
  target_fixed (target_var ident) = token_first _ _ (ident_fixed ident)

  pub clauses_loose : (cs : Clauses) → Loose (ReadsClauses cs)
  clauses_loose no_clauses = loose _ nothing_fixed
  clauses_loose (case e body cs) = loose_first _ _ (token_first _ _ (fixed_first _ _ (expr_fixed e) (token_first _ _ (statements_loose body)))) (clauses_loose cs)
  clauses_loose (default body cs) = loose_first _ _ (token_first _ _ (token_first _ _ (statements_loose body))) (clauses_loose cs)

  pub block_fixed : (b : Block) → Fixed (ReadsBlock b)
  block_fixed (block_of at body) = at_front at _ (block_shortens (block_of at body)) (between _ _ _ (statements_loose body))

  pub statement_loose : (s : Statement) → Loose (ReadsStatement s)
  statement_loose (block b) = loose _ (block_fixed b)
  statement_loose (var at ds semi) = at_front at _ (statement_shortens (var at ds semi)) (token_first _ _ (fixed_first _ _ (declarations_fixed ds) (end_loose (last_initialiser ds) semi)))
  statement_loose (empty at) = loose _ (at_front at _ (statement_shortens (empty at)) (takes_fixed _))
  statement_loose (expression at e semi) = tests starts_expression _ (λ t u v. refl) (expression_shortens at e semi) (at_front at _ (expression_shortens at e semi) (fixed_first _ _ (expr_fixed e) (end_loose (Some e) semi)))
  statement_loose (if_then at e s) = at_front at _ (statement_shortens (if_then at e s)) (token_first _ _ (fixed_first _ _ (between _ _ _ (loose _ (expr_fixed e))) (statement_loose s)))
  statement_loose (if_else at e s u) =
      at_front at _ (statement_shortens (if_else at e s u)) (token_first _ _ (fixed_first _ _ (between _ _ _ (loose _ (expr_fixed e))) (loose_first _ _ (statement_loose s) (token_first _ _ (statement_loose u)))))
  statement_loose (do_while at s e semi) =
      at_front at _ (statement_shortens (do_while at s e semi)) (token_first _ _ (loose_first _ _ (statement_loose s) (token_first _ _ (fixed_first _ _ (between _ _ _ (loose _ (expr_fixed e))) (end_loose None semi)))))
  statement_loose (while at e s) = at_front at _ (statement_shortens (while at e s)) (token_first _ _ (fixed_first _ _ (between _ _ _ (loose _ (expr_fixed e))) (statement_loose s)))
  statement_loose (for at first test step s) =
      at_front at _ (statement_shortens (for at first test step s)) (token_first _ _ (fixed_first _ _ (between _ _ _ (loose _ (fixed_first _ _ (first_fixed first) (token_first _ _ (fixed_first _ _ (maybe_fixed test) (token_first _ _ (maybe_fixed step))))))) (statement_loose s)))
  statement_loose (for_in at target e s) =
      at_front at _ (statement_shortens (for_in at target e s)) (token_first _ _ (fixed_first _ _ (between _ _ _ (loose _ (fixed_first _ _ (target_fixed target) (token_first _ _ (expr_fixed e))))) (statement_loose s)))
  statement_loose (continue at label semi) = at_front at _ (statement_shortens (continue at label semi)) (token_first _ _ (fixed_first _ _ (label_fixed label) (end_loose None semi)))
  statement_loose (break at label semi) = at_front at _ (statement_shortens (break at label semi)) (token_first _ _ (fixed_first _ _ (label_fixed label) (end_loose None semi)))
  statement_loose (return at absent semi) = at_front at _ (statement_shortens (return at absent semi)) (token_first _ _ (end_loose None semi))
  statement_loose (return at (present e) semi) = at_front at _ (statement_shortens (return at (present e) semi)) (token_first _ _ (fixed_first _ _ (line_front _ (expr_shortens e) (expr_fixed e)) (end_loose (Some e) semi)))
  statement_loose (throw at e semi) = at_front at _ (statement_shortens (throw at e semi)) (token_first _ _ (fixed_first _ _ (line_front _ (expr_shortens e) (expr_fixed e)) (end_loose (Some e) semi)))
  statement_loose (switch at e clauses) = loose _ (at_front at _ (statement_shortens (switch at e clauses)) (token_first _ _ (fixed_first _ _ (between _ _ _ (loose _ (expr_fixed e))) (between _ _ _ (clauses_loose clauses)))))
  statement_loose (labelled at text s) = at_front at _ (statement_shortens (labelled at text s)) (token_first _ _ (token_first _ _ (statement_loose s)))
  statement_loose (try_catch at b ident handler) =
      loose _ (at_front at _ (statement_shortens (try_catch at b ident handler)) (token_first _ _ (fixed_first _ _ (block_fixed b) (token_first _ _ (fixed_first _ _ (between _ _ _ (loose _ (ident_fixed ident))) (block_fixed handler))))))
  statement_loose (try_finally at b final) = loose _ (at_front at _ (statement_shortens (try_finally at b final)) (token_first _ _ (fixed_first _ _ (block_fixed b) (token_first _ _ (block_fixed final)))))
  statement_loose (try_both at b ident handler final) =
      loose _ (at_front at _ (statement_shortens (try_both at b ident handler final)) (token_first _ _ (fixed_first _ _ (block_fixed b)
      (fixed_first _ _ (token_first _ _ (fixed_first _ _ (between _ _ _ (loose _ (ident_fixed ident))) (block_fixed handler))) (token_first _ _ (block_fixed final))))))
  statement_loose (debugger at semi) = at_front at _ (statement_shortens (debugger at semi)) (token_first _ _ (end_loose None semi))
  statement_loose (function_declaration at f) = loose _ (at_front at _ (statement_shortens (function_declaration at f)) (token_first _ _ (function_fixed f)))

  pub statements_loose : (ss : Statements) → Loose (ReadsStatements ss)
  statements_loose no_statements = loose _ nothing_fixed
  statements_loose (more_statements s ss) = loose_first _ _ (statement_loose s) (statements_loose ss)
