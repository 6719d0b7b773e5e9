-- What spells a tree is at least one token long, where the tree isn't a list.
use Rattle.std.proofs.Common.{ℕ, ◌<◌, ◌≤◌, Bool, true, false, List, [], ◌∷◌, length, Option, Some, None, arith}
use Rattle.js_ast.specs.declared.token.Token.{Token}
use Rattle.js_ast.specs.Words.{Word}
use Rattle.js_ast.specs.Trees.{Ident, Key, name_key, string_key, number_key, Semi, written, elided, Expr, name, number, string, this, null, boolean, paren, array, object, function, member, index, new_with, new_bare, call, postfix, unary, binary, conditional, assign, comma, Exprs, no_exprs, more_exprs, MaybeExpr, absent, present, Items, no_items, hole, item, Property, value, getter, setter, Properties, no_properties, more_properties, Declarations, one_declaration, more_declarations, First, first_expr, first_var, Target, target_expr, target_var, Clauses, no_clauses, case, default, Block, block_of, Statement, block, var, empty, expression, if_then, if_else, do_while, while, for, for_in, continue, break, return, throw, switch, labelled, try_catch, try_finally, try_both, debugger, function_declaration, Statements, no_statements, more_statements, Function, function_of}
use Rattle.js_ast.specs.Grammar.{Part, ◌⨾◌, nothing, At, Takes, TakesName, ReadsIdent, MaybeIdent, MaybeLabel, ReadsIdents, ReadsKey, FinalComma, Ends, last_initialiser, Reads, ReadsExprs, ReadsMaybe, ReadsItems, ReadsProperty, ReadsProperties, ReadsInitialiser, ReadsDeclarations, ReadsFirst, ReadsTarget, ReadsClauses, ReadsBlock, ReadsStatement, ReadsStatements, ReadsFunction}

-- what a part leaves is no longer
abbrev pub Keeps : Part → Type 0
Keeps p = (ts z : List Token) → p ts z → length z ≤ length ts

-- what a part leaves is shorter
abbrev pub Shortens : Part → Type 0
Shortens p = (ts z : List Token) → p ts z → length z < length ts

-- shorter is no longer
pub keeps : (p : Part) → Shortens p → Keeps p
keeps p f ts z h = omega (arith, f ts z h)

-- nothing keeps
pub nothing_keeps : Keeps nothing
nothing_keeps ts z h = rw h (omega arith)

-- a token shortens
pub takes_shortens : (w : Word) → Shortens (Takes w)
takes_shortens w ts z h = rw h.1 (omega arith)

-- an identifier name shortens
pub name_shortens : (text : List ℕ) → Shortens (TakesName text)
name_shortens text ts z h = rw h.1 (omega arith)

-- two parts that keep
pub both_keep : (p q : Part) → Keeps p → Keeps q → Keeps (p ⨾ q)
both_keep p q f g ts z h = omega (arith, f ts h.0 h.1, g h.0 z h.2)

-- two parts, the first of which shortens
pub first_shortens : (p q : Part) → Shortens p → Keeps q → Shortens (p ⨾ q)
first_shortens p q f g ts z h = omega (arith, f ts h.0 h.1, g h.0 z h.2)

-- two parts, the second of which shortens
pub second_shortens : (p q : Part) → Keeps p → Shortens q → Shortens (p ⨾ q)
second_shortens p q f g ts z h = omega (arith, f ts h.0 h.1, g h.0 z h.2)

-- a part at a place
pub at_shortens : (at : ℕ) (p : Part) → Shortens p → Shortens (At at p)
at_shortens at p f ts z h = f ts z h.1

-- a token first, and then what keeps
token_first : (w : Word) (p : Part) → Keeps p → Shortens (Takes w ⨾ p)
token_first w p f = first_shortens (Takes w) p (takes_shortens w) f

-- a token first keeps
token_keeps : (w : Word) (p : Part) → Keeps p → Keeps (Takes w ⨾ p)
token_keeps w p f = keeps (Takes w ⨾ p) (token_first w p f)

-- one token keeps
one_token : (w : Word) → Keeps (Takes w)
one_token w = keeps (Takes w) (takes_shortens w)

-- what stands between two tokens
between : (v w : Word) (p : Part) → Keeps p → Shortens (Takes v ⨾ (p ⨾ Takes w))
between v w p f = token_first v (p ⨾ Takes w) (both_keep p (Takes w) f (one_token w))

-- what stands between two tokens keeps
between_keeps : (v w : Word) (p : Part) → Keeps p → Keeps (Takes v ⨾ (p ⨾ Takes w))
between_keeps v w p f = keeps (Takes v ⨾ (p ⨾ Takes w)) (between v w p f)

-- a name that is bound shortens
pub ident_shortens : (i : Ident) → Shortens (ReadsIdent i)
ident_shortens i = at_shortens _ _ (takes_shortens _)

-- a name that is bound keeps
pub ident_keeps : (i : Ident) → Keeps (ReadsIdent i)
ident_keeps i = keeps (ReadsIdent i) (ident_shortens i)

-- a name or none keeps
maybe_ident_keeps : (i : Option Ident) → Keeps (MaybeIdent i)
maybe_ident_keeps None = nothing_keeps
maybe_ident_keeps (Some i) = ident_keeps i

-- a label or none keeps
pub label_keeps : (i : Option Ident) → Keeps (MaybeLabel i)
label_keeps None = nothing_keeps
label_keeps (Some i) = λ ts z h. ident_keeps i ts z h.1

-- parameters keep
pub idents_keep : (is : List Ident) → Keeps (ReadsIdents is)
idents_keep [] = nothing_keeps
idents_keep (i ∷ []) = ident_keeps i
idents_keep (i ∷ j ∷ is) = both_keep _ _ (ident_keeps i) (token_keeps _ _ (idents_keep (j ∷ is)))

-- a key keeps
pub key_keeps : (k : Key) → Keeps (ReadsKey k)
key_keeps (name_key text) = keeps (TakesName text) (name_shortens text)
key_keeps (string_key text v) = one_token _
key_keeps (number_key n) = one_token _

-- a final comma or none keeps
comma_keeps : (final : Bool) → Keeps (FinalComma final)
comma_keeps true = one_token _
comma_keeps false = nothing_keeps

-- the end of a statement keeps
pub end_keeps : (before : Option Expr) (semi : Semi) → Keeps (Ends before semi)
end_keeps before written = one_token _
end_keeps before elided = λ ts z h. rw h.0 (omega arith)

-- each tree shortens and each list keeps, by cases
mutual
  pub expr_shortens : (e : Expr) → Shortens (Reads e)
  expr_shortens (name at text) = at_shortens _ _ (takes_shortens _)
  expr_shortens (number at n) = at_shortens _ _ (takes_shortens _)
  expr_shortens (string at text v) = at_shortens _ _ (takes_shortens _)
  expr_shortens (this at) = at_shortens _ _ (takes_shortens _)
  expr_shortens (null at) = at_shortens _ _ (takes_shortens _)
  expr_shortens (boolean at b) = at_shortens _ _ (takes_shortens _)
  expr_shortens (paren at e) = at_shortens _ _ (between _ _ _ (keeps _ (expr_shortens e)))
  expr_shortens (array at items final) = at_shortens _ _ (between _ _ _ (items_keep items final))
  expr_shortens (object at props final) = at_shortens _ _ (between _ _ _ (properties_keep props final))
  expr_shortens (function at f) = at_shortens _ _ (token_first _ _ (function_keeps f))
  expr_shortens (member at e text) = at_shortens _ _ (first_shortens _ _ (expr_shortens e) (token_keeps _ _ (keeps _ (name_shortens text))))
  expr_shortens (index at e i) = at_shortens _ _ (first_shortens _ _ (expr_shortens e) (between_keeps _ _ _ (keeps _ (expr_shortens i))))
  expr_shortens (new_with at e args) = at_shortens _ _ (token_first _ _ (both_keep _ _ (keeps _ (expr_shortens e)) (between_keeps _ _ _ (exprs_keep args))))
  expr_shortens (new_bare at e) = at_shortens _ _ (token_first _ _ (keeps _ (expr_shortens e)))
  expr_shortens (call at e args) = at_shortens _ _ (first_shortens _ _ (expr_shortens e) (between_keeps _ _ _ (exprs_keep args)))
  expr_shortens (postfix at e o) = at_shortens _ _ (first_shortens _ _ (expr_shortens e) (λ ts z h. one_token _ ts z h.1))
  expr_shortens (unary at o e) = at_shortens _ _ (token_first _ _ (keeps _ (expr_shortens e)))
  expr_shortens (binary at l o r) = at_shortens _ _ (first_shortens _ _ (expr_shortens l) (token_keeps _ _ (keeps _ (expr_shortens r))))
  expr_shortens (conditional at c a b) = at_shortens _ _ (first_shortens _ _ (expr_shortens c) (token_keeps _ _ (both_keep _ _ (keeps _ (expr_shortens a)) (token_keeps _ _ (keeps _ (expr_shortens b))))))
  expr_shortens (assign at l o r) = at_shortens _ _ (first_shortens _ _ (expr_shortens l) (token_keeps _ _ (keeps _ (expr_shortens r))))
  expr_shortens (comma at l r) = at_shortens _ _ (first_shortens _ _ (expr_shortens l) (token_keeps _ _ (keeps _ (expr_shortens r))))

  pub exprs_keep : (es : Exprs) → Keeps (ReadsExprs es)
  exprs_keep no_exprs = nothing_keeps
  exprs_keep (more_exprs e no_exprs) = keeps _ (expr_shortens e)
  exprs_keep (more_exprs e (more_exprs f es)) = both_keep _ _ (keeps _ (expr_shortens e)) (token_keeps _ _ (exprs_keep (more_exprs f es)))

  pub maybe_keeps : (e : MaybeExpr) → Keeps (ReadsMaybe e)
  maybe_keeps absent = nothing_keeps
  maybe_keeps (present e) = keeps _ (expr_shortens e)

  pub items_keep : (is : Items) (final : Bool) → Keeps (ReadsItems is final)
  items_keep no_items final = nothing_keeps
  items_keep (hole is) final = token_keeps _ _ (items_keep is final)
  items_keep (item e no_items) final = both_keep _ _ (keeps _ (expr_shortens e)) (comma_keeps final)
  items_keep (item e (hole is)) final = both_keep _ _ (keeps _ (expr_shortens e)) (token_keeps _ _ (items_keep (hole is) final))
  items_keep (item e (item f is)) final = both_keep _ _ (keeps _ (expr_shortens e)) (token_keeps _ _ (items_keep (item f is) final))

  pub property_shortens : (p : Property) → Shortens (ReadsProperty p)
  property_shortens (value at k e) = at_shortens _ _ (second_shortens _ _ (key_keeps k) (token_first _ _ (keeps _ (expr_shortens e))))
  property_shortens (getter at k f) = at_shortens _ _ (token_first _ _ (both_keep _ _ (key_keeps k) (function_keeps f)))
  property_shortens (setter at k f) = at_shortens _ _ (token_first _ _ (both_keep _ _ (key_keeps k) (function_keeps f)))

  pub function_keeps : (f : Function) → Keeps (ReadsFunction f)
  function_keeps (function_of at ident params body) = both_keep _ _ (maybe_ident_keeps ident) (both_keep _ _ (between_keeps _ _ _ (idents_keep params)) (between_keeps _ _ _ (statements_keep body)))

  pub properties_keep : (ps : Properties) (final : Bool) → Keeps (ReadsProperties ps final)
  properties_keep no_properties final = nothing_keeps
  properties_keep (more_properties p no_properties) final = both_keep _ _ (keeps _ (property_shortens p)) (comma_keeps final)
  properties_keep (more_properties p (more_properties q ps)) final = both_keep _ _ (keeps _ (property_shortens p)) (token_keeps _ _ (properties_keep (more_properties q ps) final))

  pub initialiser_keeps : (e : MaybeExpr) → Keeps (ReadsInitialiser e)
  initialiser_keeps absent = nothing_keeps
  initialiser_keeps (present e) = token_keeps _ _ (keeps _ (expr_shortens e))

  pub declarations_shorten : (ds : Declarations) → Shortens (ReadsDeclarations ds)
  declarations_shorten (one_declaration ident init) = first_shortens _ _ (ident_shortens ident) (initialiser_keeps init)
  declarations_shorten (more_declarations ident init ds) = first_shortens _ _ (first_shortens _ _ (ident_shortens ident) (initialiser_keeps init)) (token_keeps _ _ (keeps _ (declarations_shorten ds)))

  pub first_keeps : (f : First) → Keeps (ReadsFirst f)
  first_keeps (first_expr e) = maybe_keeps e
  first_keeps (first_var ds) = token_keeps _ _ (keeps _ (declarations_shorten ds))

  pub target_keeps : (t : Target) → Keeps (ReadsTarget t)
  target_keeps (target_expr e) = keeps _ (expr_shortens e)
  target_keeps (target_var ident) = token_keeps _ _ (ident_keeps ident)

  pub clauses_keep : (cs : Clauses) → Keeps (ReadsClauses cs)
  clauses_keep no_clauses = nothing_keeps
  clauses_keep (case e body cs) = both_keep _ _ (token_keeps _ _ (both_keep _ _ (keeps _ (expr_shortens e)) (token_keeps _ _ (statements_keep body)))) (clauses_keep cs)
  clauses_keep (default body cs) = both_keep _ _ (token_keeps _ _ (token_keeps _ _ (statements_keep body))) (clauses_keep cs)

  pub block_shortens : (b : Block) → Shortens (ReadsBlock b)
  block_shortens (block_of at body) = at_shortens _ _ (between _ _ _ (statements_keep body))

  pub statement_shortens : (s : Statement) → Shortens (ReadsStatement s)
  statement_shortens (block b) = block_shortens b
  statement_shortens (var at ds semi) = at_shortens _ _ (token_first _ _ (both_keep _ _ (keeps _ (declarations_shorten ds)) (end_keeps (last_initialiser ds) semi)))
  statement_shortens (empty at) = at_shortens _ _ (takes_shortens _)
  statement_shortens (expression at e semi) = λ ts z h. first_shortens _ _ (expr_shortens e) (end_keeps (Some e) semi) ts z h.1.1
  statement_shortens (if_then at e s) = at_shortens _ _ (token_first _ _ (both_keep _ _ (between_keeps _ _ _ (keeps _ (expr_shortens e))) (keeps _ (statement_shortens s))))
  statement_shortens (if_else at e s u) = at_shortens _ _ (token_first _ _ (both_keep _ _ (between_keeps _ _ _ (keeps _ (expr_shortens e))) (both_keep _ _ (keeps _ (statement_shortens s)) (token_keeps _ _ (keeps _ (statement_shortens u))))))
  statement_shortens (do_while at s e semi) = at_shortens _ _ (token_first _ _ (both_keep _ _ (keeps _ (statement_shortens s)) (token_keeps _ _ (both_keep _ _ (between_keeps _ _ _ (keeps _ (expr_shortens e))) (end_keeps None semi)))))
  statement_shortens (while at e s) = at_shortens _ _ (token_first _ _ (both_keep _ _ (between_keeps _ _ _ (keeps _ (expr_shortens e))) (keeps _ (statement_shortens s))))
  statement_shortens (for at first test step s) = at_shortens _ _ (token_first _ _ (both_keep _ _ (between_keeps _ _ _ (both_keep _ _ (first_keeps first) (token_keeps _ _ (both_keep _ _ (maybe_keeps test) (token_keeps _ _ (maybe_keeps step)))))) (keeps _ (statement_shortens s))))
  statement_shortens (for_in at target e s) = at_shortens _ _ (token_first _ _ (both_keep _ _ (between_keeps _ _ _ (both_keep _ _ (target_keeps target) (token_keeps _ _ (keeps _ (expr_shortens e))))) (keeps _ (statement_shortens s))))
  statement_shortens (continue at label semi) = at_shortens _ _ (token_first _ _ (both_keep _ _ (label_keeps label) (end_keeps None semi)))
  statement_shortens (break at label semi) = at_shortens _ _ (token_first _ _ (both_keep _ _ (label_keeps label) (end_keeps None semi)))
  statement_shortens (return at absent semi) = at_shortens _ _ (token_first _ _ (end_keeps None semi))
  statement_shortens (return at (present e) semi) = at_shortens _ _ (token_first _ _ (both_keep _ _ (λ ts z h. keeps _ (expr_shortens e) ts z h.1) (end_keeps (Some e) semi)))
  statement_shortens (throw at e semi) = at_shortens _ _ (token_first _ _ (both_keep _ _ (λ ts z h. keeps _ (expr_shortens e) ts z h.1) (end_keeps (Some e) semi)))
  statement_shortens (switch at e clauses) = at_shortens _ _ (token_first _ _ (both_keep _ _ (between_keeps _ _ _ (keeps _ (expr_shortens e))) (between_keeps _ _ _ (clauses_keep clauses))))
  statement_shortens (labelled at text s) = at_shortens _ _ (token_first _ _ (token_keeps _ _ (keeps _ (statement_shortens s))))
  statement_shortens (try_catch at b ident handler) = at_shortens _ _ (token_first _ _ (both_keep _ _ (keeps _ (block_shortens b)) (token_keeps _ _ (both_keep _ _ (between_keeps _ _ _ (ident_keeps ident)) (keeps _ (block_shortens handler))))))
  statement_shortens (try_finally at b final) = at_shortens _ _ (token_first _ _ (both_keep _ _ (keeps _ (block_shortens b)) (token_keeps _ _ (keeps _ (block_shortens final)))))
  statement_shortens (try_both at b ident handler final) = at_shortens _ _ (token_first _ _ (both_keep _ _ (keeps _ (block_shortens b)) (both_keep _ _ (token_keeps _ _ (both_keep _ _ (between_keeps _ _ _ (ident_keeps ident)) (keeps _ (block_shortens handler)))) (token_keeps _ _ (keeps _ (block_shortens final))))))
  statement_shortens (debugger at semi) = at_shortens _ _ (token_first _ _ (end_keeps None semi))
  statement_shortens (function_declaration at f) = at_shortens _ _ (token_first _ _ (function_keeps f))

  pub statements_keep : (ss : Statements) → Keeps (ReadsStatements ss)
  statements_keep no_statements = nothing_keeps
  statements_keep (more_statements s ss) = both_keep _ _ (keeps _ (statement_shortens s)) (statements_keep ss)
