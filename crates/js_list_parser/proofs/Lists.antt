-- Lists with commas between, and bodies of functions: what spells a valid one is read.
use Rattle.std.proofs.Common.{◌≡◌, ℕ, zero, suc, ◌<◌, ◌≤◌, Bool, true, false, inl, List, [], ◌∷◌, ◌++◌, length, Option, Some, None, Ok, codes, refl, sym, ap, ◌∙◌, arith, append_assoc}
use Rattle.js_ast.specs.declared.token.Token.{Token}
use Rattle.js_ast.specs.declared.words.Sign.TheVariants as sign
use Rattle.js_ast.specs.Words.{Word, a_name, a_sign}
use Rattle.js_ast.specs.Trees.{Ident, Key, Expr, Exprs, no_exprs, more_exprs, Items, no_items, hole, item, Property, value, getter, setter, Properties, no_properties, more_properties, Statements, function_of}
use Rattle.js_ast.specs.Levels.{level}
use Rattle.js_ast.specs.Grammar.{Part, ◌⨾◌, nothing, Takes, sign_part, parens, braces, ReadsIdent, ReadsIdents, ReadsKey, FinalComma, Reads, ReadsExprs, ReadsItems, ReadsProperty, ReadsProperties, ReadsStatements, is_close_brace}
use Rattle.js_ast.specs.Validity.{no_in, ends_with_item, has_properties, Valid, ValidExprs, ValidItems, ValidProperty, ValidProperties, ValidStatements}
use Rattle.js_ast.specs.Depth.{depth, depth_exprs, depth_items, depth_property, depth_properties, depth_statements}
use Rattle.js_list_parser.specs.Reading.{Read, ◌>>=◌, word_at, behind, Turn, again, done, turns, loop, Parsers}
use Rattle.js_list_parser.specs.ExpressionParsing.{taken, ident_at, is_open_paren, is_close_paren, is_open_brace, is_colon, body_at, parameter_by, parameter, parameters_by, parameters, function_rest, argument_by, argument, arguments_by, arguments, item_end, item_by, item_turn, value_rest, getter_rest, setter_rest, is_named, begins_accessor, property_at, property_end, property_by, property_turn, begins_expression, Stops}
use Rattle.js_ast.specs.Joined.{joined_exprs, joined_items, joined_properties}
use Rattle.js_list_parser.proofs.Completeness.{CompleteBelow}
use Rattle.js_list_parser.proofs.Stops.{and_false_right, closer_stops, comma_stops}
use Rattle.js_list_parser.proofs.Lengths.{takes_shortens, ident_keeps, expr_shortens, property_shortens}
use Rattle.js_list_parser.proofs.Begins.{takes_word, takes_behind, reads_begins, expect_reads, ident_reads, key_found, key_behind, key_reads, sign_no_key, sign_at_no_key}

-- ---- turns

-- a turn that goes on
pub turn_again : {S A : Type 0} (step : S → List Token → Read (Turn S A)) (n : ℕ) (s t : S) (ts z : List Token) → step s ts ≡ Ok (again t, z) → turns step (suc n) s ts ≡ turns step n t z
turn_again step n s t ts z h = rw h refl

-- a turn that ends
pub turn_done : {S A : Type 0} (step : S → List Token → Read (Turn S A)) (n : ℕ) (s : S) (a : A) (ts z : List Token) → step s ts ≡ Ok (done a, z) → turns step (suc n) s ts ≡ Ok (a, z)
turn_done step n s a ts z h = rw h refl

-- ---- parameters

-- parameters behind the first
abbrev RestIdents : List Ident → Part
RestIdents [] = nothing
RestIdents (i ∷ is) = sign_part sign.Comma ⨾ ReadsIdents (i ∷ is)

-- the first parameter and the others
split_idents : (i : Ident) (is : List Ident) (ts z : List Token) → ReadsIdents (i ∷ is) ts z → (ReadsIdent i ⨾ RestIdents is) ts z
split_idents i [] ts z h = (z, h, refl)
split_idents i (j ∷ is) ts z h = h

-- a list with nothing behind it
append_nil : {A : Type 0} (xs : List A) → xs ++ [] ≡ xs
append_nil [] = refl
append_nil (x ∷ xs) = ap (λ ys. x ∷ ys) (append_nil xs)

-- the parenthesis ends the parameters
parameter_close : (ps : List Ident) (ts z : List Token) → sign_part sign.CloseParen ts z → parameter ps ts ≡ Ok (done ps, z)
unfolding parameter parameter_by
parameter_close ps ts z h = rw (takes_word _ ts z h, takes_behind _ ts z h) refl

-- a comma and a parameter
parameter_next : (i : Ident) (ps : List Ident) (ts a b : List Token) → sign_part sign.Comma ts a → ReadsIdent i a b → parameter ps ts ≡ Ok (again (ps ++ i ∷ []), b)
unfolding parameter parameter_by
parameter_next i ps ts a b h r = rw (takes_word _ ts a h, takes_behind _ ts a h, ident_reads i a b r) refl

-- the parameters behind the first are read
parameters_turns : (is ps : List Ident) (n : ℕ) (ts m z : List Token) → length ts < n → RestIdents is ts m → sign_part sign.CloseParen m z → turns parameter n ps ts ≡ Ok (ps ++ is, z)
parameters_turns is ps zero ts m z lt h c = absurd (omega arith)
parameters_turns [] ps (suc n) ts m z lt h c = turn_done parameter n ps ps ts z (rw h (parameter_close ps m z c)) ∙ rw (append_nil ps) refl
parameters_turns (i ∷ is) ps (suc n) ts m z lt h c =
    let s = split_idents i is h.0 m h.2 in
    let shorter = takes_shortens _ ts h.0 h.1 in
    let keeps = ident_keeps i h.0 s.0 s.1 in
    turn_again parameter n ps (ps ++ i ∷ []) ts s.0 (parameter_next i ps ts h.0 s.0 h.1 s.1) ∙ parameters_turns is (ps ++ i ∷ []) n s.0 m z (omega arith) s.2 c ∙ rw (append_assoc ps (i ∷ []) is) refl

-- a name begins the parameters
parameters-named : (text : List ℕ) (w : Option Word) (ts : List Token) → w ≡ Some (a_name text) → parameters_by w ts ≡ (taken (ident_at ts) ts >>= λ j. loop parameter (j.0 ∷ []) j.1)
unfolding parameters_by
parameters-named text w ts h = rw h refl

-- parameters are read
pub parameters_reads : (is : List Ident) (ts m z : List Token) → ReadsIdents is ts m → sign_part sign.CloseParen m z → parameters ts ≡ Ok (is, z)
unfolding parameters parameters_by loop
parameters_reads [] ts m z h c = rw (h, takes_word _ m z c, takes_behind _ m z c) refl
parameters_reads (i ∷ is) ts m z h c =
    let s = split_idents i is ts m h in
    parameters-named i.text (word_at ts) ts (takes_word (a_name i.text) ts s.0 (s.1).1) ∙ rw (ident_reads i ts s.0 s.1) (parameters_turns is (i ∷ []) (suc (length s.0)) s.0 m z (omega arith) s.2 c)

-- ---- how lists go on

-- arguments behind the first
abbrev pub RestExprs : Exprs → Part
RestExprs no_exprs = nothing
RestExprs (more_exprs e es) = sign_part sign.Comma ⨾ ReadsExprs (more_exprs e es)

-- the first argument and the others
pub split_exprs : (e : Expr) (es : Exprs) (ts z : List Token) → ReadsExprs (more_exprs e es) ts z → (Reads e ⨾ RestExprs es) ts z
split_exprs e no_exprs ts z h = (z, h, refl)
split_exprs e (more_exprs f es) ts z h = h

-- items behind an expression
abbrev pub RestItems : Items → Bool → Part
RestItems no_items final = FinalComma final
RestItems (hole is) final = sign_part sign.Comma ⨾ ReadsItems (hole is) final
RestItems (item e is) final = sign_part sign.Comma ⨾ ReadsItems (item e is) final

-- an expression and the items behind it
pub split_items : (e : Expr) (is : Items) (final : Bool) (ts z : List Token) → ReadsItems (item e is) final ts z → (Reads e ⨾ RestItems is final) ts z
split_items e no_items final ts z h = h
split_items e (hole is) final ts z h = h
split_items e (item f is) final ts z h = h

-- properties behind the first
abbrev pub RestProperties : Properties → Bool → Part
RestProperties no_properties final = FinalComma final
RestProperties (more_properties p ps) final = sign_part sign.Comma ⨾ ReadsProperties (more_properties p ps) final

-- the first property and the others
pub split_properties : (p : Property) (ps : Properties) (final : Bool) (ts z : List Token) → ReadsProperties (more_properties p ps) final ts z → (ReadsProperty p ⨾ RestProperties ps final) ts z
split_properties p no_properties final ts z h = h
split_properties p (more_properties q ps) final ts z h = h

-- behind an expression of a list stands a comma or the token that closes the list
before_comma : (e : Expr) (ts z : List Token) → sign_part sign.Comma ts z → Stops 1 true e ts
before_comma e ts z h = comma_stops 1 true e ts (takes_word _ ts z h) (omega arith)

-- before a parenthesis
before_paren : (e : Expr) (ts z : List Token) → sign_part sign.CloseParen ts z → Stops 1 true e ts
before_paren e ts z h = closer_stops 1 true e ts (rw (takes_word _ ts z h) refl)

-- before a bracket
before_bracket : (e : Expr) (ts z : List Token) → sign_part sign.CloseBracket ts z → Stops 1 true e ts
before_bracket e ts z h = closer_stops 1 true e ts (rw (takes_word _ ts z h) refl)

-- before a brace
before_brace : (e : Expr) (ts z : List Token) → sign_part sign.CloseBrace ts z → Stops 1 true e ts
before_brace e ts z h = closer_stops 1 true e ts (rw (takes_word _ ts z h) refl)

-- an argument ends
exprs_stop : (e : Expr) (es : Exprs) (ts m z : List Token) → RestExprs es ts m → sign_part sign.CloseParen m z → Stops 1 true e ts
exprs_stop e no_exprs ts m z h c = before_paren e ts z (rw h c)
exprs_stop e (more_exprs f es) ts m z h c = before_comma e ts h.0 h.1

-- an item ends
items_stop : (e : Expr) (is : Items) (final : Bool) (ts m z : List Token) → RestItems is final ts m → sign_part sign.CloseBracket m z → Stops 1 true e ts
items_stop e no_items false ts m z h c = before_bracket e ts z (rw h c)
items_stop e no_items true ts m z h c = before_comma e ts m h
items_stop e (hole is) final ts m z h c = before_comma e ts h.0 h.1
items_stop e (item f is) final ts m z h c = before_comma e ts h.0 h.1

-- the value of a property ends
properties_stop : (e : Expr) (ps : Properties) (final : Bool) (ts m z : List Token) → RestProperties ps final ts m → sign_part sign.CloseBrace m z → Stops 1 true e ts
properties_stop e no_properties false ts m z h c = before_brace e ts z (rw h c)
properties_stop e no_properties true ts m z h c = before_comma e ts m h
properties_stop e (more_properties p ps) final ts m z h c = before_comma e ts h.0 h.1

-- ---- joined lists

-- arguments with none behind them
joined_exprs_none : (es : Exprs) → joined_exprs es no_exprs ≡ es
joined_exprs_none no_exprs = refl
joined_exprs_none (more_exprs e es) = ap (more_exprs e) (joined_exprs_none es)

-- three lists of arguments
joined_exprs_assoc : (a b c : Exprs) → joined_exprs (joined_exprs a b) c ≡ joined_exprs a (joined_exprs b c)
joined_exprs_assoc no_exprs b c = refl
joined_exprs_assoc (more_exprs e a) b c = ap (more_exprs e) (joined_exprs_assoc a b c)

-- items with none behind them
joined_items_none : (is : Items) → joined_items is no_items ≡ is
joined_items_none no_items = refl
joined_items_none (hole is) = ap hole (joined_items_none is)
joined_items_none (item e is) = ap (item e) (joined_items_none is)

-- three lists of items
joined_items_assoc : (a b c : Items) → joined_items (joined_items a b) c ≡ joined_items a (joined_items b c)
joined_items_assoc no_items b c = refl
joined_items_assoc (hole a) b c = ap hole (joined_items_assoc a b c)
joined_items_assoc (item e a) b c = ap (item e) (joined_items_assoc a b c)

-- properties with none behind them
joined_properties_none : (ps : Properties) → joined_properties ps no_properties ≡ ps
joined_properties_none no_properties = refl
joined_properties_none (more_properties p ps) = ap (more_properties p) (joined_properties_none ps)

-- three lists of properties
joined_properties_assoc : (a b c : Properties) → joined_properties (joined_properties a b) c ≡ joined_properties a (joined_properties b c)
joined_properties_assoc no_properties b c = refl
joined_properties_assoc (more_properties p a) b c = ap (more_properties p) (joined_properties_assoc a b c)

-- items with a hole at the end
ends_with_hole : (is : Items) → ends_with_item (joined_items is (hole no_items)) ≡ false
ends_with_hole no_items = refl
ends_with_hole (hole is) = ends_with_hole is
ends_with_hole (item e no_items) = refl
ends_with_hole (item e (hole is)) = ends_with_hole (hole is)
ends_with_hole (item e (item f is)) = ends_with_hole (item f is)

-- items with an expression at the end
ends_with_one : (is : Items) (e : Expr) → ends_with_item (joined_items is (item e no_items)) ≡ true
ends_with_one no_items e = refl
ends_with_one (hole is) e = ends_with_one is e
ends_with_one (item f no_items) e = refl
ends_with_one (item f (hole is)) e = ends_with_one (hole is) e
ends_with_one (item f (item g is)) e = ends_with_one (item g is) e

-- properties with one at the end
has_one : (ps : Properties) (p : Property) → has_properties (joined_properties ps (more_properties p no_properties)) ≡ true
has_one no_properties p = refl
has_one (more_properties q ps) p = refl

-- what makes false true is false
not_so : (b : Bool) → (b ≡ true → false ≡ true) → b ≡ false
not_so true h = sym (h refl)
not_so false h = refl

-- ---- words that begin an expression close no list

-- an expression is no end of arguments
arguments-first : (sub : Parsers) (w : Option Word) (ts : List Token) → begins_expression w ≡ true → arguments_by sub w ts ≡ (sub.expression 1 true ts >>= λ e. loop (argument sub) (more_exprs e.0 no_exprs) e.1)
unfolding arguments_by
arguments-first sub (Some (a_sign sign.CloseParen)) ts h = absurd cc
arguments-first sub _ ts h = refl

-- an expression is no hole and no end of an array
item-first : (sub : Parsers) (is : Items) (w : Option Word) (ts : List Token) → begins_expression w ≡ true → item_by sub is w ts ≡ (sub.expression 1 true ts >>= λ e. item_end (joined_items is (item e.0 no_items)) (word_at e.1) e.1)
unfolding item_by
item-first sub is (Some (a_sign sign.Comma)) ts h = absurd cc
item-first sub is (Some (a_sign sign.CloseBracket)) ts h = absurd cc
item-first sub is _ ts h = refl

-- a property begins with no brace
property_no_brace : (p : Property) (ts z : List Token) → ReadsProperty p ts z → word_at ts ≡ Some (a_sign sign.CloseBrace) → ⊥
property_no_brace (value at k e) ts z h w = let x = key_found k ts h.1.0 h.1.1 in let y = sign_at_no_key sign.CloseBrace ts w in absurd cc
property_no_brace (getter at k f) ts z h w = let x = takes_word _ ts h.1.0 h.1.1 in absurd cc
property_no_brace (setter at k f) ts z h w = let x = takes_word _ ts h.1.0 h.1.1 in absurd cc

-- ---- what the parsers of parts complete

-- where `in` is allowed nothing is asked
pub any_in : (e : Expr) → true ≡ false → no_in e ≡ true
any_in e h = absurd cc

module _ (d : ℕ) (sub : Parsers) (below : CompleteBelow d sub) where
  -- an expression of a list
  one_reads : (e : Expr) (ts z : List Token) → Valid e → 1 ≤ level e → depth e < d → Reads e ts z → Stops 1 true e z → sub.expression 1 true ts ≡ Ok (e, z)
  one_reads e ts z v l lt h s = below.expression 1 true e ts z v lt (inl l) (any_in e) h s

  -- a body is read
  pub body_reads : (body : Statements) (ts z : List Token) → ValidStatements true body → depth_statements body < d → braces (ReadsStatements body) ts z → body_at sub ts ≡ Ok (body, z)
  unfolding body_at
  body_reads body ts z v lt h =
      rw (expect_reads is_open_brace _ ts h.0 refl h.1, below.bodies body h.0 h.2.0 v lt h.2.1 (takes_word _ h.2.0 z h.2.2), expect_reads is_close_brace _ h.2.0 z refl h.2.2) refl

  -- parameters and a body are read
  pub function_rest_reads : (params : List Ident) (body : Statements) (ts z : List Token) → ValidStatements true body → depth_statements body < d → (parens (ReadsIdents params) ⨾ braces (ReadsStatements body)) ts z
      → function_rest sub ts ≡ Ok ((params, body), z)
  unfolding function_rest
  function_rest_reads params body ts z v lt h =
      let p = h.1 in
      rw (expect_reads is_open_paren _ ts p.0 refl p.1, parameters_reads params p.0 p.2.0 h.0 p.2.1 p.2.2, body_reads body h.0 z v lt h.2) refl

  -- ---- arguments

  -- the parenthesis ends the arguments
  argument_close : (es : Exprs) (ts z : List Token) → sign_part sign.CloseParen ts z → argument sub es ts ≡ Ok (done es, z)
  unfolding argument argument_by
  argument_close es ts z h = rw (takes_word _ ts z h, takes_behind _ ts z h) refl

  -- a comma and an argument
  argument_next : (e : Expr) (es : Exprs) (ts a b : List Token) → sign_part sign.Comma ts a → sub.expression 1 true a ≡ Ok (e, b) → argument sub es ts ≡ Ok (again (joined_exprs es (more_exprs e no_exprs)), b)
  unfolding argument argument_by
  argument_next e es ts a b h r = rw (takes_word _ ts a h, takes_behind _ ts a h, r) refl

  -- the arguments behind the first are read
  arguments_turns : (es fs : Exprs) (n : ℕ) (ts m z : List Token) → length ts < n → ValidExprs es → depth_exprs es < d → RestExprs es ts m → sign_part sign.CloseParen m z → turns (argument sub) n fs ts ≡ Ok (joined_exprs fs es, z)
  arguments_turns es fs zero ts m z lt v le h c = absurd (omega arith)
  arguments_turns no_exprs fs (suc n) ts m z lt v le h c = turn_done (argument sub) n fs fs ts z (rw h (argument_close fs m z c)) ∙ rw (joined_exprs_none fs) refl
  arguments_turns (more_exprs e es) fs (suc n) ts m z lt v le h c =
      let s = split_exprs e es h.0 m h.2 in
      let shorter = takes_shortens _ ts h.0 h.1 in
      let shortens = expr_shortens e h.0 s.0 s.1 in
      let one = one_reads e h.0 s.0 v.0 v.1 (omega arith) s.1 (exprs_stop e es s.0 m z s.2 c) in
      turn_again (argument sub) n fs (joined_exprs fs (more_exprs e no_exprs)) ts s.0 (argument_next e fs ts h.0 s.0 h.1 one)
      ∙ arguments_turns es (joined_exprs fs (more_exprs e no_exprs)) n s.0 m z (omega arith) v.2 (omega arith) s.2 c ∙ rw (joined_exprs_assoc fs (more_exprs e no_exprs) es) refl

  -- arguments are read
  pub arguments_reads : (es : Exprs) (ts m z : List Token) → ValidExprs es → depth_exprs es < d → ReadsExprs es ts m → sign_part sign.CloseParen m z → arguments sub ts ≡ Ok (es, z)
  unfolding arguments arguments_by loop
  arguments_reads no_exprs ts m z v le h c = rw (h, takes_word _ m z c, takes_behind _ m z c) refl
  arguments_reads (more_exprs e es) ts m z v le h c =
      let s = split_exprs e es ts m h in
      let one = one_reads e ts s.0 v.0 v.1 (omega arith) s.1 (exprs_stop e es s.0 m z s.2 c) in
      arguments-first sub (word_at ts) ts (reads_begins e ts s.0 s.1) ∙ rw one (arguments_turns es (more_exprs e no_exprs) (suc (length s.0)) s.0 m z (omega arith) v.2 (omega arith) s.2 c)

  -- ---- items of an array

  -- the bracket ends the items
  item_close : (is : Items) (ts z : List Token) → sign_part sign.CloseBracket ts z → item_turn sub is ts ≡ Ok (done (is, ends_with_item is), z)
  unfolding item_turn item_by
  item_close is ts z h = rw (takes_word _ ts z h, takes_behind _ ts z h) refl

  -- a comma is a hole
  item_hole : (is : Items) (ts z : List Token) → sign_part sign.Comma ts z → item_turn sub is ts ≡ Ok (again (joined_items is (hole no_items)), z)
  unfolding item_turn item_by
  item_hole is ts z h = rw (takes_word _ ts z h, takes_behind _ ts z h) refl

  -- an expression and a comma
  item_comma : (e : Expr) (is : Items) (ts a b : List Token) → begins_expression (word_at ts) ≡ true → sub.expression 1 true ts ≡ Ok (e, a) → sign_part sign.Comma a b → item_turn sub is ts ≡ Ok (again (joined_items is (item e no_items)), b)
  unfolding item_turn item_end
  item_comma e is ts a b w r h = item-first sub is (word_at ts) ts w ∙ rw (r, takes_word _ a b h, takes_behind _ a b h) refl

  -- an expression and the bracket
  item_last : (e : Expr) (is : Items) (ts a b : List Token) → begins_expression (word_at ts) ≡ true → sub.expression 1 true ts ≡ Ok (e, a) → sign_part sign.CloseBracket a b
      → item_turn sub is ts ≡ Ok (done (joined_items is (item e no_items), false), b)
  unfolding item_turn item_end
  item_last e is ts a b w r h = item-first sub is (word_at ts) ts w ∙ rw (r, takes_word _ a b h, takes_behind _ a b h) refl

  -- what the items so far and those to come say of the comma behind the last
  abbrev FinalItems : Items → Items → Bool → Type 0
  FinalItems fs no_items final = final ≡ ends_with_item fs
  FinalItems fs (hole is) final = final ≡ true → ends_with_item (hole is) ≡ true
  FinalItems fs (item e is) final = final ≡ true → ends_with_item (item e is) ≡ true

  -- a hole is no last expression
  after_hole : (fs is : Items) (final : Bool) → (final ≡ true → ends_with_item (hole is) ≡ true) → FinalItems (joined_items fs (hole no_items)) is final
  after_hole fs no_items final f = not_so final f ∙ sym (ends_with_hole fs)
  after_hole fs (hole is) final f = f
  after_hole fs (item e is) final f = f

  -- the items to come are read
  items_turns : (is fs : Items) (final : Bool) (n : ℕ) (ts m z : List Token) → length ts < n → ValidItems is → depth_items is < d → FinalItems fs is final → ReadsItems is final ts m → sign_part sign.CloseBracket m z
      → turns (item_turn sub) n fs ts ≡ Ok ((joined_items fs is, final), z)
  items_turns is fs final zero ts m z lt v le f h c = absurd (omega arith)
  items_turns no_items fs final (suc n) ts m z lt v le f h c = turn_done (item_turn sub) n fs (fs, ends_with_item fs) ts z (rw h (item_close fs m z c)) ∙ rw (joined_items_none fs, f) refl
  items_turns (hole is) fs final (suc n) ts m z lt v le f h c =
      let shorter = takes_shortens _ ts h.0 h.1 in
      turn_again (item_turn sub) n fs (joined_items fs (hole no_items)) ts h.0 (item_hole fs ts h.0 h.1)
      ∙ items_turns is (joined_items fs (hole no_items)) final n h.0 m z (omega arith) v le (after_hole fs is final f) h.2 c ∙ rw (joined_items_assoc fs (hole no_items) is) refl
  items_turns (item e no_items) fs false (suc n) ts m z lt v le f h c =
      let one = one_reads e ts h.0 v.0 v.1 (omega arith) h.1 (items_stop e no_items false h.0 m z h.2 c) in
      turn_done (item_turn sub) n fs (joined_items fs (item e no_items), false) ts z (item_last e fs ts h.0 z (reads_begins e ts h.0 h.1) one (rw h.2 c))
  items_turns (item e no_items) fs true (suc n) ts m z lt v le f h c =
      let one = one_reads e ts h.0 v.0 v.1 (omega arith) h.1 (items_stop e no_items true h.0 m z h.2 c) in
      let shortens = expr_shortens e ts h.0 h.1 in
      let shorter = takes_shortens _ h.0 m h.2 in
      turn_again (item_turn sub) n fs (joined_items fs (item e no_items)) ts m (item_comma e fs ts h.0 m (reads_begins e ts h.0 h.1) one h.2)
      ∙ items_turns no_items (joined_items fs (item e no_items)) true n m m z (omega arith) tt (omega arith) (sym (ends_with_one fs e)) refl c ∙ rw (joined_items_none (joined_items fs (item e no_items))) refl
  items_turns (item e (hole is)) fs final (suc n) ts m z lt v le f h c =
      let one = one_reads e ts h.0 v.0 v.1 (omega arith) h.1 (items_stop e (hole is) final h.0 m z h.2 c) in
      let shortens = expr_shortens e ts h.0 h.1 in
      let shorter = takes_shortens _ h.0 h.2.0 h.2.1 in
      turn_again (item_turn sub) n fs (joined_items fs (item e no_items)) ts h.2.0 (item_comma e fs ts h.0 h.2.0 (reads_begins e ts h.0 h.1) one h.2.1)
      ∙ items_turns (hole is) (joined_items fs (item e no_items)) final n h.2.0 m z (omega arith) v.2 (omega arith) f h.2.2 c ∙ rw (joined_items_assoc fs (item e no_items) (hole is)) refl
  items_turns (item e (item g is)) fs final (suc n) ts m z lt v le f h c =
      let one = one_reads e ts h.0 v.0 v.1 (omega arith) h.1 (items_stop e (item g is) final h.0 m z h.2 c) in
      let shortens = expr_shortens e ts h.0 h.1 in
      let shorter = takes_shortens _ h.0 h.2.0 h.2.1 in
      turn_again (item_turn sub) n fs (joined_items fs (item e no_items)) ts h.2.0 (item_comma e fs ts h.0 h.2.0 (reads_begins e ts h.0 h.1) one h.2.1)
      ∙ items_turns (item g is) (joined_items fs (item e no_items)) final n h.2.0 m z (omega arith) v.2 (omega arith) f h.2.2 c ∙ rw (joined_items_assoc fs (item e no_items) (item g is)) refl

  -- before the first item
  first_items : (is : Items) (final : Bool) → (final ≡ true → ends_with_item is ≡ true) → FinalItems no_items is final
  first_items no_items final f = not_so final f
  first_items (hole is) final f = f
  first_items (item e is) final f = f

  -- items are read
  pub items_reads : (is : Items) (final : Bool) (ts m z : List Token) → ValidItems is → (final ≡ true → ends_with_item is ≡ true) → depth_items is < d → ReadsItems is final ts m → sign_part sign.CloseBracket m z
      → loop (item_turn sub) no_items ts ≡ Ok ((is, final), z)
  unfolding loop
  items_reads is final ts m z v f le h c = items_turns is no_items final (suc (length ts)) ts m z (omega arith) v le (first_items is final f) h c

  -- ---- properties of an object

  -- a name with a colon behind it is no accessor
  no_accessor : (text : List ℕ) (ts a z : List Token) → behind ts ≡ a → sign_part sign.Colon a z → begins_accessor text ts ≡ false
  unfolding begins_accessor
  no_accessor text ts a z b h = rw b (and_false_right _ _ (sign_no_key sign.Colon a z h))

  -- a name with a key behind it is an accessor
  accessor : (text : List ℕ) (k : Key) (ts a z : List Token) → Takes (a_name text) ts a → is_named (Some (a_name text)) text ≡ true → ReadsKey k a z → begins_accessor text ts ≡ true
  unfolding begins_accessor
  accessor text k ts a z t n r = rw (takes_word _ ts a t, takes_behind _ ts a t, n, key_found k a z r) refl

  -- another name is none
  other_accessor : (text other : List ℕ) (ts a : List Token) → Takes (a_name text) ts a → is_named (Some (a_name text)) other ≡ false → begins_accessor other ts ≡ false
  unfolding begins_accessor
  other_accessor text other ts a t n = rw (takes_word _ ts a t, n) refl

  -- a property is read
  property_reads : (p : Property) (ts z : List Token) → ValidProperty p → depth_property p < d → ReadsProperty p ts z → ((e : Expr) → Stops 1 true e z) → property_at sub ts ≡ Ok (p, z)
  unfolding property_at value_rest getter_rest setter_rest
  property_reads (value at k e) ts z v lt h s =
      let b = key_behind k ts h.1.0 h.1.1 in
      let one = one_reads e h.1.2.0 z v.0 v.1 lt h.1.2.2 (s e) in
      rw (no_accessor (codes "get") ts h.1.0 h.1.2.0 b h.1.2.1, no_accessor (codes "set") ts h.1.0 h.1.2.0 b h.1.2.1, key_reads k ts h.1.0 h.1.1, expect_reads is_colon _ h.1.0 h.1.2.0 refl h.1.2.1, one, h.0) refl
  property_reads (getter at k (function_of place None [] body)) ts z v lt h s =
      let q = h.1.2 in
      let f = q.2.2 in
      let p = f.1 in
      rw (
        (v.0).0,
        accessor (codes "get") k ts h.1.0 q.0 h.1.1 refl q.1,
        takes_behind _ ts h.1.0 h.1.1,
        key_reads k h.1.0 q.0 q.1,
        q.2.1,
        expect_reads is_open_paren _ q.2.0 p.0 refl p.1,
        p.2.1,
        expect_reads is_close_paren _ p.2.0 f.0 refl p.2.2,
        body_reads body f.0 z (v.0).1 lt f.2,
        h.0,
      ) refl
  property_reads (getter at k (function_of place None (i ∷ is) body)) ts z v lt h s = let e = v.1.1 in absurd cc
  property_reads (getter at k (function_of place (Some i) params body)) ts z v lt h s = let e = v.1.0 in absurd cc
  property_reads (setter at k (function_of place None [] body)) ts z v lt h s = let e = v.1.1 in absurd cc
  property_reads (setter at k (function_of place None (i ∷ j ∷ is) body)) ts z v lt h s = let e = v.1.1 in absurd cc
  property_reads (setter at k (function_of place (Some i) params body)) ts z v lt h s = let e = v.1.0 in absurd cc
  property_reads (setter at k (function_of place None (param ∷ []) body)) ts z v lt h s =
      let q = h.1.2 in
      let f = q.2.2 in
      let p = f.1 in
      rw (
        (v.0).0,
        other_accessor (codes "set") (codes "get") ts h.1.0 h.1.1 refl,
        accessor (codes "set") k ts h.1.0 q.0 h.1.1 refl q.1,
        takes_behind _ ts h.1.0 h.1.1,
        key_reads k h.1.0 q.0 q.1,
        q.2.1,
        expect_reads is_open_paren _ q.2.0 p.0 refl p.1,
        ident_reads param p.0 p.2.0 p.2.1,
        expect_reads is_close_paren _ p.2.0 f.0 refl p.2.2,
        body_reads body f.0 z (v.0).1 lt f.2,
        h.0,
      ) refl

  -- the brace ends the properties
  property_close : (ps : Properties) (ts z : List Token) → sign_part sign.CloseBrace ts z → property_turn sub ps ts ≡ Ok (done (ps, has_properties ps), z)
  unfolding property_turn property_by
  property_close ps ts z h = rw (takes_word _ ts z h, takes_behind _ ts z h) refl

  -- a property is no end of an object
  property-first : (ps : Properties) (w : Option Word) (ts : List Token) → (w ≡ Some (a_sign sign.CloseBrace) → ⊥)
      → property_by sub ps w ts ≡ (property_at sub ts >>= λ p. property_end (joined_properties ps (more_properties p.0 no_properties)) (word_at p.1) p.1)
  unfolding property_by
  property-first ps (Some (a_sign sign.CloseBrace)) ts h = absurd (h refl)
  property-first ps _ ts h = refl

  -- a property and a comma
  property_comma : (p : Property) (ps : Properties) (ts a b : List Token) → (word_at ts ≡ Some (a_sign sign.CloseBrace) → ⊥) → property_at sub ts ≡ Ok (p, a) → sign_part sign.Comma a b
      → property_turn sub ps ts ≡ Ok (again (joined_properties ps (more_properties p no_properties)), b)
  unfolding property_turn property_end
  property_comma p ps ts a b w r h = property-first ps (word_at ts) ts w ∙ rw (r, takes_word _ a b h, takes_behind _ a b h) refl

  -- a property and the brace
  property_last : (p : Property) (ps : Properties) (ts a b : List Token) → (word_at ts ≡ Some (a_sign sign.CloseBrace) → ⊥) → property_at sub ts ≡ Ok (p, a) → sign_part sign.CloseBrace a b
      → property_turn sub ps ts ≡ Ok (done (joined_properties ps (more_properties p no_properties), false), b)
  unfolding property_turn property_end
  property_last p ps ts a b w r h = property-first ps (word_at ts) ts w ∙ rw (r, takes_word _ a b h, takes_behind _ a b h) refl

  -- what the properties so far and those to come say of the comma behind the last
  abbrev FinalProperties : Properties → Properties → Bool → Type 0
  FinalProperties qs no_properties final = final ≡ has_properties qs
  FinalProperties qs (more_properties p ps) final = Unit {0}

  -- the properties to come are read
  properties_turns : (ps qs : Properties) (final : Bool) (n : ℕ) (ts m z : List Token) → length ts < n → ValidProperties ps → depth_properties ps < d → FinalProperties qs ps final → ReadsProperties ps final ts m
      → sign_part sign.CloseBrace m z → turns (property_turn sub) n qs ts ≡ Ok ((joined_properties qs ps, final), z)
  properties_turns ps qs final zero ts m z lt v le f h c = absurd (omega arith)
  properties_turns no_properties qs final (suc n) ts m z lt v le f h c =
      turn_done (property_turn sub) n qs (qs, has_properties qs) ts z (rw h (property_close qs m z c)) ∙ rw (joined_properties_none qs, f) refl
  properties_turns (more_properties p no_properties) qs false (suc n) ts m z lt v le f h c =
      let one = property_reads p ts h.0 v.0 (omega arith) h.1 (λ e. properties_stop e no_properties false h.0 m z h.2 c) in
      turn_done (property_turn sub) n qs (joined_properties qs (more_properties p no_properties), false) ts z (property_last p qs ts h.0 z (property_no_brace p ts h.0 h.1) one (rw h.2 c))
  properties_turns (more_properties p no_properties) qs true (suc n) ts m z lt v le f h c =
      let one = property_reads p ts h.0 v.0 (omega arith) h.1 (λ e. properties_stop e no_properties true h.0 m z h.2 c) in
      let shortens = property_shortens p ts h.0 h.1 in
      let shorter = takes_shortens _ h.0 m h.2 in
      turn_again (property_turn sub) n qs (joined_properties qs (more_properties p no_properties)) ts m (property_comma p qs ts h.0 m (property_no_brace p ts h.0 h.1) one h.2)
      ∙ properties_turns no_properties (joined_properties qs (more_properties p no_properties)) true n m m z (omega arith) tt (omega arith) (sym (has_one qs p)) refl c
      ∙ rw (joined_properties_none (joined_properties qs (more_properties p no_properties))) refl
  properties_turns (more_properties p (more_properties q ps)) qs final (suc n) ts m z lt v le f h c =
      let one = property_reads p ts h.0 v.0 (omega arith) h.1 (λ e. properties_stop e (more_properties q ps) final h.0 m z h.2 c) in
      let shortens = property_shortens p ts h.0 h.1 in
      let shorter = takes_shortens _ h.0 h.2.0 h.2.1 in
      turn_again (property_turn sub) n qs (joined_properties qs (more_properties p no_properties)) ts h.2.0 (property_comma p qs ts h.0 h.2.0 (property_no_brace p ts h.0 h.1) one h.2.1)
      ∙ properties_turns (more_properties q ps) (joined_properties qs (more_properties p no_properties)) final n h.2.0 m z (omega arith) v.1 (omega arith) tt h.2.2 c
      ∙ rw (joined_properties_assoc qs (more_properties p no_properties) (more_properties q ps)) refl

  -- before the first property
  first_properties : (ps : Properties) (final : Bool) → (final ≡ true → has_properties ps ≡ true) → FinalProperties no_properties ps final
  first_properties no_properties final f = not_so final f
  first_properties (more_properties p ps) final f = tt

  -- properties are read
  pub properties_reads : (ps : Properties) (final : Bool) (ts m z : List Token) → ValidProperties ps → (final ≡ true → has_properties ps ≡ true) → depth_properties ps < d → ReadsProperties ps final ts m → sign_part sign.CloseBrace m z
      → loop (property_turn sub) no_properties ts ≡ Ok ((ps, final), z)
  unfolding loop
  properties_reads ps final ts m z v f le h c = properties_turns ps no_properties final (suc (length ts)) ts m z (omega arith) v le (first_properties ps final f) h c
