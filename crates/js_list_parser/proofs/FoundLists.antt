-- Lists with commas between, and bodies of functions: what is read is valid, and the tokens that were taken are its spelling.
use Rattle.std.proofs.Common.{◌≡◌, ℕ, ◌<◌, Bool, true, false, if◌then◌else◌, List, [], ◌∷◌, ◌++◌, Option, Some, None, Ok, codes, refl, arith}
use Rattle.std.proofs.lemmas.Slice.Eq.{bytes_eq-Decides}
use Rattle.js_ast.specs.declared.token.Token.{Token}
use Rattle.js_ast.specs.declared.words.Sign.TheVariants as sign
use Rattle.js_ast.specs.Words.{Word, a_name, a_sign}
use Rattle.js_ast.specs.Trees.{Ident, Expr, Exprs, no_exprs, more_exprs, Items, no_items, hole, item, Property, value, getter, setter, Properties, no_properties, more_properties, Statements, function_of}
use Rattle.js_ast.specs.Grammar.{Part, ◌⨾◌, nothing, Takes, sign_part, parens, braces, ReadsIdent, ReadsIdents, Reads, ReadsExprs, ReadsItems, ReadsProperty, ReadsProperties, ReadsStatements, place_of, is_close_brace}
use Rattle.js_ast.specs.Validity.{ends_with_item, has_properties, ValidExprs, ValidItems, ValidProperty, ValidProperties, ValidStatements}
use Rattle.js_ast.specs.Depth.{depth_exprs, depth_items, depth_property, depth_properties, depth_statements}
use Rattle.js_list_parser.specs.Reading.{◌>>=◌, word_at, behind, Turn, again, done, loop, Parsers}
use Rattle.js_list_parser.specs.ExpressionParsing.{is_open_paren, is_close_paren, is_open_brace, is_colon, expect, taken, key_at, ident_at, body_at, parameter_by, parameter, parameters_by, parameters, function_rest, argument_by, argument, arguments_by, arguments, item_end, item_by, item_turn, value_rest, getter_rest, setter_rest, is_named, begins_accessor, property_at, property_end, property_by, property_turn}
use Rattle.js_ast.specs.Joined.{joined_exprs, joined_items, joined_properties}
use Rattle.js_list_parser.proofs.Stops.{and_parts}
use Rattle.js_list_parser.proofs.Soundness.{FoundExpression, SoundBelow}
use Rattle.js_list_parser.proofs.Outcomes.{bind_ok, told, After, turns_sound, takes, ident_sound, key_sound, open_paren_sound, close_paren_sound, open_brace_sound, close_brace_sound, colon_sound, reached_low}

-- ---- parameters

-- parameters, one at least
abbrev pub SomeIdents : List Ident → Part
SomeIdents [] ts z = ⊥
SomeIdents (i ∷ is) ts z = ReadsIdents (i ∷ is) ts z

-- they are parameters
pub some_idents : (is : List Ident) (ts z : List Token) → SomeIdents is ts z → ReadsIdents is ts z
some_idents [] ts z h = absurd h
some_idents (i ∷ is) ts z h = h

-- a parameter behind others
pub more_idents : (is : List Ident) (i : Ident) (ts m a z : List Token) → SomeIdents is ts m → sign_part sign.Comma m a → ReadsIdent i a z → SomeIdents (is ++ i ∷ []) ts z
more_idents [] i ts m a z h c r = absurd h
more_idents (j ∷ []) i ts m a z h c r = (m, h, (a, c, r))
more_idents (j ∷ k ∷ is) i ts m a z h c r = (h.0, h.1, ((h.2).0, (h.2).1, more_idents (k ∷ is) i (h.2).0 m a z (h.2).2 c r))

-- parameters and the parenthesis that closes them
abbrev Closed : List Ident → Part
Closed is = ReadsIdents is ⨾ sign_part sign.CloseParen

-- parameters so far, or all of them
abbrev pub AfterParameter : List Token → Turn (List Ident) (List Ident) → List Token → Type 0
AfterParameter start t z = After (λ is m. SomeIdents is start m) (λ is m. Closed is start m) t z

-- a further parameter, or the end
pub parameter_sound : (start : List Token) (is : List Ident) (ts : List Token) (t : Turn (List Ident) (List Ident)) (z : List Token) → SomeIdents is start ts → parameter is ts ≡ Ok (t, z) → AfterParameter start t z
unfolding parameter parameter_by
parameter_sound start is ts t z i e = go (word_at ts) refl e
  where
    go : (w : Option Word) → word_at ts ≡ w → parameter_by is w ts ≡ Ok (t, z) → AfterParameter start t z
    go (Some (a_sign sign.CloseParen)) h e = told (AfterParameter start) (done is) t (behind ts) z (ts, some_idents is start ts i, takes _ ts h) e
    go (Some (a_sign sign.Comma)) h e =
        let a = bind_ok (taken (ident_at (behind ts)) (behind ts)) _ (t, z) e in
        told (AfterParameter start) (again (is ++ (a.0).0 ∷ [])) t (a.0).1 z (more_idents is (a.0).0 start ts (behind ts) (a.0).1 i (takes _ ts h) (ident_sound (behind ts) (a.0).0 (a.0).1 a.1)) a.2
    go _ h e = absurd cc

-- parameters and what closes them
pub parameters_sound : (ts : List Token) (is : List Ident) (z : List Token) → parameters ts ≡ Ok (is, z) → Closed is ts z
unfolding parameters parameters_by
parameters_sound ts is z e = go (word_at ts) refl e
  where
    several : (taken (ident_at ts) ts >>= λ i. loop parameter (i.0 ∷ []) i.1) ≡ Ok (is, z) → Closed is ts z
    several e =
        let a = bind_ok (taken (ident_at ts) ts) _ (is, z) e in
        turns_sound parameter (λ js m. SomeIdents js ts m) (λ js m. Closed js ts m) (parameter_sound ts) ((a.0).0 ∷ []) (a.0).1 is z (ident_sound ts (a.0).0 (a.0).1 a.1) a.2

    go : (w : Option Word) → word_at ts ≡ w → parameters_by w ts ≡ Ok (is, z) → Closed is ts z
    go (Some (a_sign sign.CloseParen)) h e = told (λ js m. Closed js ts m) [] is (behind ts) z (ts, refl, takes _ ts h) e
    go _ h e = several e

-- the parameters in parentheses and the body of a function
pub record FoundFunction (d : ℕ) (params : List Ident) (body : Statements) (ts z : List Token) : Type 0 where
  pub valid : ValidStatements true body
  pub shallow : depth_statements body < d
  pub reads : (parens (ReadsIdents params) ⨾ braces (ReadsStatements body)) ts z

-- the body of a function, in braces
pub record FoundBody (d : ℕ) (body : Statements) (ts z : List Token) : Type 0 where
  pub valid : ValidStatements true body
  pub shallow : depth_statements body < d
  pub reads : braces (ReadsStatements body) ts z

-- ---- how lists grow

-- arguments, one at least
abbrev pub SomeExprs : Exprs → Part
SomeExprs no_exprs ts z = ⊥
SomeExprs (more_exprs e es) ts z = ReadsExprs (more_exprs e es) ts z

-- they are arguments
pub some_exprs : (es : Exprs) (ts z : List Token) → SomeExprs es ts z → ReadsExprs es ts z
some_exprs no_exprs ts z h = absurd h
some_exprs (more_exprs e es) ts z h = h

-- an expression behind others
pub exprs_more : (es : Exprs) (e : Expr) (ts m a z : List Token) → SomeExprs es ts m → sign_part sign.Comma m a → Reads e a z → SomeExprs (joined_exprs es (more_exprs e no_exprs)) ts z
exprs_more no_exprs e ts m a z h c r = absurd h
exprs_more (more_exprs f no_exprs) e ts m a z h c r = (m, h, (a, c, r))
exprs_more (more_exprs f (more_exprs g es)) e ts m a z h c r = (h.0, h.1, ((h.2).0, (h.2).1, exprs_more (more_exprs g es) e (h.2).0 m a z (h.2).2 c r))

-- two lists of valid arguments make one
pub exprs_valid : (es fs : Exprs) → ValidExprs es → ValidExprs fs → ValidExprs (joined_exprs es fs)
exprs_valid no_exprs fs v w = w
exprs_valid (more_exprs e es) fs v w = (v.0, v.1, exprs_valid es fs v.2 w)

-- and so do two of little depth
pub exprs_shallow : (d : ℕ) (es fs : Exprs) → depth_exprs es < d → depth_exprs fs < d → depth_exprs (joined_exprs es fs) < d
exprs_shallow d no_exprs fs v w = w
exprs_shallow d (more_exprs e es) fs v w = omega (arith, exprs_shallow d es fs (omega arith) w)

-- items with a comma behind each
abbrev pub CommaItems : Items → Part
CommaItems no_items = nothing
CommaItems (hole is) = sign_part sign.Comma ⨾ CommaItems is
CommaItems (item e is) = Reads e ⨾ (sign_part sign.Comma ⨾ CommaItems is)

-- such items behind others
pub items_more : (is js : Items) (ts m z : List Token) → CommaItems is ts m → CommaItems js m z → CommaItems (joined_items is js) ts z
items_more no_items js ts m z h r = rw h r
items_more (hole is) js ts m z h r = (h.0, h.1, items_more is js h.0 m z h.2 r)
items_more (item e is) js ts m z h r = (h.0, h.1, ((h.2).0, (h.2).1, items_more is js (h.2).0 m z (h.2).2 r))

-- behind them an expression is the last
pub items_last : (is : Items) (e : Expr) (ts m z : List Token) → CommaItems is ts m → Reads e m z → ReadsItems (joined_items is (item e no_items)) false ts z
items_last no_items e ts m z h r = (z, rw h r, refl)
items_last (hole is) e ts m z h r = (h.0, h.1, items_last is e h.0 m z h.2 r)
items_last (item f no_items) e ts m z h r = (h.0, h.1, ((h.2).0, (h.2).1, items_last no_items e (h.2).0 m z (h.2).2 r))
items_last (item f (hole is)) e ts m z h r = (h.0, h.1, ((h.2).0, (h.2).1, items_last (hole is) e (h.2).0 m z (h.2).2 r))
items_last (item f (item g is)) e ts m z h r = (h.0, h.1, ((h.2).0, (h.2).1, items_last (item g is) e (h.2).0 m z (h.2).2 r))

-- or they are all, and the comma behind a last expression is the final one
pub items_all : (is : Items) (ts z : List Token) → CommaItems is ts z → ReadsItems is (ends_with_item is) ts z
items_all no_items ts z h = h
items_all (hole is) ts z h = (h.0, h.1, items_all is h.0 z h.2)
items_all (item f no_items) ts z h = let c = (h.2).1 in (h.0, h.1, rw ((h.2).2) at c)
items_all (item f (hole is)) ts z h = (h.0, h.1, ((h.2).0, (h.2).1, items_all (hole is) (h.2).0 z (h.2).2))
items_all (item f (item g is)) ts z h = (h.0, h.1, ((h.2).0, (h.2).1, items_all (item g is) (h.2).0 z (h.2).2))

-- two lists of valid items make one
pub items_valid : (is js : Items) → ValidItems is → ValidItems js → ValidItems (joined_items is js)
items_valid no_items js v w = w
items_valid (hole is) js v w = items_valid is js v w
items_valid (item e is) js v w = (v.0, v.1, items_valid is js v.2 w)

-- and so do two of little depth
pub items_shallow : (d : ℕ) (is js : Items) → depth_items is < d → depth_items js < d → depth_items (joined_items is js) < d
items_shallow d no_items js v w = w
items_shallow d (hole is) js v w = items_shallow d is js v w
items_shallow d (item e is) js v w = omega (arith, items_shallow d is js (omega arith) w)

-- properties with a comma behind each
abbrev pub CommaProperties : Properties → Part
CommaProperties no_properties = nothing
CommaProperties (more_properties p ps) = ReadsProperty p ⨾ (sign_part sign.Comma ⨾ CommaProperties ps)

-- such properties behind others
pub properties_more : (ps qs : Properties) (ts m z : List Token) → CommaProperties ps ts m → CommaProperties qs m z → CommaProperties (joined_properties ps qs) ts z
properties_more no_properties qs ts m z h r = rw h r
properties_more (more_properties p ps) qs ts m z h r = (h.0, h.1, ((h.2).0, (h.2).1, properties_more ps qs (h.2).0 m z (h.2).2 r))

-- behind them a property is the last
pub properties_last : (ps : Properties) (q : Property) (ts m z : List Token) → CommaProperties ps ts m → ReadsProperty q m z → ReadsProperties (joined_properties ps (more_properties q no_properties)) false ts z
properties_last no_properties q ts m z h r = (z, rw h r, refl)
properties_last (more_properties p no_properties) q ts m z h r = (h.0, h.1, ((h.2).0, (h.2).1, properties_last no_properties q (h.2).0 m z (h.2).2 r))
properties_last (more_properties p (more_properties o ps)) q ts m z h r = (h.0, h.1, ((h.2).0, (h.2).1, properties_last (more_properties o ps) q (h.2).0 m z (h.2).2 r))

-- or they are all, and the comma behind the last is the final one
pub properties_all : (ps : Properties) (ts z : List Token) → CommaProperties ps ts z → ReadsProperties ps (has_properties ps) ts z
properties_all no_properties ts z h = h
properties_all (more_properties p no_properties) ts z h = let c = (h.2).1 in (h.0, h.1, rw ((h.2).2) at c)
properties_all (more_properties p (more_properties q ps)) ts z h = (h.0, h.1, ((h.2).0, (h.2).1, properties_all (more_properties q ps) (h.2).0 z (h.2).2))

-- two lists of valid properties make one
pub properties_valid : (ps qs : Properties) → ValidProperties ps → ValidProperties qs → ValidProperties (joined_properties ps qs)
properties_valid no_properties qs v w = w
properties_valid (more_properties p ps) qs v w = (v.0, properties_valid ps qs v.1 w)

-- and so do two of little depth
pub properties_shallow : (d : ℕ) (ps qs : Properties) → depth_properties ps < d → depth_properties qs < d → depth_properties (joined_properties ps qs) < d
properties_shallow d no_properties qs v w = w
properties_shallow d (more_properties p ps) qs v w = omega (arith, properties_shallow d ps qs (omega arith) w)

-- ---- what is read of a list

-- arguments so far
pub record SoFarExprs (d : ℕ) (es : Exprs) (ts z : List Token) : Type 0 where
  pub valid : ValidExprs es
  pub shallow : depth_exprs es < d
  pub reads : SomeExprs es ts z

-- arguments and the parenthesis that closes them
pub record FoundExprs (d : ℕ) (es : Exprs) (ts z : List Token) : Type 0 where
  pub valid : ValidExprs es
  pub shallow : depth_exprs es < d
  pub reads : (ReadsExprs es ⨾ sign_part sign.CloseParen) ts z

-- arguments so far, or all of them
abbrev pub AfterArgument : ℕ → List Token → Turn Exprs Exprs → List Token → Type 0
AfterArgument d start t z = After (λ es m. SoFarExprs d es start m) (λ es m. FoundExprs d es start m) t z

-- items so far
pub record SoFarItems (d : ℕ) (is : Items) (ts z : List Token) : Type 0 where
  pub valid : ValidItems is
  pub shallow : depth_items is < d
  pub reads : CommaItems is ts z

-- items, whether a comma stands behind the last, and the bracket that closes them
pub record FoundItems (d : ℕ) (x : Items × Bool) (ts z : List Token) : Type 0 where
  pub valid : ValidItems x.0
  pub final : x.1 ≡ true → ends_with_item x.0 ≡ true
  pub shallow : depth_items x.0 < d
  pub reads : (ReadsItems x.0 x.1 ⨾ sign_part sign.CloseBracket) ts z

-- items so far, or all of them
abbrev pub AfterItem : ℕ → List Token → Turn Items (Items × Bool) → List Token → Type 0
AfterItem d start t z = After (λ is m. SoFarItems d is start m) (λ x m. FoundItems d x start m) t z

-- a property
pub record FoundProperty (d : ℕ) (p : Property) (ts z : List Token) : Type 0 where
  pub valid : ValidProperty p
  pub shallow : depth_property p < d
  pub reads : ReadsProperty p ts z

-- properties so far
pub record SoFarProperties (d : ℕ) (ps : Properties) (ts z : List Token) : Type 0 where
  pub valid : ValidProperties ps
  pub shallow : depth_properties ps < d
  pub reads : CommaProperties ps ts z

-- properties, whether a comma stands behind the last, and the brace that closes them
pub record FoundProperties (d : ℕ) (x : Properties × Bool) (ts z : List Token) : Type 0 where
  pub valid : ValidProperties x.0
  pub final : x.1 ≡ true → has_properties x.0 ≡ true
  pub shallow : depth_properties x.0 < d
  pub reads : (ReadsProperties x.0 x.1 ⨾ sign_part sign.CloseBrace) ts z

-- properties so far, or all of them
abbrev pub AfterProperty : ℕ → List Token → Turn Properties (Properties × Bool) → List Token → Type 0
AfterProperty d start t z = After (λ ps m. SoFarProperties d ps start m) (λ x m. FoundProperties d x start m) t z

-- `get` or `set` before a key is that name
named : (w : Option Word) (text : List ℕ) → is_named w text ≡ true → w ≡ Some (a_name text)
named (Some (a_name u)) text h = rw ((bytes_eq-Decides u text).0 h) refl
named _ text h = absurd cc

-- what begins an accessor begins with its word
pub accessor : (text : List ℕ) (ts : List Token) → begins_accessor text ts ≡ true → Takes (a_name text) ts (behind ts)
unfolding begins_accessor
accessor text ts h = takes (a_name text) ts (named (word_at ts) text (and_parts (is_named (word_at ts) text) _ h).0)

module _ (d : ℕ) (sub : Parsers) (below : SoundBelow d sub) where
  -- a body in braces
  pub body_sound : (ts : List Token) (body : Statements) (z : List Token) → body_at sub ts ≡ Ok (body, z) → FoundBody d body ts z
  unfolding body_at
  body_sound ts body z e =
      let a = bind_ok (expect is_open_brace ts) _ (body, z) e in
      let b = bind_ok (sub.statements true a.0) _ (body, z) a.2 in
      let c = bind_ok (expect is_close_brace (b.0).1) _ (body, z) b.2 in
      let f = below.bodies a.0 (b.0).0 (b.0).1 b.1 in
      told (λ ss m. FoundBody d ss ts m) (b.0).0 body c.0 z
      (record { valid = f.valid; shallow = f.shallow; reads = (a.0, open_brace_sound ts a.0 a.1, ((b.0).1, f.reads, close_brace_sound (b.0).1 c.0 c.1)) }) c.2

  -- parameters in parentheses, and a body in braces
  pub function_rest_found : (ts : List Token) (params : List Ident) (body : Statements) (z : List Token) → function_rest sub ts ≡ Ok ((params, body), z) → FoundFunction d params body ts z
  unfolding function_rest
  function_rest_found ts params body z e =
      let a = bind_ok (expect is_open_paren ts) _ ((params, body), z) e in
      let b = bind_ok (parameters a.0) _ ((params, body), z) a.2 in
      let c = bind_ok (body_at sub (b.0).1) _ ((params, body), z) b.2 in
      let f = body_sound (b.0).1 (c.0).0 (c.0).1 c.1 in
      let p = parameters_sound a.0 (b.0).0 (b.0).1 b.1 in
      told (λ x m. FoundFunction d x.0 x.1 ts m) ((b.0).0, (c.0).0) (params, body) (c.0).1 z
      (record { valid = f.valid; shallow = f.shallow; reads = ((b.0).1, (a.0, open_paren_sound ts a.0 a.1, p), f.reads) }) c.2

  -- ---- arguments

  -- a further argument, or the end
  pub argument_sound : (start : List Token) (es : Exprs) (ts : List Token) (t : Turn Exprs Exprs) (z : List Token) → SoFarExprs d es start ts → argument sub es ts ≡ Ok (t, z) → AfterArgument d start t z
  unfolding argument argument_by
  argument_sound start es ts t z i e = go (word_at ts) refl e
    where
      go : (w : Option Word) → word_at ts ≡ w → argument_by sub es w ts ≡ Ok (t, z) → AfterArgument d start t z
      go (Some (a_sign sign.CloseParen)) h e =
          told (AfterArgument d start) (done es) t (behind ts) z (record { valid = i.valid; shallow = i.shallow; reads = (ts, some_exprs es start ts i.reads, takes _ ts h) }) e
      go (Some (a_sign sign.Comma)) h e =
          let a = bind_ok (sub.expression 1 true (behind ts)) _ (t, z) e in
          let x = (a.0).0 in let m = (a.0).1 in
          let f = below.expression 1 true (behind ts) x m (omega arith) a.1 in
          let s = f.shallow in let l = i.shallow in
          told (AfterArgument d start) (again (joined_exprs es (more_exprs x no_exprs))) t m z (record {
            valid = exprs_valid es (more_exprs x no_exprs) i.valid (f.valid, reached_low 1 x (omega arith) f.reaches, tt);
            shallow = exprs_shallow d es (more_exprs x no_exprs) i.shallow (omega arith);
            reads = exprs_more es x start ts (behind ts) m i.reads (takes _ ts h) f.reads;
          }) a.2
      go _ h e = absurd cc

  -- arguments and what closes them, where a call has room
  pub arguments_sound : (ts : List Token) (es : Exprs) (z : List Token) → 0 < d → arguments sub ts ≡ Ok (es, z) → FoundExprs d es ts z
  unfolding arguments arguments_by
  arguments_sound ts es z lt e = go (word_at ts) refl e
    where
      several : (sub.expression 1 true ts >>= λ e. loop (argument sub) (more_exprs e.0 no_exprs) e.1) ≡ Ok (es, z) → FoundExprs d es ts z
      several e =
          let a = bind_ok (sub.expression 1 true ts) _ (es, z) e in
          let x = (a.0).0 in let m = (a.0).1 in
          let f = below.expression 1 true ts x m (omega arith) a.1 in
          let s = f.shallow in
          turns_sound (argument sub) (λ fs y. SoFarExprs d fs ts y) (λ fs y. FoundExprs d fs ts y) (argument_sound ts) (more_exprs x no_exprs) m es z
          (record { valid = (f.valid, reached_low 1 x (omega arith) f.reaches, tt); shallow = omega arith; reads = f.reads }) a.2

      go : (w : Option Word) → word_at ts ≡ w → arguments_by sub w ts ≡ Ok (es, z) → FoundExprs d es ts z
      go (Some (a_sign sign.CloseParen)) h e = told (λ fs m. FoundExprs d fs ts m) no_exprs es (behind ts) z (record { valid = tt; shallow = lt; reads = (ts, refl, takes _ ts h) }) e
      go _ h e = several e

  -- ---- items of arrays

  -- an expression is the last item, or a comma stands behind it
  item_end_sound : (start : List Token) (is : Items) (x : Expr) (m : List Token) (ts : List Token) (t : Turn Items (Items × Bool)) (z : List Token) → SoFarItems d is start m → FoundExpression d 1 true x m ts
      → item_end (joined_items is (item x no_items)) (word_at ts) ts ≡ Ok (t, z) → AfterItem d start t z
  unfolding item_end
  item_end_sound start is x m ts t z i f e = go (word_at ts) refl e
    where
      valid : ValidItems (joined_items is (item x no_items))
      valid = items_valid is (item x no_items) i.valid (f.valid, reached_low 1 x (omega arith) f.reaches, tt)

      shallow : depth_items (joined_items is (item x no_items)) < d
      shallow = let s = f.shallow in items_shallow d is (item x no_items) i.shallow (omega arith)

      go : (w : Option Word) → word_at ts ≡ w → item_end (joined_items is (item x no_items)) w ts ≡ Ok (t, z) → AfterItem d start t z
      go (Some (a_sign sign.Comma)) h e =
          told (AfterItem d start) (again (joined_items is (item x no_items))) t (behind ts) z
          (record { valid = valid; shallow = shallow; reads = items_more is (item x no_items) start m (behind ts) i.reads (ts, f.reads, (behind ts, takes _ ts h, refl)) }) e
      go (Some (a_sign sign.CloseBracket)) h e =
          told (AfterItem d start) (done (joined_items is (item x no_items), false)) t (behind ts) z
          (record { valid = valid; final = λ c. absurd cc; shallow = shallow; reads = (ts, items_last is x start m ts i.reads f.reads, takes _ ts h) }) e
      go _ h e = absurd cc

  -- a further item, or the end
  pub item_sound : (start : List Token) (is : Items) (ts : List Token) (t : Turn Items (Items × Bool)) (z : List Token) → SoFarItems d is start ts → item_turn sub is ts ≡ Ok (t, z) → AfterItem d start t z
  unfolding item_turn item_by
  item_sound start is ts t z i e = go (word_at ts) refl e
    where
      one : (sub.expression 1 true ts >>= λ e. item_end (joined_items is (item e.0 no_items)) (word_at e.1) e.1) ≡ Ok (t, z) → AfterItem d start t z
      one e =
          let a = bind_ok (sub.expression 1 true ts) _ (t, z) e in
          item_end_sound start is (a.0).0 ts (a.0).1 t z i (below.expression 1 true ts (a.0).0 (a.0).1 (omega arith) a.1) a.2

      go : (w : Option Word) → word_at ts ≡ w → item_by sub is w ts ≡ Ok (t, z) → AfterItem d start t z
      go (Some (a_sign sign.Comma)) h e =
          let s = i.shallow in
          told (AfterItem d start) (again (joined_items is (hole no_items))) t (behind ts) z
          (record { valid = items_valid is (hole no_items) i.valid tt; shallow = items_shallow d is (hole no_items) i.shallow (omega arith); reads = items_more is (hole no_items) start ts (behind ts) i.reads (behind ts, takes _ ts h, refl) }) e
      go (Some (a_sign sign.CloseBracket)) h e =
          told (AfterItem d start) (done (is, ends_with_item is)) t (behind ts) z (record { valid = i.valid; final = λ c. c; shallow = i.shallow; reads = (ts, items_all is start ts i.reads, takes _ ts h) }) e
      go _ h e = one e

  -- the items of an array that has room
  pub items_sound : (ts : List Token) (x : Items × Bool) (z : List Token) → 0 < d → loop (item_turn sub) no_items ts ≡ Ok (x, z) → FoundItems d x ts z
  items_sound ts x z lt e = turns_sound (item_turn sub) (λ is m. SoFarItems d is ts m) (λ y m. FoundItems d y ts m) (item_sound ts) no_items ts x z (record { valid = tt; shallow = lt; reads = refl }) e

  -- ---- properties of objects

  -- a key and a value
  value_sound : (start : List Token) (p : Property) (z : List Token) → value_rest sub (place_of start) start ≡ Ok (p, z) → FoundProperty d p start z
  unfolding value_rest
  value_sound start p z e =
      let a = bind_ok (taken (key_at start) start) _ (p, z) e in
      let b = bind_ok (expect is_colon (a.0).1) _ (p, z) a.2 in
      let c = bind_ok (sub.expression 1 true b.0) _ (p, z) b.2 in
      let x = (c.0).0 in
      let f = below.expression 1 true b.0 x (c.0).1 (omega arith) c.1 in
      told (λ q m. FoundProperty d q start m) (value (place_of start) (a.0).0 x) p (c.0).1 z (record {
        valid = (f.valid, reached_low 1 x (omega arith) f.reaches);
        shallow = f.shallow;
        reads = (refl, ((a.0).1, key_sound start (a.0).0 (a.0).1 a.1, (b.0, colon_sound (a.0).1 b.0 b.1, f.reads)));
      }) c.2

  -- behind `get`
  getter_sound : (start ts : List Token) (p : Property) (z : List Token) → Takes (a_name (codes "get")) start ts → getter_rest sub (place_of start) ts ≡ Ok (p, z) → FoundProperty d p start z
  unfolding getter_rest
  getter_sound start ts p z t e =
      let a = bind_ok (taken (key_at ts) ts) _ (p, z) e in
      let b = bind_ok (expect is_open_paren (a.0).1) _ (p, z) a.2 in
      let c = bind_ok (expect is_close_paren b.0) _ (p, z) b.2 in
      let g = bind_ok (body_at sub c.0) _ (p, z) c.2 in
      let f = body_sound c.0 (g.0).0 (g.0).1 g.1 in
      told (λ q m. FoundProperty d q start m) (getter (place_of start) (a.0).0 (function_of (place_of start) None [] (g.0).0)) p (g.0).1 z (record {
        valid = ((refl, f.valid), (refl, refl));
        shallow = f.shallow;
        reads = (refl, (ts, t, ((a.0).1, key_sound ts (a.0).0 (a.0).1 a.1, ((a.0).1, refl, (c.0, (b.0, open_paren_sound (a.0).1 b.0 b.1, (b.0, refl, close_paren_sound b.0 c.0 c.1)), f.reads)))));
      }) g.2

  -- behind `set`
  setter_sound : (start ts : List Token) (p : Property) (z : List Token) → Takes (a_name (codes "set")) start ts → setter_rest sub (place_of start) ts ≡ Ok (p, z) → FoundProperty d p start z
  unfolding setter_rest
  setter_sound start ts p z t e =
      let a = bind_ok (taken (key_at ts) ts) _ (p, z) e in
      let b = bind_ok (expect is_open_paren (a.0).1) _ (p, z) a.2 in
      let i = bind_ok (taken (ident_at b.0) b.0) _ (p, z) b.2 in
      let c = bind_ok (expect is_close_paren (i.0).1) _ (p, z) i.2 in
      let g = bind_ok (body_at sub c.0) _ (p, z) c.2 in
      let f = body_sound c.0 (g.0).0 (g.0).1 g.1 in
      told (λ q m. FoundProperty d q start m) (setter (place_of start) (a.0).0 (function_of (place_of start) None ((i.0).0 ∷ []) (g.0).0)) p (g.0).1 z (record {
        valid = ((refl, f.valid), (refl, refl));
        shallow = f.shallow;
        reads = (
          refl,
          (
            ts,
            t,
            (
              (a.0).1,
              key_sound ts (a.0).0 (a.0).1 a.1,
              ((a.0).1, refl, (c.0, (b.0, open_paren_sound (a.0).1 b.0 b.1, ((i.0).1, ident_sound b.0 (i.0).0 (i.0).1 i.1, close_paren_sound (i.0).1 c.0 c.1)), f.reads)),
            ),
          ),
        );
      }) g.2

  -- one property
  pub property_sound : (ts : List Token) (p : Property) (z : List Token) → property_at sub ts ≡ Ok (p, z) → FoundProperty d p ts z
  unfolding property_at
  property_sound ts p z e = first (begins_accessor (codes "get") ts) refl e
    where
      second : (b : Bool) → begins_accessor (codes "set") ts ≡ b → (if b then setter_rest sub (place_of ts) (behind ts) else value_rest sub (place_of ts) ts) ≡ Ok (p, z) → FoundProperty d p ts z
      second true h e = setter_sound ts (behind ts) p z (accessor (codes "set") ts h) e
      second false h e = value_sound ts p z e

      first : (b : Bool) → begins_accessor (codes "get") ts ≡ b
          → (if b then getter_rest sub (place_of ts) (behind ts) else (if begins_accessor (codes "set") ts then setter_rest sub (place_of ts) (behind ts) else value_rest sub (place_of ts) ts)) ≡ Ok (p, z) → FoundProperty d p ts z
      first true h e = getter_sound ts (behind ts) p z (accessor (codes "get") ts h) e
      first false h e = second (begins_accessor (codes "set") ts) refl e

  -- a property is the last, or a comma stands behind it
  property_end_sound : (start : List Token) (ps : Properties) (q : Property) (m : List Token) (ts : List Token) (t : Turn Properties (Properties × Bool)) (z : List Token) → SoFarProperties d ps start m → FoundProperty d q m ts
      → property_end (joined_properties ps (more_properties q no_properties)) (word_at ts) ts ≡ Ok (t, z) → AfterProperty d start t z
  unfolding property_end
  property_end_sound start ps q m ts t z i f e = go (word_at ts) refl e
    where
      valid : ValidProperties (joined_properties ps (more_properties q no_properties))
      valid = properties_valid ps (more_properties q no_properties) i.valid (f.valid, tt)

      shallow : depth_properties (joined_properties ps (more_properties q no_properties)) < d
      shallow = let s = f.shallow in properties_shallow d ps (more_properties q no_properties) i.shallow (omega arith)

      go : (w : Option Word) → word_at ts ≡ w → property_end (joined_properties ps (more_properties q no_properties)) w ts ≡ Ok (t, z) → AfterProperty d start t z
      go (Some (a_sign sign.Comma)) h e =
          told (AfterProperty d start) (again (joined_properties ps (more_properties q no_properties))) t (behind ts) z
          (record { valid = valid; shallow = shallow; reads = properties_more ps (more_properties q no_properties) start m (behind ts) i.reads (ts, f.reads, (behind ts, takes _ ts h, refl)) }) e
      go (Some (a_sign sign.CloseBrace)) h e =
          told (AfterProperty d start) (done (joined_properties ps (more_properties q no_properties), false)) t (behind ts) z
          (record { valid = valid; final = λ c. absurd cc; shallow = shallow; reads = (ts, properties_last ps q start m ts i.reads f.reads, takes _ ts h) }) e
      go _ h e = absurd cc

  -- a further property, or the end
  pub property_turn_sound : (start : List Token) (ps : Properties) (ts : List Token) (t : Turn Properties (Properties × Bool)) (z : List Token) → SoFarProperties d ps start ts → property_turn sub ps ts ≡ Ok (t, z) → AfterProperty d start t z
  unfolding property_turn property_by
  property_turn_sound start ps ts t z i e = go (word_at ts) refl e
    where
      one : (property_at sub ts >>= λ p. property_end (joined_properties ps (more_properties p.0 no_properties)) (word_at p.1) p.1) ≡ Ok (t, z) → AfterProperty d start t z
      one e = let a = bind_ok (property_at sub ts) _ (t, z) e in property_end_sound start ps (a.0).0 ts (a.0).1 t z i (property_sound ts (a.0).0 (a.0).1 a.1) a.2

      go : (w : Option Word) → word_at ts ≡ w → property_by sub ps w ts ≡ Ok (t, z) → AfterProperty d start t z
      go (Some (a_sign sign.CloseBrace)) h e =
          told (AfterProperty d start) (done (ps, has_properties ps)) t (behind ts) z (record { valid = i.valid; final = λ c. c; shallow = i.shallow; reads = (ts, properties_all ps start ts i.reads, takes _ ts h) }) e
      go _ h e = one e

  -- the properties of an object that has room
  pub properties_sound : (ts : List Token) (x : Properties × Bool) (z : List Token) → 0 < d → loop (property_turn sub) no_properties ts ≡ Ok (x, z) → FoundProperties d x ts z
  properties_sound ts x z lt e =
      turns_sound (property_turn sub) (λ ps m. SoFarProperties d ps ts m) (λ y m. FoundProperties d y ts m) (property_turn_sound ts) no_properties ts x z (record { valid = tt; shallow = lt; reads = refl }) e

-- what stands behind the name of a function, or behind the word `function`
pub function_rest_sound : {d : ℕ} {sub : Parsers} → SoundBelow d sub → (ts : List Token) (params : List Ident) (body : Statements) (z : List Token) → function_rest sub ts ≡ Ok ((params, body), z) → FoundFunction d params body ts z
function_rest_sound {d} {sub} below = function_rest_found d sub below
