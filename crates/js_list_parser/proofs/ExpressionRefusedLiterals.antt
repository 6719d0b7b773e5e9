-- Where arrays and objects are refused, the tokens so far begin valid ones.
use Rattle.std.proofs.Common.{◌≡◌, ℕ, ◌<◌, Bool, true, false, List, [], ◌∷◌, ◌++◌, Option, Some, None, Ok, codes, refl, ap, ◌∙◌, arith}
use Rattle.js_ast.specs.declared.token.Token.{Token}
use Rattle.js_ast.specs.declared.words.Sign.TheVariants as sign
use Rattle.js_ast.specs.Words.{Word, a_name, a_sign}
use Rattle.js_ast.specs.Trees.{Ident, Key, name_key, string_key, number_key, name, Items, no_items, hole, item, Property, value, getter, setter, Properties, no_properties, more_properties, Statements, no_statements, function_of}
use Rattle.js_ast.specs.Grammar.{Part, ◌⨾◌, nothing, At, Takes, sign_part, parens, place_of, ReadsIdent, ReadsKey, Reads, ReadsItems, ReadsProperty, ReadsProperties, ReadsFunction}
use Rattle.js_ast.specs.Validity.{ends_with_item, has_properties, ValidItems, ValidProperty, ValidProperties}
use Rattle.js_ast.specs.Depth.{depth_items, depth_property, depth_properties}
use Rattle.js_list_parser.specs.Reading.{Fault, syntax, ◌>>=◌, word_at, behind, again, loop, Parsers}
use Rattle.js_list_parser.specs.ExpressionParsing.{is_open_paren, is_close_paren, is_colon, expect, key_at, ident_at, body_at, item_end, item_by, item_turn, value_rest, getter_rest, setter_rest, begins_accessor, property_at, property_end, property_by, property_turn}
use Rattle.js_ast.specs.Joined.{joined_items, joined_properties}
use Rattle.js_list_parser.proofs.Outcomes.{key_sound, reached_low}
use Rattle.js_list_parser.proofs.Soundness.{SoundBelow}
use Rattle.js_list_parser.proofs.Gives.{gives-open-paren, gives-close-paren, gives-colon, gives-ident}
use Rattle.js_list_parser.proofs.FoundLists.{CommaItems, items_last, items_valid, items_shallow, CommaProperties, properties_last, properties_valid, properties_shallow, SoFarItems, FoundProperty, SoFarProperties, accessor, item_sound, property_sound, property_turn_sound}
use Rattle.js_list_parser.proofs.ExpressionTurns.{NoLonger, item_turns, property_turns}
use Rattle.js_list_parser.proofs.Fronts.{Fixed, fixed_first, token_first, nothing_fixed, takes_fixed, expr_fixed, property_fixed}
use Rattle.js_list_parser.proofs.Viable.{Opens, opens_map, opens_start, opens_nothing, opens_token, opens_front, opens_whole, opens_at, opens_open_paren, opens_close_paren, opens_close_brace, opens_close_bracket, opens_colon, name_token, opens_name, ident_a, opens_ident, opens_expression, Completes, Stuck, stuck_here, stuck_found, Beside, stuck_beside, Fails, fails-ok, fails-err, fails-more, fails-bind, fails-last, fails-cond, fails-expect, fails-taken, fails-loop, StuckBelow}
use Rattle.js_list_parser.proofs.ExpressionRefusedLists.{gives_read, CompletesBody, Braced, empty_body, Behind, no_body, then_body, body_refused, expression_given}

-- ---- arrays

-- items and the bracket that closes them, which the word begins
pub record CompletesItems (limit : ℕ) (word : List Token) : Type 0 where
  pub items : Items
  pub final : Bool
  pub valid : ValidItems items
  pub last : final ≡ true → ends_with_item items ≡ true
  pub shallow : depth_items items < limit
  pub opens : Opens (ReadsItems items final ⨾ sign_part sign.CloseBracket) word

-- items so far
comma_items_fixed : (is : Items) → Fixed (CommaItems is)
comma_items_fixed no_items = nothing_fixed
comma_items_fixed (hole is) = token_first _ _ (comma_items_fixed is)
comma_items_fixed (item e is) = fixed_first _ _ (expr_fixed e) (token_first _ _ (comma_items_fixed is))

-- ---- properties

-- a property that the word begins
pub record CompletesProperty (limit : ℕ) (word : List Token) : Type 0 where
  pub property : Property
  pub valid : ValidProperty property
  pub shallow : depth_property property < limit
  pub opens : Opens (ReadsProperty property) word

-- properties and the brace that closes them, which the word begins
pub record CompletesProperties (limit : ℕ) (word : List Token) : Type 0 where
  pub properties : Properties
  pub final : Bool
  pub valid : ValidProperties properties
  pub last : final ≡ true → has_properties properties ≡ true
  pub shallow : depth_properties properties < limit
  pub opens : Opens (ReadsProperties properties final ⨾ sign_part sign.CloseBrace) word

-- properties so far
comma_properties_fixed : (ps : Properties) → Fixed (CommaProperties ps)
comma_properties_fixed no_properties = nothing_fixed
comma_properties_fixed (more_properties p ps) = fixed_first _ _ (property_fixed p) (token_first _ _ (comma_properties_fixed ps))

-- one token that a part takes, whatever follows
record Single (p : Part) (ts z : List Token) : Type 0 where
  token : Token
  parts : ts ≡ token ∷ z
  each : (y : List Token) → p (token ∷ y) y

-- a key
key_token : (k : Key) (ts z : List Token) → ReadsKey k ts z → Single (ReadsKey k) ts z
key_token (name_key text) ts z h = record { token = h.0; parts = h.1; each = λ y. (h.0, refl, h.2) }
key_token (string_key text v) ts z h = record { token = h.0; parts = h.1; each = λ y. (h.0, refl, h.2) }
key_token (number_key n) ts z h = record { token = h.0; parts = h.1; each = λ y. (h.0, refl, h.2) }

-- a name that is bound
ident_token : (i : Ident) (ts z : List Token) → ReadsIdent i ts z → Single (ReadsIdent i) ts z
ident_token i ts z h = let t = h.1 in record { token = t.0; parts = t.1; each = λ y. (h.0 ∙ ap place_of t.1, (t.0, refl, t.2)) }

-- it stands there, and then a beginning
opens_single : (p q : Part) {ts z word : List Token} (s : Single p ts z) → Opens q word → Opens (p ⨾ q) (s.token ∷ word)
opens_single p q {word = word} s o = record { each = λ y. let r = o.each y in (r.0, (word ++ r.0, s.each (word ++ r.0), r.1)) }

-- a key is to come, and then a beginning
opens_keyed : (q : Part) → Opens q [] → Opens (At 0 (ReadsKey (name_key (codes "a")) ⨾ q)) []
opens_keyed q o = record { each = λ y. let r = o.each y in (name_token ∷ r.0, (refl, (r.0, (name_token, refl, refl), r.1))) }

-- what stands behind a key of a value, of a `get` and of a `set`
opens_value : Opens (sign_part sign.Colon ⨾ Reads (name 0 (codes "a"))) []
opens_value = opens_start _ _ opens_colon opens_expression

module _ (d : ℕ) (sub : Parsers) (sound : SoundBelow d sub) (shrinks : NoLonger sub) (pos : 0 < d) (below : StuckBelow d sub) where
  -- ---- items

  -- an expression behind others
  another_item : (start : List Token) (is : Items) (ts : List Token) (i : SoFarItems d is start ts) → Beside (Completes 1 true) CompletesItems (comma_items_fixed is start ts i.reads).word d
  another_item start is ts i = record {
    beside = λ l limit w le b c.
        let s = c.shallow in let s' = i.shallow in
        record {
          items = joined_items is (item c.tree no_items);
          final = false;
          valid = items_valid is (item c.tree no_items) i.valid (c.valid, reached_low 1 c.tree (omega arith) c.reaches, tt);
          last = λ k. absurd cc;
          shallow = items_shallow limit is (item c.tree no_items) (omega arith) (omega arith);
          opens = opens_map _ (λ us y h. let (a, q, (f, r, p)) = h in (f, items_last is c.tree us a f q r, p)) (opens_front _ _ (comma_items_fixed is start ts i.reads) (opens_start _ _ c.opens opens_close_bracket));
        };
  }

  -- behind an expression
  item_end_refused : (items : Items) (ts : List Token) {Q : Fault → List Token → Type 0} → Q syntax ts → Fails (item_end items (word_at ts) ts) Q
  unfolding item_end
  item_end_refused items ts {Q} q = go (word_at ts)
    where
      go : (w : Option Word) → Fails (item_end items w ts) Q
      go (Some (a_sign sign.Comma)) = fails-ok
      go (Some (a_sign sign.CloseBracket)) = fails-ok
      go _ = fails-err q

  -- a turn of the items
  item_refused : (start : List Token) (is : Items) (ts : List Token) → SoFarItems d is start ts → Fails (item_turn sub is ts) (λ f z. Stuck CompletesItems d f start z)
  unfolding item_turn item_by
  item_refused start is ts i = go (word_at ts)
    where
      add : {f : Fault} {z : List Token} → Stuck (Completes 1 true) d f ts z → Stuck CompletesItems d f start z
      add s = stuck_beside (another_item start is ts i) (omega arith) (comma_items_fixed is start ts i.reads).parts s

      one : Fails (sub.expression 1 true ts >>= λ e. item_end (joined_items is (item e.0 no_items)) (word_at e.1) e.1) (λ f z. Stuck CompletesItems d f start z)
      one = fails-bind (expression_given d sub sound shrinks pos below ts) (fails-more (below.expression 1 true ts (omega arith)) (λ f z. add)) (λ x g. item_end_refused (joined_items is (item x.0 no_items)) x.1 (add (stuck_found g)))

      go : (w : Option Word) → Fails (item_by sub is w ts) (λ f z. Stuck CompletesItems d f start z)
      go (Some (a_sign sign.Comma)) = fails-ok
      go (Some (a_sign sign.CloseBracket)) = fails-ok
      go _ = one

  -- the items of an array
  pub items_refused : (ts : List Token) → Fails (loop (item_turn sub) no_items ts) (λ f z. Stuck CompletesItems d f ts z)
  items_refused ts = fails-loop (λ is m. SoFarItems d is ts m) (item_turns sub shrinks) (λ is m js y j e. item_sound d sub sound ts is m (again js) y j e) (λ is m j. item_refused ts is m j) no_items ts
      (record { valid = tt; shallow = pos; reads = refl })

  -- ---- one property

  -- a key and a value
  value_refused : (ts : List Token) → Fails (value_rest sub (place_of ts) ts) (λ f z. Stuck CompletesProperty d f ts z)
  unfolding value_rest
  value_refused ts = fails-bind (gives_read (λ k m e. key_sound ts k m e)) (fails-taken (key_at ts) ts (stuck_here [] refl nothing_yet)) (λ k r.
      let t = key_token k.0 ts k.1 r in
      fails-bind (gives-colon k.1) (fails-expect is_colon k.1 (stuck_here (t.token ∷ []) t.parts (behind_key k.0 k.1 t))) (λ inner o.
      fails-last _ (fails-more (below.expression 1 true inner (omega arith)) (λ f z. stuck_beside (behind_colon k.0 k.1 t inner o) (omega arith) (t.parts ∙ ap (λ (x : List Token). t.token ∷ x) o.1)))))
    where
      nothing_yet : CompletesProperty d []
      nothing_yet = record { property = value 0 (name_key (codes "a")) (name 0 (codes "a")); valid = (tt, omega arith); shallow = pos; opens = opens_keyed _ opens_value }

      behind_key : (k : Key) (m : List Token) (t : Single (ReadsKey k) ts m) → CompletesProperty d (t.token ∷ [])
      behind_key k m t = record { property = value (t.token).from k (name 0 (codes "a")); valid = (tt, omega arith); shallow = pos; opens = opens_at _ t.token (opens_single (ReadsKey k) _ t opens_value) }

      behind_colon : (k : Key) (m : List Token) (t : Single (ReadsKey k) ts m) (inner : List Token) (o : sign_part sign.Colon m inner) → Beside (Completes 1 true) CompletesProperty (t.token ∷ o.0 ∷ []) 0
      behind_colon k m t inner o = record {
        beside = λ l limit w le b c. let s = c.shallow in
            record { property = value (t.token).from k c.tree; valid = (c.valid, reached_low 1 c.tree (omega arith) c.reaches); shallow = omega arith; opens = opens_at _ t.token (opens_single (ReadsKey k) _ t (opens_token _ _ o.0 o.2 c.opens)) };
      }

  -- the parenthesis behind what is in parentheses, and a body
  close_refused : {A : Type 0} (k : Statements × List Token → A) (ts : List Token) → Fails (expect is_close_paren ts >>= λ rest. body_at sub rest >>= λ body. Ok (k body)) (λ f z. Stuck (CompletesBody (Behind (sign_part sign.CloseParen) Braced)) d f ts z)
  close_refused k ts = then_body d pos (sign_part sign.CloseParen) Braced ts (λ m. m) (takes_fixed _) (gives-close-paren ts)
      (fails-expect is_close_paren ts (no_body d pos (Behind (sign_part sign.CloseParen) Braced) ts ts [] refl (opens_start _ _ opens_close_paren empty_body))) (λ m. fails-last k (body_refused d sub sound shrinks pos below m))

  -- behind `get`
  getter_refused : (start ts : List Token) → Takes (a_name (codes "get")) start ts → Fails (getter_rest sub (place_of start) ts) (λ f z. Stuck CompletesProperty d f start z)
  unfolding getter_rest
  getter_refused start ts g = fails-bind (gives_read (λ k m e. key_sound ts k m e)) (fails-taken (key_at ts) ts (stuck_here (g.0 ∷ []) g.1 behind_get)) (λ k r.
      let t = key_token k.0 ts k.1 r in
      fails-bind (gives-open-paren k.1) (fails-expect is_open_paren k.1 (stuck_here (g.0 ∷ t.token ∷ []) (g.1 ∙ ap (λ (x : List Token). g.0 ∷ x) t.parts) (behind_key k.0 k.1 t))) (λ inner o.
      fails-more (close_refused _ inner) (λ f z. stuck_beside (behind_paren k.0 k.1 t inner o) (omega arith) (g.1 ∙ ap (λ (x : List Token). g.0 ∷ x) (t.parts ∙ ap (λ (x : List Token). t.token ∷ x) o.1)))))
    where
      opens_get : Opens (ReadsFunction (function_of (g.0).from None [] no_statements)) []
      opens_get = opens_nothing _ (opens_start _ _ (opens_start _ _ opens_open_paren (opens_nothing _ opens_close_paren)) empty_body)

      behind_get : CompletesProperty d (g.0 ∷ [])
      behind_get = record { property = getter (g.0).from (name_key (codes "a")) (function_of (g.0).from None [] no_statements); valid = ((refl, tt), (refl, refl)); shallow = pos; opens = opens_at _ g.0 (opens_token _ _ g.0 g.2 (opens_start _ _ opens_name opens_get)) }

      behind_key : (k : Key) (m : List Token) (t : Single (ReadsKey k) ts m) → CompletesProperty d (g.0 ∷ t.token ∷ [])
      behind_key k m t = record { property = getter (g.0).from k (function_of (g.0).from None [] no_statements); valid = ((refl, tt), (refl, refl)); shallow = pos; opens = opens_at _ g.0 (opens_token _ _ g.0 g.2 (opens_single (ReadsKey k) _ t opens_get)) }

      behind_paren : (k : Key) (m : List Token) (t : Single (ReadsKey k) ts m) (inner : List Token) (o : sign_part sign.OpenParen m inner) → Beside (CompletesBody (Behind (sign_part sign.CloseParen) Braced)) CompletesProperty (g.0 ∷ t.token ∷ o.0 ∷ []) 0
      behind_paren k m t inner o = record {
        beside = λ l limit w le b c. let s = c.shallow in
            record {
              property = getter (g.0).from k (function_of (g.0).from None [] c.body);
              valid = ((refl, c.valid), (refl, refl));
              shallow = omega arith;
              opens = opens_at _ g.0 (opens_token _ _ g.0 g.2 (opens_single (ReadsKey k) _ t
                  (opens_nothing _ (opens_map _ (λ us y h. let (a, b, (e, p, q)) = h in (e, (a, b, (a, refl, p)), q)) (opens_token _ _ o.0 o.2 c.opens)))));
            };
      }

  -- behind `set`
  setter_refused : (start ts : List Token) → Takes (a_name (codes "set")) start ts → Fails (setter_rest sub (place_of start) ts) (λ f z. Stuck CompletesProperty d f start z)
  unfolding setter_rest
  setter_refused start ts g = fails-bind (gives_read (λ k m e. key_sound ts k m e)) (fails-taken (key_at ts) ts (stuck_here (g.0 ∷ []) g.1 behind_set)) (λ k r.
      let t = key_token k.0 ts k.1 r in
      let one : start ≡ g.0 ∷ t.token ∷ k.1 = g.1 ∙ ap (λ (x : List Token). g.0 ∷ x) t.parts in
      fails-bind (gives-open-paren k.1) (fails-expect is_open_paren k.1 (stuck_here (g.0 ∷ t.token ∷ []) one (behind_key k.0 k.1 t))) (λ inner o.
      let two : start ≡ g.0 ∷ t.token ∷ o.0 ∷ inner = one ∙ ap (λ (x : List Token). g.0 ∷ t.token ∷ x) o.1 in
      fails-bind (gives-ident inner) (fails-taken (ident_at inner) inner (stuck_here (g.0 ∷ t.token ∷ o.0 ∷ []) two (behind_paren k.0 k.1 t inner o))) (λ i q.
      let p = ident_token i.0 inner i.1 q in
      fails-more (close_refused _ i.1) (λ f z. stuck_beside (behind_param k.0 k.1 t inner o i.0 i.1 p) (omega arith) (two ∙ ap (λ (x : List Token). g.0 ∷ t.token ∷ o.0 ∷ x) p.parts)))))
    where
      opens_param : Opens (ReadsIdent ident_a ⨾ sign_part sign.CloseParen) []
      opens_param = opens_start _ _ opens_ident opens_close_paren

      opens_set : Opens (ReadsFunction (function_of (g.0).from None (ident_a ∷ []) no_statements)) []
      opens_set = opens_nothing _ (opens_start _ _ (opens_start _ _ opens_open_paren opens_param) empty_body)

      behind_set : CompletesProperty d (g.0 ∷ [])
      behind_set = record { property = setter (g.0).from (name_key (codes "a")) (function_of (g.0).from None (ident_a ∷ []) no_statements); valid = ((refl, tt), (refl, refl)); shallow = pos; opens = opens_at _ g.0 (opens_token _ _ g.0 g.2 (opens_start _ _ opens_name opens_set)) }

      behind_key : (k : Key) (m : List Token) (t : Single (ReadsKey k) ts m) → CompletesProperty d (g.0 ∷ t.token ∷ [])
      behind_key k m t = record { property = setter (g.0).from k (function_of (g.0).from None (ident_a ∷ []) no_statements); valid = ((refl, tt), (refl, refl)); shallow = pos; opens = opens_at _ g.0 (opens_token _ _ g.0 g.2 (opens_single (ReadsKey k) _ t opens_set)) }

      behind_paren : (k : Key) (m : List Token) (t : Single (ReadsKey k) ts m) (inner : List Token) (o : sign_part sign.OpenParen m inner) → CompletesProperty d (g.0 ∷ t.token ∷ o.0 ∷ [])
      behind_paren k m t inner o = record {
        property = setter (g.0).from k (function_of (g.0).from None (ident_a ∷ []) no_statements);
        valid = ((refl, tt), (refl, refl));
        shallow = pos;
        opens = opens_at _ g.0 (opens_token _ _ g.0 g.2 (opens_single (ReadsKey k) _ t (opens_nothing _ (opens_start _ _ (opens_token _ _ o.0 o.2 opens_param) empty_body))));
      }

      behind_param : (k : Key) (m : List Token) (t : Single (ReadsKey k) ts m) (inner : List Token) (o : sign_part sign.OpenParen m inner) (i : Ident) (rest : List Token) (p : Single (ReadsIdent i) inner rest)
          → Beside (CompletesBody (Behind (sign_part sign.CloseParen) Braced)) CompletesProperty (g.0 ∷ t.token ∷ o.0 ∷ p.token ∷ []) 0
      behind_param k m t inner o i rest p = record {
        beside = λ l limit w le b c. let s = c.shallow in
            record {
              property = setter (g.0).from k (function_of (g.0).from None (i ∷ []) c.body);
              valid = ((refl, c.valid), (refl, refl));
              shallow = omega arith;
              opens = opens_at _ g.0 (opens_token _ _ g.0 g.2 (opens_single (ReadsKey k) _ t
                  (opens_nothing _ (opens_map _ (λ us y h. let (a, b, (e, x, (f, q, r))) = h in (f, (a, b, (e, x, q)), r)) (opens_token _ _ o.0 o.2 (opens_single (ReadsIdent i) _ p c.opens))))));
            };
      }

  -- a property
  property_refused : (ts : List Token) → Fails (property_at sub ts) (λ f z. Stuck CompletesProperty d f ts z)
  unfolding property_at
  property_refused ts = fails-cond (begins_accessor (codes "get") ts) (λ h. getter_refused ts (behind ts) (accessor (codes "get") ts h))
      (λ n. fails-cond (begins_accessor (codes "set") ts) (λ h. setter_refused ts (behind ts) (accessor (codes "set") ts h)) (λ m. value_refused ts))

  -- ---- properties

  -- a property behind others
  another_property : (start : List Token) (ps : Properties) (ts : List Token) (i : SoFarProperties d ps start ts) → Beside CompletesProperty CompletesProperties (comma_properties_fixed ps start ts i.reads).word d
  another_property start ps ts i = record {
    beside = λ l limit w le b c.
        let s = c.shallow in let s' = i.shallow in
        record {
          properties = joined_properties ps (more_properties c.property no_properties);
          final = false;
          valid = properties_valid ps (more_properties c.property no_properties) i.valid (c.valid, tt);
          last = λ k. absurd cc;
          shallow = properties_shallow limit ps (more_properties c.property no_properties) (omega arith) (omega arith);
          opens = opens_map _ (λ us y h. let (a, q, (f, r, p)) = h in (f, properties_last ps c.property us a f q r, p)) (opens_front _ _ (comma_properties_fixed ps start ts i.reads) (opens_start _ _ c.opens opens_close_brace));
        };
  }

  -- behind a property
  property_end_refused : (props : Properties) (ts : List Token) {Q : Fault → List Token → Type 0} → Q syntax ts → Fails (property_end props (word_at ts) ts) Q
  unfolding property_end
  property_end_refused props ts {Q} q = go (word_at ts)
    where
      go : (w : Option Word) → Fails (property_end props w ts) Q
      go (Some (a_sign sign.Comma)) = fails-ok
      go (Some (a_sign sign.CloseBrace)) = fails-ok
      go _ = fails-err q

  -- a turn of the properties
  property_turn_refused : (start : List Token) (ps : Properties) (ts : List Token) → SoFarProperties d ps start ts → Fails (property_turn sub ps ts) (λ f z. Stuck CompletesProperties d f start z)
  unfolding property_turn property_by
  property_turn_refused start ps ts i = go (word_at ts)
    where
      add : {f : Fault} {z : List Token} → Stuck CompletesProperty d f ts z → Stuck CompletesProperties d f start z
      add s = stuck_beside (another_property start ps ts i) (omega arith) (comma_properties_fixed ps start ts i.reads).parts s

      -- a property that is read
      whole : (p : Property) (m : List Token) → FoundProperty d p ts m → Stuck CompletesProperty d syntax ts m
      whole p m g = let front = property_fixed p ts m g.reads in stuck_here front.word front.parts (record { property = p; valid = g.valid; shallow = g.shallow; opens = opens_whole (ReadsProperty p) front })

      one : Fails (property_at sub ts >>= λ p. property_end (joined_properties ps (more_properties p.0 no_properties)) (word_at p.1) p.1) (λ f z. Stuck CompletesProperties d f start z)
      one = fails-bind (gives_read (λ p m e. property_sound d sub sound ts p m e)) (fails-more (property_refused ts) (λ f z. add)) (λ x g. property_end_refused (joined_properties ps (more_properties x.0 no_properties)) x.1 (add (whole x.0 x.1 g)))

      go : (w : Option Word) → Fails (property_by sub ps w ts) (λ f z. Stuck CompletesProperties d f start z)
      go (Some (a_sign sign.CloseBrace)) = fails-ok
      go _ = one

  -- the properties of an object
  pub properties_refused : (ts : List Token) → Fails (loop (property_turn sub) no_properties ts) (λ f z. Stuck CompletesProperties d f ts z)
  properties_refused ts = fails-loop (λ ps m. SoFarProperties d ps ts m) (property_turns sub shrinks) (λ ps m qs y j e. property_turn_sound d sub sound ts ps m (again qs) y j e) (λ ps m j. property_turn_refused ts ps m j) no_properties ts
      (record { valid = tt; shallow = pos; reads = refl })
