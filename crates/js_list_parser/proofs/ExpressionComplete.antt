-- One layer is complete: what spells a valid expression is read, whatever follows it that no last part takes.
use Rattle.std.proofs.Common.{◌≡◌, ℕ, zero, suc, ◌<◌, ◌≤◌, Bool, true, false, not, ◌&&◌, ◌||◌, if◌then◌else◌, ◌⊎◌, inl, inr, List, [], length, Option, Some, None, Ok, refl, sym, ap, ◌∙◌, arith}
use Rattle.std.proofs.lemmas.Bool.{le-leb}
use Rattle.js_ast.specs.declared.token.Token.{Token}
use Rattle.js_ast.specs.declared.operators.UnaryOperator.{UnaryOperator}
use Rattle.js_ast.specs.declared.operators.UnaryOperator.TheVariants as unary_operator
use Rattle.js_ast.specs.declared.words.Sign.TheVariants as sign
use Rattle.js_ast.specs.Words.{Word, a_sign}
use Rattle.js_ast.specs.Trees.{Ident, Expr, name, number, string, this, null, boolean, paren, array, object, function, member, index, new_with, new_bare, call, postfix, unary, binary, conditional, assign, comma, Statements, at_of, function_of}
use Rattle.js_ast.specs.Levels.{unary_word, binding, is_in, is_step, level, is_bare_new, is_target}
use Rattle.js_ast.specs.Grammar.{◌⨾◌, parens, braces, MaybeIdent, ReadsIdents, Reads, ReadsStatements, place_of, on_line}
use Rattle.js_ast.specs.Validity.{no_in, Valid, ValidStatements}
use Rattle.js_ast.specs.Depth.{depth, depth_statements}
use Rattle.js_list_parser.specs.Reading.{Read, word_at, again, turns, loop, behind, Parsers, by_call}
use Rattle.js_list_parser.specs.ExpressionParsing.{ident_at, is_close_paren, is_close_bracket, is_colon, function_named, function_by, array_rest, object_rest, paren_rest, new_by, new_rest, operand_level, unary_made, unary_operand, unary_rest, unary_by, primary_by, primary, suffix_of, suffix_at, applies, is_call, captured, Stops, Reaches, suffix, further_at, climb_step, climb, expression_at}
use Rattle.js_list_parser.proofs.Completeness.{CompleteBelow}
use Rattle.js_list_parser.proofs.Grown.{is_grown, left_of, suffix_by, middle_of, Stands, grows, by_growth}
use Rattle.js_list_parser.proofs.Stops.{not_le, and_parts, or_parts, closer_stops}
use Rattle.js_list_parser.proofs.Begins.{takes_word, takes_behind, reads_place, expect_reads, ident_found, name_reads}
use Rattle.js_list_parser.proofs.Levels.{not_wanted, not_bare, base_captured, reached, operand-reached}
use Rattle.js_list_parser.proofs.Lists.{turn_again, turn_done, any_in, function_rest_reads, arguments_reads, items_reads, properties_reads}

-- an operator in front is no other beginning
primary-unary : (sub : Parsers) (d wanted : ℕ) (free : Bool) (o : UnaryOperator) (w : Option Word) (ts : List Token) → w ≡ Some (unary_word o) → primary_by sub d wanted free w ts ≡ unary_by sub d wanted free (Some o) ts
unfolding primary_by
primary-unary sub d wanted free unary_operator.Delete w ts h = rw h refl
primary-unary sub d wanted free _ w ts h = rw h refl

-- an operand that is changed is a target
made : (a b : Bool) → (a ≡ true → b ≡ true) → (not a || b) ≡ true
made true b h = h refl
made false b h = refl

-- without a parenthesis there are no arguments
new-bare : (sub : Parsers) (at : ℕ) (e : Expr) (w : Option Word) (ts : List Token) → is_call (suffix_of w) ≡ false → new_by sub at e w ts ≡ Ok (new_bare at e, ts)
unfolding new_by
new-bare sub at e (Some (a_sign sign.OpenParen)) ts h = absurd cc
new-bare sub at e _ ts h = refl

-- what a last part doesn't take ends it
stops_of : (wanted : ℕ) (free : Bool) (e : Expr) (z : List Token) → (applies wanted free e z || captured free e z) ≡ false → Stops wanted free e z
stops_of wanted free e z h = or_parts (applies wanted free e z) (captured free e z) h

-- what `new` makes an instance of
callee-reached : (e : Expr) → (16 ≤ level e) ⊎ (is_bare_new e ≡ true) → Reaches 16 e
callee-reached e (inl h) = inl h
callee-reached e (inr h) = inr (h, omega arith)

module _ (d : ℕ) (sub : Parsers) (below : CompleteBelow d sub) where
  -- a function behind its keyword is read
  function_reads : (at : ℕ) (ident : Option Ident) (params : List Ident) (body : Statements) (ts z : List Token) → ValidStatements true body → depth_statements body < d
      → (MaybeIdent ident ⨾ (parens (ReadsIdents params) ⨾ braces (ReadsStatements body))) ts z → function_by sub at (ident_at ts) ts ≡ Ok (function at (function_of at ident params body), z)
  unfolding function_by function_named
  function_reads at None params body ts z v lt h =
      rw (h.1, takes_word _ h.0 ((h.2).1).0 ((h.2).1).1, function_rest_reads d sub below params body h.0 z v lt h.2) refl
  function_reads at (Some ident) params body ts z v lt h =
      rw (ident_found ident ts h.0 h.1, takes_behind _ ts h.0 (h.1).1, function_rest_reads d sub below params body h.0 z v lt h.2) refl

  -- an operand is read, a target or another
  operand_reads : (o : UnaryOperator) (free : Bool) (e : Expr) (ts z : List Token) → Valid (unary 0 o e) → depth e < d → (free ≡ false → no_in e ≡ true) → Reads e ts z → (applies (operand_level o) free e z || captured free e z) ≡ false
      → unary_operand sub free o ts ≡ Ok (e, z)
  unfolding unary_operand
  operand_reads o free e ts z v lt f h c = go (is_step o) refl
    where
      stops : Stops (operand_level o) free e z
      stops = stops_of (operand_level o) free e z c

      reaches : operand_level o ≤ level e
      reaches = operand-reached o e v.0 v.1 v.2

      go : (b : Bool) → is_step o ≡ b → (if b then sub.operand (operand_level o) free ts else sub.expression (operand_level o) free ts) ≡ Ok (e, z)
      go true s = below.operand (operand_level o) free e ts z (inl (v.2 s, lt)) (record { valid = v.0; reaches = inl reaches; without_in = f; reads = h; ends = stops.1 }) stops.0
      go false s = below.expression (operand_level o) free e ts z v.0 lt (inl reaches) f h stops

  -- an expression that begins with none is read up to what may be behind it
  pub primary_reads : (wanted : ℕ) (free : Bool) (ts : List Token) (e : Expr) (z : List Token) → depth e ≤ d → is_grown e ≡ false → Stands wanted free e ts z → primary sub d wanted free ts ≡ Ok (e, z)
  unfolding primary primary_by paren_rest array_rest object_rest new_rest new_by unary_by unary_rest unary_made
  primary_reads wanted free ts (name at text) z le g s = let h = s.reads in rw (takes_word _ ts z h.1, takes_behind _ ts z h.1, h.0) refl
  primary_reads wanted free ts (number at n) z le g s = let h = s.reads in rw (takes_word _ ts z h.1, takes_behind _ ts z h.1, h.0) refl
  primary_reads wanted free ts (string at text x) z le g s = let h = s.reads in rw (takes_word _ ts z h.1, takes_behind _ ts z h.1, h.0) refl
  primary_reads wanted free ts (this at) z le g s = let h = s.reads in rw (takes_word _ ts z h.1, takes_behind _ ts z h.1, h.0) refl
  primary_reads wanted free ts (null at) z le g s = let h = s.reads in rw (takes_word _ ts z h.1, takes_behind _ ts z h.1, h.0) refl
  primary_reads wanted free ts (boolean at true) z le g s = let h = s.reads in rw (takes_word _ ts z h.1, takes_behind _ ts z h.1, h.0) refl
  primary_reads wanted free ts (boolean at false) z le g s = let h = s.reads in rw (takes_word _ ts z h.1, takes_behind _ ts z h.1, h.0) refl
  primary_reads wanted free ts (paren at e) z le g s =
      let h = s.reads in let p = h.1 in let q = p.2 in
      let inner = below.expression 0 true e p.0 q.0 s.valid (omega arith) (inl (omega arith)) (any_in e) q.1 (closer_stops 0 true e q.0 (rw (takes_word _ q.0 z q.2) refl)) in
      rw (takes_word _ ts p.0 p.1, not_le d 0 (omega arith), takes_behind _ ts p.0 p.1, inner, expect_reads is_close_paren _ q.0 z refl q.2, h.0) refl
  primary_reads wanted free ts (array at items final) z le g s =
      let h = s.reads in let p = h.1 in let q = p.2 in let v = s.valid in
      let inner = items_reads d sub below items final p.0 q.0 z v.0 v.1 (omega arith) q.1 q.2 in
      rw (takes_word _ ts p.0 p.1, not_le d 0 (omega arith), takes_behind _ ts p.0 p.1, inner, h.0) refl
  primary_reads wanted free ts (object at props final) z le g s =
      let h = s.reads in let p = h.1 in let q = p.2 in let v = s.valid in
      let inner = properties_reads d sub below props final p.0 q.0 z v.0 v.1 (omega arith) q.1 q.2 in
      rw (takes_word _ ts p.0 p.1, not_le d 0 (omega arith), takes_behind _ ts p.0 p.1, inner, h.0) refl
  primary_reads wanted free ts (function at (function_of place ident params body)) z le g s =
      let h = s.reads in let p = h.1 in let v = s.valid in
      let inner = function_reads at ident params body p.0 z v.1 (omega arith) p.2 in
      rw (v.0, takes_word _ ts p.0 p.1, not_le d 0 (omega arith), takes_behind _ ts p.0 p.1, ← h.0, inner) refl
  primary_reads wanted free ts (new_with at e args) z le g s =
      let h = s.reads in let p = h.1 in let q = p.2 in let r = q.2 in let t = r.2 in let v = s.valid in let l = v.1 in
      let stops : Stops 16 free e q.0 = (rw (takes_word _ q.0 r.0 r.1) (not_wanted 16 free e (on_line q.0) by_call (omega arith)), base_captured e free q.0 (omega arith, not_bare e l)) in
      let callee = below.expression 16 free e p.0 q.0 v.0 (omega arith) (inl l) s.without_in q.1 stops in
      let inner = arguments_reads d sub below args r.0 t.0 z v.2 (omega arith) t.1 t.2 in
      rw (takes_word _ ts p.0 p.1, not_le d 0 (omega arith), takes_behind _ ts p.0 p.1, callee, takes_word _ q.0 r.0 r.1, takes_behind _ q.0 r.0 r.1, inner, h.0) refl
  primary_reads wanted free ts (new_bare at e) z le g s =
      let h = s.reads in let p = h.1 in let o = or_parts (is_call (suffix_at z)) (applies 16 free e z || captured free e z) s.ends in let v = s.valid in
      let callee = below.expression 16 free e p.0 z v.0 (omega arith) (callee-reached e v.1) s.without_in p.2 (stops_of 16 free e z o.1) in
      rw (takes_word _ ts p.0 p.1, not_le d 0 (omega arith), takes_behind _ ts p.0 p.1, callee, new-bare sub (place_of ts) e (word_at z) z o.0, h.0) refl
  primary_reads wanted free ts (unary at o e) z le g s =
      let h = s.reads in let p = h.1 in let v = s.valid in
      let high = reached wanted (unary at o e) refl s.reaches in
      let inner = operand_reads o free e p.0 z v (omega arith) s.without_in p.2 s.ends in
      primary-unary sub d wanted free o (word_at ts) ts (takes_word _ ts p.0 p.1) ∙ rw (le-leb wanted 13 high, not_le d 0 (omega arith), takes_behind _ ts p.0 p.1, inner, made (is_step o) (is_target e) v.2, h.0) refl
  primary_reads wanted free ts _ z le g s = absurd cc

  -- a node has the place of its left part
  same_place : (e : Expr) (at : ℕ) (ts z : List Token) → at ≡ place_of ts → Reads e ts z → at_of e ≡ at
  same_place e at ts z p h = reads_place e ts z h ∙ sym p

  -- an expression that begins with one is read from that on
  pub suffix_reads : (wanted : ℕ) (free : Bool) (ts : List Token) (e : Expr) (z : List Token) → depth e ≤ d → is_grown e ≡ true → (s : Stands wanted free e ts z)
      → suffix sub free (left_of e) (suffix_by e) (behind (middle_of e ts z s.reads)) ≡ Ok (e, z)
  unfolding suffix
  suffix_reads wanted free ts (member at e text) z le g s =
      let h = s.reads in let p = h.1 in let q = p.2 in
      rw (takes_behind _ p.0 q.0 q.1, name_reads text q.0 z q.2, same_place e at ts p.0 h.0 p.1) refl
  suffix_reads wanted free ts (index at e i) z le g s =
      let h = s.reads in let p = h.1 in let q = p.2 in let r = q.2 in let v = s.valid in
      let inner = below.expression 0 true i q.0 r.0 v.2 (omega arith) (inl (omega arith)) (any_in i) r.1 (closer_stops 0 true i r.0 (rw (takes_word _ r.0 z r.2) refl)) in
      rw (takes_behind _ p.0 q.0 q.1, inner, expect_reads is_close_bracket _ r.0 z refl r.2, same_place e at ts p.0 h.0 p.1) refl
  suffix_reads wanted free ts (call at e args) z le g s =
      let h = s.reads in let p = h.1 in let q = p.2 in let r = q.2 in let v = s.valid in
      let inner = arguments_reads d sub below args q.0 r.0 z v.2 (omega arith) r.1 r.2 in
      rw (takes_behind _ p.0 q.0 q.1, inner, same_place e at ts p.0 h.0 p.1) refl
  suffix_reads wanted free ts (postfix at e o) z le g s = let h = s.reads in let p = h.1 in let q = p.2 in rw (takes_behind _ p.0 z q.1, same_place e at ts p.0 h.0 p.1) refl
  suffix_reads wanted free ts (binary at l o r) z le g s =
      let h = s.reads in let p = h.1 in let q = p.2 in let v = s.valid in let lr = v.3 in
      let no_right : free ≡ false → no_in r ≡ true = λ e. (and_parts (no_in l) (no_in r) (and_parts (not (is_in o)) (no_in l && no_in r) (s.without_in e)).1).1 in
      let right = below.expression (suc (binding o)) free r q.0 z v.2 (omega arith) (inl lr) no_right q.2 (stops_of (suc (binding o)) free r z s.ends) in
      rw (takes_behind _ p.0 q.0 q.1, right, same_place l at ts p.0 h.0 p.1) refl
  suffix_reads wanted free ts (conditional at e a b) z le g s =
      let h = s.reads in let p = h.1 in let q = p.2 in let r = q.2 in let t = r.2 in let v = s.valid in
      let no_right : free ≡ false → no_in b ≡ true = λ i. (and_parts (no_in e) (no_in b) (s.without_in i)).1 in
      let middle = below.expression 1 true a q.0 r.0 v.2 (omega arith) (inl v.3) (any_in a) r.1 (closer_stops 1 true a r.0 (rw (takes_word _ r.0 t.0 t.1) refl)) in
      let last = below.expression 1 free b t.0 z v.4 (omega arith) (inl v.5) no_right t.2 (stops_of 1 free b z s.ends) in
      rw (takes_behind _ p.0 q.0 q.1, middle, expect_reads is_colon _ r.0 t.0 refl t.1, last, same_place e at ts p.0 h.0 p.1) refl
  suffix_reads wanted free ts (assign at l o r) z le g s =
      let h = s.reads in let p = h.1 in let q = p.2 in let v = s.valid in
      let no_right : free ≡ false → no_in r ≡ true = λ e. (and_parts (no_in l) (no_in r) (s.without_in e)).1 in
      let right = below.expression 1 free r q.0 z v.2 (omega arith) (inl v.3) no_right q.2 (stops_of 1 free r z s.ends) in
      rw (takes_behind _ p.0 q.0 q.1, right, same_place l at ts p.0 h.0 p.1) refl
  suffix_reads wanted free ts (comma at l r) z le g s =
      let h = s.reads in let p = h.1 in let q = p.2 in let v = s.valid in
      let no_right : free ≡ false → no_in r ≡ true = λ e. (and_parts (no_in l) (no_in r) (s.without_in e)).1 in
      let right = below.expression 1 free r q.0 z v.1 (omega arith) (inl v.2) no_right q.2 (stops_of 1 free r z s.ends) in
      rw (takes_behind _ p.0 q.0 q.1, right, same_place l at ts p.0 h.0 p.1) refl
  suffix_reads wanted free ts _ z le g s = absurd cc

  -- the same, at the token that says how it goes on, where there is room
  pub further_reads : (wanted : ℕ) (free : Bool) (ts : List Token) (e : Expr) (z : List Token) → depth e ≤ d → is_grown e ≡ true → (s : Stands wanted free e ts z)
      → further_at sub d free (left_of e) (suffix_by e) (middle_of e ts z s.reads) ≡ Ok (e, z)
  unfolding further_at
  further_reads wanted free ts e z le g s =
      let lt = (grows wanted free e ts z g s).deeper in
      rw (not_le d (depth (left_of e)) (omega arith)) (suffix_reads wanted free ts e z le g s)

  module _ (wanted : ℕ) (free : Bool) (ts : List Token) where
    -- the tokens are those of an expression that is not too deep and what is behind it, where the loop goes on
    abbrev Climbs : Expr → List Token → Type 0
    Climbs e z = depth e ≤ d → (n : ℕ) × (length z < n) × (expression_at sub d wanted free ts ≡ turns (climb_step sub d wanted free) n e z)

    -- the beginning of an expression
    starts : (e : Expr) (z : List Token) → is_grown e ≡ false → Stands wanted free e ts z → Climbs e z
    unfolding expression_at climb loop
    starts e z g s le = (suc (length z), omega arith, rw (primary_reads wanted free ts e z le g s) refl)

    -- a turn of the loop
    more : (e f : Expr) (a z : List Token) (n : ℕ) → length a < n → expression_at sub d wanted free ts ≡ turns (climb_step sub d wanted free) n e a
        → climb_step sub d wanted free e a ≡ Ok (again f, z) → length z < length a → (k : ℕ) × (length z < k) × (expression_at sub d wanted free ts ≡ turns (climb_step sub d wanted free) k f z)
    more e f a z zero lt h s l = absurd (omega arith)
    more e f a z (suc n) lt h s l = (n, omega arith, h ∙ turn_again (climb_step sub d wanted free) n e f a z s)

    -- the expression goes on
    goes_on : (e : Expr) (z : List Token) → is_grown e ≡ true → (s : Stands wanted free e ts z) → Climbs (left_of e) (middle_of e ts z s.reads) → Climbs e z
    unfolding climb_step
    goes_on e z g s c le =
        let m = middle_of e ts z s.reads in
        let k = grows wanted free e ts z g s in let lt = k.deeper in
        let l = c (omega arith) in
        more (left_of e) e m z l.0 l.1 l.2 (rw (k.is, k.applies, not_le d (depth (left_of e)) (omega arith), suffix_reads wanted free ts e z le g s) refl) k.shorter

    -- the end of the loop
    ends : (e : Expr) (z : List Token) (n : ℕ) → length z < n → expression_at sub d wanted free ts ≡ turns (climb_step sub d wanted free) n e z → applies wanted free e z ≡ false → expression_at sub d wanted free ts ≡ Ok (e, z)
    unfolding climb_step
    ends e z zero lt h s = absurd (omega arith)
    ends e z (suc n) lt h s = h ∙ turn_done (climb_step sub d wanted free) n e e z z (rw s refl)

    -- a valid expression is read where nothing behind it goes on with it
    pub expression_reads : (e : Expr) (z : List Token) → depth e ≤ d → Stands wanted free e ts z → applies wanted free e z ≡ false → expression_at sub d wanted free ts ≡ Ok (e, z)
    expression_reads e z le s a = let c = by_growth wanted free ts Climbs starts goes_on e z s le in ends e z c.0 c.1 c.2 a

-- the same, with the parsers of parts found by what they complete
pub expression_complete : {d : ℕ} {sub : Parsers} → CompleteBelow d sub → (wanted : ℕ) (free : Bool) (e : Expr) (ts z : List Token) → Valid e → depth e ≤ d → Reaches wanted e → (free ≡ false → no_in e ≡ true) → Reads e ts z
    → Stops wanted free e z → expression_at sub d wanted free ts ≡ Ok (e, z)
expression_complete {d} {sub} below wanted free e ts z v le w f h s = expression_reads d sub below wanted free ts e z le (record { valid = v; reaches = w; without_in = f; reads = h; ends = s.1 }) s.0

-- the value of a reader, and the tokens behind it
abbrev pub read : {A : Type 0} → A → List Token → Read A
read a ts = Ok (a, ts)

-- readers that answer alike have the same value and the same rest
pub read_parts : {A : Type 0} (a b : A) (y z : List Token) → read a y ≡ read b z → (a ≡ b) × (y ≡ z)
read_parts {A} a b y z e = let h : read a y ≡ read b z = e in let p : (let t : A × List Token = (a, y) in t ≡ (b, z)) = cc in (ap (λ (x : A × List Token). x.0) p, ap (λ (x : A × List Token). x.1) p)

-- two valid expressions that spell the same tokens are one
pub one_expression : {d : ℕ} {sub : Parsers} → CompleteBelow d sub → (e f : Expr) (ts : List Token) → Valid e → Valid f → depth e ≤ d → depth f ≤ d → Reads e ts [] → Reads f ts [] → e ≡ f
one_expression below e f ts v u le lf h k =
    let p = expression_complete below 0 true e ts [] v le (inl (omega arith)) (any_in e) h (closer_stops 0 true e [] refl) in
    let q = expression_complete below 0 true f ts [] u lf (inl (omega arith)) (any_in f) k (closer_stops 0 true f [] refl) in
    (read_parts e f [] [] (sym p ∙ q)).0
