-- One layer is sound: an expression that is read is valid, its depth is at most the number, and the tokens that were taken are its spelling.
use Rattle.std.proofs.Common.{◌≡◌, ℕ, suc, ◌<◌, ◌≤◌, min, Bool, true, false, not, ◌&&◌, ◌||◌, if◌then◌else◌, leb, ◌⊎◌, inl, inr, List, Option, Some, None, Ok, refl, sym, ◌∙◌, arith}
use Rattle.std.proofs.lemmas.Bool.{leb-true}
use Rattle.js_ast.specs.declared.token.Token.{Token}
use Rattle.js_ast.specs.declared.operators.UnaryOperator.{UnaryOperator}
use Rattle.js_ast.specs.declared.operators.UnaryOperator.TheVariants as unary_operator
use Rattle.js_ast.specs.declared.words.Keyword.TheVariants as key
use Rattle.js_ast.specs.declared.words.Sign.TheVariants as sign
use Rattle.js_ast.specs.Words.{Word, a_name, a_number, a_string, a_key, a_sign, none_known}
use Rattle.js_ast.specs.Trees.{Ident, Expr, name, number, string, this, null, boolean, paren, array, object, function, member, index, new_with, new_bare, call, postfix, unary, binary, conditional, assign, comma, no_items, no_properties, at_of, function_of}
use Rattle.js_ast.specs.Levels.{unary_word, postfix_word, binary_word, assign_word, binding, is_in, is_step, level, is_bare_new, is_target}
use Rattle.js_ast.specs.Grammar.{Takes, Reads, place_of, on_line}
use Rattle.js_ast.specs.Validity.{no_in, IsBase, Valid}
use Rattle.js_ast.specs.Depth.{depth}
use Rattle.js_list_parser.specs.Reading.{refused, syntax, Read, ◌>>=◌, word_at, behind, Turn, again, done, loop, room, Parsers, Suffix, by_member, by_index, by_call, by_postfix, by_binary, by_conditional, by_assign, by_comma, by_nothing}
use Rattle.js_list_parser.specs.ExpressionParsing.{is_close_paren, is_close_bracket, is_colon, expect, taken, name_at, ident_at, function_rest, function_named, function_by, arguments, item_turn, array_rest, property_turn, object_rest, paren_rest, new_by, new_rest, operand_level, unary_of, unary_made, unary_operand, unary_rest, unary_by, primary_by, primary, suffix_of, suffix_at, is_base, applies_by, applies, is_call, Reaches, suffix, further_at, climb_step, climb, expression_at}
use Rattle.js_list_parser.proofs.Stops.{and_true, and_parts, not_true, binding-low, operand_level-low}
use Rattle.js_list_parser.proofs.Begins.{reads_place}
use Rattle.js_list_parser.proofs.Soundness.{FoundExpression, SoundBelow}
use Rattle.js_list_parser.proofs.Outcomes.{bind_ok, told, room_ok, if_ok, After, turns_sound, takes, ident_is, name_sound, close_paren_sound, close_bracket_sound, colon_sound, reached_low}
use Rattle.js_list_parser.proofs.FoundLists.{function_rest_found, arguments_sound, items_sound, properties_sound}

-- ---- the tables, from tokens to operators

-- the word of an operator or none
abbrev pub unary_word_of : Option UnaryOperator → Option Word
unary_word_of None = None
unary_word_of (Some o) = Some (unary_word o)

-- whether there is one
abbrev pub is_unary : Option UnaryOperator → Bool
is_unary None = false
is_unary (Some o) = true

-- a token that is an operator has its word
pub unary-word : (w : Option Word) → is_unary (unary_of w) ≡ true → w ≡ unary_word_of (unary_of w)
unary-word None h = cc
unary-word (Some (a_key key.Delete)) h = cc
unary-word (Some (a_sign sign.Plus)) h = cc
unary-word _ h = cc

-- the word of what goes on with an expression
abbrev pub suffix_word : Suffix → Word
suffix_word by_member = a_sign sign.Dot
suffix_word by_index = a_sign sign.OpenBracket
suffix_word by_call = a_sign sign.OpenParen
suffix_word (by_postfix o) = postfix_word o
suffix_word (by_binary o) = binary_word o
suffix_word by_conditional = a_sign sign.Question
suffix_word (by_assign o) = assign_word o
suffix_word by_comma = a_sign sign.Comma
suffix_word by_nothing = none_known

-- nothing goes on
abbrev pub is_nothing : Suffix → Bool
is_nothing by_nothing = true
is_nothing _ = false

-- a token that goes on has its word
pub suffix-word : (w : Option Word) → is_nothing (suffix_of w) ≡ false → w ≡ Some (suffix_word (suffix_of w))
suffix-word None h = cc
suffix-word (Some (a_sign sign.Dot)) h = cc
suffix-word (Some (a_key key.In)) h = cc
suffix-word _ h = cc

-- the token that goes on is taken
pub suffix_takes : (s : Suffix) (ts : List Token) → is_nothing s ≡ false → suffix_at ts ≡ s → Takes (suffix_word s) ts (behind ts)
suffix_takes s ts n h = takes (suffix_word s) ts (suffix-word (word_at ts) (rw h n) ∙ rw h refl)

-- only a parenthesis goes on to a call
pub not_called : (w : Option Word) → (w ≡ Some (a_sign sign.OpenParen) → ⊥) → is_call (suffix_of w) ≡ false
not_called (Some (a_sign sign.OpenParen)) n = absurd (n refl)
not_called (Some (a_key key.In)) n = refl
not_called _ n = refl

-- ---- what tests say

-- an operand is wanted at 15 at most
pub operand_level-high : (o : UnaryOperator) → operand_level o ≤ 15
operand_level-high unary_operator.Increment = omega arith
operand_level-high _ = omega arith

-- the test of a base
pub base_is : (e : Expr) → is_base e ≡ true → IsBase e
base_is e h = let p = and_parts (leb 15 (level e)) (not (is_bare_new e)) h in (leb-true 15 (level e) p.0, not_true (is_bare_new e) p.1)

-- the test of an operand
pub step_target : (a b : Bool) → (not a || b) ≡ true → a ≡ true → b ≡ true
step_target true b h p = h
step_target false b h p = absurd cc

-- the test of the operator `in`
pub allowed : (free b : Bool) → (free || b) ≡ true → free ≡ false → b ≡ true
allowed true b h p = absurd cc
allowed false b h p = h

-- what `new` makes an instance of, where arguments follow
pub callee_level : (e : Expr) → Reaches 16 e → (is_bare_new e ≡ true → ⊥) → 16 ≤ level e
callee_level e (inl h) n = h
callee_level e (inr h) n = absurd (n h.0)

-- and where none follow
pub callee_valid : (e : Expr) → Reaches 16 e → (16 ≤ level e) ⊎ (is_bare_new e ≡ true)
callee_valid e (inl h) = inl h
callee_valid e (inr h) = inr h.0

module _ (d : ℕ) (sub : Parsers) (below : SoundBelow d sub) (wanted : ℕ) (low : wanted ≤ 16) (free : Bool) where
  -- ---- how an expression begins

  -- an expression in parentheses
  paren_sound : (ts : List Token) (e : Expr) (z : List Token) → word_at ts ≡ Some (a_sign sign.OpenParen) → paren_rest sub (place_of ts) (behind ts) ≡ Ok (e, z) → FoundExpression (suc d) wanted free e ts z
  unfolding paren_rest
  paren_sound ts e z h r =
      let a = bind_ok (sub.expression 0 true (behind ts)) _ (e, z) r in
      let b = bind_ok (expect is_close_paren (a.0).1) _ (e, z) a.2 in
      let x = (a.0).0 in
      let f = below.expression 0 true (behind ts) x (a.0).1 (omega arith) a.1 in
      let s = f.shallow in
      told (λ y m. FoundExpression (suc d) wanted free y ts m) (paren (place_of ts) x) e b.0 z (record {
        valid = f.valid;
        shallow = omega arith;
        reaches = inl (omega arith);
        without_in = λ k. refl;
        reads = (refl, (behind ts, takes _ ts h, ((a.0).1, f.reads, close_paren_sound (a.0).1 b.0 b.1)));
        no_arguments = λ k. absurd cc;
      }) b.2

  -- an array
  array_sound : (ts : List Token) (e : Expr) (z : List Token) → 0 < d → word_at ts ≡ Some (a_sign sign.OpenBracket) → array_rest sub (place_of ts) (behind ts) ≡ Ok (e, z) → FoundExpression (suc d) wanted free e ts z
  unfolding array_rest
  array_sound ts e z lt h r =
      let a = bind_ok (loop (item_turn sub) no_items (behind ts)) _ (e, z) r in
      let f = items_sound d sub below (behind ts) (a.0).0 (a.0).1 lt a.1 in
      let s = f.shallow in
      told (λ y m. FoundExpression (suc d) wanted free y ts m) (array (place_of ts) ((a.0).0).0 ((a.0).0).1) e (a.0).1 z (record {
        valid = (f.valid, f.final);
        shallow = omega arith;
        reaches = inl (omega arith);
        without_in = λ k. refl;
        reads = (refl, (behind ts, takes _ ts h, f.reads));
        no_arguments = λ k. absurd cc;
      }) a.2

  -- an object
  object_sound : (ts : List Token) (e : Expr) (z : List Token) → 0 < d → word_at ts ≡ Some (a_sign sign.OpenBrace) → object_rest sub (place_of ts) (behind ts) ≡ Ok (e, z) → FoundExpression (suc d) wanted free e ts z
  unfolding object_rest
  object_sound ts e z lt h r =
      let a = bind_ok (loop (property_turn sub) no_properties (behind ts)) _ (e, z) r in
      let f = properties_sound d sub below (behind ts) (a.0).0 (a.0).1 lt a.1 in
      let s = f.shallow in
      told (λ y m. FoundExpression (suc d) wanted free y ts m) (object (place_of ts) ((a.0).0).0 ((a.0).0).1) e (a.0).1 z (record {
        valid = (f.valid, f.final);
        shallow = omega arith;
        reaches = inl (omega arith);
        without_in = λ k. refl;
        reads = (refl, (behind ts, takes _ ts h, f.reads));
        no_arguments = λ k. absurd cc;
      }) a.2

  -- a function, with a name or without
  function_sound : (ts : List Token) (e : Expr) (z : List Token) → word_at ts ≡ Some (a_key key.Function) → function_by sub (place_of ts) (ident_at (behind ts)) (behind ts) ≡ Ok (e, z) → FoundExpression (suc d) wanted free e ts z
  unfolding function_by function_named
  function_sound ts e z h r = go (ident_at (behind ts)) refl r
    where
      go : (i : Option Ident) → ident_at (behind ts) ≡ i → function_by sub (place_of ts) i (behind ts) ≡ Ok (e, z) → FoundExpression (suc d) wanted free e ts z
      go None n r =
          let a = bind_ok (function_rest sub (behind ts)) _ (e, z) r in
          let f = function_rest_found d sub below (behind ts) ((a.0).0).0 ((a.0).0).1 (a.0).1 a.1 in
          let s = f.shallow in
          told (λ y m. FoundExpression (suc d) wanted free y ts m) (function (place_of ts) (function_of (place_of ts) None ((a.0).0).0 ((a.0).0).1)) e (a.0).1 z (record {
            valid = (refl, f.valid);
            shallow = omega arith;
            reaches = inl (omega arith);
            without_in = λ k. refl;
            reads = (refl, (behind ts, takes _ ts h, (behind ts, refl, f.reads)));
            no_arguments = λ k. absurd cc;
          }) a.2
      go (Some i) n r =
          let a = bind_ok (function_rest sub (behind (behind ts))) _ (e, z) r in
          let f = function_rest_found d sub below (behind (behind ts)) ((a.0).0).0 ((a.0).0).1 (a.0).1 a.1 in
          let s = f.shallow in
          told (λ y m. FoundExpression (suc d) wanted free y ts m) (function (place_of ts) (function_of (place_of ts) (Some i) ((a.0).0).0 ((a.0).0).1)) e (a.0).1 z (record {
            valid = (refl, f.valid);
            shallow = omega arith;
            reaches = inl (omega arith);
            without_in = λ k. refl;
            reads = (refl, (behind ts, takes _ ts h, (behind (behind ts), ident_is i (behind ts) n, f.reads)));
            no_arguments = λ k. absurd cc;
          }) a.2

  -- behind what `new` makes an instance of
  new_by_sound : (ts : List Token) (x : Expr) (m : List Token) (e : Expr) (z : List Token) → 0 < d → word_at ts ≡ Some (a_key key.New) → FoundExpression d 16 free x (behind ts) m → new_by sub (place_of ts) x (word_at m) m ≡ Ok (e, z)
      → FoundExpression (suc d) wanted free e ts z
  unfolding new_by
  new_by_sound ts x m e z lt h f r = go (word_at m) refl r
    where
      -- no arguments follow
      bare : is_call (suffix_at m) ≡ false → (let r : Read Expr = Ok (new_bare (place_of ts) x, m) in r ≡ Ok (e, z)) → FoundExpression (suc d) wanted free e ts z
      bare c r =
          let s = f.shallow in
          told (λ y n. FoundExpression (suc d) wanted free y ts n) (new_bare (place_of ts) x) e m z (record {
            valid = (f.valid, callee_valid x f.reaches);
            shallow = omega arith;
            reaches = inr (refl, low);
            without_in = f.without_in;
            reads = (refl, (behind ts, takes _ ts h, f.reads));
            no_arguments = λ k. c;
          }) r

      go : (w : Option Word) → word_at m ≡ w → new_by sub (place_of ts) x w m ≡ Ok (e, z) → FoundExpression (suc d) wanted free e ts z
      go (Some (a_sign sign.OpenParen)) p r =
          let a = bind_ok (arguments sub (behind m)) _ (e, z) r in
          let g = arguments_sound d sub below (behind m) (a.0).0 (a.0).1 lt a.1 in
          let s = f.shallow in let t = g.shallow in
          let called : is_call (suffix_at m) ≡ true = rw p refl in
          told (λ y n. FoundExpression (suc d) wanted free y ts n) (new_with (place_of ts) x (a.0).0) e (a.0).1 z (record {
            valid = (f.valid, callee_level x f.reaches (λ k. let c = f.no_arguments k in let q = sym called ∙ c in cc), g.valid);
            shallow = omega arith;
            reaches = inl low;
            without_in = f.without_in;
            reads = (refl, (behind ts, takes _ ts h, (m, f.reads, (behind m, takes _ m p, g.reads))));
            no_arguments = λ k. absurd cc;
          }) a.2
      go _ p r = bare (not_called (word_at m) (λ q. let c = sym p ∙ q in cc)) r

  -- behind `new`
  new_sound : (ts : List Token) (e : Expr) (z : List Token) → 0 < d → word_at ts ≡ Some (a_key key.New) → new_rest sub free (place_of ts) (behind ts) ≡ Ok (e, z) → FoundExpression (suc d) wanted free e ts z
  unfolding new_rest
  new_sound ts e z lt h r =
      let a = bind_ok (sub.expression 16 free (behind ts)) _ (e, z) r in
      new_by_sound ts (a.0).0 (a.0).1 e z lt h (below.expression 16 free (behind ts) (a.0).0 (a.0).1 (omega arith) a.1) a.2

  -- an operand, which is changed or not
  changed_sound : (o : UnaryOperator) (ts : List Token) (e : Expr) (z : List Token) → unary_operand sub free o ts ≡ Ok (e, z) → FoundExpression d (operand_level o) free e ts z
  unfolding unary_operand
  changed_sound o ts e z r = let high = operand_level-high o in go (is_step o) r
    where
      go : (b : Bool) → (if b then sub.operand (operand_level o) free ts else sub.expression (operand_level o) free ts) ≡ Ok (e, z) → FoundExpression d (operand_level o) free e ts z
      go true r = let h = operand_level-high o in (below.operand (operand_level o) free ts e z (omega arith) r).0
      go false r = let h = operand_level-high o in below.expression (operand_level o) free ts e z (omega arith) r

  -- behind an operator
  operand_sound : (o : UnaryOperator) (ts : List Token) (e : Expr) (z : List Token) → wanted ≤ 13 → Takes (unary_word o) ts (behind ts) → unary_rest sub free (place_of ts) o (behind ts) ≡ Ok (e, z) → FoundExpression (suc d) wanted free e ts z
  unfolding unary_rest unary_made
  operand_sound o ts e z le t r =
      let high = operand_level-high o in let least = operand_level-low o in
      let a = bind_ok (unary_operand sub free o (behind ts)) _ (e, z) r in
      let x = (a.0).0 in let m = (a.0).1 in
      let f = changed_sound o (behind ts) x m a.1 in
      let s = f.shallow in
      let l = reached_low (operand_level o) x high f.reaches in
      let b = if_ok (not (is_step o) || is_target x) (Ok (unary (place_of ts) o x, m)) (refused syntax m) (e, z) a.2 in
      told (λ y n. FoundExpression (suc d) wanted free y ts n) (unary (place_of ts) o x) e m z (record {
        valid = (f.valid, omega arith, step_target (is_step o) (is_target x) b.0);
        shallow = omega arith;
        reaches = inl le;
        without_in = f.without_in;
        reads = (refl, (behind ts, t, f.reads));
        no_arguments = λ k. absurd cc;
      }) b.1

  -- an operator and its operand, or a token that begins no expression
  unary_sound : (ts : List Token) (e : Expr) (z : List Token) → unary_by sub d wanted free (unary_of (word_at ts)) ts ≡ Ok (e, z) → FoundExpression (suc d) wanted free e ts z
  unfolding unary_by
  unary_sound ts e z r = go (unary_of (word_at ts)) refl r
    where
      go : (o : Option UnaryOperator) → unary_of (word_at ts) ≡ o → unary_by sub d wanted free o ts ≡ Ok (e, z) → FoundExpression (suc d) wanted free e ts z
      go None h r = absurd cc
      go (Some o) h r =
          let i = if_ok (leb wanted 13) (room d 0 ts (unary_rest sub free (place_of ts) o (behind ts))) (refused syntax ts) (e, z) r in
          let j = room_ok d 0 ts (unary_rest sub free (place_of ts) o (behind ts)) (e, z) i.1 in
          operand_sound o ts e z (leb-true wanted 13 i.0) (takes (unary_word o) ts (unary-word (word_at ts) (rw h refl) ∙ rw h refl)) j.1

  -- an expression up to what may be behind it
  pub primary_sound : (ts : List Token) (e : Expr) (z : List Token) → primary sub d wanted free ts ≡ Ok (e, z) → FoundExpression (suc d) wanted free e ts z
  unfolding primary primary_by
  primary_sound ts e z r = go (word_at ts) refl r
    where
      -- one token
      alone : (x : Expr) → Valid x → depth x ≡ 0 → level x ≡ 17 → no_in x ≡ true → is_bare_new x ≡ false → Reads x ts (behind ts) → (let r : Read Expr = Ok (x, behind ts) in r ≡ Ok (e, z)) → FoundExpression (suc d) wanted free e ts z
      alone x v p l n b t r =
          told (λ y m. FoundExpression (suc d) wanted free y ts m) x e (behind ts) z
          (record { valid = v; shallow = omega arith; reaches = inl (omega arith); without_in = λ k. n; reads = t; no_arguments = λ k. let q = sym b ∙ k in absurd cc }) r

      go : (w : Option Word) → word_at ts ≡ w → primary_by sub d wanted free w ts ≡ Ok (e, z) → FoundExpression (suc d) wanted free e ts z
      go (Some (a_name text)) h r = alone (name (place_of ts) text) tt refl refl refl refl (refl, takes _ ts h) r
      go (Some (a_number n)) h r = alone (number (place_of ts) n) tt refl refl refl refl (refl, takes _ ts h) r
      go (Some (a_string text v)) h r = alone (string (place_of ts) text v) tt refl refl refl refl (refl, takes _ ts h) r
      go (Some (a_key key.This)) h r = alone (this (place_of ts)) tt refl refl refl refl (refl, takes _ ts h) r
      go (Some (a_key key.Null)) h r = alone (null (place_of ts)) tt refl refl refl refl (refl, takes _ ts h) r
      go (Some (a_key key.True)) h r = alone (boolean (place_of ts) true) tt refl refl refl refl (refl, takes _ ts h) r
      go (Some (a_key key.False)) h r = alone (boolean (place_of ts) false) tt refl refl refl refl (refl, takes _ ts h) r
      go (Some (a_sign sign.OpenParen)) h r = paren_sound ts e z h (room_ok d 0 ts (paren_rest sub (place_of ts) (behind ts)) (e, z) r).1
      go (Some (a_sign sign.OpenBracket)) h r = let p = room_ok d 0 ts (array_rest sub (place_of ts) (behind ts)) (e, z) r in array_sound ts e z p.0 h p.1
      go (Some (a_sign sign.OpenBrace)) h r = let p = room_ok d 0 ts (object_rest sub (place_of ts) (behind ts)) (e, z) r in object_sound ts e z p.0 h p.1
      go (Some (a_key key.Function)) h r = function_sound ts e z h (room_ok d 0 ts (function_by sub (place_of ts) (ident_at (behind ts)) (behind ts)) (e, z) r).1
      go (Some (a_key key.New)) h r = let p = room_ok d 0 ts (new_rest sub free (place_of ts) (behind ts)) (e, z) r in new_sound ts e z p.0 h p.1
      go _ h r = unary_sound ts e z (rw h r)

  -- ---- how an expression goes on

  -- a token and what stands behind it make a longer expression of one that they go on with
  suffix_sound : (l : ℕ) (start ts : List Token) (e : Expr) (s : Suffix) (x : Expr) (z : List Token) → FoundExpression l wanted free e start ts → suffix_at ts ≡ s → applies_by wanted free e (on_line ts) s ≡ true → depth e < d
      → suffix sub free e s (behind ts) ≡ Ok (x, z) → FoundExpression (suc d) wanted free x start z
  unfolding suffix
  suffix_sound l start ts e by_member x z i w h lt r =
      let p = and_parts (is_base e) (leb wanted (min 16 (level e))) h in
      let a = bind_ok (taken (name_at (behind ts)) (behind ts)) _ (x, z) r in
      told (λ y m. FoundExpression (suc d) wanted free y start m) (member (at_of e) e (a.0).0) x (a.0).1 z (record {
        valid = (i.valid, base_is e p.0);
        shallow = omega arith;
        reaches = inl (leb-true wanted (min 16 (level e)) p.1);
        without_in = i.without_in;
        reads = (reads_place e start ts i.reads, (ts, i.reads, (behind ts, suffix_takes by_member ts refl w, name_sound (behind ts) (a.0).0 (a.0).1 a.1)));
        no_arguments = λ k. absurd cc;
      }) a.2
  suffix_sound l start ts e by_index x z i w h lt r =
      let p = and_parts (is_base e) (leb wanted (min 16 (level e))) h in
      let a = bind_ok (sub.expression 0 true (behind ts)) _ (x, z) r in
      let b = bind_ok (expect is_close_bracket (a.0).1) _ (x, z) a.2 in
      let f = below.expression 0 true (behind ts) (a.0).0 (a.0).1 (omega arith) a.1 in
      let s = f.shallow in
      told (λ y m. FoundExpression (suc d) wanted free y start m) (index (at_of e) e (a.0).0) x b.0 z (record {
        valid = (i.valid, base_is e p.0, f.valid);
        shallow = omega arith;
        reaches = inl (leb-true wanted (min 16 (level e)) p.1);
        without_in = i.without_in;
        reads = (reads_place e start ts i.reads, (ts, i.reads, (behind ts, suffix_takes by_index ts refl w, ((a.0).1, f.reads, close_bracket_sound (a.0).1 b.0 b.1))));
        no_arguments = λ k. absurd cc;
      }) b.2
  suffix_sound l start ts e by_call x z i w h lt r =
      let p = and_parts (is_base e) (leb wanted 15) h in
      let a = bind_ok (arguments sub (behind ts)) _ (x, z) r in
      let f = arguments_sound d sub below (behind ts) (a.0).0 (a.0).1 (omega arith) a.1 in
      let s = f.shallow in
      told (λ y m. FoundExpression (suc d) wanted free y start m) (call (at_of e) e (a.0).0) x (a.0).1 z (record {
        valid = (i.valid, base_is e p.0, f.valid);
        shallow = omega arith;
        reaches = inl (leb-true wanted 15 p.1);
        without_in = i.without_in;
        reads = (reads_place e start ts i.reads, (ts, i.reads, (behind ts, suffix_takes by_call ts refl w, f.reads)));
        no_arguments = λ k. absurd cc;
      }) a.2
  suffix_sound l start ts e (by_postfix o) x z i w h lt r =
      let p = and_parts (on_line ts) (is_target e && leb wanted 14) h in
      let q = and_parts (is_target e) (leb wanted 14) p.1 in
      told (λ y m. FoundExpression (suc d) wanted free y start m) (postfix (at_of e) e o) x (behind ts) z (record {
        valid = (i.valid, q.0);
        shallow = omega arith;
        reaches = inl (leb-true wanted 14 q.1);
        without_in = i.without_in;
        reads = (reads_place e start ts i.reads, (ts, i.reads, (p.0, suffix_takes (by_postfix o) ts refl w)));
        no_arguments = λ k. absurd cc;
      }) r
  suffix_sound l start ts e (by_binary o) x z i w h lt r =
      let p = and_parts (free || not (is_in o)) (leb (binding o) (level e) && leb wanted (binding o)) h in
      let q = and_parts (leb (binding o) (level e)) (leb wanted (binding o)) p.1 in
      let bl = binding-low o in
      let a = bind_ok (sub.expression (suc (binding o)) free (behind ts)) _ (x, z) r in
      let y = (a.0).0 in
      let f = below.expression (suc (binding o)) free (behind ts) y (a.0).1 (omega arith) a.1 in
      let s = f.shallow in
      told (λ y m. FoundExpression (suc d) wanted free y start m) (binary (at_of e) e o y) x (a.0).1 z (record {
        valid = (i.valid, leb-true (binding o) (level e) q.0, f.valid, reached_low (suc (binding o)) y (omega arith) f.reaches);
        shallow = omega arith;
        reaches = inl (leb-true wanted (binding o) q.1);
        without_in = λ k. and_true (not (is_in o)) (no_in e && no_in y) (allowed free (not (is_in o)) p.0 k) (and_true (no_in e) (no_in y) (i.without_in k) (f.without_in k));
        reads = (reads_place e start ts i.reads, (ts, i.reads, (behind ts, suffix_takes (by_binary o) ts refl w, f.reads)));
        no_arguments = λ k. absurd cc;
      }) a.2
  suffix_sound l start ts e by_conditional x z i w h lt r =
      let p = and_parts (leb 3 (level e)) (leb wanted 2) h in
      let a = bind_ok (sub.expression 1 true (behind ts)) _ (x, z) r in
      let c = bind_ok (expect is_colon (a.0).1) _ (x, z) a.2 in
      let b = bind_ok (sub.expression 1 free c.0) _ (x, z) c.2 in
      let f = below.expression 1 true (behind ts) (a.0).0 (a.0).1 (omega arith) a.1 in
      let g = below.expression 1 free c.0 (b.0).0 (b.0).1 (omega arith) b.1 in
      let s = f.shallow in let t = g.shallow in
      told (λ y m. FoundExpression (suc d) wanted free y start m) (conditional (at_of e) e (a.0).0 (b.0).0) x (b.0).1 z (record {
        valid = (i.valid, leb-true 3 (level e) p.0, f.valid, reached_low 1 (a.0).0 (omega arith) f.reaches, g.valid, reached_low 1 (b.0).0 (omega arith) g.reaches);
        shallow = omega arith;
        reaches = inl (leb-true wanted 2 p.1);
        without_in = λ k. and_true (no_in e) (no_in (b.0).0) (i.without_in k) (g.without_in k);
        reads = (reads_place e start ts i.reads, (ts, i.reads, (behind ts, suffix_takes by_conditional ts refl w, ((a.0).1, f.reads, (c.0, colon_sound (a.0).1 c.0 c.1, g.reads)))));
        no_arguments = λ k. absurd cc;
      }) b.2
  suffix_sound l start ts e (by_assign o) x z i w h lt r =
      let p = and_parts (is_target e) (leb wanted 1) h in
      let a = bind_ok (sub.expression 1 free (behind ts)) _ (x, z) r in
      let f = below.expression 1 free (behind ts) (a.0).0 (a.0).1 (omega arith) a.1 in
      let s = f.shallow in
      told (λ y m. FoundExpression (suc d) wanted free y start m) (assign (at_of e) e o (a.0).0) x (a.0).1 z (record {
        valid = (i.valid, p.0, f.valid, reached_low 1 (a.0).0 (omega arith) f.reaches);
        shallow = omega arith;
        reaches = inl (leb-true wanted 1 p.1);
        without_in = λ k. and_true (no_in e) (no_in (a.0).0) (i.without_in k) (f.without_in k);
        reads = (reads_place e start ts i.reads, (ts, i.reads, (behind ts, suffix_takes (by_assign o) ts refl w, f.reads)));
        no_arguments = λ k. absurd cc;
      }) a.2
  suffix_sound l start ts e by_comma x z i w h lt r =
      let a = bind_ok (sub.expression 1 free (behind ts)) _ (x, z) r in
      let f = below.expression 1 free (behind ts) (a.0).0 (a.0).1 (omega arith) a.1 in
      let s = f.shallow in
      told (λ y m. FoundExpression (suc d) wanted free y start m) (comma (at_of e) e (a.0).0) x (a.0).1 z (record {
        valid = (i.valid, f.valid, reached_low 1 (a.0).0 (omega arith) f.reaches);
        shallow = omega arith;
        reaches = inl (leb-true wanted 0 h);
        without_in = λ k. and_true (no_in e) (no_in (a.0).0) (i.without_in k) (f.without_in k);
        reads = (reads_place e start ts i.reads, (ts, i.reads, (behind ts, suffix_takes by_comma ts refl w, f.reads)));
        no_arguments = λ k. absurd cc;
      }) a.2
  suffix_sound l start ts e by_nothing x z i w h lt r = absurd cc

  -- the same, at the token that says how it goes on
  pub further_sound : (l : ℕ) (start : List Token) (e : Expr) (ts : List Token) (x : Expr) (z : List Token) → FoundExpression l wanted free e start ts → applies wanted free e ts ≡ true → further_at sub d free e (suffix_at ts) ts ≡ Ok (x, z)
      → FoundExpression (suc d) wanted free x start z
  unfolding further_at
  further_sound l start e ts x z i h r =
      let p = room_ok d (depth e) ts (suffix sub free e (suffix_at ts) (behind ts)) (x, z) r in
      suffix_sound l start ts e (suffix_at ts) x z i refl h p.0 p.1

  -- an expression so far, or all of it
  abbrev AfterSuffix : List Token → Turn Expr Expr → List Token → Type 0
  AfterSuffix start t z = After (λ e m. FoundExpression (suc d) wanted free e start m) (λ e m. FoundExpression (suc d) wanted free e start m) t z

  -- a turn keeps what is known of the expression so far
  pub climb_sound : (start : List Token) (e : Expr) (ts : List Token) (t : Turn Expr Expr) (z : List Token) → FoundExpression (suc d) wanted free e start ts → climb_step sub d wanted free e ts ≡ Ok (t, z) → AfterSuffix start t z
  unfolding climb_step
  climb_sound start e ts t z i r = go (applies wanted free e ts) refl r
    where
      -- the expression with what goes on
      longer : Read (Turn Expr Expr)
      longer = suffix sub free e (suffix_at ts) (behind ts) >>= λ x. Ok (again x.0, x.1)

      go : (b : Bool) → applies wanted free e ts ≡ b → (if b then room d (depth e) ts longer else Ok (done e, ts)) ≡ Ok (t, z) → AfterSuffix start t z
      go true h r =
          let p = room_ok d (depth e) ts longer (t, z) r in
          let a = bind_ok (suffix sub free e (suffix_at ts) (behind ts)) (λ x. Ok (again x.0, x.1)) (t, z) p.1 in
          told (AfterSuffix start) (again (a.0).0) t (a.0).1 z (suffix_sound (suc d) start ts e (suffix_at ts) (a.0).0 (a.0).1 i refl h p.0 a.1) a.2
      go false h r = told (AfterSuffix start) (done e) t ts z i r

  -- how it begins, and then how it goes on
  expression_found : (ts : List Token) (e : Expr) (z : List Token) → expression_at sub d wanted free ts ≡ Ok (e, z) → FoundExpression (suc d) wanted free e ts z
  unfolding expression_at climb
  expression_found ts e z r =
      let a = bind_ok (primary sub d wanted free ts) _ (e, z) r in
      turns_sound (climb_step sub d wanted free) (λ x m. FoundExpression (suc d) wanted free x ts m) (λ x m. FoundExpression (suc d) wanted free x ts m) (climb_sound ts) (a.0).0 (a.0).1 e z (primary_sound ts (a.0).0 (a.0).1 a.1) a.2

-- what is read as an expression of a wanted level, where the operator `in` is allowed or not
pub expression_sound : {d : ℕ} {sub : Parsers} → SoundBelow d sub → (wanted : ℕ) (free : Bool) (ts : List Token) (e : Expr) (z : List Token) → wanted ≤ 16 → expression_at sub d wanted free ts ≡ Ok (e, z)
    → FoundExpression (suc d) wanted free e ts z
expression_sound {d} {sub} below wanted free ts e z low r = expression_found d sub below wanted low free ts e z r
