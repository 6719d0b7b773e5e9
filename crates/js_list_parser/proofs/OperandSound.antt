-- One layer is sound for the operands of `++` and `--`: what is read is a valid expression, and a target that is not too deep or an expression with
-- room for a member round it.
use Rattle.std.proofs.Common.{◌≡◌, ℕ, suc, ◌≤◌, Bool, true, false, if◌then◌else◌, inl, inr, List, Option, Some, Ok, Err, refl, arith}
use Rattle.js_ast.specs.declared.token.Token.{Token}
use Rattle.js_ast.specs.declared.words.Sign.TheVariants as sign
use Rattle.js_ast.specs.Words.{Word, a_name, a_sign}
use Rattle.js_ast.specs.Trees.{Expr, name, paren, member, index, at_of}
use Rattle.js_ast.specs.Levels.{is_target}
use Rattle.js_ast.specs.Grammar.{place_of}
use Rattle.js_ast.specs.Depth.{depth}
use Rattle.js_list_parser.specs.Reading.{refused, syntax, Read, ◌>>=◌, word_at, behind, Turn, again, done, room, Parsers, Suffix, by_member, by_index}
use Rattle.js_list_parser.specs.ExpressionParsing.{is_close_paren, is_close_bracket, expect, taken, name_at, suffix_at, applies, suffix, begins_at, operand_paren, operand_first_by, operand_first, makes_target, further_at, operand_further, operand_step, operand_climb, operand_at}
use Rattle.js_list_parser.proofs.Grown.{Changeable}
use Rattle.js_list_parser.proofs.Soundness.{FoundExpression, SoundBelow}
use Rattle.js_list_parser.proofs.Outcomes.{bind_ok, told, room_ok, if_ok, After, turns_sound, takes, close_paren_sound}
use Rattle.js_list_parser.proofs.ExpressionSound.{further_sound}

-- what is found within a number is found within a larger one
pub found_more : (l k wanted : ℕ) (free : Bool) (e : Expr) (ts z : List Token) → l ≤ k → FoundExpression l wanted free e ts z → FoundExpression k wanted free e ts z
found_more l k wanted free e ts z le f = let s = f.shallow in record { valid = f.valid; shallow = omega arith; reaches = f.reaches; without_in = f.without_in; reads = f.reads; no_arguments = f.no_arguments }

-- an operand that is found
abbrev pub FoundOperand : ℕ → ℕ → Bool → Expr → List Token → List Token → Type 0
FoundOperand limit wanted free e ts z = FoundExpression limit wanted free e ts z × Changeable limit e

-- what has room for a member
other_operand : (d wanted : ℕ) (free : Bool) (e : Expr) (ts z : List Token) → FoundExpression d wanted free e ts z → FoundOperand (suc d) wanted free e ts z
other_operand d wanted free e ts z f = let s = f.shallow in (found_more d (suc d) wanted free e ts z (omega arith) f, inr (omega arith))

-- a member or an element is a target
target_made : (sub : Parsers) (free : Bool) (e : Expr) (s : Suffix) (ts : List Token) (x : Expr) (z : List Token) → makes_target s ≡ true → suffix sub free e s ts ≡ Ok (x, z) → is_target x ≡ true
unfolding suffix
target_made sub free e by_member ts x z m r = let a = bind_ok (taken (name_at ts) ts) _ (x, z) r in told (λ y n. is_target y ≡ true) (member (at_of e) e (a.0).0) x (a.0).1 z refl a.2
target_made sub free e by_index ts x z m r =
    let a = bind_ok (sub.expression 0 true ts) _ (x, z) r in
    let b = bind_ok (expect is_close_bracket (a.0).1) _ (x, z) a.2 in
    told (λ y n. is_target y ≡ true) (index (at_of e) e (a.0).0) x b.0 z refl b.2
target_made sub free e _ ts x z m r = absurd cc

module _ (d : ℕ) (sub : Parsers) (below : SoundBelow d sub) (wanted : ℕ) (low : wanted ≤ 16) (free : Bool) where
  -- an operand in parentheses
  paren_sound : (ts : List Token) (e : Expr) (z : List Token) → word_at ts ≡ Some (a_sign sign.OpenParen) → operand_paren sub (place_of ts) (behind ts) ≡ Ok (e, z) → FoundOperand (suc d) wanted free e ts z
  unfolding operand_paren
  paren_sound ts e z h r =
      let a = bind_ok (sub.operand 0 true (behind ts)) _ (e, z) r in
      let b = bind_ok (expect is_close_paren (a.0).1) _ (e, z) a.2 in
      let x = (a.0).0 in
      let g = below.operand 0 true (behind ts) x (a.0).1 (omega arith) a.1 in
      let f = g.0 in let s = f.shallow in let c = g.1 in
      let change : Changeable (suc d) (paren (place_of ts) x) = elim c [ inl t ↦ inl (t.0, let lt = t.1 in omega arith) | inr lt ↦ inr (omega arith) ] in
      told (λ y m. FoundOperand (suc d) wanted free y ts m) (paren (place_of ts) x) e b.0 z (
        record {
          valid = f.valid;
          shallow = omega arith;
          reaches = inl (omega arith);
          without_in = λ k. refl;
          reads = (refl, (behind ts, takes _ ts h, ((a.0).1, f.reads, close_paren_sound (a.0).1 b.0 b.1)));
          no_arguments = λ k. absurd cc;
        },
        change,
      ) b.2

  -- how an operand begins
  pub first_sound : (ts : List Token) (e : Expr) (z : List Token) → operand_first sub d wanted free ts ≡ Ok (e, z) → FoundOperand (suc d) wanted free e ts z
  unfolding operand_first operand_first_by
  first_sound ts e z r = go (word_at ts) refl r
    where
      -- neither a name nor in parentheses
      other : (b : Bool) → (if b then room d 0 ts (sub.first wanted free ts) else Err (refused syntax ts)) ≡ Ok (e, z) → FoundOperand (suc d) wanted free e ts z
      other b r =
          let i = if_ok b (room d 0 ts (sub.first wanted free ts)) (refused syntax ts) (e, z) r in
          let j = room_ok d 0 ts (sub.first wanted free ts) (e, z) i.1 in
          other_operand d wanted free e ts z (below.first wanted free ts e z low j.1)

      go : (w : Option Word) → word_at ts ≡ w → operand_first_by sub d wanted free w ts ≡ Ok (e, z) → FoundOperand (suc d) wanted free e ts z
      go (Some (a_name text)) h r = told (λ y m. FoundOperand (suc d) wanted free y ts m) (name (place_of ts) text) e (behind ts) z
          (record { valid = tt; shallow = omega arith; reaches = inl (omega arith); without_in = λ k. refl; reads = (refl, takes _ ts h); no_arguments = λ k. absurd cc }, inl (refl, omega arith)) r
      go (Some (a_sign sign.OpenParen)) h r = paren_sound ts e z h (room_ok d 0 ts (operand_paren sub (place_of ts) (behind ts)) (e, z) r).1
      go w h r = other (begins_at wanted w) r

  -- a token with what is behind it
  further_found : (start : List Token) (e : Expr) (ts : List Token) (x : Expr) (z : List Token) → FoundOperand (suc d) wanted free e start ts → applies wanted free e ts ≡ true → operand_further sub d free e (suffix_at ts) ts ≡ Ok (x, z)
      → FoundOperand (suc d) wanted free x start z
  unfolding operand_further further_at
  further_found start e ts x z i h r = go (makes_target (suffix_at ts)) refl r
    where
      go : (b : Bool) → makes_target (suffix_at ts) ≡ b → (if b then further_at sub d free e (suffix_at ts) ts else room d 0 ts (sub.further free e (suffix_at ts) ts)) ≡ Ok (x, z) → FoundOperand (suc d) wanted free x start z
      go true t r =
          let f = further_sound d sub below wanted low free (suc d) start e ts x z i.0 h r in let s = f.shallow in
          let p = room_ok d (depth e) ts (suffix sub free e (suffix_at ts) (behind ts)) (x, z) r in
          (f, inl (target_made sub free e (suffix_at ts) (behind ts) x z t p.1, s))
      go false t r =
          let p = room_ok d 0 ts (sub.further free e (suffix_at ts) ts) (x, z) r in
          other_operand d wanted free x start z (below.further (suc d) wanted free start e ts x z low i.0 h p.1)

  -- an operand so far, or all of it
  abbrev AfterSuffix : List Token → Turn Expr Expr → List Token → Type 0
  AfterSuffix start t z = After (λ e m. FoundOperand (suc d) wanted free e start m) (λ e m. FoundOperand (suc d) wanted free e start m) t z

  -- a turn keeps what is known of the operand so far
  pub operand_kept : (start : List Token) (e : Expr) (ts : List Token) (t : Turn Expr Expr) (z : List Token) → FoundOperand (suc d) wanted free e start ts → operand_step sub d wanted free e ts ≡ Ok (t, z) → AfterSuffix start t z
  unfolding operand_step
  operand_kept start e ts t z i r = go (applies wanted free e ts) refl r
    where
      -- the operand with what goes on
      longer : Read (Turn Expr Expr)
      longer = operand_further sub d free e (suffix_at ts) ts >>= λ x. Ok (again x.0, x.1)

      go : (b : Bool) → applies wanted free e ts ≡ b → (if b then longer else Ok (done e, ts)) ≡ Ok (t, z) → AfterSuffix start t z
      go true h r =
          let a = bind_ok (operand_further sub d free e (suffix_at ts) ts) (λ x. Ok (again x.0, x.1)) (t, z) r in
          told (AfterSuffix start) (again (a.0).0) t (a.0).1 z (further_found start e ts (a.0).0 (a.0).1 i h a.1) a.2
      go false h r = told (AfterSuffix start) (done e) t ts z i r

  -- how it begins, and then how it goes on
  pub operand_found : (ts : List Token) (e : Expr) (z : List Token) → operand_at sub d wanted free ts ≡ Ok (e, z) → FoundOperand (suc d) wanted free e ts z
  unfolding operand_at operand_climb
  operand_found ts e z r =
      let a = bind_ok (operand_first sub d wanted free ts) _ (e, z) r in
      turns_sound (operand_step sub d wanted free) (λ x m. FoundOperand (suc d) wanted free x ts m) (λ x m. FoundOperand (suc d) wanted free x ts m) (operand_kept ts) (a.0).0 (a.0).1 e z (first_sound ts (a.0).0 (a.0).1 a.1) a.2
