-- One layer is complete for the operands of `++` and `--`: a valid target that is not too deep is read, and so is another expression with room for
-- a member round it.
use Rattle.std.proofs.Common.{◌≡◌, ℕ, zero, suc, ◌<◌, ◌≤◌, Bool, true, false, ◌||◌, leb, if◌then◌else◌, inl, inr, List, length, Option, Some, Ok, Err, refl, ◌∙◌, arith}
use Rattle.std.proofs.lemmas.Bool.{le-leb}
use Rattle.js_ast.specs.declared.token.Token.{Token}
use Rattle.js_ast.specs.declared.operators.UnaryOperator.{UnaryOperator}
use Rattle.js_ast.specs.declared.operators.UnaryOperator.TheVariants as unary_operator
use Rattle.js_ast.specs.declared.words.Sign.TheVariants as sign
use Rattle.js_ast.specs.Words.{Word, a_name, a_sign}
use Rattle.js_ast.specs.Trees.{Expr, name, number, string, this, null, boolean, paren, array, object, function, member, index, new_with, new_bare, call, postfix, unary, binary, conditional, assign, comma}
use Rattle.js_ast.specs.Levels.{unary_word, is_target}
use Rattle.js_ast.specs.Grammar.{Takes}
use Rattle.js_ast.specs.Depth.{depth}
use Rattle.js_list_parser.specs.Reading.{refused, syntax, word_at, again, turns, loop, room, Parsers}
use Rattle.js_list_parser.specs.ExpressionParsing.{is_close_paren, unary_of, applies, begins_expression, begins_operator, begins_at, operand_paren, operand_first_by, operand_first, makes_target, operand_further, operand_step, operand_climb, operand_at}
use Rattle.js_list_parser.proofs.Stops.{not_le, and_true, closer_stops}
use Rattle.js_list_parser.proofs.Begins.{takes_word, takes_behind, expect_reads, reads_begins}
use Rattle.js_list_parser.proofs.Levels.{reached}
use Rattle.js_list_parser.proofs.Lists.{turn_again, turn_done, any_in}
use Rattle.js_list_parser.proofs.Grown.{is_grown, left_of, suffix_by, middle_of, Stands, Changeable, grows, by_growth}
use Rattle.js_list_parser.proofs.Completeness.{CompleteBelow}
use Rattle.js_list_parser.proofs.ExpressionComplete.{further_reads}

-- ---- how an operand begins

-- a token that is neither a name nor an opening parenthesis
abbrev is_other : Option Word → Bool
is_other (Some (a_name text)) = false
is_other (Some (a_sign sign.OpenParen)) = false
is_other w = true

-- the second is enough
or_right : (a b : Bool) → b ≡ true → (a || b) ≡ true
or_right true b h = refl
or_right false b h = h

-- a token that begins an expression, and is no operator, begins one at each level
pub begins_plain : (wanted : ℕ) (w : Option Word) → begins_expression w ≡ true → begins_operator (unary_of w) ≡ false → begins_at wanted w ≡ true
begins_plain wanted w b o = and_true _ _ b (or_right (leb wanted 13) _ (rw o refl))

-- an operator is no name and no parenthesis
unary_other : (o : UnaryOperator) → is_other (Some (unary_word o)) ≡ true
unary_other unary_operator.Delete = refl
unary_other _ = refl

-- how what begins with no expression begins, where it is no target
abbrev BeginsOther : ℕ → List Token → Type 0
BeginsOther wanted ts = (is_other (word_at ts) ≡ true) × (begins_at wanted (word_at ts) ≡ true)

-- by its word
other : (wanted : ℕ) (w : Word) (ts z : List Token) → is_other (Some w) ≡ true → begins_expression (Some w) ≡ true → begins_operator (unary_of (Some w)) ≡ false → Takes w ts z → BeginsOther wanted ts
other wanted w ts z n b o t = rw (takes_word w ts z t) (n, begins_plain wanted (Some w) b o)

-- the operand is another expression: it has room for a member
room_for : (d : ℕ) (e : Expr) → is_target e ≡ false → Changeable (suc d) e → depth e < d
room_for d e n (inl h) = let t = h.0 in absurd cc
room_for d e n (inr h) = omega arith

-- it isn't too deep itself
changeable_shallow : (d : ℕ) (e : Expr) → Changeable (suc d) e → depth e ≤ d
changeable_shallow d e (inl h) = let l = h.1 in omega arith
changeable_shallow d e (inr h) = omega arith

-- what a suffix makes is a target or none
makes_target_is : (e : Expr) → is_grown e ≡ true → makes_target (suffix_by e) ≡ is_target e
makes_target_is (member at e text) g = refl
makes_target_is (index at e i) g = refl
makes_target_is (call at e args) g = refl
makes_target_is (postfix at e o) g = refl
makes_target_is (binary at l o r) g = refl
makes_target_is (conditional at c a b) g = refl
makes_target_is (assign at l o r) g = refl
makes_target_is (comma at l r) g = refl
makes_target_is _ g = absurd cc

-- an expression that grows to a target leaves the same to its left part
left_changeable : (d : ℕ) (e : Expr) → depth (left_of e) < depth e → Changeable (suc d) e → Changeable (suc d) (left_of e)
left_changeable d e lt c = inr (let h = changeable_shallow d e c in omega arith)

module _ (d : ℕ) (sub : Parsers) (below : CompleteBelow d sub) (wanted : ℕ) (free : Bool) (ts : List Token) where
  -- what is neither a name nor in parentheses is read by the parser of less depth
  by_first : (e : Expr) (z : List Token) → depth e < d → is_grown e ≡ false → Stands wanted free e ts z → BeginsOther wanted ts → operand_first sub d wanted free ts ≡ Ok (e, z)
  unfolding operand_first operand_first_by
  by_first e z lt g s b = go (word_at ts) b.0 b.1
    where
      inner : sub.first wanted free ts ≡ Ok (e, z)
      inner = below.first wanted free e ts z lt g s

      chosen : (b : Bool) → b ≡ true → (if b then room d 0 ts (sub.first wanted free ts) else Err (refused syntax ts)) ≡ Ok (e, z)
      chosen b h = rw (h, not_le d 0 (omega arith)) inner

      go : (w : Option Word) → is_other w ≡ true → begins_at wanted w ≡ true → operand_first_by sub d wanted free w ts ≡ Ok (e, z)
      go (Some (a_name text)) o b = absurd cc
      go (Some (a_sign sign.OpenParen)) o b = absurd cc
      go w o b = chosen (begins_at wanted w) b

  -- how an operand begins is read
  first_reads : (e : Expr) (z : List Token) → Changeable (suc d) e → is_grown e ≡ false → Stands wanted free e ts z → operand_first sub d wanted free ts ≡ Ok (e, z)
  unfolding operand_first operand_first_by operand_paren
  first_reads (name at text) z c g s = let h = s.reads in rw (takes_word _ ts z h.1, takes_behind _ ts z h.1, h.0) refl
  first_reads (paren at e) z c g s =
      let h = s.reads in let p = h.1 in let q = p.2 in let le = changeable_shallow d (paren at e) c in
      let stops = closer_stops 0 true e q.0 (rw (takes_word _ q.0 z q.2) refl) in
      let inside : Changeable d e = elim c [ inl t ↦ inl (t.0, omega arith) | inr l ↦ inr (omega arith) ] in
      let inner = below.operand 0 true e p.0 q.0 inside (record { valid = s.valid; reaches = inl (omega arith); without_in = any_in e; reads = q.1; ends = stops.1 }) stops.0 in
      rw (takes_word _ ts p.0 p.1, not_le d 0 (omega arith), takes_behind _ ts p.0 p.1, inner, expect_reads is_close_paren _ q.0 z refl q.2, h.0) refl
  first_reads (number at n) z c g s = let h = s.reads in by_first (number at n) z (room_for d (number at n) refl c) g s (other wanted _ ts z refl refl refl h.1)
  first_reads (string at text x) z c g s = let h = s.reads in by_first (string at text x) z (room_for d (string at text x) refl c) g s (other wanted _ ts z refl refl refl h.1)
  first_reads (this at) z c g s = let h = s.reads in by_first (this at) z (room_for d (this at) refl c) g s (other wanted _ ts z refl refl refl h.1)
  first_reads (null at) z c g s = let h = s.reads in by_first (null at) z (room_for d (null at) refl c) g s (other wanted _ ts z refl refl refl h.1)
  first_reads (boolean at true) z c g s = let h = s.reads in by_first (boolean at true) z (room_for d (boolean at true) refl c) g s (other wanted _ ts z refl refl refl h.1)
  first_reads (boolean at false) z c g s = let h = s.reads in by_first (boolean at false) z (room_for d (boolean at false) refl c) g s (other wanted _ ts z refl refl refl h.1)
  first_reads (array at items final) z c g s = let h = s.reads in by_first (array at items final) z (room_for d (array at items final) refl c) g s (other wanted _ ts _ refl refl refl h.1.1)
  first_reads (object at props final) z c g s = let h = s.reads in by_first (object at props final) z (room_for d (object at props final) refl c) g s (other wanted _ ts _ refl refl refl h.1.1)
  first_reads (function at f) z c g s = let h = s.reads in by_first (function at f) z (room_for d (function at f) refl c) g s (other wanted _ ts _ refl refl refl h.1.1)
  first_reads (new_with at e args) z c g s = let h = s.reads in by_first (new_with at e args) z (room_for d (new_with at e args) refl c) g s (other wanted _ ts _ refl refl refl h.1.1)
  first_reads (new_bare at e) z c g s = let h = s.reads in by_first (new_bare at e) z (room_for d (new_bare at e) refl c) g s (other wanted _ ts _ refl refl refl h.1.1)
  first_reads (unary at o e) z c g s =
      let h = s.reads in let high = reached wanted (unary at o e) refl s.reaches in
      by_first (unary at o e) z (room_for d (unary at o e) refl c) g s
      (rw (takes_word _ ts _ h.1.1) (unary_other o), and_true _ _ (reads_begins (unary at o e) ts z h) (rw (le-leb wanted 13 high) refl))
  first_reads _ z c g s = absurd cc

  -- the tokens are those of an operand and what is behind it, where the loop goes on
  abbrev Climbs : Expr → List Token → Type 0
  Climbs e z = Changeable (suc d) e → (n : ℕ) × (length z < n) × (operand_at sub d wanted free ts ≡ turns (operand_step sub d wanted free) n e z)

  -- the beginning of an operand
  starts : (e : Expr) (z : List Token) → is_grown e ≡ false → Stands wanted free e ts z → Climbs e z
  unfolding operand_at operand_climb loop
  starts e z g s c = (suc (length z), omega arith, rw (first_reads e z c g s) refl)

  -- a token with what is behind it
  grown_reads : (e : Expr) (z : List Token) → Changeable (suc d) e → is_grown e ≡ true → (s : Stands wanted free e ts z) → operand_further sub d free (left_of e) (suffix_by e) (middle_of e ts z s.reads) ≡ Ok (e, z)
  unfolding operand_further
  grown_reads e z c g s = go (makes_target (suffix_by e)) refl
    where
      go : (b : Bool) → makes_target (suffix_by e) ≡ b → operand_further sub d free (left_of e) (suffix_by e) (middle_of e ts z s.reads) ≡ Ok (e, z)
      go true t = rw t (further_reads d sub below wanted free ts e z (changeable_shallow d e c) g s)
      go false t = let lt = room_for d e (rw (makes_target_is e g) at t) c in rw (t, not_le d 0 (omega arith)) (below.further wanted free e ts z lt g s)

  -- a turn of the loop
  more : (e f : Expr) (a z : List Token) (n : ℕ) → length a < n → operand_at sub d wanted free ts ≡ turns (operand_step sub d wanted free) n e a
      → operand_step sub d wanted free e a ≡ Ok (again f, z) → length z < length a → (k : ℕ) × (length z < k) × (operand_at sub d wanted free ts ≡ turns (operand_step sub d wanted free) k f z)
  more e f a z zero lt h s l = absurd (omega arith)
  more e f a z (suc n) lt h s l = (n, omega arith, h ∙ turn_again (operand_step sub d wanted free) n e f a z s)

  -- the operand goes on
  goes_on : (e : Expr) (z : List Token) → is_grown e ≡ true → (s : Stands wanted free e ts z) → Climbs (left_of e) (middle_of e ts z s.reads) → Climbs e z
  unfolding operand_step
  goes_on e z g s climbs c =
      let m = middle_of e ts z s.reads in
      let k = grows wanted free e ts z g s in
      let l = climbs (left_changeable d e k.deeper c) in
      more (left_of e) e m z l.0 l.1 l.2 (rw (k.is, k.applies, grown_reads e z c g s) refl) k.shorter

  -- the end of the loop
  ends : (e : Expr) (z : List Token) (n : ℕ) → length z < n → operand_at sub d wanted free ts ≡ turns (operand_step sub d wanted free) n e z → applies wanted free e z ≡ false → operand_at sub d wanted free ts ≡ Ok (e, z)
  unfolding operand_step
  ends e z zero lt h s = absurd (omega arith)
  ends e z (suc n) lt h s = h ∙ turn_done (operand_step sub d wanted free) n e e z z (rw s refl)

  -- a valid operand is read where nothing behind it goes on with it
  operand_reads : (e : Expr) (z : List Token) → Changeable (suc d) e → Stands wanted free e ts z → applies wanted free e z ≡ false → operand_at sub d wanted free ts ≡ Ok (e, z)
  operand_reads e z c s a = let l = by_growth wanted free ts Climbs starts goes_on e z s c in ends e z l.0 l.1 l.2 a

-- the same, with the parsers of parts found by what they complete
pub operand_complete : {d : ℕ} {sub : Parsers} → CompleteBelow d sub → (wanted : ℕ) (free : Bool) (e : Expr) (ts z : List Token) → Changeable (suc d) e → Stands wanted free e ts z → applies wanted free e z ≡ false
    → operand_at sub d wanted free ts ≡ Ok (e, z)
operand_complete {d} {sub} below wanted free e ts z = operand_reads d sub below wanted free ts e z
