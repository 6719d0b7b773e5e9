-- Expressions that begin with an expression: what stands to the left, and what goes on with it. An induction on them goes to the left alone.
use Rattle.std.proofs.Common.{◌≡◌, ℕ, suc, ◌<◌, min, Bool, true, false, not, ◌&&◌, ◌||◌, ◌⊎◌, inl, inr, List, length, Some, refl, ap, ◌∙◌, arith}
use Rattle.std.proofs.lemmas.Bool.{le-leb}
use Rattle.js_ast.specs.declared.token.Token.{Token}
use Rattle.js_ast.specs.Words.{Word}
use Rattle.js_ast.specs.Trees.{Expr, member, index, call, postfix, binary, conditional, assign, comma}
use Rattle.js_ast.specs.Levels.{binding, is_in, level, is_target}
use Rattle.js_ast.specs.Grammar.{Takes, Reads, on_line}
use Rattle.js_ast.specs.Validity.{no_in, Valid}
use Rattle.js_ast.specs.Depth.{depth}
use Rattle.js_list_parser.specs.Reading.{Suffix, by_member, by_index, by_call, by_postfix, by_binary, by_conditional, by_assign, by_comma, by_nothing}
use Rattle.js_list_parser.specs.ExpressionParsing.{suffix_of, suffix_at, applies_by, captured, Reaches}
use Rattle.js_list_parser.proofs.Stops.{and_true, and_parts, binding-low, binding-high}
use Rattle.js_list_parser.proofs.Lengths.{takes_shortens, name_shortens, expr_shortens, exprs_keep}
use Rattle.js_list_parser.proofs.Begins.{takes_word}
use Rattle.js_list_parser.proofs.Levels.{suffix-postfix, suffix-binary, suffix-assign, own, not_captured, base-is, base_captured, target_captured, target-level, reached}

-- it begins with an expression
abbrev pub is_grown : Expr → Bool
is_grown (member at e text) = true
is_grown (index at e i) = true
is_grown (call at e args) = true
is_grown (postfix at e o) = true
is_grown (binary at l o r) = true
is_grown (conditional at c a b) = true
is_grown (assign at l o r) = true
is_grown (comma at l r) = true
is_grown _ = false

-- that expression
abbrev pub left_of : Expr → Expr
left_of (member at e text) = e
left_of (index at e i) = e
left_of (call at e args) = e
left_of (postfix at e o) = e
left_of (binary at l o r) = l
left_of (conditional at c a b) = c
left_of (assign at l o r) = l
left_of (comma at l r) = l
left_of e = e

-- what goes on with it
abbrev pub suffix_by : Expr → Suffix
suffix_by (member at e text) = by_member
suffix_by (index at e i) = by_index
suffix_by (call at e args) = by_call
suffix_by (postfix at e o) = by_postfix o
suffix_by (binary at l o r) = by_binary o
suffix_by (conditional at c a b) = by_conditional
suffix_by (assign at l o r) = by_assign o
suffix_by (comma at l r) = by_comma
suffix_by _ = by_nothing

-- the tokens behind it
abbrev pub middle_of : (e : Expr) (ts z : List Token) → Reads e ts z → List Token
middle_of (member at e text) ts z h = h.1.0
middle_of (index at e i) ts z h = h.1.0
middle_of (call at e args) ts z h = h.1.0
middle_of (postfix at e o) ts z h = h.1.0
middle_of (binary at l o r) ts z h = h.1.0
middle_of (conditional at c a b) ts z h = h.1.0
middle_of (assign at l o r) ts z h = h.1.0
middle_of (comma at l r) ts z h = h.1.0
middle_of _ ts z h = z

-- an operand of `++` and `--` whose depth is below a number: a target, or another expression with room for a member round it
abbrev pub Changeable : ℕ → Expr → Type 0
Changeable limit e = ((is_target e ≡ true) × (depth e < limit)) ⊎ (suc (depth e) < limit)

-- a valid expression that may stand where a level is wanted, with its tokens, and its last part doesn't take the token behind
pub record Stands (wanted : ℕ) (free : Bool) (e : Expr) (ts z : List Token) : Type 0 where
  pub valid : Valid e
  pub reaches : Reaches wanted e
  pub without_in : free ≡ false → no_in e ≡ true
  pub reads : Reads e ts z
  pub ends : captured free e z ≡ false

-- how it grows
pub record Grows (wanted : ℕ) (free : Bool) (e : Expr) (ts m z : List Token) : Type 0 where
  pub left : Stands wanted free (left_of e) ts m
  pub deeper : depth (left_of e) < depth e
  pub is : suffix_at m ≡ suffix_by e
  pub applies : applies_by wanted free (left_of e) (on_line m) (suffix_by e) ≡ true
  pub shorter : length z < length m

-- where `in` is not allowed, the operator is another one
allowed : (free b c : Bool) → (free ≡ false → (b && c) ≡ true) → (free || b) ≡ true
allowed true b c h = refl
allowed false b c h = (and_parts b c (h refl)).0

-- the suffix of a token that is taken
suffix_is : (w : Word) (s : Suffix) (ts z : List Token) → Takes w ts z → suffix_of (Some w) ≡ s → suffix_at ts ≡ s
suffix_is w s ts z t is = ap suffix_of (takes_word w ts z t) ∙ is

module _ (wanted : ℕ) (free : Bool) where
  -- by cases on the expression
  pub grows : (e : Expr) (ts z : List Token) → is_grown e ≡ true → (s : Stands wanted free e ts z) → Grows wanted free e ts (middle_of e ts z s.reads) z
  grows (member at e text) ts z g s =
      let p = s.reads.1 in let q = p.2 in let v = s.valid in let b = v.1 in let low = b.0 in
      let high = reached wanted (member at e text) refl s.reaches in
      let first = takes_shortens _ p.0 q.0 q.1 in let second = name_shortens text q.0 z q.2 in
      record {
        left = record { valid = v.0; reaches = inl (omega arith); without_in = s.without_in; reads = p.1; ends = base_captured e free p.0 b };
        deeper = omega arith;
        is = suffix_is _ by_member p.0 q.0 q.1 refl;
        applies = and_true _ _ (base-is e b) (le-leb wanted (min 16 (level e)) high);
        shorter = omega arith;
      }
  grows (index at e i) ts z g s =
      let p = s.reads.1 in let q = p.2 in let r = q.2 in let v = s.valid in let b = v.1 in let low = b.0 in
      let high = reached wanted (index at e i) refl s.reaches in
      let first = takes_shortens _ p.0 q.0 q.1 in let second = expr_shortens i q.0 r.0 r.1 in let third = takes_shortens _ r.0 z r.2 in
      record {
        left = record { valid = v.0; reaches = inl (omega arith); without_in = s.without_in; reads = p.1; ends = base_captured e free p.0 b };
        deeper = omega arith;
        is = suffix_is _ by_index p.0 q.0 q.1 refl;
        applies = and_true _ _ (base-is e b) (le-leb wanted (min 16 (level e)) high);
        shorter = omega arith;
      }
  grows (call at e args) ts z g s =
      let p = s.reads.1 in let q = p.2 in let r = q.2 in let v = s.valid in let b = v.1 in let low = b.0 in
      let high = reached wanted (call at e args) refl s.reaches in
      let first = takes_shortens _ p.0 q.0 q.1 in let second = exprs_keep args q.0 r.0 r.1 in let third = takes_shortens _ r.0 z r.2 in
      record {
        left = record { valid = v.0; reaches = inl (omega arith); without_in = s.without_in; reads = p.1; ends = base_captured e free p.0 b };
        deeper = omega arith;
        is = suffix_is _ by_call p.0 q.0 q.1 refl;
        applies = and_true _ _ (base-is e b) (le-leb wanted 15 high);
        shorter = omega arith;
      }
  grows (postfix at e o) ts z g s =
      let p = s.reads.1 in let q = p.2 in let v = s.valid in
      let high = reached wanted (postfix at e o) refl s.reaches in let base = target-level e v.0 v.1 in
      record {
        left = record { valid = v.0; reaches = inl (omega arith); without_in = s.without_in; reads = p.1; ends = target_captured e free p.0 v.1 };
        deeper = omega arith;
        is = suffix_is _ (by_postfix o) p.0 z q.1 (suffix-postfix o);
        applies = and_true _ _ q.0 (and_true _ _ v.1 (le-leb wanted 14 high));
        shorter = takes_shortens _ p.0 z q.1;
      }
  grows (binary at l o r) ts z g s =
      let p = s.reads.1 in let q = p.2 in let v = s.valid in let ll = v.1 in let bl = binding-low o in let bh = binding-high o in
      let high = reached wanted (binary at l o r) refl s.reaches in
      let is = suffix_is _ (by_binary o) p.0 q.0 q.1 (suffix-binary o) in
      let k : own (suffix_at p.0) ≡ suc (binding o) = ap own is in
      let first = takes_shortens _ p.0 q.0 q.1 in let second = expr_shortens r q.0 z q.2 in
      record {
        left = record {
          valid = v.0;
          reaches = inl (omega arith);
          without_in = λ e. (and_parts (no_in l) (no_in r) (and_parts (not (is_in o)) (no_in l && no_in r) (s.without_in e)).1).0;
          reads = p.1;
          ends = not_captured l free p.0 v.0 (omega arith) (omega arith) (inr (omega arith));
        };
        deeper = omega arith;
        is = is;
        applies = and_true _ _ (allowed free (not (is_in o)) (no_in l && no_in r) s.without_in) (and_true _ _ (le-leb (binding o) (level l) ll) (le-leb wanted (binding o) high));
        shorter = omega arith;
      }
  grows (conditional at e a b) ts z g s =
      let p = s.reads.1 in let q = p.2 in let r = q.2 in let t = r.2 in let v = s.valid in let low = v.1 in
      let high = reached wanted (conditional at e a b) refl s.reaches in
      let is = suffix_is _ by_conditional p.0 q.0 q.1 refl in
      let k : own (suffix_at p.0) ≡ 3 = ap own is in
      let first = takes_shortens _ p.0 q.0 q.1 in let second = expr_shortens a q.0 r.0 r.1 in let third = takes_shortens _ r.0 t.0 t.1 in let fourth = expr_shortens b t.0 z t.2 in
      record {
        left = record {
          valid = v.0;
          reaches = inl (omega arith);
          without_in = λ i. (and_parts (no_in e) (no_in b) (s.without_in i)).0;
          reads = p.1;
          ends = not_captured e free p.0 v.0 (omega arith) (omega arith) (inr low);
        };
        deeper = omega arith;
        is = is;
        applies = and_true _ _ (le-leb 3 (level e) low) (le-leb wanted 2 high);
        shorter = omega arith;
      }
  grows (assign at l o r) ts z g s =
      let p = s.reads.1 in let q = p.2 in let v = s.valid in let base = target-level l v.0 v.1 in
      let high = reached wanted (assign at l o r) refl s.reaches in
      let first = takes_shortens _ p.0 q.0 q.1 in let second = expr_shortens r q.0 z q.2 in
      record {
        left = record { valid = v.0; reaches = inl (omega arith); without_in = λ e. (and_parts (no_in l) (no_in r) (s.without_in e)).0; reads = p.1; ends = target_captured l free p.0 v.1 };
        deeper = omega arith;
        is = suffix_is _ (by_assign o) p.0 q.0 q.1 (suffix-assign o);
        applies = and_true _ _ v.1 (le-leb wanted 1 high);
        shorter = omega arith;
      }
  grows (comma at l r) ts z g s =
      let p = s.reads.1 in let q = p.2 in let v = s.valid in
      let high = reached wanted (comma at l r) refl s.reaches in
      let is = suffix_is _ by_comma p.0 q.0 q.1 refl in
      let k : own (suffix_at p.0) ≡ 1 = ap own is in
      let first = takes_shortens _ p.0 q.0 q.1 in let second = expr_shortens r q.0 z q.2 in
      record {
        left = record {
          valid = v.0;
          reaches = inl (omega arith);
          without_in = λ e. (and_parts (no_in l) (no_in r) (s.without_in e)).0;
          reads = p.1;
          ends = not_captured l free p.0 v.0 (omega arith) (omega arith) (inl (omega arith));
        };
        deeper = omega arith;
        is = is;
        applies = le-leb wanted 0 high;
        shorter = omega arith;
      }
  grows _ ts z g s = absurd cc

  module _ (ts : List Token) (P : Expr → List Token → Type 0) (first : (e : Expr) (z : List Token) → is_grown e ≡ false → Stands wanted free e ts z → P e z)
      (grown : (e : Expr) (z : List Token) → is_grown e ≡ true → (s : Stands wanted free e ts z) → P (left_of e) (middle_of e ts z s.reads) → P e z) where
    -- what holds of expressions that begin with none, and is kept where they grow, holds of all
    pub by_growth : (e : Expr) (z : List Token) → Stands wanted free e ts z → P e z
    by_growth (member at e text) z s = grown (member at e text) z refl s (by_growth e s.reads.1.0 (grows (member at e text) ts z refl s).left)
    by_growth (index at e i) z s = grown (index at e i) z refl s (by_growth e s.reads.1.0 (grows (index at e i) ts z refl s).left)
    by_growth (call at e args) z s = grown (call at e args) z refl s (by_growth e s.reads.1.0 (grows (call at e args) ts z refl s).left)
    by_growth (postfix at e o) z s = grown (postfix at e o) z refl s (by_growth e s.reads.1.0 (grows (postfix at e o) ts z refl s).left)
    by_growth (binary at l o r) z s = grown (binary at l o r) z refl s (by_growth l s.reads.1.0 (grows (binary at l o r) ts z refl s).left)
    by_growth (conditional at e a b) z s = grown (conditional at e a b) z refl s (by_growth e s.reads.1.0 (grows (conditional at e a b) ts z refl s).left)
    by_growth (assign at l o r) z s = grown (assign at l o r) z refl s (by_growth l s.reads.1.0 (grows (assign at l o r) ts z refl s).left)
    by_growth (comma at l r) z s = grown (comma at l r) z refl s (by_growth l s.reads.1.0 (grows (comma at l r) ts z refl s).left)
    by_growth e z s = first e z refl s
