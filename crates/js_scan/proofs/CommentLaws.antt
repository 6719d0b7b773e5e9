-- A comment ends in one place.
use Rattle.std.proofs.Common.{◌≡◌, ℕ, suc, ◌+◌, ◌≤◌, ◌<◌, ◌==◌, nat_eq, one-add, true, false, not, ◌&&◌, Option, Some, None, List, [], ◌∷◌, ◌++◌, length, take, drop, refl, sym, ap, subst, ◌∙◌, arith, if◌then◌else◌, append_assoc}
use Rattle.std.specs.List.{list_any, starts_with}
use Rattle.std.proofs.lemmas.Bool.{cond-true, cond-false, and_right, or_parts, or_from, or_right, and_parts, and_from, eqb-true, eq-eqb, not-true, not-false, true≢false, cond_both}
use Rattle.std.proofs.Math.Bool.{and-true}
use Rattle.std.proofs.lemmas.Bool.Decides.{nat_tests}
use Rattle.std.proofs.lemmas.List.{length-append, length-take, drop-drop, drop_more, drop_all, take-append-drop}
use Rattle.std.proofs.lemmas.List.Folds.{length-prefix_len}
use Rattle.js_scan.specs.Units.{is_line_terminator, begins_with}
use Rattle.js_scan.specs.Comments.{has_close, spelled_block_comment, OpensComment}
use Rattle.js_scan.specs.CommentReading.{line_length, close_from}
use Rattle.js_scan.specs.Found.{FindsLineComment, FindsBlockComment}

-- what a list begins with, where a `*` stands in it, is told without what is behind
begins_before : (unit : ℕ) (a x y : List ℕ) → begins_with unit (a ++ (42 ∷ x)) ≡ begins_with unit (a ++ (42 ∷ y))
unfolding begins_with
begins_before unit [] x y = refl
begins_before unit (u ∷ a) x y = refl

-- no `*/` stands at a `*` before another unit
no_close_at : (u : ℕ) (us : List ℕ) → has_close (u ∷ us) ≡ false → u ≡ 42 → begins_with 47 us ≡ true → ⊥
unfolding has_close
no_close_at u us h e b = true≢false (sym (and_from (u == 42) (begins_with 47 us) (eq-eqb u 42 e) b) ∙ (or_parts (u == 42 && begins_with 47 us) (has_close us) h).0)

-- none behind it
no_close_behind : (u : ℕ) (us : List ℕ) → has_close (u ∷ us) ≡ false → has_close us ≡ false
unfolding has_close
no_close_behind u us h = (or_parts (u == 42 && begins_with 47 us) (has_close us) h).1

-- a list with `*/` at its front has it in no longer one
shorter : (v : ℕ) (b x y : List ℕ) → has_close (v ∷ (b ++ 42 ∷ [])) ≡ false → 42 ∷ 47 ∷ x ≡ v ∷ (b ++ (42 ∷ 47 ∷ y)) → ⊥
unfolding begins_with
shorter v b x y h e =
    let first : v ≡ 42 = cc in
    let rest : 47 ∷ x ≡ b ++ (42 ∷ 47 ∷ y) = cc in
    no_close_at v (b ++ 42 ∷ []) h first (begins_before 47 b [] (47 ∷ y) ∙ ap (λ us. begins_with 47 us) (sym rest))

-- the units before the first `*/` are the same, and so are those behind it
pub one_block : (a b x y : List ℕ) → has_close (a ++ 42 ∷ []) ≡ false → has_close (b ++ 42 ∷ []) ≡ false → a ++ (42 ∷ 47 ∷ x) ≡ b ++ (42 ∷ 47 ∷ y) → (a ≡ b) × (x ≡ y)
one_block [] [] x y h i e = (refl, cc)
one_block [] (v ∷ b) x y h i e = absurd (shorter v b x y i e)
one_block (u ∷ a) [] x y h i e = absurd (shorter u a y x h (sym e))
one_block (u ∷ a) (v ∷ b) x y h i e =
    let first : u ≡ v = cc in
    let rest : a ++ (42 ∷ 47 ∷ x) ≡ b ++ (42 ∷ 47 ∷ y) = cc in
    let back = one_block a b x y (no_close_behind u (a ++ 42 ∷ []) h) (no_close_behind v (b ++ 42 ∷ []) i) rest in
    (let same = back.0 in cc, back.1)

-- a comment that has an end isn't open
pub open_has_none : (a x : List ℕ) → has_close (a ++ (42 ∷ 47 ∷ x)) ≡ true
unfolding has_close begins_with
open_has_none [] x = refl
open_has_none (u ∷ a) x = or_right (u == 42 && begins_with 47 (a ++ (42 ∷ 47 ∷ x))) (has_close (a ++ (42 ∷ 47 ∷ x))) (open_has_none a x)

-- `*/` first stands behind so many units
pub record ClosesAt (us : List ℕ) (n : ℕ) : Type 0 where
  pub is : has_close (take n us ++ 42 ∷ []) ≡ false
  pub whole : us ≡ take n us ++ (42 ∷ 47 ∷ drop 2 (drop n us))

-- where the reader finds it, with so many units before these
abbrev Closes : ℕ → List ℕ → Option ℕ → Type 0
Closes at us None = has_close us ≡ false
Closes at us (Some m) = (n : ℕ) × (m ≡ at + n) × ClosesAt us n

-- the two units alone stand at the front
closes_here : (at u : ℕ) (us : List ℕ) → (u == 42 && begins_with 47 us) ≡ true → Closes at (u ∷ us) (Some at)
unfolding has_close begins_with
closes_here at u [] e = absurd (true≢false (sym (and_parts (u == 42) false e).1))
closes_here at u (v ∷ us) e =
    let parts = and_parts (u == 42) (v == 47) e in
    let first : u ≡ 42 = eqb-true u 42 parts.0 in
    let second : v ≡ 47 = eqb-true v 47 parts.1 in
    (0, omega arith, record { is = refl; whole = cc })

-- they don't
closes_behind : (at u : ℕ) (us : List ℕ) → (u == 42 && begins_with 47 us) ≡ false → (found : Option ℕ) → Closes (at + 1) us found → Closes at (u ∷ us) found
unfolding has_close
closes_behind at u us e None h = or_from (u == 42 && begins_with 47 us) (has_close us) e h
closes_behind at u us e (Some m) h =
    let same : begins_with 47 (take h.0 us ++ 42 ∷ []) ≡ begins_with 47 us = begins_before 47 (take h.0 us) [] (47 ∷ drop 2 (drop h.0 us)) ∙ ap (λ xs. begins_with 47 xs) (sym h.2.whole) in (
      suc h.0,
      omega (arith, h.1),
      record {
        is = or_from (u == 42 && begins_with 47 (take h.0 us ++ 42 ∷ [])) (has_close (take h.0 us ++ 42 ∷ [])) (ap (λ b. u == 42 && b) same ∙ e) h.2.is;
        whole = ap (λ xs. u ∷ xs) h.2.whole;
      },
    )

-- `*/` stands where the reader finds it
closes : (at : ℕ) (us : List ℕ) → Closes at us (close_from at us)
unfolding close_from has_close
closes at [] = refl
closes at (u ∷ us) =
    cond_both (u == 42 && begins_with 47 us) (Some at) (close_from (at + 1) us) (Closes at (u ∷ us)) (λ e. closes_here at u us e) (λ e. closes_behind at u us e (close_from (at + 1) us) (closes (at + 1) us))

-- from the start
pub closes_at : (us : List ℕ) (n : ℕ) → Some n ≡ close_from 0 us → ClosesAt us n
closes_at us n e =
    let found : Closes 0 us (Some n) = subst (λ o. Closes 0 us o) (sym e) (closes 0 us) in
    let same : found.0 ≡ n = omega (arith, found.1) in
    subst (λ k. ClosesAt us k) same found.2

-- it stands within the units
pub closes_within : (us : List ℕ) (n : ℕ) → ClosesAt us n → n + 2 ≤ length us
closes_within us n c = omega (arith, ap length c.whole, length-append (take n us) (42 ∷ 47 ∷ drop 2 (drop n us)), length-take n us)

-- a comment's units, and those behind it
spelled_whole : (body rest : List ℕ) → spelled_block_comment body ++ rest ≡ 47 ∷ 42 ∷ (body ++ (42 ∷ 47 ∷ rest))
spelled_whole body rest = ap (λ us. 47 ∷ 42 ∷ us) (append_assoc body (42 ∷ 47 ∷ []) rest)

-- a comment that has an end, by the units behind its `/*`
block_inside : (inside : List ℕ) (n : ℕ) → Some n ≡ close_from 0 inside → FindsBlockComment (47 ∷ 42 ∷ inside) (n + 4) (list_any is_line_terminator (take n inside))
block_inside inside n h =
    let c = closes_at inside n h in
    let more : n + 4 ≡ suc (suc (n + 2)) = omega arith in
    let behind : drop (n + 4) (47 ∷ 42 ∷ inside) ≡ drop 2 (drop n inside) = ap (λ k. drop k (47 ∷ 42 ∷ inside)) more ∙ sym (drop-drop 2 n inside) in
    let count : length (spelled_block_comment (take n inside)) ≡ n + 4 = omega (arith, length-append (take n inside) (42 ∷ 47 ∷ []), length-take n inside, closes_within inside n c) in
    record {
      body = take n inside;
      is = c.is;
      whole = ap (λ us. 47 ∷ 42 ∷ us) c.whole ∙ sym (spelled_whole (take n inside) (drop 2 (drop n inside))) ∙ ap (λ us. spelled_block_comment (take n inside) ++ us) (sym behind);
      length_is = count;
      breaks_is = refl;
      longest = λ b rest i f.
          let g : 47 ∷ 42 ∷ inside ≡ 47 ∷ 42 ∷ (b ++ (42 ∷ 47 ∷ rest)) = f ∙ spelled_whole b rest in
          let same : inside ≡ b ++ (42 ∷ 47 ∷ rest) = cc in
          let one = one_block (take n inside) b (drop 2 (drop n inside)) rest c.is i (sym c.whole ∙ same) in
          omega (arith, ap (λ us. length (spelled_block_comment us)) one.0, count);
    }

-- a comment that has an end
pub block_found : (us inside : List ℕ) (n : ℕ) → us ≡ 47 ∷ 42 ∷ inside → Some n ≡ close_from 0 (drop 2 us) → FindsBlockComment us (n + 4) (list_any is_line_terminator (take n (drop 2 us)))
block_found us inside n e =
    subst (λ xs. Some n ≡ close_from 0 (drop 2 xs) → FindsBlockComment xs (n + 4) (list_any is_line_terminator (take n (drop 2 xs)))) (sym e) (λ h. block_inside inside n h)

-- a comment that has none
pub block_open : (us inside : List ℕ) → us ≡ 47 ∷ 42 ∷ inside → None ≡ close_from 0 (drop 2 us) → OpensComment us
block_open us inside e h = (inside, e, subst (λ o. Closes 0 inside o) (sym (h ∙ ap (λ xs. close_from 0 (drop 2 xs)) e)) (closes 0 inside))

-- no line terminator is among the units that stand in front of the first
line_holds_none : (us : List ℕ) → list_any is_line_terminator (take (line_length us) us) ≡ false
unfolding line_length
line_holds_none [] = refl
line_holds_none (u ∷ us) =
    cond_both (not (is_line_terminator u)) (1 + line_length us) 0 (λ k. list_any is_line_terminator (take k (u ∷ us)) ≡ false)
    (λ e. rw one-add (or_from (is_line_terminator u) (list_any is_line_terminator (take (line_length us) us)) (not-true (is_line_terminator u) e) (line_holds_none us)))
    (λ e. refl)

-- units that hold none stand in front of the first
line_longest : (body rest : List ℕ) → list_any is_line_terminator body ≡ false → length body ≤ line_length (body ++ rest)
unfolding line_length
line_longest [] rest h = omega arith
line_longest (u ∷ body) rest h =
    let parts = or_parts (is_line_terminator u) (list_any is_line_terminator body) h in
    cond_both (not (is_line_terminator u)) (1 + line_length (body ++ rest)) 0 (λ k. suc (length body) ≤ k)
    (λ e. omega (arith, line_longest body rest parts.1))
    (λ e. absurd (true≢false (sym (not-false (is_line_terminator u) e) ∙ parts.0)))

-- so many units are taken
line_taken : (us : List ℕ) → length (take (line_length us) us) ≡ line_length us
unfolding line_length
line_taken us = length-prefix_len (λ u. not (is_line_terminator u)) us

-- a comment to the end of the line, by the units behind its `//`
line_inside : (inside : List ℕ) → FindsLineComment (47 ∷ 47 ∷ inside) (2 + line_length inside)
line_inside inside =
    let more : 2 + line_length inside ≡ suc (suc (line_length inside)) = omega arith in
    rw more (record {
      body = take (line_length inside) inside;
      is = line_holds_none inside;
      whole = ap (λ us. 47 ∷ 47 ∷ us) (sym (take-append-drop (line_length inside) inside));
      length_is = ap (λ n. suc (suc n)) (line_taken inside);
      longest = λ b rest i e.
          let same : inside ≡ b ++ rest = cc in
          omega (arith, line_longest b rest i, ap line_length same);
    })

-- a comment to the end of the line
pub line_found : (us inside : List ℕ) → us ≡ 47 ∷ 47 ∷ inside → FindsLineComment us (2 + line_length (drop 2 us))
line_found us inside e = subst (λ xs. FindsLineComment xs (2 + line_length (drop 2 xs))) (sym e) (line_inside inside)

-- the two units stand at the front, as a test of a slice tells
starts_close : (u : ℕ) (us : List ℕ) → starts_with nat_eq (u ∷ us) (42 ∷ 47 ∷ []) ≡ (u == 42 && begins_with 47 us)
unfolding begins_with
starts_close u [] = and_right (nat_eq 42 u) false refl ∙ sym (and_right (u == 42) false refl)
starts_close u (v ∷ us) =
    let first : nat_eq 42 u ≡ (u == 42) = grind (arith, nat_tests) in
    let second : nat_eq 47 v ≡ (v == 47) = grind (arith, nat_tests) in
    rw (first, second) (ap (λ b. u == 42 && b) (and-true (v == 47)))

module _ (us : List ℕ) (at : ℕ) (so_far : close_from at (drop at us) ≡ close_from 0 us) where
  -- at a place the test tells whether `*/` stands there
  at_place : at < length us → close_from at (drop at us) ≡ (if starts_with nat_eq (drop at us) (42 ∷ 47 ∷ []) then Some at else close_from (at + 1) (drop (at + 1) us))
  unfolding close_from
  at_place h = rw (drop_more us at 0 h, starts_close) refl

  -- it does
  pub close_found : at < length us → starts_with nat_eq (drop at us) (42 ∷ 47 ∷ []) ≡ true → Some at ≡ close_from 0 us
  close_found h e = sym (sym so_far ∙ at_place h ∙ cond-true (starts_with nat_eq (drop at us) (42 ∷ 47 ∷ [])) (Some at) (close_from (at + 1) (drop (at + 1) us)) e)

  -- it doesn't
  pub close_further : at < length us → starts_with nat_eq (drop at us) (42 ∷ 47 ∷ []) ≡ false → close_from (at + 1) (drop (at + 1) us) ≡ close_from 0 us
  close_further h e = sym (cond-false (starts_with nat_eq (drop at us) (42 ∷ 47 ∷ [])) (Some at) (close_from (at + 1) (drop (at + 1) us)) e) ∙ sym (at_place h) ∙ so_far

  -- no place is left
  pub close_nowhere : length us ≤ at → None ≡ close_from 0 us
  unfolding close_from
  close_nowhere h = ap (λ xs. close_from at xs) (sym (drop_all at us h)) ∙ so_far

-- a comment that has an end isn't open, as its units tell
pub block_not_open : (body us rest : List ℕ) → us ≡ spelled_block_comment body ++ rest → OpensComment us → ⊥
block_not_open body us rest e o =
    let same : 47 ∷ 42 ∷ (body ++ (42 ∷ 47 ∷ rest)) ≡ 47 ∷ 42 ∷ o.0 = sym (spelled_whole body rest) ∙ sym e ∙ o.1 in
    let inside : body ++ (42 ∷ 47 ∷ rest) ≡ o.0 = cc in
    true≢false (sym (open_has_none body rest) ∙ ap has_close inside ∙ o.2)
