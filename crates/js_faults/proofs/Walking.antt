-- Orders that are checked place by place, and the nodes that they name.
use Rattle.std.proofs.Common.{refl, sym, ap, ◌∙◌, ◌≡◌, ◌<◌, ◌≤◌, ◌+◌, ◌-◌, ℕ, Bool, true, ◌==◌, ◌&&◌, nat_lt, List, [], length, map, get_or, Option, inl, inr, ◌⊎◌, arith, add-one}
use Rattle.std.specs.Cmp.Lexicographic.{slice_cmp}
use Rattle.std.specs.Ordering.{is_lt, is_eq, nat_cmp}
use Rattle.std.specs.declared.cmp.Ordering.{Ordering}
use Rattle.std.specs.declared.cmp.Ordering.TheVariants.{Less, Equal, Greater}
use Rattle.std.proofs.lemmas.Bool.{cases_eq, or_cases, and_parts, false≢true, ltb-true, eqb-true}
use Rattle.std.proofs.lemmas.List.{get_or-map, length-map}
use Rattle.std.proofs.lemmas.Map.Text.{is_eq-slice_cmp}
use Rattle.js_faults.specs.declared.fault.EarlyErrorKind.{EarlyErrorKind}
use Rattle.js_faults.specs.Faults.{earlier, first_of}
use Rattle.js_faults.specs.declared.fault.EarlyError.{EarlyError}
use Rattle.js_ast.specs.Orders.{rank, IsOrder}
use Rattle.js_faults.specs.Ordered.{Entry, no_entry, nth, keys_of, one_key, of_repeats, rises_at, told_in_order}
use Rattle.js_faults.proofs.Alike.{told}
use Rattle.js_faults.proofs.Neighbours.{order_tells}
use Rattle.js_faults.proofs.Runs.{names_one}
use Rattle.js_faults.proofs.Told.{first_of_append}

-- what a node shows stands at its place
pub shown_at : {X : Type 0} (shows : X → Entry) (xs : List X) (i : ℕ) (x : X) → i < length xs → x ≡ get_or xs i x → shows x ≡ nth (map shows xs) i
shown_at shows xs i x lt is = ap shows is ∙ sym (get_or-map shows xs i x no_entry lt)

-- the places of an order name nodes
pub names_node : {X : Type 0} (shows : X → Entry) (xs : List X) (order : List ℕ) (p : ℕ) → IsOrder (keys_of (map shows xs)) order → p < length order → get_or order p 0 < length xs
names_node shows xs order p is lt = rw (← length-map xs shows) (names_one (map shows xs) order is p lt)

-- keys that are neither before nor behind another are one
pub same_shown : (a b e f : Entry) (order : Ordering) (result : Bool) → a ≡ e → b ≡ f → order ≡ slice_cmp nat_cmp a.key b.key → result ≡ is_eq order → result ≡ one_key e f
same_shown a b e f order result at_e at_f is tests = tests ∙ ap is_eq (is ∙ ap (λ (x : Entry). slice_cmp nat_cmp x.key b.key) at_e ∙ ap (λ (y : Entry). slice_cmp nat_cmp e.key y.key) at_f) ∙ is_eq-slice_cmp e.key f.key

less_is : (o : Ordering) → is_lt o ≡ true → o ≡ Less
less_is Less e = refl
less_is Equal e = absurd (false≢true e)
less_is Greater e = absurd (false≢true e)

-- an order as far as a place
pub record RisesTo (keys : List (List ℕ)) (order : List ℕ) (many p : ℕ) : Type 0 where
  pub within : (q : ℕ) → q < p → get_or order q 0 < many
  pub rises : (q : ℕ) → 0 < q → q < p → rank keys (get_or order (q - 1) 0) (get_or order q 0) ≡ Less

pub rises_none : (keys : List (List ℕ)) (order : List ℕ) (many : ℕ) → RisesTo keys order many 0
rises_none keys order many = record { within = λ q lt. absurd (omega arith); rises = λ q pos lt. absurd (omega arith) }

pub rises_more : (keys : List (List ℕ)) (order : List ℕ) (many p : ℕ) → RisesTo keys order many p → (nat_lt (get_or order p 0) many && rises_at keys order p) ≡ true → RisesTo keys order many (p + 1)
rises_more keys order many p so_far stands =
    let parts = and_parts (nat_lt (get_or order p 0) many) (rises_at keys order p) stands in
    record {
      within = λ q lt. within (ltb-true (get_or order p 0) many parts.0) q lt (cases_eq q p);
      rises = λ q pos lt. rises parts.1 q pos lt (cases_eq q p);
    }
  where
    within : get_or order p 0 < many → (q : ℕ) → q < p + 1 → (q ≡ p) ⊎ (q ≡ p → ⊥) → get_or order q 0 < many
    within here q lt (inl e) = rw e here
    within here q lt (inr ne) = so_far.within q (omega arith)

    behind : ((p == 0) ≡ true) ⊎ (is_lt (rank keys (get_or order (p - 1) 0) (get_or order p 0)) ≡ true) → 0 < p → rank keys (get_or order (p - 1) 0) (get_or order p 0) ≡ Less
    behind (inl e) pos = let z = eqb-true p 0 e in absurd (omega arith)
    behind (inr e) pos = less_is (rank keys (get_or order (p - 1) 0) (get_or order p 0)) e

    rises : rises_at keys order p ≡ true → (q : ℕ) → 0 < q → q < p + 1 → (q ≡ p) ⊎ (q ≡ p → ⊥) → rank keys (get_or order (q - 1) 0) (get_or order q 0) ≡ Less
    rises here q pos lt (inl e) = rw e (behind (or_cases (p == 0) (is_lt (rank keys (get_or order (p - 1) 0) (get_or order p 0))) here) (omega arith))
    rises here q pos lt (inr ne) = so_far.rises q pos (omega arith)

-- the keys are as many as the nodes
length_shown : {X : Type 0} (shows : X → Entry) (xs : List X) → length (keys_of (map shows xs)) ≡ length xs
length_shown shows xs = length-map (map shows xs) (λ e. e.key) ∙ length-map xs shows

-- to its end
pub rises_all : {X : Type 0} (shows : X → Entry) (xs : List X) (order : List ℕ) (p : ℕ) → length order ≡ length xs → length order ≤ p → RisesTo (keys_of (map shows xs)) order (length xs) p → IsOrder (keys_of (map shows xs)) order
rises_all shows xs order p all le so_far = record {
  all = all ∙ sym (length_shown shows xs);
  within = λ q lt. rw (length_shown shows xs) (so_far.within q (omega arith));
  rises = λ q pos lt. so_far.rises q pos (omega arith);
}

-- what is told so far, and at one place more
pub told_next : (F : ℕ → List EarlyError) (p : ℕ) (first one next : Option EarlyError) → first ≡ first_of (told F p) → one ≡ first_of (F p) → next ≡ earlier first one → next ≡ first_of (told F (p + 1))
told_next F p first one next so_far here now = now ∙ ap (λ f. earlier f one) so_far ∙ ap (earlier (first_of (told F p))) here ∙ sym (ap (λ n. first_of (told F n)) (add-one p) ∙ first_of_append (told F p) (F p))

-- and at all of them
pub told_everywhere : (kind : EarlyErrorKind) (es : List Entry) (order : List ℕ) (p : ℕ) (first : Option EarlyError) → IsOrder (keys_of es) order → p ≤ length order → length order ≤ p
    → first ≡ first_of (told (told_in_order kind es order) p) → first ≡ first_of (of_repeats kind es [] es)
told_everywhere kind es order p first is le ge so_far = let e : p ≡ length order = omega arith in so_far ∙ ap (λ n. first_of (told (told_in_order kind es order) n)) e ∙ order_tells kind es order is
