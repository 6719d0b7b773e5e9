-- The object that a dotted path leads to, as it is read from its bytes.
use Rattle.std.proofs.Common.{refl, sym, ap, ◌∙◌, ◌≡◌, ◌<◌, ◌≤◌, ◌+◌, ℕ, nat_eq, Bool, true, false, List, [], ◌∷◌, ◌++◌, length, drop, get_or, Option, Some, None, if◌then◌else◌}
use Rattle.std.proofs.lemmas.List.{drop_more, at_drop_all, append_assoc, append-nil}
use Rattle.std.proofs.lemmas.Bool.{cond-true, cond-false}
use Rattle.js_values.specs.Objects.{PlainObject}
use Rattle.es_meaning.specs.Holders.{joined_to_first, dot, parts_of, led_on}
use Rattle.step_start.specs.Ways.{joined, led_behind, Reads}

-- there is always a first part
joined_by : (c : ℕ) (test : Bool) (parts : List (List ℕ)) → joined [] (if test then [] ∷ parts else joined_to_first c parts) ≡ (if test then [] ∷ parts else joined_to_first c parts)
joined_by c true parts = refl
joined_by c false [] = refl
joined_by c false (first ∷ parts) = refl

joined_empty : (path : List ℕ) → joined [] (parts_of path) ≡ parts_of path
joined_empty [] = refl
joined_empty (c ∷ path) = joined_by c (nat_eq c dot) (parts_of path)

joined_more : (part : List ℕ) (c : ℕ) (parts : List (List ℕ)) → joined part (joined_to_first c parts) ≡ joined (part ++ c ∷ []) parts
joined_more part c [] = refl
joined_more part c (first ∷ parts) = ap (λ p. p ∷ parts) (sym (append_assoc part (c ∷ []) first))

module _ (heap : List PlainObject) where
  led_none : (parts : List (List ℕ)) → led_on parts heap None ≡ None
  led_none [] = refl
  led_none (part ∷ parts) = refl

  -- one part, and then the others
  led_then : (part : List ℕ) (parts : List (List ℕ)) (o : Option ℕ) → led_on (part ∷ parts) heap o ≡ led_on parts heap (led_on (part ∷ []) heap o)
  led_then part parts None = sym (led_none parts)
  led_then part parts (Some o) = refl

  module _ (o : Option ℕ) (part : List ℕ) (c : ℕ) where
    -- a dot ends the part
    pub reads_dot : (next : Option ℕ) (none : List ℕ) → nat_eq c dot ≡ true → next ≡ led_on (part ∷ []) heap o → none ≡ [] → Reads heap o part c next none
    reads_dot next none test leads empty = record {
      says = λ rest.
          ap (λ p. led_behind heap next p rest) empty
          ∙ ap (λ parts. led_on parts heap next) (joined_empty rest)
          ∙ ap (led_on (parts_of rest) heap) leads
          ∙ sym (led_then part (parts_of rest) o)
          ∙ ap (λ p. led_on (p ∷ parts_of rest) heap o) (sym (append-nil part))
          ∙ ap (λ parts. led_on (joined part parts) heap o) (sym (cond-true (nat_eq c dot) ([] ∷ parts_of rest) (joined_to_first c (parts_of rest)) test));
    }

    -- another byte goes on with it
    pub reads_more : (more : List ℕ) → nat_eq c dot ≡ false → more ≡ part ++ c ∷ [] → Reads heap o part c o more
    reads_more more test is = record {
      says = λ rest.
          ap (λ p. led_behind heap o p rest) is
          ∙ ap (λ parts. led_on parts heap o) (sym (joined_more part c (parts_of rest)))
          ∙ ap (λ parts. led_on (joined part parts) heap o) (sym (cond-false (nat_eq c dot) ([] ∷ parts_of rest) (joined_to_first c (parts_of rest)) test));
    }

  module _ (path : List ℕ) (whole : Option ℕ) where
    pub way_goes_on : (k d : ℕ) (o next : Option ℕ) (part more : List ℕ) → k < length path → Reads heap o part (get_or path k d) next more → led_behind heap o part (drop k path) ≡ whole → led_behind heap next more (drop (k + 1) path) ≡ whole
    way_goes_on k d o next part more lt reads so_far = reads.says (drop (k + 1) path) ∙ ap (led_behind heap o part) (sym (drop_more path k d lt)) ∙ so_far

    -- the last part ends with the path
    pub way_ends : (k : ℕ) (o : Option ℕ) (part : List ℕ) → length path ≤ k → led_behind heap o part (drop k path) ≡ whole → led_on (part ∷ []) heap o ≡ whole
    way_ends k o part past so_far =
        ap (λ p. led_on (p ∷ []) heap o) (sym (append-nil part))
        ∙ ap (led_behind heap o part) (sym (at_drop_all (λ p. p) path k past)) ∙ so_far

  pub way_begins : (path part : List ℕ) (o : Option ℕ) → part ≡ [] → led_behind heap o part path ≡ led_on (parts_of path) heap o
  way_begins path part o empty = ap (λ p. led_behind heap o p path) empty ∙ ap (λ parts. led_on parts heap o) (joined_empty path)
