-- Functions in the order of their first tokens, and their numbers.
use Rattle.std.proofs.Common.{arith, refl, sym, ap, ap₂, subst, ◌∙◌, ◌≡◌, ◌<◌, ◌≤◌, ◌+◌, ℕ, zero, suc, Bool, true, false, List, [], ◌∷◌, ◌++◌, map, length, take, drop, get_or, leb, nat_eq, Option, Some, None, if◌then◌else◌}
use Rattle.std.specs.List.{slice_get, position_or_len}
use Rattle.std.specs.Option.{option_map}
use Rattle.std.proofs.lemmas.Bool.{leb-false, eqb-true, eq-eqb, ne_eqb, false≢true}
use Rattle.std.proofs.lemmas.Option.{none-some, same_Some}
use Rattle.std.proofs.lemmas.List.{length-map, map-append, take_more, take_all, drop_more, at_drop_all}
use Rattle.std.proofs.lemmas.List.Recursion.{is_position_or_len}
use Rattle.js_ast.specs.declared.trees.Function as tree
use Rattle.js_ast.specs.Trees.{Function}
use Rattle.js_ast.specs.Functions.{FunctionCode, numbered}
use Rattle.js_ast.specs.Held.{code_of, held}
use Rattle.js_ast.specs.Views.{view_function}
use Rattle.es_meaning.specs.Functions.{begins_at, number_in}
use Rattle.function_table.specs.Tables.{table, rises, rises_after, begins_there, begins_where}

-- ---- the place of a function in a list

abbrev begins_by : ℕ → FunctionCode → Bool
begins_by at code = nat_eq (begins_at code.function) at

abbrev first_of : ℕ → List FunctionCode → ℕ
first_of at [] = 0
first_of at (code ∷ codes) = if begins_by at code then 0 else 1 + first_of at codes

first_is : (at : ℕ) (codes : List FunctionCode) → first_of at codes ≡ position_or_len (begins_by at) codes
first_is at codes = is_position_or_len (first_of at) (begins_by at) refl (λ x xs. refl) codes

first_here : (at : ℕ) (code : FunctionCode) (codes : List FunctionCode) → begins_by at code ≡ true → position_or_len (begins_by at) (code ∷ codes) ≡ 0
first_here at code codes is = sym (first_is at (code ∷ codes)) ∙ ap (λ b. if b then 0 else 1 + first_of at codes) is

first_behind : (at : ℕ) (code : FunctionCode) (codes : List FunctionCode) → begins_by at code ≡ false → position_or_len (begins_by at) (code ∷ codes) ≡ suc (position_or_len (begins_by at) codes)
first_behind at code codes is =
    let one : 1 + position_or_len (begins_by at) codes ≡ suc (position_or_len (begins_by at) codes) = omega arith in
    sym (first_is at (code ∷ codes)) ∙ ap (λ b. if b then 0 else 1 + first_of at codes) is ∙ ap (λ n. 1 + n) (first_is at codes) ∙ one

-- ---- where they rise, each is the first that begins where it does

unless : (b : Bool) (rest : Bool) → (if b then false else rest) ≡ true → (b ≡ false) × (rest ≡ true)
unless true rest is = absurd (false≢true is)
unless false rest is = (refl, is)

pub number_after : (last : ℕ) (codes : List FunctionCode) (n : ℕ) (g : FunctionCode) → rises_after last codes ≡ true → slice_get codes n ≡ Some g → (last < begins_at g.function) × (position_or_len (begins_by (begins_at g.function)) codes ≡ n)
number_after last [] n g rise there = absurd (none-some g there)
number_after last (x ∷ codes) zero g rise there =
    let parts = unless (leb (begins_at x.function) last) (rises_after (begins_at x.function) codes) rise in
    let same = ap (λ (c : FunctionCode). begins_at c.function) (same_Some x g there) in
    (subst (λ at. last < at) same (leb-false (begins_at x.function) last parts.0), first_here (begins_at g.function) x codes (eq-eqb (begins_at x.function) (begins_at g.function) same))
number_after last (x ∷ codes) (suc n) g rise there =
    let parts = unless (leb (begins_at x.function) last) (rises_after (begins_at x.function) codes) rise in
    let above = leb-false (begins_at x.function) last parts.0 in
    let rest = number_after (begins_at x.function) codes n g parts.1 there in
    let more = rest.0 in
    (omega (arith, above, more), first_behind (begins_at g.function) x codes (ne_eqb (begins_at x.function) (begins_at g.function) (λ same. omega (arith, same, more))) ∙ ap suc rest.1)

pub number_rising : (codes : List FunctionCode) (n : ℕ) (g : FunctionCode) → rises codes ≡ true → slice_get codes n ≡ Some g → position_or_len (begins_by (begins_at g.function)) codes ≡ n
number_rising [] n g rise there = absurd (none-some g there)
number_rising (x ∷ codes) zero g rise there = first_here (begins_at g.function) x codes (eq-eqb (begins_at x.function) (begins_at g.function) (ap (λ (c : FunctionCode). begins_at c.function) (same_Some x g there)))
number_rising (x ∷ codes) (suc n) g rise there =
    let rest = number_after (begins_at x.function) codes n g rise there in
    let more = rest.0 in
    first_behind (begins_at g.function) x codes (ne_eqb (begins_at x.function) (begins_at g.function) (λ same. omega (arith, same, more))) ∙ ap suc rest.1

number_by : (codes : List FunctionCode) (n : ℕ) (f : Function) (c : Option FunctionCode) → slice_get codes n ≡ c → begins_where c f ≡ true → rises codes ≡ true → n ≡ number_in codes f
unfolding number_in
number_by codes n f None there here rise = absurd (false≢true here)
number_by codes n f (Some g) there here rise =
    sym (ap (λ at. position_or_len (begins_by at) codes) (sym (eqb-true (begins_at g.function) (begins_at f) here)) ∙ number_rising codes n g rise there)

pub number_is : (codes : List FunctionCode) (n : ℕ) (f : Function) → begins_there codes n f ≡ true → rises codes ≡ true → n ≡ number_in codes f
number_is codes n f here rise = number_by codes n f (slice_get codes n) refl here rise

-- ---- lists of what leads to functions

module _ {X : Type 0} (node : X → tree.Function) where
  abbrev pub codes : List X → List FunctionCode
  codes xs = table (map node xs)

  -- in a loop, what so many lead to
  pub one_listed : (xs : List X) (k : ℕ) (x : X) (old new : List tree.Function) (f : tree.Function) → k < length xs → x ≡ get_or xs k x → old ≡ map node (take k xs) → new ≡ old ++ f ∷ [] → f ≡ node x → new ≡ map node (take (k + 1) xs)
  one_listed xs k x old new f lt is so_far more same =
      more ∙ ap₂ (λ fs g. fs ++ g ∷ []) so_far same ∙ sym (map-append node (take k xs) (x ∷ []))
      ∙ ap (λ ys. map node ys) (ap (λ y. take k xs ++ y ∷ []) is ∙ sym (take_more xs k x lt))

  pub all_listed : (xs : List X) (k : ℕ) (fs : List tree.Function) → length xs ≤ k → fs ≡ map node (take k xs) → fs ≡ map node xs
  all_listed xs k fs le so_far = so_far ∙ ap (λ ys. map node ys) (take_all k xs le)

  codes_are : (xs : List X) → codes xs ≡ map (λ h. h.1) (map (λ x. held (node x)) xs)
  codes_are [] = refl
  codes_are (x ∷ xs) = ap (λ cs. code_of (node x) ∷ cs) (codes_are xs)

  without_numbers : (n : ℕ) (fs : List FunctionCode) → map (λ h. h.1) (numbered n fs) ≡ fs
  without_numbers n [] = refl
  without_numbers n (f ∷ fs) = ap (λ gs. f ∷ gs) (without_numbers (n + 1) fs)

  pub listed : (xs : List X) (fs : List FunctionCode) → map (λ x. held (node x)) xs ≡ numbered 0 fs → codes xs ≡ fs
  listed xs fs is = codes_are xs ∙ ap (map (λ h. h.1)) is ∙ without_numbers 0 fs

  pub length_codes : (xs : List X) → length (codes xs) ≡ length xs
  length_codes xs = length-map (map node xs) code_of ∙ length-map xs node

  pub code_there : (xs : List X) (n : ℕ) → slice_get (codes xs) n ≡ option_map (λ x. code_of (node x)) (slice_get xs n)
  code_there [] n = refl
  code_there (x ∷ xs) zero = refl
  code_there (x ∷ xs) (suc n) = code_there xs n

  -- a search from the front
  pub found_at : (f : Function) (xs : List X) (i : ℕ) (x : X) → i < length xs → ((k : ℕ) (d : X) → k < i → nat_eq (begins_at (view_function (node (get_or xs k d)))) (begins_at f) ≡ false) → x ≡ get_or xs i x → nat_eq (begins_at (view_function (node x))) (begins_at f) ≡ true → i ≡ number_in (codes xs) f
  unfolding number_in
  found_at f [] i x lt before here is = absurd (omega arith)
  found_at f (y ∷ xs) zero x lt before here is = sym (first_here (begins_at f) (code_of (node y)) (codes xs) (subst (λ z. nat_eq (begins_at (view_function (node z))) (begins_at f) ≡ true) here is))
  found_at f (y ∷ xs) (suc i) x lt before here is =
      ap suc (found_at f xs i x (omega arith) (λ k d below. before (suc k) d (omega arith)) here is)
      ∙ sym (first_behind (begins_at f) (code_of (node y)) (codes xs) (before 0 y (omega arith)))

  pub found_nowhere : (f : Function) (xs : List X) → ((k : ℕ) (d : X) → k < length xs → nat_eq (begins_at (view_function (node (get_or xs k d)))) (begins_at f) ≡ false) → length xs ≡ number_in (codes xs) f
  unfolding number_in
  found_nowhere f [] before = first_is (begins_at f) []
  found_nowhere f (y ∷ xs) before =
      ap suc (found_nowhere f xs (λ k d below. before (suc k) d (omega arith)))
      ∙ sym (first_behind (begins_at f) (code_of (node y)) (codes xs) (before 0 y (omega arith)))

  -- a test of each with the one before
  pub rises_on : (first last : ℕ) (xs : List X) (k : ℕ) (x : X) → k < length xs → x ≡ get_or xs k x → rises_after last (codes (drop k xs)) ≡ rises_after first (codes xs)
      → rises_after first (codes xs) ≡ (if leb (begins_at (view_function (node x))) last then false else rises_after (begins_at (view_function (node x))) (codes (drop (k + 1) xs)))
  rises_on first last xs k x lt is so_far = sym so_far ∙ ap (λ ys. rises_after last (codes ys)) (drop_more xs k x lt ∙ ap (λ y. y ∷ drop (k + 1) xs) (sym is))

  pub rises_to_the_end : (first last : ℕ) (xs : List X) (k : ℕ) → length xs ≤ k → rises_after last (codes (drop k xs)) ≡ rises_after first (codes xs) → rises_after first (codes xs) ≡ true
  rises_to_the_end first last xs k le so_far = sym so_far ∙ at_drop_all (λ ys. rises_after last (codes ys)) xs k le
