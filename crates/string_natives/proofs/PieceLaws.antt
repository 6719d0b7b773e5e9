-- The lines of `split` mean its clause.
use Rattle.std.proofs.Common.{◌≡◌, ℕ, zero, suc, ◌+◌, ◌-◌, ◌<◌, ◌≤◌, Bool, true, false, cond, ltb, not, List, [], ◌∷◌, length, take, drop, ℤ, pos, Option, Some, None, unwrap_or, refl, sym, ap, ap₂, ◌∙◌, arith, le-ltb, lt-ltb, ltb-true, ltb-false, ne_eqb, take_all, length-drop, length-take}
use Rattle.std.specs.Fmt.{signed_decimal}
use Rattle.std.specs.List.{starts_with}
use Rattle.std.specs.Option.{option_map}
use Rattle.std.specs.Ordering.{int_eq, is_eq}
use Rattle.std.specs.Prelude.{nat_eq}
use Rattle.std.proofs.Common.{Less, Equal, Greater}
use Rattle.std.proofs.lemmas.List.{drop-drop}
use lib.Pointwise.{pointwise_long}
use mathlib.Core.Path.{fun_ext}
use Rattle.js_number.specs.declared.primitive.Primitive.TheVariants.{Str}
use Rattle.native_protocol.specs.declared.request.Request.TheVariants.{Define, Make, Return}
use Rattle.native_protocol.specs.declared.request.Seen.{Seen}
use Rattle.native_protocol.specs.Steps.{Steps, ask, ends}
use Rattle.native_programs.proofs.LoopLaws.{turn_body, endless_once}
use Rattle.native_programs.specs.declared.line.Ask.TheVariants as asking
use Rattle.native_programs.specs.declared.line.Count.TheVariants as count
use Rattle.native_programs.specs.declared.line.Counter.TheVariants as counter
use Rattle.native_programs.specs.declared.line.Fresh.TheVariants as fresh
use Rattle.native_programs.specs.declared.line.Place.TheVariants as place
use Rattle.native_programs.specs.declared.line.TextSlot.TheVariants as slot
use Rattle.native_programs.specs.declared.values.Values.{Values}
use Rattle.native_programs.specs.Choosing.{is_empty, is_undefined}
use Rattle.native_programs.specs.Asking.{data_marks}
use Rattle.native_programs.specs.Clauses.{free}
use Rattle.native_programs.specs.Meaning.{endless, fails, meaning, means}
use Rattle.native_programs.specs.Searching.{end_or, found_at, piece_end, smallest_from, stands_at}
use Rattle.native_programs.specs.Values.{values_begin}
use Rattle.native_programs.specs.Wordings.{part_of}
use Rattle.string_natives.specs.declared.parts.TheConstants.{SPLIT}
use Rattle.string_natives.specs.Pieces.{elements, limited, split_by, split}
use Rattle.string_natives.specs.Texts.{piece_size, pieces_within, pieces}
use Rattle.string_natives.proofs.TextLaws.{part_is}

-- ---- the smallest number that passes a test

smallest_within_by : (t : Bool) (from d : ℕ) (o : Option ℕ) → from ≤ d → unwrap_or o d ≤ d → unwrap_or (cond t (Some from) o) d ≤ d
smallest_within_by true from d o h k = h
smallest_within_by false from d o h k = k

smallest_within : (test : ℕ → Bool) (from n d : ℕ) → from + n ≤ d + 1 → unwrap_or (smallest_from test from n) d ≤ d
smallest_within test from zero d h = omega arith
smallest_within test from (suc n) d h = smallest_within_by (test from) from d (smallest_from test (from + 1) n) (omega arith) (smallest_within test (from + 1) n d (omega arith))

smallest_above_by : (t : Bool) (from d : ℕ) (o : Option ℕ) → from ≤ unwrap_or o d → from ≤ unwrap_or (cond t (Some from) o) d
smallest_above_by true from d o h = omega arith
smallest_above_by false from d o h = h

smallest_above : (test : ℕ → Bool) (from n d : ℕ) → from + n ≤ d + 1 → from ≤ d → from ≤ unwrap_or (smallest_from test from n) d
smallest_above test from zero d h k = k
smallest_above test from (suc zero) d h k = smallest_above_by (test from) from d None k
smallest_above test from (suc (suc m)) d h k =
    let more : from + 1 ≤ unwrap_or (smallest_from test (from + 1) (suc m)) d = smallest_above test (from + 1) (suc m) d (omega arith) (omega arith) in
    smallest_above_by (test from) from d (smallest_from test (from + 1) (suc m)) (omega (arith, more))

smallest_passes_by : (test : ℕ → Bool) (t : Bool) (from d : ℕ) (o : Option ℕ) → test from ≡ t → (unwrap_or o d < d → test (unwrap_or o d) ≡ true) → unwrap_or (cond t (Some from) o) d < d → test (unwrap_or (cond t (Some from) o) d) ≡ true
smallest_passes_by test true from d o e h less = e
smallest_passes_by test false from d o e h less = h less

smallest_passes : (test : ℕ → Bool) (from n d : ℕ) → unwrap_or (smallest_from test from n) d < d → test (unwrap_or (smallest_from test from n) d) ≡ true
smallest_passes test from zero d less = absurd (omega arith)
smallest_passes test from (suc n) d less = smallest_passes_by test (test from) from d (smallest_from test (from + 1) n) refl (smallest_passes test (from + 1) n d) less

-- ---- how long the next piece is

size_within : (sep units : List ℕ) → piece_size sep units ≤ length units
size_within [] units = smallest_within (stands_at units []) 1 (length units + 1 - 1) (length units) (omega arith)
size_within (x ∷ xs) units = smallest_within (stands_at units (x ∷ xs)) 0 (length units + 1 - 0) (length units) (omega arith)

-- with its separator it isn't empty
size_some : (sep units : List ℕ) → piece_size sep units < length units → 0 < piece_size sep units + length sep
size_some [] units less =
    let some : 1 ≤ piece_size [] units = smallest_above (stands_at units []) 1 (length units + 1 - 1) (length units) (omega arith) (omega arith) in
    omega (arith, some)
size_some (x ∷ xs) units less = omega arith

there : (units sep : List ℕ) (k : ℕ) → stands_at units sep k ≡ true → k ≤ length units → k + length sep ≤ length units
there units sep k h inside = omega (arith, pointwise_long nat_eq sep (take (length sep) (drop k units)) h, length-take (length sep) (drop k units), length-drop k units)

pub stands_there : (sep units : List ℕ) → piece_size sep units < length units → stands_at units sep (piece_size sep units) ≡ true
stands_there [] units less = smallest_passes (stands_at units []) 1 (length units + 1 - 1) (length units) less
stands_there (x ∷ xs) units less = smallest_passes (stands_at units (x ∷ xs)) 0 (length units + 1 - 0) (length units) less

size_there : (sep units : List ℕ) → piece_size sep units < length units → piece_size sep units + length sep ≤ length units
size_there sep units less = there units sep (piece_size sep units) (stands_there sep units less) (size_within sep units)

-- ---- places of a text and of what stands from a place on

shift_by : (t : Bool) (p f : ℕ) (a b : Option ℕ) → a ≡ option_map (λ k. p + k) b → cond t (Some (p + f)) a ≡ option_map (λ k. p + k) (cond t (Some f) b)
shift_by true p f a b e = refl
shift_by false p f a b e = e

shifted : (units sep : List ℕ) (p f n : ℕ) → smallest_from (stands_at units sep) (p + f) n ≡ option_map (λ k. p + k) (smallest_from (stands_at (drop p units) sep) f n)
shifted units sep p f zero = refl
shifted units sep p f (suc n) =
    let next : p + f + 1 ≡ p + (f + 1) = omega arith in
    ap (λ us. cond (starts_with nat_eq us sep) (Some (p + f)) (smallest_from (stands_at units sep) (p + f + 1) n)) (sym (drop-drop f p units))
    ∙ shift_by (stands_at (drop p units) sep f) p f _ _ (ap (λ k. smallest_from (stands_at units sep) k n) next ∙ shifted units sep p (f + 1) n)

end_of : (o : Option ℕ) (p size rest : ℕ) → size ≡ p + rest → end_or (found_at (option_map (λ k. p + k) o)) (pos size) ≡ pos (p + unwrap_or o rest)
end_of None p size rest e = ap pos e
end_of (Some k) p size rest e = ap (λ t. cond t (pos size) (pos (p + k))) (le-ltb (p + k) 0 (omega arith))

ends_at : (units sep : List ℕ) (p f : ℕ) → p ≤ length units
    → end_or (found_at (smallest_from (stands_at units sep) (p + f) (length units + 1 - (p + f)))) (pos (length units)) ≡ pos (p + unwrap_or (smallest_from (stands_at (drop p units) sep) f (length (drop p units) + 1 - f)) (length (drop p units)))
ends_at units sep p f inside =
    let same : length units + 1 - (p + f) ≡ length (drop p units) + 1 - f = omega (arith, length-drop p units) in
    ap (λ n. end_or (found_at (smallest_from (stands_at units sep) (p + f) n)) (pos (length units))) same
    ∙ ap (λ o. end_or (found_at o) (pos (length units))) (shifted units sep p f (length (drop p units) + 1 - f))
    ∙ end_of (smallest_from (stands_at (drop p units) sep) f (length (drop p units) + 1 - f)) p (length units) (length (drop p units)) (omega (arith, length-drop p units))

ends_is : (units sep : List ℕ) (p : ℕ) → p ≤ length units → piece_end units sep (pos p) ≡ pos (p + piece_size sep (drop p units))
ends_is units [] p inside = ends_at units [] p 1 inside
ends_is units (x ∷ xs) p inside =
    let same : p ≡ p + 0 = omega arith in
    ap (λ n. end_or (found_at (smallest_from (stands_at units (x ∷ xs)) n (length units + 1 - n))) (pos (length units))) same ∙ ends_at units (x ∷ xs) p 0 inside

-- ---- the loop

-- the text, the separator and the limit; where the piece begins and ends; and its index
at_piece : ℕ → Bool → List ℕ → List ℕ → ℕ → ℕ → ℤ → ℕ → Values
at_piece argc construct units sep most p until index =
    record (values_begin argc construct) { subject = units; sought = sep; length = pos (length units); last = pos most; items = pos (length sep); first = pos p; index = until; count = pos index }

piece_turn : Values → (Values → Steps) → Steps
piece_turn = turn_body count.Endless (asking.Make (fresh.Part slot.Subject counter.First counter.Index) (place.Free 2)) (drop 19 SPLIT) (meaning (suc zero) (drop 19 SPLIT) fails fails)

-- a piece becomes an element, and then the array is given
element : ℕ → ℕ → List ℕ → Steps → Steps
element argc index piece next = ask (Make (Str piece) (free argc 2)) (ask (Define (free argc 3) (signed_decimal (pos index)) (data_marks true) (Some (free argc 2)) None None) next)

given : ℕ → Steps
given argc = ends (Return (free argc 3))

take_none : (m : ℕ) → let none : List (List ℕ) = [] in take m none ≡ none
take_none zero = refl
take_none (suc m) = refl

-- a turn takes one piece: by whether the limit is reached, and whether a separator ends the piece
turn_by : (s t : Bool) (argc index most k : ℕ) (rest : List ℕ) (more : List (List ℕ)) (again : Steps) → ltb (index + 1) most ≡ s → ltb k (length rest) ≡ t
    → (index + 1 < most → k < length rest → again ≡ elements argc (index + 1) (take (most - (index + 1)) more))
    → element argc index (take k rest) (cond (not s) (given argc) (cond (not t) (given argc) again)) ≡ elements argc index (take (suc (most - (index + 1))) (cond t (take k rest ∷ more) (rest ∷ [])))
unfolding element given
turn_by true false argc index most k rest more again e f h =
    ap₂ (element argc index) (take_all k rest (ltb-false k (length rest) f)) (ap (elements argc (index + 1)) (sym (take_none (most - (index + 1)))))
turn_by false false argc index most k rest more again e f h =
    ap₂ (element argc index) (take_all k rest (ltb-false k (length rest) f)) (ap (elements argc (index + 1)) (sym (take_none (most - (index + 1)))))
turn_by false true argc index most k rest more again e f h =
    let none : 0 ≡ most - (index + 1) = omega (arith, ltb-false (index + 1) most e) in
    ap (λ j. element argc index (take k rest) (elements argc (index + 1) (take j more))) none
turn_by true true argc index most k rest more again e f h =
    ap (element argc index (take k rest)) (h (ltb-true (index + 1) most e) (ltb-true k (length rest) f))

same_test_by : (t : Bool) (p k size rest : ℕ) → size ≡ p + rest → ltb k rest ≡ t → ltb (p + k) size ≡ t
same_test_by true p k size rest e f = lt-ltb (p + k) size (omega (arith, ltb-true k rest f))
same_test_by false p k size rest e f = le-ltb (p + k) size (omega (arith, ltb-false k rest f))

-- what follows a piece
next_turn : ℕ → Bool → List ℕ → List ℕ → ℕ → ℕ → ℕ → Steps
next_turn argc construct units sep most p index = endless piece_turn (at_piece argc construct units sep most p (piece_end units sep (pos p)) index)

piece_taken : (argc : ℕ) (construct : Bool) (units sep : List ℕ) (most p k index : ℕ)
    → endless piece_turn (at_piece argc construct units sep most p (pos (p + k)) index)
    ≡ element argc index (part_of units (pos p) (pos (p + k))) (cond (not (ltb (index + 1) most)) (given argc) (cond (not (ltb (p + k) (length units))) (given argc) (next_turn argc construct units sep most (p + k + length sep) (index + 1))))
unfolding piece_turn at_piece element given next_turn
piece_taken argc construct units sep most p k index =
    endless_once count.Endless (asking.Make (fresh.Part slot.Subject counter.First counter.Index) (place.Free 2)) (drop 19 SPLIT) (meaning (suc zero) (drop 19 SPLIT) fails fails) (at_piece argc construct units sep most p (pos (p + k)) index)

turn_is : (argc : ℕ) (construct : Bool) (units sep : List ℕ) (most p k index : ℕ) (more : List (List ℕ)) → p ≤ length units → index < most → k ≤ length (drop p units)
    → (index + 1 < most → k < length (drop p units) → next_turn argc construct units sep most (p + k + length sep) (index + 1) ≡ elements argc (index + 1) (take (most - (index + 1)) more))
    → endless piece_turn (at_piece argc construct units sep most p (pos (p + k)) index) ≡ elements argc index (take (most - index) (cond (ltb k (length (drop p units))) (take k (drop p units) ∷ more) (drop p units ∷ [])))
turn_is argc construct units sep most p k index more inside below within h =
    let size : length units ≡ p + length (drop p units) = omega (arith, length-drop p units) in
    let back : p + k - p ≡ k = omega arith in
    let left : suc (most - (index + 1)) ≡ most - index = omega arith in
    piece_taken argc construct units sep most p k index
    ∙ ap₂ (λ part t. element argc index part (cond (not (ltb (index + 1) most)) (given argc) (cond (not t) (given argc) (next_turn argc construct units sep most (p + k + length sep) (index + 1)))))
    (part_is units p (p + k) (omega arith) (omega arith) ∙ ap (λ j. take j (drop p units)) back)
    (same_test_by (ltb k (length (drop p units))) p k (length units) (length (drop p units)) size refl)
    ∙ turn_by (ltb (index + 1) most) (ltb k (length (drop p units))) argc index most k (drop p units) more (next_turn argc construct units sep most (p + k + length sep) (index + 1)) refl refl h
    ∙ ap (λ m. elements argc index (take m (cond (ltb k (length (drop p units))) (take k (drop p units) ∷ more) (drop p units ∷ [])))) left

all_taken : (argc : ℕ) (construct : Bool) (units sep : List ℕ) (most n p index : ℕ) → p ≤ length units → length (drop p units) ≤ n → index < most
    → next_turn argc construct units sep most p index ≡ elements argc index (take (most - index) (pieces_within n sep (drop p units)))
unfolding next_turn
all_taken argc construct units sep most zero p index inside short below =
    ap (λ i. endless piece_turn (at_piece argc construct units sep most p i index)) (ends_is units sep p inside)
    ∙ turn_is argc construct units sep most p (piece_size sep (drop p units)) index [] inside below (size_within sep (drop p units)) (λ i less. absurd (omega arith))
    ∙ ap (λ t. elements argc index (take (most - index) (cond t (take (piece_size sep (drop p units)) (drop p units) ∷ []) (drop p units ∷ [])))) (le-ltb (piece_size sep (drop p units)) (length (drop p units)) (omega arith))
all_taken argc construct units sep most (suc n) p index inside short below =
    ap (λ i. endless piece_turn (at_piece argc construct units sep most p i index)) (ends_is units sep p inside)
    ∙ turn_is argc construct units sep most p (piece_size sep (drop p units)) index (pieces_within n sep (drop (piece_size sep (drop p units) + length sep) (drop p units))) inside below (size_within sep (drop p units))
    (λ more less.
    let len = length-drop p units in
    let fits = size_there sep (drop p units) less in
    let some = size_some sep (drop p units) less in
    let spot : p + (piece_size sep (drop p units) + length sep) ≡ p + piece_size sep (drop p units) + length sep = omega arith in
    all_taken argc construct units sep most n (p + piece_size sep (drop p units) + length sep) (index + 1)
    (omega (arith, len, fits)) (omega (arith, len, fits, some, length-drop (p + piece_size sep (drop p units) + length sep) units)) more
    ∙ ap (λ us. elements argc (index + 1) (take (most - (index + 1)) (pieces_within n sep us)))
    (ap (λ j. drop j units) (sym spot) ∙ sym (drop-drop (piece_size sep (drop p units) + length sep) p units)))

-- ---- what stands in front of the loop

int_some : (n : ℕ) → 0 < n → int_eq (pos n) (pos 0) ≡ false
int_some n h = ap₂ (λ s t. is_eq (cond s Less (cond t Greater Equal))) (le-ltb n 0 (omega arith)) (lt-ltb 0 n h)

loop_is : (argc : ℕ) (construct : Bool) (units sep : List ℕ) (most : ℕ) → 0 < most → next_turn argc construct units sep most 0 0 ≡ elements argc 0 (take most (pieces_within (length units) sep units))
loop_is argc construct units sep most h =
    let whole : most - 0 ≡ most = omega arith in
    all_taken argc construct units sep most (length units) 0 0 (omega arith) (omega arith) h
    ∙ ap (λ m. elements argc 0 (take m (pieces_within (length units) sep units))) whole

-- an empty text is looked at by itself
guarded : ℕ → Bool → List ℕ → List ℕ → ℕ → Steps
guarded argc construct units sep most =
    cond (int_eq (pos (length units)) (pos 0)) (cond (is_empty sep) (given argc) (next_turn argc construct units sep most 0 0)) (next_turn argc construct units sep most 0 0)

guarded_is : (argc : ℕ) (construct : Bool) (units sep : List ℕ) (most : ℕ) → 0 < most → guarded argc construct units sep most ≡ elements argc 0 (take most (pieces sep units))
unfolding guarded given
guarded_is argc construct [] [] most h = ap (elements argc 0) (sym (take_none most))
guarded_is argc construct [] (x ∷ xs) most h =
    ap (λ t. cond t (given argc) (next_turn argc construct [] (x ∷ xs) most 0 0)) (ne_eqb (length (x ∷ xs)) 0 (λ e. omega arith))
    ∙ loop_is argc construct [] (x ∷ xs) most h
guarded_is argc construct (u ∷ us) [] most h =
    ap (λ t. cond t (cond (is_empty []) (given argc) (next_turn argc construct (u ∷ us) [] most 0 0)) (next_turn argc construct (u ∷ us) [] most 0 0)) (int_some (length (u ∷ us)) (omega arith))
    ∙ loop_is argc construct (u ∷ us) [] most h
guarded_is argc construct (u ∷ us) (x ∷ xs) most h =
    ap (λ t. cond t (cond (is_empty (x ∷ xs)) (given argc) (next_turn argc construct (u ∷ us) (x ∷ xs) most 0 0)) (next_turn argc construct (u ∷ us) (x ∷ xs) most 0 0)) (int_some (length (u ∷ us)) (omega arith))
    ∙ loop_is argc construct (u ∷ us) (x ∷ xs) most h

separated_by : (b : Bool) (argc : ℕ) (construct : Bool) (units sep : List ℕ) (m : ℕ)
    → cond b (element argc 0 units (given argc)) (guarded argc construct units sep (suc m)) ≡ elements argc 0 (take (suc m) (cond b (units ∷ []) (pieces sep units)))
unfolding element given
separated_by true argc construct units sep m = ap (λ ps. element argc 0 units (elements argc 1 ps)) (sym (take_none m))
separated_by false argc construct units sep m = guarded_is argc construct units sep (suc m) (omega arith)

-- what follows the conversions
converted : ℕ → Bool → List ℕ → ℕ → Seen → List ℕ → Steps
converted argc construct units most separator sep =
    cond (int_eq (pos most) (pos 0)) (given argc) (cond (is_undefined separator) (element argc 0 units (given argc)) (guarded argc construct units sep most))

converted_is : (argc : ℕ) (construct : Bool) (units : List ℕ) (most : ℕ) (separator : Seen) (sep : List ℕ) → converted argc construct units most separator sep ≡ limited argc units most separator sep
unfolding converted given
converted_is argc construct units zero separator sep = refl
converted_is argc construct units (suc m) separator sep =
    ap (λ t. cond t (given argc) (cond (is_undefined separator) (element argc 0 units (given argc)) (guarded argc construct units sep (suc m)))) (int_some (suc m) (omega arith))
    ∙ separated_by (is_undefined separator) argc construct units sep m

pub split_means : (argc : ℕ) (construct : Bool) → means SPLIT argc construct ≡ split argc
unfolding converted guarded next_turn piece_turn at_piece element given
split_means argc construct =
    ap (λ (rest : List ℕ → ℕ → Seen → List ℕ → Steps). split_by rest argc) (fun_ext (λ units. fun_ext (λ most. fun_ext (λ separator. fun_ext (converted_is argc construct units most separator)))))
