-- Callbacks for each element (ECMA-262 15.4.4.16 to 15.4.4.22).
use Rattle.std.specs.Prelude.{ℕ, not, true, false, [], ◌∷◌, ℤ, pos, negsuc, ◌+ℤ◌, nat_lt, if◌then◌else◌}
use Rattle.js_number.specs.declared.primitive.Primitive.TheVariants.{Bool, Num}
use Rattle.js_number.specs.declared.num.Num.TheVariants.{Int}
use Rattle.native_protocol.specs.declared.request.Request.TheVariants.{Call, Copy, Make, Return}
use Rattle.native_protocol.specs.Steps.{Steps, ask, look, ends, reg, throws_type_error}
use Rattle.native_programs.specs.Choosing.{count_between, is_true}
use Rattle.native_programs.specs.Clauses.{callable, each_index, each_index_down, gives}
use Rattle.native_programs.specs.Meaning.{each}
use Rattle.array_natives.specs.Shared.{Places, array, define_at, element, element_or, gave, get_at, if_present, length_made, made, new_array, nothing, places, this_and_length, total}

-- steps 1 to 4: the callback is the first argument
abbrev pub visits_by : (ℤ → Steps) → ℕ → Steps
visits_by visit argc = this_and_length argc (λ len. callable (reg 2) (visit len))

-- the callback is called with the second argument as `this`, and with an element, its index and the object
abbrev pub called_back : ℕ → ℤ → Steps → Steps
called_back argc k next = ask (Make (Num (Int k)) (made argc)) (ask (Call (reg 2) (reg 3) (element argc ∷ made argc ∷ reg 0 ∷ []) (gave argc)) next)

-- an element that is present is passed to it
abbrev pub visited : ℕ → ℤ → Steps → Steps → Steps
visited argc k next otherwise = element_or argc k (called_back argc k next) otherwise

-- each of them, from the first on
abbrev pub each_visited : ℕ → ℤ → (ℤ → Steps → Steps) → Steps → Steps
each_visited argc len then_do finish = each_index (pos 0) len (λ k again. visited argc k (then_do k again) again) finish

-- ---- every (15.4.4.16): steps 7 and 8

abbrev pub tested : ℕ → ℤ → Steps
tested argc len = each_visited argc len (λ k again. look (gave argc) (λ s. if is_true s then again else gives argc (Bool false))) (gives argc (Bool true))

abbrev pub every : ℕ → Steps
every argc = visits_by (tested argc) argc

-- ---- some (15.4.4.17): steps 7 and 8

abbrev pub sought : ℕ → ℤ → Steps
sought argc len = each_visited argc len (λ k again. look (gave argc) (λ s. if not (is_true s) then again else gives argc (Bool true))) (gives argc (Bool false))

abbrev pub some : ℕ → Steps
some argc = visits_by (sought argc) argc

-- ---- forEach (15.4.4.18): steps 7 and 8

abbrev pub each_called : ℕ → ℤ → Steps
each_called argc len = each_visited argc len (λ k again. again) (ends (Return (nothing argc)))

abbrev pub for_each : ℕ → Steps
for_each argc = visits_by (each_called argc) argc

-- ---- map (15.4.4.19)

-- steps 8 and 9
abbrev pub mapped : ℕ → ℤ → Steps
mapped argc len = each_visited argc len (λ k again. define_at argc k (gave argc) again) (ends (Return (array argc)))

-- step 6: a new array of this length
abbrev pub maps_by : (ℤ → Steps) → ℕ → Steps
maps_by maps argc = visits_by (λ len. new_array argc (length_made argc (array argc) len (maps len))) argc

abbrev pub map_all : ℕ → Steps
map_all argc = maps_by (mapped argc) argc

-- ---- filter (15.4.4.20)

-- steps 9 and 10: an element for which the callback gave what counts as true is added to the new array
abbrev pub chosen : ℕ → Places → (Places → Steps) → Steps
chosen argc p again =
    visited argc p.from
    (look (gave argc) (λ s. if is_true s then define_at argc p.to (element argc) (again (places (p.from +ℤ pos 1) (p.to +ℤ pos 1))) else again (places (p.from +ℤ pos 1) p.to)))
    (again (places (p.from +ℤ pos 1) p.to))

abbrev pub filtered : ℕ → ℤ → Steps
filtered argc len = each (count_between (pos 0) len) (chosen argc) (λ p. ends (Return (array argc))) (places (pos 0) (pos 0))

-- step 6
abbrev pub filters_by : (ℤ → Steps) → ℕ → Steps
filters_by filters argc = visits_by (λ len. new_array argc (filters len)) argc

abbrev pub filter : ℕ → Steps
filter argc = filters_by (filtered argc) argc

-- ---- reduce (15.4.4.21) and reduceRight (15.4.4.22)

-- the callback is called with undefined as `this`, and with what was made so far, an element, its index and the object
abbrev pub folds : ℕ → ℤ → Steps → Steps
folds argc k next =
    element_or argc k (ask (Make (Num (Int k)) (made argc)) (ask (Call (reg 2) (nothing argc) (total argc ∷ element argc ∷ made argc ∷ reg 0 ∷ []) (total argc)) next)) next

-- steps 9 and 10, up
abbrev pub folded : ℕ → ℤ → ℤ → Steps
folded argc len from = each_index from len (folds argc) (ends (Return (total argc)))

-- and down
abbrev pub folded_back : ℕ → ℤ → Steps
folded_back argc from = each_index_down from (negsuc 0) (folds argc) (ends (Return (total argc)))

-- step 8: the first element that is present is what they begin with, and TypeError where there is none, as where the length is 0 (step 5)
abbrev pub first_found : (ℤ → Steps) → ℕ → ℤ → ℤ → Steps → Steps
first_found fold argc k next again = if_present argc (reg 0) k (get_at (reg 0) k (total argc) (fold next)) again

abbrev pub first_by : (ℤ → Steps) → ℕ → ℤ → Steps
first_by fold argc len = each_index (pos 0) len (λ k again. first_found fold argc k (k +ℤ pos 1) again) throws_type_error

abbrev pub last_by : (ℤ → Steps) → ℕ → ℤ → Steps
last_by fold argc len = each_index_down (len +ℤ negsuc 0) (negsuc 0) (λ k again. first_found fold argc k (k +ℤ negsuc 0) again) throws_type_error

-- step 7: the second argument is what they begin with, where it was passed
abbrev pub begun_by : Steps → Steps → ℕ → Steps
begun_by fold found argc = if nat_lt 1 argc then ask (Copy (reg 3) (total argc)) fold else found

abbrev pub reduced : ℕ → ℤ → Steps
reduced argc len = begun_by (folded argc len (pos 0)) (first_by (folded argc len) argc len) argc

abbrev pub reduce : ℕ → Steps
reduce argc = visits_by (reduced argc) argc

abbrev pub reduced_back : ℕ → ℤ → Steps
reduced_back argc len = begun_by (folded_back argc (len +ℤ negsuc 0)) (last_by (folded_back argc) argc len) argc

abbrev pub reduce_right : ℕ → Steps
reduce_right argc = visits_by (reduced_back argc) argc
