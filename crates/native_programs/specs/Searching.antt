-- Places of a text in another (ECMA-262 15.5.4.7, 15.5.4.8).
use Rattle.std.specs.Prelude.{ℕ, zero, suc, ◌+◌, ◌-◌, Bool, List, [], ◌∷◌, length, drop, min, Option, Some, None, nat_eq, ℤ, pos, negsuc, ◌+ℤ◌, int_lt, unsigned_abs, if◌then◌else◌}
use Rattle.std.specs.List.{starts_with}

-- whether a text stands at a place of another
abbrev pub stands_at : List ℕ → List ℕ → ℕ → Bool
stands_at subject sought place = starts_with nat_eq (drop place subject) sought

-- the smallest of so many numbers from one on that passes a test
abbrev pub smallest_from : (ℕ → Bool) → ℕ → ℕ → Option ℕ
smallest_from test from zero = None
smallest_from test from (suc n) = if test from then Some from else smallest_from test (from + 1) n

-- the largest number below another that passes a test
abbrev pub largest_below : (ℕ → Bool) → ℕ → Option ℕ
largest_below test zero = None
largest_below test (suc n) = if test n then Some n else largest_below test n

abbrev pub found_at : Option ℕ → ℤ
found_at (Some place) = pos place
found_at None = negsuc 0

-- the smallest place from one on, and no larger than the length, at which a text stands in another; -1 where there is none
abbrev pub found_in : List ℕ → List ℕ → ℤ → ℤ
found_in subject sought from = found_at (smallest_from (stands_at subject sought) (unsigned_abs from) ((length subject + 1) - unsigned_abs from))

-- the largest place up to one, and no larger than the length, at which a text stands in another; -1 where there is none
abbrev pub found_back_in : List ℕ → List ℕ → ℤ → ℤ
found_back_in subject sought from = found_at (largest_below (stands_at subject sought) (min (unsigned_abs from) (length subject) + 1))

-- where the piece that begins at a place ends (15.5.4.14, step 13): an empty separator stands behind each unit
abbrev pub search_from : List ℕ → ℤ → ℤ
search_from [] from = from +ℤ pos 1
search_from (unit ∷ units) from = from

abbrev pub end_or : ℤ → ℤ → ℤ
end_or found size = if int_lt found (pos 0) then size else found

abbrev pub piece_end : List ℕ → List ℕ → ℤ → ℤ
piece_end subject separator from = end_or (found_in subject separator (search_from separator from)) (pos (length subject))
