-- Places and parts of texts, as lists of units (ECMA-262 15.5.4).
use Rattle.std.specs.Prelude.{ℕ, zero, suc, ◌-◌, ◌+◌, ◌^◌, min, max, List, [], ◌∷◌, ◌++◌, length, take, drop, slice_get, slice_range, unwrap_or, Option, Some, None, ℤ, pos, negsuc, unsigned_abs, nat_lt, if◌then◌else◌}
use Rattle.std.specs.Int.{int_rem_euclid}
use Rattle.js_number.specs.declared.num.Num.{Num}
use Rattle.js_number.specs.declared.num.Num.TheVariants.{Nan, Int}
use Rattle.native_programs.specs.Searching.{stands_at, smallest_from}

-- ---- places

-- min(max(n, 0), size)
abbrev pub clamped : ℤ → ℕ → ℕ
clamped (pos n) size = min n size
clamped (negsuc n) size = 0

-- max(size + n, 0) for a negative n, and else min(n, size)
abbrev pub from_end : ℤ → ℕ → ℕ
from_end (pos n) size = min n size
from_end (negsuc n) size = size - suc n

-- where `lastIndexOf` begins (15.5.4.8, steps 5 to 7): NaN stands for an infinite number
abbrev pub last_start : Num → ℕ → ℕ
last_start Nan size = size
last_start (Int n) size = clamped n size

-- ---- units

-- ToUint16 (9.7)
abbrev pub uint16 : ℤ → ℕ
uint16 n = unsigned_abs (int_rem_euclid n (pos (2 ^ 16)))

-- the unit at a place, where there is one
abbrev pub unit_in : List ℕ → ℤ → Option ℕ
unit_in units (pos n) = slice_get units n
unit_in units (negsuc n) = None

-- the text of it, or the empty one
abbrev pub text_of_unit : Option ℕ → List ℕ
text_of_unit (Some unit) = unit ∷ []
text_of_unit None = []

-- the number of it, or NaN
abbrev pub number_of_unit : Option ℕ → Num
number_of_unit (Some unit) = Int (pos unit)
number_of_unit None = Nan

-- ---- parts

-- what `slice` gives (15.5.4.13, steps 6 to 9): a part of no units where it would end before it begins
abbrev pub sliced : List ℕ → ℤ → ℤ → List ℕ
sliced units start until = slice_range units (from_end start (length units)) (from_end until (length units))

-- what `substring` gives (15.5.4.15, steps 6 to 10)
abbrev pub part_between : List ℕ → ℕ → ℕ → List ℕ
part_between units a b = slice_range units (min a b) (max a b)

abbrev pub substring_of : List ℕ → ℤ → ℤ → List ℕ
substring_of units start until = part_between units (clamped start (length units)) (clamped until (length units))

-- ---- pieces between separators (15.5.4.14, steps 11 to 15)

-- where a separator is looked for first: the empty one isn't found where a piece begins
abbrev pub first_place : List ℕ → ℕ
first_place [] = 1
first_place (unit ∷ units) = 0

-- how long the piece is with which a text begins: it ends before the first separator, or with the text
abbrev pub piece_size : List ℕ → List ℕ → ℕ
piece_size separator units = unwrap_or (smallest_from (stands_at units separator) (first_place separator) (length units + 1 - first_place separator)) (length units)

-- so many pieces at most, and then the rest
abbrev pub pieces_within : ℕ → List ℕ → List ℕ → List (List ℕ)
pieces_within zero separator units = units ∷ []
pieces_within (suc n) separator units =
    if nat_lt (piece_size separator units) (length units)
    then take (piece_size separator units) units ∷ pieces_within n separator (drop (piece_size separator units + length separator) units)
    else units ∷ []

-- all pieces: after each of them the text is shorter. Between nothing and nothing there is none.
abbrev pub pieces : List ℕ → List ℕ → List (List ℕ)
pieces [] [] = []
pieces separator units = pieces_within (length units) separator units

-- pieces with the separator between them
abbrev pub joined_by : List ℕ → List (List ℕ) → List ℕ
joined_by separator [] = []
joined_by separator (piece ∷ []) = piece
joined_by separator (piece ∷ next ∷ more) = piece ++ (separator ++ joined_by separator (next ∷ more))
