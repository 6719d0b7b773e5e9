-- The searches of an element (ECMA-262 15.4.4.14, 15.4.4.15).
use Rattle.std.specs.Prelude.{ℕ, not, ℤ, pos, negsuc, ◌+ℤ◌, int_lt, nat_lt, if◌then◌else◌}
use Rattle.std.specs.Ordering.{int_eq}
use Rattle.js_number.specs.declared.primitive.Primitive.TheVariants.{Num}
use Rattle.js_number.specs.declared.num.Num.TheVariants.{Int}
use Rattle.native_protocol.specs.declared.request.Request.TheVariants.{Same}
use Rattle.native_protocol.specs.Steps.{Steps, ask, look, reg}
use Rattle.native_programs.specs.Choosing.{is_true, lesser, relative}
use Rattle.native_programs.specs.Clauses.{each_index, each_index_down, gives, integer}
use Rattle.array_natives.specs.Shared.{element, element_or, gave, this_and_length}

-- no element is the one that is sought
abbrev pub not_found : ℕ → Steps
not_found argc = gives argc (Num (Int (negsuc 0)))

-- an element that is present is compared with the one that is sought, by ===
abbrev pub compared : ℕ → ℤ → Steps → Steps
compared argc k again =
    element_or argc k (ask (Same (reg 2) (element argc) (gave argc)) (look (gave argc) (λ s. if not (is_true s) then again else gives argc (Num (Int k))))) again

-- the index from which the search begins: ToInteger of the second argument, where that was passed (step 5)
abbrev pub search_from : ℕ → ℤ → (ℤ → Steps) → Steps
search_from argc default next = if nat_lt 1 argc then integer argc (reg 3) next else next default

-- ---- indexOf (15.4.4.14)

-- steps 9 and 10
abbrev pub searched : ℕ → ℤ → ℤ → Steps
searched argc len from = each_index from len (compared argc) (not_found argc)

-- steps 5 to 8
abbrev pub index_begun : (ℤ → ℤ → Steps) → ℕ → ℤ → Steps
index_begun search argc len = search_from argc (pos 0) (λ n. if not (int_lt n len) then not_found argc else search len (relative n len))

-- steps 1 to 4
abbrev pub index_by : (ℤ → ℤ → Steps) → ℕ → Steps
index_by search argc = this_and_length argc (λ len. if int_eq len (pos 0) then not_found argc else index_begun search argc len)

abbrev pub index_of : ℕ → Steps
index_of argc = index_by (searched argc) argc

-- ---- lastIndexOf (15.4.4.15)

-- steps 8 and 9
abbrev pub searched_back : ℕ → ℤ → Steps
searched_back argc from = each_index_down from (negsuc 0) (compared argc) (not_found argc)

-- steps 5 to 7: what is passed is the length, the second argument's integer, and the index from which the search begins
abbrev pub last_index_begun : (ℤ → ℤ → ℤ → Steps) → ℕ → ℤ → Steps
last_index_begun search argc len =
    search_from argc (len +ℤ negsuc 0) (λ n. if int_lt n (pos 0) then search len n (len +ℤ n) else search len n (lesser n (len +ℤ negsuc 0)))

-- steps 1 to 4
abbrev pub last_index_by : (ℤ → ℤ → ℤ → Steps) → ℕ → Steps
last_index_by search argc = this_and_length argc (λ len. if int_eq len (pos 0) then not_found argc else last_index_begun search argc len)

abbrev pub last_index_of : ℕ → Steps
last_index_of argc = last_index_by (λ len n from. searched_back argc from) argc
