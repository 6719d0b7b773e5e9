-- What is made of an array as a whole (ECMA-262 15.4.4.2, 15.4.4.4, 15.4.4.5, 15.4.4.8, 15.4.4.10).
use Rattle.std.specs.Prelude.{ℕ, not, List, [], codes, ℤ, pos, negsuc, ◌+ℤ◌, ◌-ℤ◌, int_div, unsigned_abs, if◌then◌else◌}
use Rattle.js_number.specs.declared.primitive.Primitive.TheVariants.{Str}
use Rattle.native_protocol.specs.declared.registers.Reg.{Reg}
use Rattle.native_protocol.specs.declared.request.Request.TheVariants.{Call, Get, Has, Return}
use Rattle.native_protocol.specs.Steps.{Steps, ask, look, ends, is_function, reg}
use Rattle.std.specs.Fmt.{signed_decimal}
use Rattle.native_programs.specs.Asking.{item_reg}
use Rattle.native_programs.specs.Choosing.{count_between, is_array, is_last, is_true, passed, relative}
use Rattle.native_programs.specs.Clauses.{array_length, each_index, free, gives, integer, integer_or, is_value, text_or, this_object, together}
use Rattle.native_programs.specs.Meaning.{each, text_of_seen}
use Rattle.native_programs.specs.Wordings.{class_text}
use Rattle.array_natives.specs.Shared.{Places, array, define_at, delete_at, element, gave, get_at, if_present, made, new_array, other, other_present, places, present, put_at, this_and_length}

-- ---- toString (15.4.4.2)

-- step 3, where `join` can't be called: the steps of Object.prototype.toString (15.2.4.2) for an object
abbrev pub class_given : ℕ → Steps
class_given argc = look (reg 0) (λ s. gives argc (Str (class_text s)))

-- step 4
abbrev pub join_called : ℕ → Steps
join_called argc = ask (Call (made argc) (reg 0) [] (gave argc)) (ends (Return (gave argc)))

abbrev pub to_string : ℕ → Steps
to_string argc = this_object (ask (Get (reg 0) (codes "join") (made argc)) (look (made argc) (λ s. if is_function s then join_called argc else class_given argc)))

-- ---- copies: an element that is present is defined in the new array (15.4.4.4, steps 5b iii; 15.4.4.10, step 10)

abbrev pub copied : ℕ → Reg → Places → (Places → Steps) → Steps
copied argc base p again =
    if_present argc base p.from
    (get_at base p.from (element argc) (define_at argc p.to (element argc) (again (places (p.from +ℤ pos 1) (p.to +ℤ pos 1)))))
    (again (places (p.from +ℤ pos 1) (p.to +ℤ pos 1)))

-- ---- concat (15.4.4.4)

-- one of the items: `this`, and then the arguments (step 4)
abbrev pub item_at : ℤ → Reg
item_at i = item_reg (unsigned_abs i)

-- step 5b iii: the elements of an array
abbrev pub all_copied : ℕ → Places → (Places → Steps) → ℤ → Steps
all_copied argc p again len =
    each (count_between (pos 0) len) (copied argc (item_at p.from)) (λ q. again (places (p.from +ℤ pos 1) q.to)) (places (pos 0) p.to)

-- step 5: an item that is no array is an element itself
abbrev pub item_added_by : (ℤ → Steps) → ℕ → Places → (Places → Steps) → Steps
item_added_by copies argc p again =
    look (item_at p.from) (λ s. if not (is_array s)
    then define_at argc p.to (item_at p.from) (again (places (p.from +ℤ pos 1) (p.to +ℤ pos 1)))
    else array_length argc (item_at p.from) copies)

abbrev pub item_added : ℕ → Places → (Places → Steps) → Steps
item_added argc p again = item_added_by (all_copied argc p again) argc p again

abbrev pub concatenated : ℕ → Steps
concatenated argc = each (count_between (pos 0) (passed argc 0 +ℤ pos 1)) (item_added argc) (λ p. ends (Return (array argc))) (places (pos 0) (pos 0))

-- steps 1 and 2
abbrev pub concat_by : Steps → ℕ → Steps
concat_by concatenates argc = this_object (new_array argc concatenates)

abbrev pub concat : ℕ → Steps
concat argc = concat_by (concatenated argc) argc

-- ---- join (15.4.4.5)

-- an index, and the text of the elements before it
pub record Joining : Type 0 where
  pub at : ℤ
  pub text : List ℕ

abbrev pub joining : ℤ → List ℕ → Joining
joining at text = record { at = at; text = text }

-- a text is appended to that, and the separator where another element follows
abbrev pub text_joined : ℤ → List ℕ → Joining → (Joining → Steps) → List ℕ → Steps
text_joined len sep j again units =
    together j.text units (λ whole. if is_last j.at len then again (joining (j.at +ℤ pos 1) whole) else together whole sep (λ more. again (joining (j.at +ℤ pos 1) more)))

-- steps 7, 8 and 10: undefined and null count as the empty text
abbrev pub element_joined : ℕ → ℤ → List ℕ → Joining → (Joining → Steps) → Steps
element_joined argc len sep j again =
    get_at (reg 0) j.at (element argc)
    (look (element argc) (λ s. if is_value s then text_of_seen s (element argc) (free argc 0) (free argc 1) (λ units at. text_joined len sep j again units) else text_joined len sep j again []))

-- steps 6 to 11
abbrev pub joined : ℕ → ℤ → List ℕ → Steps
joined argc len sep = each (count_between (pos 0) len) (element_joined argc len sep) (λ j. gives argc (Str j.text)) (joining (pos 0) [])

-- steps 1 to 5
abbrev pub joins_by : (ℤ → List ℕ → Steps) → ℕ → Steps
joins_by joins argc = this_and_length argc (λ len. text_or argc (reg 2) (codes ",") (joins len))

abbrev pub join : ℕ → Steps
join argc = joins_by (joined argc) argc

-- ---- reverse (15.4.4.8)

-- steps 6h to 6k, with what the tests of the lower and the upper place gave
abbrev pub swapped : ℕ → ℤ → ℤ → Steps → Steps
swapped argc lower upper next =
    look (present argc) (λ s. if is_true s
    then look (other_present argc) (λ t. if is_true t then put_at lower (other argc) (put_at upper (element argc) next) else delete_at argc lower (put_at upper (element argc) next))
    else look (other_present argc) (λ t. if is_true t then put_at lower (other argc) (delete_at argc upper next) else next))

-- steps 6a to 6g
abbrev pub turned : ℕ → ℤ → ℤ → Steps → Steps
turned argc lower upper next =
    get_at (reg 0) lower (element argc) (get_at (reg 0) upper (other argc)
    (ask (Has (reg 0) (signed_decimal lower) (present argc)) (ask (Has (reg 0) (signed_decimal upper) (other_present argc)) (swapped argc lower upper next))))

-- steps 4 to 7: a place from the start, and the one that is as far from the end
abbrev pub reversed : ℕ → ℤ → Steps
reversed argc len = each_index (pos 0) (int_div len (pos 2)) (λ lower again. turned argc lower ((len -ℤ lower) +ℤ negsuc 0) again) (ends (Return (reg 0)))

abbrev pub reverse_by : (ℤ → Steps) → ℕ → Steps
reverse_by reverses argc = this_and_length argc reverses

abbrev pub reverse : ℕ → Steps
reverse argc = reverse_by (reversed argc) argc

-- ---- slice (15.4.4.10)

-- steps 9 to 11; the `length` of the new array isn't put
abbrev pub sliced : ℕ → ℤ → ℤ → Steps
sliced argc from until = each (count_between from until) (copied argc (reg 0)) (λ p. ends (Return (array argc))) (places from (pos 0))

-- steps 5 to 8: both ends count from the end of the array where they are below 0
abbrev pub slice_ends : (ℤ → ℤ → ℤ → Steps) → ℕ → ℤ → Steps
slice_ends slices argc len = integer argc (reg 2) (λ start. integer_or argc (reg 3) len (λ stop. slices len (relative start len) (relative stop len)))

-- steps 1 to 4
abbrev pub slice_by : (ℤ → ℤ → ℤ → Steps) → ℕ → Steps
slice_by slices argc = this_object (new_array argc (array_length argc (reg 0) (slice_ends slices argc)))

abbrev pub slice : ℕ → Steps
slice argc = slice_by (λ len from until. sliced argc from until) argc
