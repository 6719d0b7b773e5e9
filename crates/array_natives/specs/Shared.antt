-- Steps that the built-ins of arrays share (ECMA-262 15.4).
use Rattle.std.specs.Prelude.{ℕ, true, codes, Some, None, ℤ, if◌then◌else◌}
use Rattle.std.specs.Fmt.{signed_decimal}
use Rattle.js_number.specs.declared.primitive.Primitive.TheVariants.{Num}
use Rattle.js_number.specs.declared.num.Num.TheVariants.{Int}
use Rattle.js_values.specs.declared.inner.Class.TheVariants as class
use Rattle.native_protocol.specs.declared.registers.Reg.{Reg}
use Rattle.native_protocol.specs.declared.request.Request.TheVariants.{Define, Delete, Get, Has, Make, New, Put}
use Rattle.native_protocol.specs.Steps.{Steps, ask, look, reg}
use Rattle.native_programs.specs.Asking.{data_marks}
use Rattle.native_programs.specs.Choosing.{is_true}
use Rattle.native_programs.specs.Clauses.{array_length, free, this_object}

-- ---- registers: what is made for a request, what a call gave, an element and the one at the other end, whether these are present, what a
-- deletion gave, a new array, what was made of the elements so far, and one that nothing writes, which holds undefined

abbrev pub made : ℕ → Reg
made argc = free argc 2

abbrev pub gave : ℕ → Reg
gave argc = free argc 3

abbrev pub element : ℕ → Reg
element argc = free argc 4

abbrev pub other : ℕ → Reg
other argc = free argc 5

abbrev pub present : ℕ → Reg
present argc = free argc 6

abbrev pub other_present : ℕ → Reg
other_present argc = free argc 7

abbrev pub deleted : ℕ → Reg
deleted argc = free argc 8

abbrev pub array : ℕ → Reg
array argc = free argc 9

abbrev pub total : ℕ → Reg
total argc = free argc 10

abbrev pub nothing : ℕ → Reg
nothing argc = free argc 11

-- ---- `this` and its length: steps 1 to 3 of most functions of the prototype

abbrev pub this_and_length : ℕ → (ℤ → Steps) → Steps
this_and_length argc next = this_object (array_length argc (reg 0) next)

-- ---- the element at an index: its name is the text of the index

abbrev pub get_at : Reg → ℤ → Reg → Steps → Steps
get_at base k to next = ask (Get base (signed_decimal k) to) next

abbrev pub put_at : ℤ → Reg → Steps → Steps
put_at k from next = ask (Put (reg 0) (signed_decimal k) from) next

abbrev pub delete_at : ℕ → ℤ → Steps → Steps
delete_at argc k next = ask (Delete (reg 0) (signed_decimal k) (deleted argc)) next

-- [[HasProperty]], and what is done where there is one and where there is none
abbrev pub if_present : ℕ → Reg → ℤ → Steps → Steps → Steps
if_present argc base k next otherwise =
    ask (Has base (signed_decimal k) (present argc)) (look (present argc) (λ s. if is_true s then next else otherwise))

-- an element that is present is got, and where there is none another step follows
abbrev pub element_or : ℕ → ℤ → Steps → Steps → Steps
element_or argc k next otherwise = if_present argc (reg 0) k (get_at (reg 0) k (element argc) next) otherwise

-- the element at one index is put at another, and where there is none, none is there afterwards
abbrev pub moved : ℕ → ℤ → ℤ → Steps → Steps
moved argc from to next = element_or argc from (put_at to (element argc) next) (delete_at argc to next)

-- ---- a new array, and the definition of an element of it

abbrev pub new_array : ℕ → Steps → Steps
new_array argc next = ask (New class.Array None (array argc)) next

abbrev pub define_at : ℕ → ℤ → Reg → Steps → Steps
define_at argc k from next = ask (Define (array argc) (signed_decimal k) (data_marks true) (Some from) None None) next

-- ---- `length` is put

abbrev pub length_put : ℕ → Reg → Steps → Steps
length_put argc base next = ask (Put base (codes "length") (made argc)) next

abbrev pub length_made : ℕ → Reg → ℤ → Steps → Steps
length_made argc base len next = ask (Make (Num (Int len)) (made argc)) (length_put argc base next)

-- ---- an index in one array, and the one at which the next element is put in another

pub record Places : Type 0 where
  pub from : ℤ
  pub to : ℤ

abbrev pub places : ℤ → ℤ → Places
places from to = record { from = from; to = to }
