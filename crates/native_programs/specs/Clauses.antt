-- Steps that the clauses of several sets share.
use Rattle.std.specs.Prelude.{ℕ, ◌+◌, ◌++◌, Bool, not, ◌&&◌, List, codes, ℤ, pos, negsuc, ◌+ℤ◌, unsigned_abs, if◌then◌else◌}
use Rattle.js_number.specs.Bits.{uint32}
use Rattle.js_number.specs.Number.{integer_of}
use Rattle.js_number.specs.declared.primitive.Primitive.{Primitive}
use Rattle.native_protocol.specs.declared.registers.Reg.{Reg}
use Rattle.native_protocol.specs.declared.request.Request.TheVariants.{Get, Make, Return}
use Rattle.native_protocol.specs.declared.request.Seen.{Seen}
use Rattle.native_protocol.specs.Steps.{Steps, ask, look, ends, leaves, is_function, reg, first_free, throws_type_error, text_of_register, integer_of_register}
use Rattle.native_programs.specs.Choosing.{count_between, is_null, is_undefined}
use Rattle.native_programs.specs.Meaning.{each, number_of_seen, object_or, text_of_seen}
use Rattle.native_programs.specs.Wordings.{fits}

-- ---- registers

-- one behind the arguments: the first two are for what conversions need, and the third holds what is made
abbrev pub free : ℕ → ℕ → Reg
free argc n = reg (first_free argc + n)

-- the argument that stands so far behind the one with a number
abbrev pub argument_at : ℕ → ℤ → Reg
argument_at n i = reg (unsigned_abs i + (2 + n))

-- ---- the end of a call

-- it gives a primitive value, which is made for that
abbrev pub gives : ℕ → Primitive → Steps
gives argc value = ask (Make value (free argc 2)) (ends (Return (free argc 2)))

-- ---- conversions and tests (ECMA-262 9)

-- neither undefined nor null
abbrev pub is_value : Seen → Bool
is_value s = not (is_undefined s) && not (is_null s)

-- ToObject of `this` (9.9): a wrapper of a primitive value isn't offered
abbrev pub this_object : Steps → Steps
this_object next = look (reg 0) (λ s. object_or s next throws_type_error (leaves (codes "wrapper")))

-- IsCallable (9.11), and TypeError where it is false
abbrev pub callable : Reg → Steps → Steps
callable r next = look r (λ s. if is_function s then next else throws_type_error)

-- ToString (9.8)
abbrev pub text : ℕ → Reg → (List ℕ → Steps) → Steps
text argc r next = text_of_register r (free argc 0) (free argc 1) (λ units at. next units)

-- ToString, and another text for undefined
abbrev pub text_or : ℕ → Reg → List ℕ → (List ℕ → Steps) → Steps
text_or argc r default next = look r (λ s. if not (is_undefined s) then text_of_seen s r (free argc 0) (free argc 1) (λ units at. next units) else next default)

-- ToInteger (9.4)
abbrev pub integer : ℕ → Reg → (ℤ → Steps) → Steps
integer argc r next = integer_of_register r (free argc 0) (free argc 1) next

-- ToInteger, and another number for undefined
abbrev pub integer_or : ℕ → Reg → ℤ → (ℤ → Steps) → Steps
integer_or argc r default next = look r (λ s. if not (is_undefined s) then number_of_seen s r (free argc 0) (free argc 1) (λ n. next (integer_of n)) else next default)

-- [[Get]] of `length`, and ToUint32 of it (9.6)
abbrev pub array_length : ℕ → Reg → (ℤ → Steps) → Steps
array_length argc r next = ask (Get r (codes "length") (free argc 2)) (integer argc (free argc 2) (λ n. next (pos (uint32 n))))

-- ---- loops over indices

-- from one up to another, without that
abbrev pub each_index : ℤ → ℤ → (ℤ → Steps → Steps) → Steps → Steps
each_index from until body finish = each (count_between from until) (λ i again. body i (again (i +ℤ pos 1))) (λ i. finish) from

-- from one down to another, without that
abbrev pub each_index_down : ℤ → ℤ → (ℤ → Steps → Steps) → Steps → Steps
each_index_down from until body finish = each (count_between until from) (λ i again. body i (again (i +ℤ negsuc 0))) (λ i. finish) from

-- ---- texts

-- a text behind another: both together are no longer than a text may be
abbrev pub together : List ℕ → List ℕ → (List ℕ → Steps) → Steps
together a b next = if fits a b then next (a ++ b) else leaves (codes "string")
