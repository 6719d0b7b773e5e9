-- Array and Array.isArray (ECMA-262 15.4.1 to 15.4.3).
use Rattle.std.specs.Prelude.{ℕ, not, true, false, pos, nat_lt, if◌then◌else◌}
use Rattle.std.specs.Ordering.{int_eq}
use Rattle.js_number.specs.Bits.{uint32}
use Rattle.js_number.specs.declared.num.Num.{Num}
use Rattle.js_number.specs.declared.num.Num.TheVariants.{Nan, Int}
use Rattle.js_number.specs.declared.primitive.Primitive.TheVariants as prims
use Rattle.native_protocol.specs.declared.request.ErrorKind.TheVariants as error
use Rattle.native_protocol.specs.declared.request.Request.TheVariants.{Return, ThrowNew}
use Rattle.native_protocol.specs.declared.request.Seen.{Seen}
use Rattle.native_protocol.specs.declared.request.Seen.TheVariants.{Prim}
use Rattle.native_protocol.specs.Steps.{Steps, look, ends, reg}
use Rattle.native_programs.specs.Choosing.{is_array, passed}
use Rattle.native_programs.specs.Clauses.{argument_at, each_index, gives}
use Rattle.array_natives.specs.Shared.{array, define_at, length_made, new_array}

-- ---- Array(..) and new Array(..)

-- the arguments are the elements (15.4.1.1, 15.4.2.1)
abbrev pub elements_defined : ℕ → Steps
elements_defined argc = each_index (pos 0) (passed argc 0) (λ i again. define_at argc i (argument_at 0 i) again) (ends (Return (array argc)))

abbrev pub elements : ℕ → Steps
elements argc = new_array argc (elements_defined argc)

-- a single argument that is a number is the length: it is its own ToUint32 (15.4.2.2)
abbrev pub sized : ℕ → Num → Steps
sized argc Nan = ends (ThrowNew error.RangeError)
sized argc (Int n) =
    if not (int_eq n (pos (uint32 n))) then ends (ThrowNew error.RangeError) else new_array argc (length_made argc (array argc) (pos (uint32 n)) (ends (Return (array argc))))

abbrev pub sized_or : Steps → ℕ → Seen → Steps
sized_or fills argc (Prim (prims.Num n)) = sized argc n
sized_or fills argc s = fills

abbrev pub array_by : Steps → ℕ → Steps
array_by fills argc = if not (nat_lt 1 argc) then (if nat_lt 0 argc then look (reg 2) (sized_or fills argc) else fills) else fills

abbrev pub array_of : ℕ → Steps
array_of argc = array_by (elements argc) argc

-- ---- isArray (15.4.3.2)

abbrev pub array_test : ℕ → Steps
array_test argc = look (reg 2) (λ s. if is_array s then gives argc (prims.Bool true) else gives argc (prims.Bool false))
