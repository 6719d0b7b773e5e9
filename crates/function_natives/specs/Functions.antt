-- `apply`, `call` and `bind` (ECMA-262 15.3.4).
use Rattle.std.specs.Prelude.{ℕ, ◌+◌, ◌-◌, ◌||◌, List, ℤ, pos, unsigned_abs, if◌then◌else◌}
use Rattle.std.specs.Fmt.{signed_decimal}
use Rattle.native_protocol.specs.declared.registers.Reg.{Reg}
use Rattle.native_protocol.specs.declared.request.Request.TheVariants as request
use Rattle.native_protocol.specs.declared.request.Seen.{Seen}
use Rattle.native_protocol.specs.Steps.{Steps, ask, look, ends, first_free, is_object, reg, throws_type_error}
use Rattle.native_programs.specs.Asking.{registers_from}
use Rattle.native_programs.specs.Choosing.{is_null, is_undefined}
use Rattle.native_programs.specs.Clauses.{free, callable, array_length, each_index}

-- the arguments from the second on
abbrev pub further_arguments : ℕ → List Reg
further_arguments argc = registers_from 3 (argc - 1)

-- ---- apply (15.3.4.3)

-- the registers in which so many arguments are gathered
abbrev pub gathered : ℕ → ℤ → List Reg
gathered argc n = registers_from (first_free argc + 16) (unsigned_abs n)

-- step 9
abbrev pub applied : ℕ → ℤ → Steps
applied argc n = ask (request.Call (reg 0) (reg 2) (gathered argc n) (free argc 3)) (ends (request.Return (free argc 3)))

-- steps 6 to 8: the elements of the list are the arguments
abbrev pub elements_gathered : ℕ → ℤ → Steps
elements_gathered argc n = each_index (pos 0) n (λ index again. ask (request.Get (reg 3) (signed_decimal index) (free argc (unsigned_abs index + 16))) again) (applied argc n)

-- steps 2 to 5
abbrev pub list_seen_by : (ℤ → Steps) → ℕ → Seen → Steps
list_seen_by gather argc list =
    if is_undefined list || is_null list then applied argc (pos 0)
    else (if is_object list then array_length argc (reg 3) gather
    else throws_type_error)

abbrev pub list_seen : ℕ → Seen → Steps
list_seen argc = list_seen_by (elements_gathered argc) argc

-- step 1
abbrev pub apply_by : (Seen → Steps) → Steps
apply_by seen = callable (reg 0) (look (reg 3) (λ list. seen list))

abbrev pub apply : ℕ → Steps
apply argc = apply_by (list_seen argc)

-- ---- call (15.3.4.4)

abbrev pub call : ℕ → Steps
call argc = callable (reg 0) (ask (request.Call (reg 0) (reg 2) (further_arguments argc) (free argc 3)) (ends (request.Return (free argc 3))))

-- ---- bind (15.3.4.5)

abbrev pub bind : ℕ → Steps
bind argc = callable (reg 0) (ask (request.Bind (reg 0) (reg 2) (further_arguments argc) (free argc 3)) (ends (request.Return (free argc 3))))
