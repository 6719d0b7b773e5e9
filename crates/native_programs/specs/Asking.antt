-- What lines ask for.
use Rattle.std.specs.Prelude.{ℕ, zero, suc, ◌+◌, ◌-◌, Bool, true, List, [], ◌∷◌, ◌++◌, Some, None, unwrap_or, codes, unsigned_abs, negsuc, ◌+ℤ◌, ◌-ℤ◌}
use Rattle.std.specs.Fmt.{signed_decimal}
use Rattle.js_number.specs.declared.primitive.Primitive.{Primitive}
use Rattle.js_number.specs.declared.primitive.Primitive.TheVariants as prims
use Rattle.js_number.specs.declared.num.Num.TheVariants.{Nan, Int}
use Rattle.js_number.specs.Radix.{integer_prefix}
use Rattle.native_protocol.specs.declared.registers.Reg.{Reg}
use Rattle.native_protocol.specs.declared.request.ErrorKind.TheVariants as error
use Rattle.native_protocol.specs.declared.request.GivenMarks.{GivenMarks}
use Rattle.native_protocol.specs.declared.request.Request.{Request}
use Rattle.native_protocol.specs.declared.request.Request.TheVariants as request
use Rattle.native_protocol.specs.Steps.{reg, first_free}
use Rattle.native_programs.specs.declared.line.Args.{Args}
use Rattle.native_programs.specs.declared.line.Args.TheVariants as args
use Rattle.native_programs.specs.declared.line.Ask.{Ask}
use Rattle.native_programs.specs.declared.line.Ask.TheVariants as asking
use Rattle.native_programs.specs.declared.line.End.{End}
use Rattle.native_programs.specs.declared.line.End.TheVariants as end
use Rattle.native_programs.specs.declared.line.Exit.{Exit}
use Rattle.native_programs.specs.declared.line.Exit.TheVariants as exit
use Rattle.native_programs.specs.declared.line.Fresh.{Fresh}
use Rattle.native_programs.specs.declared.line.Fresh.TheVariants as fresh
use Rattle.native_programs.specs.declared.line.Name.{Name}
use Rattle.native_programs.specs.declared.line.Name.TheVariants as name
use Rattle.native_programs.specs.declared.line.Place.{Place}
use Rattle.native_programs.specs.declared.line.Place.TheVariants as place
use Rattle.native_programs.specs.declared.line.Reason.{Reason}
use Rattle.native_programs.specs.declared.line.Reason.TheVariants as reason
use Rattle.native_programs.specs.declared.values.Values.{Values}
use Rattle.native_programs.specs.Values.{counter_in, text_kept}
use Rattle.native_programs.specs.Wordings.{part_of, number_read}

abbrev pub free_reg : ℕ → ℕ → Reg
free_reg argc n = reg (first_free argc + n)

-- one of `this` and the arguments behind it
abbrev pub item_reg : ℕ → Reg
item_reg zero = reg 0
item_reg (suc n) = reg (suc n + 1)

abbrev pub reg_of : Values → Place → Reg
reg_of v place.This = reg 0
reg_of v place.Callee = reg 1
reg_of v (place.Argument n) = reg (2 + n)
reg_of v (place.ArgumentAt n c) = reg (unsigned_abs (counter_in v c) + (2 + n))
reg_of v (place.Item c) = item_reg (unsigned_abs (counter_in v c))
reg_of v (place.Free n) = free_reg v.argc n
reg_of v (place.Gathered c) = free_reg v.argc (unsigned_abs (counter_in v c) + 16)
reg_of v place.Held = unwrap_or v.held (reg 0)

abbrev pub key_of : Values → Name → List ℕ
key_of v name.Length = codes "length"
key_of v name.Prototype = codes "prototype"
key_of v name.Name = codes "name"
key_of v name.Message = codes "message"
key_of v name.Join = codes "join"
key_of v (name.At a) = signed_decimal (counter_in v a)
key_of v (name.Before a) = signed_decimal (counter_in v a +ℤ negsuc 0)
key_of v (name.Sum a b) = signed_decimal (counter_in v a +ℤ counter_in v b)
key_of v (name.BeforeSum a b) = signed_decimal ((counter_in v a +ℤ counter_in v b) +ℤ negsuc 0)
key_of v (name.Mirror a size) = signed_decimal ((counter_in v size -ℤ counter_in v a) +ℤ negsuc 0)

abbrev pub fresh_of : Values → Fresh → Primitive
fresh_of v (fresh.Truth b) = prims.Bool b
fresh_of v (fresh.Whole n) = prims.Num (Int n)
fresh_of v fresh.Nan = prims.Num Nan
fresh_of v (fresh.Number a) = prims.Num (Int (counter_in v a))
fresh_of v (fresh.Parsed t radix) = prims.Num (number_read (integer_prefix (text_kept v t) (counter_in v radix)))
fresh_of v (fresh.Digits a) = prims.Str (signed_decimal (counter_in v a))
fresh_of v (fresh.Text t) = prims.Str (text_kept v t)
fresh_of v (fresh.Part t first last) = prims.Str (part_of (text_kept v t) (counter_in v first) (counter_in v last))

-- so many registers from one on
abbrev pub registers_from : ℕ → ℕ → List Reg
registers_from first zero = []
registers_from first (suc n) = registers_from first n ++ reg (first + n) ∷ []

abbrev pub args_of : Values → Args → List Reg
args_of v args.None = []
args_of v (args.Rest n) = registers_from (2 + n) (v.argc - n)
args_of v (args.Element element index) = reg_of v element ∷ reg_of v index ∷ reg 0 ∷ []
args_of v (args.Folded made element index) = reg_of v made ∷ reg_of v element ∷ reg_of v index ∷ reg 0 ∷ []
args_of v (args.Gathered c) = registers_from (first_free v.argc + 16) (unsigned_abs (counter_in v c))

abbrev pub reason_of : Reason → List ℕ
reason_of reason.Wrapper = codes "wrapper"
reason_of reason.Text = codes "string"
reason_of reason.Number = codes "number"
reason_of reason.Case = codes "case"

abbrev pub end_asks : End → Values → Request
end_asks (end.Return p) v = request.Return (reg_of v p)
end_asks (end.Give f) v = request.Make (fresh_of v f) (free_reg v.argc 2)
end_asks (end.Throw kind) v = request.ThrowNew kind
end_asks (end.Leave r) v = request.Leave (reason_of r)

-- a TypeError is thrown
abbrev pub type_error : Exit
type_error = exit.Ends (end.Throw error.TypeError)

-- can be written and configured, and enumerable or not
abbrev pub data_marks : Bool → GivenMarks
data_marks enumerable = record { writable = Some true; enumerable = Some enumerable; configurable = Some true }

abbrev pub asks : Ask → Values → Request
asks (asking.Get base key to) v = request.Get (reg_of v base) (key_of v key) (reg_of v to)
asks (asking.Has base key to) v = request.Has (reg_of v base) (key_of v key) (reg_of v to)
asks (asking.Put base key from) v = request.Put (reg_of v base) (key_of v key) (reg_of v from)
asks (asking.Delete base key to) v = request.Delete (reg_of v base) (key_of v key) (reg_of v to)
asks (asking.Copy from to) v = request.Copy (reg_of v from) (reg_of v to)
asks (asking.Bind target this list to) v = request.Bind (reg_of v target) (reg_of v this) (args_of v list) (reg_of v to)
asks (asking.Same a b to) v = request.Same (reg_of v a) (reg_of v b) (reg_of v to)
asks (asking.Make f to) v = request.Make (fresh_of v f) (reg_of v to)
asks (asking.New class to) v = request.New class None (reg_of v to)
asks (asking.NewFrom class proto to) v = request.New class (Some (reg_of v proto)) (reg_of v to)
asks (asking.Define base key value enumerable) v = request.Define (reg_of v base) (key_of v key) (data_marks enumerable) (Some (reg_of v value)) None None
asks (asking.Call callee this list to) v = request.Call (reg_of v callee) (reg_of v this) (args_of v list) (reg_of v to)
asks (asking.ToObject at) v = request.Look (reg_of v at)
asks (asking.Look at sight e) v = request.Look (reg_of v at)
asks (asking.Text at sight to e) v = request.Look (reg_of v at)
asks (asking.Number at sight to whole e) v = request.Look (reg_of v at)
asks (asking.Ends e) v = end_asks e v
