-- `String`, `String.fromCharCode`, and the value of a text (ECMA-262 15.5.1 to 15.5.3, 15.5.4.2, 15.5.4.3).
use Rattle.std.specs.Prelude.{ℕ, ◌+◌, ◌++◌, Bool, not, List, [], ◌∷◌, codes, nat_lt, pos, if◌then◌else◌}
use Rattle.js_number.specs.Number.{integer_of}
use Rattle.js_number.specs.declared.num.Num.{Num}
use Rattle.js_number.specs.declared.primitive.Primitive.TheVariants.{Str}
use Rattle.js_values.specs.declared.inner.Class.TheVariants as class
use Rattle.native_protocol.specs.declared.registers.Reg.{Reg}
use Rattle.native_protocol.specs.declared.request.Request.TheVariants.{Return}
use Rattle.native_protocol.specs.declared.request.Seen.{Seen}
use Rattle.native_protocol.specs.declared.request.Seen.TheVariants.{Prim, Object}
use Rattle.native_protocol.specs.Steps.{Steps, look, ends, leaves, throws_type_error, reg, text_of_register, number_of_register}
use Rattle.native_programs.specs.Clauses.{free, argument_at, gives, is_value}
use Rattle.native_programs.specs.Meaning.{each, text_of_seen}
use Rattle.native_programs.specs.Wordings.{has_room}
use Rattle.string_natives.specs.Texts.{uint16}

-- ---- what the clauses of this set share

-- the register of an argument, given or not
abbrev pub argument : ℕ → Reg
argument n = reg (2 + n)

-- CheckObjectCoercible (9.10) and ToString (9.8) of `this`
abbrev pub this_text : ℕ → (List ℕ → Steps) → Steps
this_text argc next = look (reg 0) (λ s. if is_value s then text_of_seen s (reg 0) (free argc 0) (free argc 1) (λ units at. next units) else throws_type_error)

-- ToNumber (9.3)
abbrev pub to_number : ℕ → Reg → (Num → Steps) → Steps
to_number argc r next = number_of_register r (free argc 0) (free argc 1) next

-- a wrapper isn't offered
abbrev pub needs_wrapper : Steps
needs_wrapper = leaves (codes "wrapper")

-- ---- String

-- `String(value)` (15.5.1.1), which gives the register of the text; `new String` (15.5.2.1) isn't offered
abbrev pub string : ℕ → Bool → Steps
string argc construct =
    if construct then needs_wrapper
    else (if not (nat_lt 0 argc) then gives argc (Str [])
    else text_of_register (argument 0) (free argc 0) (free argc 1) (λ units at. ends (Return at)))

-- a text that grows argument by argument, of which so many are done
pub record Growing : Type 0 where
  pub at : ℕ
  pub text : List ℕ

abbrev pub growing : ℕ → List ℕ → Growing
growing at text = record { at = at; text = text }

-- `fromCharCode` (15.5.3.2): the unit of each argument. A text of too many units leaves.
abbrev pub unit_added : ℕ → Growing → (Growing → Steps) → Steps
unit_added argc g again =
    to_number argc (argument_at 0 (pos g.at)) (λ n. if has_room g.text then again (growing (g.at + 1) (g.text ++ uint16 (integer_of n) ∷ [])) else leaves (codes "string"))

abbrev pub from_char_code : ℕ → Steps
from_char_code argc = each argc (unit_added argc) (λ g. gives argc (Str g.text)) (growing 0 [])

-- ---- String.prototype

-- `toString` and `valueOf` (15.5.4.2, 15.5.4.3). The prototype is the only object of the class.
abbrev pub text_value : Seen → Steps
text_value (Prim (Str units)) = ends (Return (reg 0))
text_value (Prim p) = throws_type_error
text_value (Object class.String) = needs_wrapper
text_value (Object c) = throws_type_error

abbrev pub value_of_text : Steps
value_of_text = look (reg 0) text_value
