-- The constructors of errors, and the text of an error (ECMA-262 15.11).
use Rattle.std.specs.Prelude.{ℕ, false, not, List, [], Option, Some, None, codes, if◌then◌else◌}
use Rattle.js_number.specs.declared.primitive.Primitive.TheVariants.{Str}
use Rattle.js_values.specs.declared.inner.Class.TheVariants as class
use Rattle.native_protocol.specs.declared.registers.Reg.{Reg}
use Rattle.native_protocol.specs.declared.request.Request.TheVariants.{Define, Get, New, Return}
use Rattle.native_protocol.specs.Steps.{Steps, ask, look, ends, is_object, reg, throws_type_error}
use Rattle.native_programs.specs.Asking.{data_marks}
use Rattle.native_programs.specs.Choosing.{is_empty, is_undefined}
use Rattle.native_programs.specs.Meaning.{text_of_seen}
use Rattle.native_programs.specs.Clauses.{free, gives, text_or, together}

-- ---- the constructors (15.11.1.1, 15.11.2.1, 15.11.7.2, 15.11.7.4), called or constructed

-- the message, if there is one: it isn't enumerable
abbrev pub message_defined : ℕ → Option Reg → Steps → Steps
message_defined argc (Some at) next = ask (Define (free argc 3) (codes "message") (data_marks false) (Some at) None None) next
message_defined argc None next = next

-- the object has the prototype that the constructor has as its property
abbrev pub error_made : ℕ → Option Reg → Steps
error_made argc message =
    ask (Get (reg 1) (codes "prototype") (free argc 2))
    (ask (New class.Error (Some (free argc 2)) (free argc 3))
    (message_defined argc message (ends (Return (free argc 3)))))

abbrev pub error : ℕ → Steps
error argc =
    look (reg 2) (λ message. if not (is_undefined message) then text_of_seen message (reg 2) (free argc 0) (free argc 1) (λ text at. error_made argc (Some at))
    else error_made argc None)

-- ---- Error.prototype.toString (15.11.4.4)

-- steps 8 to 10
abbrev pub described : ℕ → List ℕ → List ℕ → Steps
described argc name message =
    if is_empty name then gives argc (Str message)
    else (if is_empty message then gives argc (Str name)
    else together name (codes ": ") (λ front. together front message (λ text. gives argc (Str text))))

-- what a property of `this` holds, as a text: another text where it is undefined
abbrev pub property_text : ℕ → List ℕ → List ℕ → (List ℕ → Steps) → Steps
property_text argc name otherwise next = ask (Get (reg 0) name (free argc 2)) (text_or argc (free argc 2) otherwise next)

-- steps 1 to 7
abbrev pub error_to_string : ℕ → Steps
error_to_string argc =
    look (reg 0) (λ this. if is_object this then
    property_text argc (codes "name") (codes "Error") (λ name. property_text argc (codes "message") [] (λ message. described argc name message))
    else throws_type_error)
