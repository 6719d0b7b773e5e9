-- The machines of the conversions: what each of their states asks for, where an answer leads, and which steps are still to take.
use Rattle.std.specs.Prelude.{ℕ, List, [], codes, Result, Ok, Err, if◌then◌else◌}
use Rattle.js_number.specs.declared.primitive.Primitive.{Primitive}
use Rattle.js_number.specs.declared.primitive.Primitive.TheVariants.{Str}
use Rattle.js_number.specs.declared.int.LeftNumbers.{LeftNumbers}
use Rattle.js_number.specs.declared.num.Num.{Num}
use Rattle.js_number.specs.Conversions.{text_of, number_of}
use Rattle.native_protocol.specs.declared.conversion.Conversion.{Conversion}
use Rattle.native_protocol.specs.declared.conversion.Held.{Held}
use Rattle.native_protocol.specs.declared.conversion.Method.{Method}
use Rattle.native_protocol.specs.declared.conversion.Method.TheVariants.{First, Second}
use Rattle.native_protocol.specs.declared.conversion.Stage.{Stage}
use Rattle.native_protocol.specs.declared.conversion.Stage.TheVariants as stage
use Rattle.native_protocol.specs.declared.default_value.DefaultValue.{DefaultValue}
use Rattle.native_protocol.specs.declared.default_value.DefaultValue.TheVariants as whole
use Rattle.native_protocol.specs.declared.hint.Hint.{Hint}
use Rattle.native_protocol.specs.declared.hint.Hint.TheVariants as hint
use Rattle.native_protocol.specs.declared.number_of.NumberOf.{NumberOf}
use Rattle.native_protocol.specs.declared.number_of.NumberOf.TheVariants as to_number
use Rattle.native_protocol.specs.declared.progress.Progress.{Progress}
use Rattle.native_protocol.specs.declared.progress.Progress.TheVariants.{Going, Ready}
use Rattle.native_protocol.specs.declared.registers.Reg.{Reg}
use Rattle.native_protocol.specs.declared.request.Answer.{Answer}
use Rattle.native_protocol.specs.declared.request.ErrorKind.TheVariants as error
use Rattle.native_protocol.specs.declared.request.Request.{Request}
use Rattle.native_protocol.specs.declared.request.Request.TheVariants.{Look, Make, Get, Call, Return, ThrowNew, Leave}
use Rattle.native_protocol.specs.declared.request.Seen.{Seen}
use Rattle.native_protocol.specs.declared.request.Seen.TheVariants.{Prim, Object}
use Rattle.native_protocol.specs.declared.text_of.HeldText.{HeldText}
use Rattle.native_protocol.specs.declared.text_of.TextOf.{TextOf}
use Rattle.native_protocol.specs.declared.text_of.TextOf.TheVariants as to_text
use Rattle.native_protocol.specs.Steps.{Steps, ask, ends, throws_type_error, seen_in, is_function, reg, first_name, second_name, value_seen, method_called, method_seen, by_method, default_value, primitive_of_register, text_in, number_or_leave}

-- ---- a register's value becomes a primitive one

abbrev pub converting : Hint → Reg → Reg → Reg → Stage → Conversion
converting hint object method value stage = record { hint = hint; object = object; method = method; value = value; stage = stage }

abbrev pub in_stage : Conversion → Stage → Conversion
in_stage c s = record c { stage = s }

abbrev pub method_name : Hint → Method → List ℕ
method_name hint First = first_name hint
method_name hint Second = second_name hint

abbrev pub asks_in : Conversion → Stage → Request
asks_in c stage.Look = Look c.object
asks_in c (stage.Get m) = Get c.object (method_name c.hint m) c.method
asks_in c (stage.LookMethod m) = Look c.method
asks_in c (stage.Call m) = Call c.method c.object [] c.value
asks_in c (stage.LookValue m) = Look c.value
asks_in c stage.Failed = ThrowNew error.TypeError

abbrev pub conversion_asks : Conversion → Request
conversion_asks c = asks_in c c.stage

-- where a method gives nothing, the other one follows, or the failure
abbrev pub behind_method : Method → Stage
behind_method First = stage.Get Second
behind_method Second = stage.Failed

abbrev pub held : Primitive → Reg → Held
held p at = record { value = p; at = at }

abbrev pub held_or : Seen → Reg → Conversion → Progress Conversion Held
held_or (Prim p) at c = Ready (held p at)
held_or (Object k) at c = Going c

abbrev pub after_in : Conversion → Stage → Answer → Progress Conversion Held
after_in c stage.Look a = held_or (seen_in a) c.object (in_stage c (stage.Get First))
after_in c (stage.Get m) a = Going (in_stage c (stage.LookMethod m))
after_in c (stage.LookMethod m) a = Going (in_stage c (if is_function (seen_in a) then stage.Call m else behind_method m))
after_in c (stage.Call m) a = Going (in_stage c (stage.LookValue m))
after_in c (stage.LookValue m) a = held_or (seen_in a) c.value (in_stage c (behind_method m))
after_in c stage.Failed a = Going (in_stage c stage.Failed)

abbrev pub conversion_after : Conversion → Answer → Progress Conversion Held
conversion_after c a = after_in c c.stage a

abbrev pub given : Conversion → (Held → Steps) → Primitive → Steps
given c next p = next (held p c.value)

abbrev pub from_method : Conversion → Method → (Held → Steps) → Steps
from_method c First next = default_value c.hint c.object c.method c.value (given c next)
from_method c Second next = by_method (second_name c.hint) c.object c.method c.value (given c next) throws_type_error

abbrev pub otherwise : Conversion → Method → (Held → Steps) → Steps
otherwise c First next = from_method c Second next
otherwise c Second next = throws_type_error

abbrev pub rest_in : Conversion → Stage → (Held → Steps) → Steps
rest_in c stage.Look next = primitive_of_register c.hint c.object c.method c.value (λ p at. next (held p at))
rest_in c (stage.Get m) next = from_method c m next
rest_in c (stage.LookMethod m) next = method_seen c.object c.method c.value (given c next) (otherwise c m next)
rest_in c (stage.Call m) next = method_called c.object c.method c.value (given c next) (otherwise c m next)
rest_in c (stage.LookValue m) next = value_seen c.value (given c next) (otherwise c m next)
rest_in c stage.Failed next = throws_type_error

abbrev pub conversion_rest : Conversion → (Held → Steps) → Steps
conversion_rest c next = rest_in c c.stage next

-- ---- and then a text

abbrev pub held_text : List ℕ → Reg → HeldText
held_text text at = record { text = text; at = at }

abbrev pub text_begin : Reg → Reg → Reg → TextOf
text_begin r method value = to_text.Primitive (converting hint.String r method value stage.Look)

abbrev pub text_asks : TextOf → Request
text_asks (to_text.Primitive c) = conversion_asks c
text_asks (to_text.Make text at) = Make (Str text) at

abbrev pub text_or_make : Primitive → Reg → Reg → Progress TextOf HeldText
text_or_make (Str text) at value = Ready (held_text text at)
text_or_make p at value = Going (to_text.Make (text_of p) value)

abbrev pub text_behind : Reg → Progress Conversion Held → Progress TextOf HeldText
text_behind value (Going c) = Going (to_text.Primitive c)
text_behind value (Ready h) = text_or_make h.value h.at value

abbrev pub text_after : TextOf → Answer → Progress TextOf HeldText
text_after (to_text.Primitive c) a = text_behind c.value (conversion_after c a)
text_after (to_text.Make text at) a = Ready (held_text text at)

abbrev pub text_from : Reg → (HeldText → Steps) → Held → Steps
text_from value next h = text_in h.value h.at value (λ text at. next (held_text text at))

abbrev pub text_rest : TextOf → (HeldText → Steps) → Steps
text_rest (to_text.Primitive c) next = conversion_rest c (text_from c.value next)
text_rest (to_text.Make text at) next = ask (Make (Str text) at) (next (held_text text at))

-- ---- or a number

abbrev pub number_begin : Reg → Reg → Reg → NumberOf
number_begin r method value = to_number.Primitive (converting hint.Number r method value stage.Look)

abbrev pub number_asks : NumberOf → Request
number_asks (to_number.Primitive c) = conversion_asks c
number_asks to_number.Left = Leave (codes "number")

abbrev pub number_or_left : Result Num LeftNumbers → Progress NumberOf Num
number_or_left (Ok n) = Ready n
number_or_left (Err left) = Going to_number.Left

abbrev pub number_behind : Progress Conversion Held → Progress NumberOf Num
number_behind (Going c) = Going (to_number.Primitive c)
number_behind (Ready h) = number_or_left (number_of h.value)

abbrev pub number_after : NumberOf → Answer → Progress NumberOf Num
number_after (to_number.Primitive c) a = number_behind (conversion_after c a)
number_after to_number.Left a = Going to_number.Left

abbrev pub number_from : (Num → Steps) → Held → Steps
number_from next h = number_or_leave (number_of h.value) next

abbrev pub number_rest : NumberOf → (Num → Steps) → Steps
number_rest (to_number.Primitive c) next = conversion_rest c (number_from next)
number_rest to_number.Left next = ends (Leave (codes "number"))

-- ---- the conversion of an object as a built-in of its own

abbrev pub whole_conversion : Hint → Conversion
whole_conversion hint = converting hint (reg 0) (reg 2) (reg 3) (stage.Get First)

abbrev pub whole_begin : Hint → DefaultValue
whole_begin hint = whole.Begun hint

abbrev pub whole_asks : DefaultValue → Request
whole_asks (whole.Begun hint) = conversion_asks (whole_conversion hint)
whole_asks (whole.Converting c) = conversion_asks c
whole_asks (whole.Converted at) = Return at

abbrev pub whole_behind : Progress Conversion Held → DefaultValue
whole_behind (Going c) = whole.Converting c
whole_behind (Ready h) = whole.Converted h.at

abbrev pub whole_after : DefaultValue → Answer → DefaultValue
whole_after (whole.Begun hint) a = whole.Converting (whole_conversion hint)
whole_after (whole.Converting c) a = whole_behind (conversion_after c a)
whole_after (whole.Converted at) a = whole.Converted at
