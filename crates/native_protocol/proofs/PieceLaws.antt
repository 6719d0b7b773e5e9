-- Each machine of a conversion takes the steps of the conversion.
use Rattle.std.proofs.Common.{◌≡◌, Bool, true, false, if◌then◌else◌, List, [], ◌∷◌, Result, Ok, Err, refl, sym, ◌∙◌, ap}
use Rattle.js_number.specs.declared.int.LeftNumbers.{LeftNumbers}
use Rattle.js_number.specs.declared.primitive.Primitive.{Primitive}
use Rattle.js_number.specs.declared.num.Num.{Num}
use Rattle.js_number.specs.declared.primitive.Primitive.TheVariants.{Undefined, Null, Str}
use Rattle.js_number.specs.declared.primitive.Primitive.TheVariants as prims
use Rattle.js_number.specs.Conversions.{number_of}
use Rattle.native_protocol.proofs.RunningLaws.{asks_rest}
use Rattle.native_protocol.specs.declared.conversion.Conversion.{Conversion}
use Rattle.native_protocol.specs.declared.conversion.Held.{Held}
use Rattle.native_protocol.specs.declared.conversion.Method.{Method}
use Rattle.native_protocol.specs.declared.conversion.Method.TheVariants.{First, Second}
use Rattle.native_protocol.specs.declared.conversion.Stage.{Stage}
use Rattle.native_protocol.specs.declared.conversion.Stage.TheVariants as stage
use Rattle.native_protocol.specs.declared.default_value.DefaultValue.{DefaultValue}
use Rattle.native_protocol.specs.declared.default_value.DefaultValue.TheVariants as whole
use Rattle.native_protocol.specs.declared.hint.Hint.{Hint}
use Rattle.native_protocol.specs.declared.number_of.NumberOf.{NumberOf}
use Rattle.native_protocol.specs.declared.number_of.NumberOf.TheVariants as to_number
use Rattle.native_protocol.specs.declared.progress.Progress.{Progress}
use Rattle.native_protocol.specs.declared.progress.Progress.TheVariants.{Going, Ready}
use Rattle.native_protocol.specs.declared.registers.Reg.{Reg}
use Rattle.native_protocol.specs.declared.request.Answer.{Answer}
use Rattle.native_protocol.specs.declared.request.Answer.TheVariants as answer
use Rattle.native_protocol.specs.declared.request.Request.TheVariants.{Return}
use Rattle.native_protocol.specs.declared.request.Seen.{Seen}
use Rattle.native_protocol.specs.declared.request.Seen.TheVariants.{Prim, Object}
use Rattle.native_protocol.specs.declared.text_of.HeldText.{HeldText}
use Rattle.native_protocol.specs.declared.text_of.TextOf.{TextOf}
use Rattle.native_protocol.specs.declared.text_of.TextOf.TheVariants as to_text
use Rattle.native_protocol.specs.Pieces.{in_stage, asks_in, conversion_asks, behind_method, held, held_or, after_in, conversion_after, given, otherwise, rest_in, conversion_rest, held_text, text_asks, text_or_make, text_behind, text_after, text_from, text_rest, number_asks, number_or_left, number_behind, number_after, number_from, number_rest, whole_conversion, whole_begin, whole_asks, whole_behind, whole_after}
use Rattle.native_protocol.specs.Running.{carried_on, behind, Follows, IsPiece}
use Rattle.native_protocol.specs.Steps.{Steps, ends, seen_in, is_function, if_primitive, method_called, primitive_in, text_in, number_or_leave, conversion}

-- ---- the conversion to a primitive value

first_in : (c : Conversion) (s : Stage) (next : Held → Steps) → rest_in c s next [] ≡ asks_in c s
first_in c stage.Look next = refl
first_in c (stage.Get First) next = refl
first_in c (stage.Get Second) next = refl
first_in c (stage.LookMethod m) next = refl
first_in c (stage.Call m) next = refl
first_in c (stage.LookValue m) next = refl
first_in c stage.Failed next = refl

-- behind a look at the register, at a method, and at what it gave
behind_look : (c : Conversion) (seen : Seen) (next : Held → Steps) (answers : List Answer) → primitive_in c.hint seen c.object c.method c.value (λ p at. next (held p at)) answers ≡ carried_on conversion_rest (held_or seen c.object (in_stage c (stage.Get First))) next answers
behind_look c (Prim p) next answers = refl
behind_look c (Object k) next answers = refl

behind_both : (c : Conversion) (m : Method) (next : Held → Steps) (answers : List Answer) → otherwise c m next answers ≡ conversion_rest (in_stage c (behind_method m)) next answers
behind_both c First next answers = refl
behind_both c Second next answers = refl

behind_test : (c : Conversion) (m : Method) (is : Bool) (next : Held → Steps) (answers : List Answer) → (if is then method_called c.object c.method c.value (given c next) (otherwise c m next) else otherwise c m next) answers ≡ conversion_rest (in_stage c (if is then stage.Call m else behind_method m)) next answers
behind_test c m true next answers = refl
behind_test c m false next answers = behind_both c m next answers

behind_value : (c : Conversion) (m : Method) (seen : Seen) (next : Held → Steps) (answers : List Answer) → if_primitive seen (given c next) (otherwise c m next) answers ≡ carried_on conversion_rest (held_or seen c.value (in_stage c (behind_method m))) next answers
behind_value c m (Prim p) next answers = refl
behind_value c m (Object k) next answers = behind_both c m next answers

others_in : (c : Conversion) (s : Stage) (next : Held → Steps) (a : Answer) (answers : List Answer) → rest_in c s next (a ∷ answers) ≡ carried_on conversion_rest (after_in c s a) next answers
others_in c stage.Look next a answers = behind_look c (seen_in a) next answers
others_in c (stage.Get First) next a answers = refl
others_in c (stage.Get Second) next a answers = refl
others_in c (stage.LookMethod m) next a answers = behind_test c m (is_function (seen_in a)) next answers
others_in c (stage.Call m) next a answers = refl
others_in c (stage.LookValue m) next a answers = behind_value c m (seen_in a) next answers
others_in c stage.Failed next a answers = refl

pub conversion_is : IsPiece conversion_asks conversion_after conversion_rest
conversion_is = record { first = λ c next. first_in c c.stage next; others = λ c next a answers. others_in c c.stage next a answers }

-- ---- the text: the register for values stays the same

Keeps : Conversion → Progress Conversion Held → Type 0
Keeps c (Going d) = d.value ≡ c.value
Keeps c (Ready h) = Unit {0}

keeps_held : (c d : Conversion) (seen : Seen) (at : Reg) → d.value ≡ c.value → Keeps c (held_or seen at d)
unfolding Keeps
keeps_held c d (Prim p) at e = tt
keeps_held c d (Object k) at e = e

keeps_in : (c : Conversion) (s : Stage) (a : Answer) → Keeps c (after_in c s a)
unfolding Keeps
keeps_in c stage.Look a = keeps_held c (in_stage c (stage.Get First)) (seen_in a) c.object refl
keeps_in c (stage.Get m) a = refl
keeps_in c (stage.LookMethod m) a = refl
keeps_in c (stage.Call m) a = refl
keeps_in c (stage.LookValue m) a = keeps_held c (in_stage c (behind_method m)) (seen_in a) c.value refl
keeps_in c stage.Failed a = refl

made_text : (p : Primitive) (at value : Reg) (next : HeldText → Steps) (answers : List Answer) → text_in p at value (λ text r. next (held_text text r)) answers ≡ carried_on text_rest (text_or_make p at value) next answers
made_text Undefined at value next answers = refl
made_text Null at value next answers = refl
made_text (prims.Bool b) at value next answers = refl
made_text (prims.Num n) at value next answers = refl
made_text (Str text) at value next answers = refl

text_joins : (c : Conversion) (p : Progress Conversion Held) (next : HeldText → Steps) (answers : List Answer) → Keeps c p → carried_on conversion_rest p (text_from c.value next) answers ≡ carried_on text_rest (text_behind c.value p) next answers
unfolding Keeps
text_joins c (Going d) next answers e = ap (λ v. conversion_rest d (text_from v next) answers) (sym e)
text_joins c (Ready h) next answers e = made_text h.value h.at c.value next answers

text_first : (t : TextOf) (next : HeldText → Steps) → text_rest t next [] ≡ text_asks t
text_first (to_text.Primitive c) next = first_in c c.stage (text_from c.value next)
text_first (to_text.Make text at) next = refl

text_others : (t : TextOf) (next : HeldText → Steps) (a : Answer) (answers : List Answer) → text_rest t next (a ∷ answers) ≡ carried_on text_rest (text_after t a) next answers
text_others (to_text.Primitive c) next a answers = others_in c c.stage (text_from c.value next) a answers ∙ text_joins c (conversion_after c a) next answers (keeps_in c c.stage a)
text_others (to_text.Make text at) next a answers = refl

pub text_is : IsPiece text_asks text_after text_rest
text_is = record { first = text_first; others = text_others }

-- ---- the number

counted : (r : Result Num LeftNumbers) (next : Num → Steps) (answers : List Answer) → number_or_leave r next answers ≡ carried_on number_rest (number_or_left r) next answers
counted (Ok n) next answers = refl
counted (Err left) next answers = refl

number_joins : (p : Progress Conversion Held) (next : Num → Steps) (answers : List Answer) → carried_on conversion_rest p (number_from next) answers ≡ carried_on number_rest (number_behind p) next answers
number_joins (Going c) next answers = refl
number_joins (Ready h) next answers = counted (number_of h.value) next answers

number_first : (n : NumberOf) (next : Num → Steps) → number_rest n next [] ≡ number_asks n
number_first (to_number.Primitive c) next = first_in c c.stage (number_from next)
number_first to_number.Left next = refl

number_others : (n : NumberOf) (next : Num → Steps) (a : Answer) (answers : List Answer) → number_rest n next (a ∷ answers) ≡ carried_on number_rest (number_after n a) next answers
number_others (to_number.Primitive c) next a answers = others_in c c.stage (number_from next) a answers ∙ number_joins (conversion_after c a) next answers
number_others to_number.Left next a answers = refl

pub number_is : IsPiece number_asks number_after number_rest
number_is = record { first = number_first; others = number_others }

-- ---- the conversion as a built-in of its own

returned : Held → Steps
returned h = ends (Return h.at)

whole_rest : DefaultValue → Steps
whole_rest (whole.Begun hint) [] = conversion_asks (whole_conversion hint)
whole_rest (whole.Begun hint) (a ∷ answers) = conversion_rest (whole_conversion hint) returned answers
whole_rest (whole.Converting c) answers = conversion_rest c returned answers
whole_rest (whole.Converted at) answers = Return at

whole_first : (d : DefaultValue) → whole_rest d [] ≡ whole_asks d
unfolding whole_rest returned
whole_first (whole.Begun hint) = refl
whole_first (whole.Converting c) = first_in c c.stage returned
whole_first (whole.Converted at) = refl

whole_joins : (p : Progress Conversion Held) (answers : List Answer) → carried_on conversion_rest p returned answers ≡ whole_rest (whole_behind p) answers
unfolding whole_rest returned
whole_joins (Going c) answers = refl
whole_joins (Ready h) answers = refl

whole_others : (d : DefaultValue) (a : Answer) (answers : List Answer) → whole_rest d (a ∷ answers) ≡ whole_rest (whole_after d a) answers
unfolding whole_rest returned
whole_others (whole.Begun hint) a answers = refl
whole_others (whole.Converting c) a answers = others_in c c.stage returned a answers ∙ whole_joins (conversion_after c a) answers
whole_others (whole.Converted at) a answers = refl

whole_follows : Follows whole_asks whole_after whole_rest
whole_follows = record { first = whole_first; others = whole_others }

pub whole_is : (hint : Hint) (answers : List Answer) → whole_asks (behind whole_after (whole_begin hint) (answer.Begin ∷ answers)) ≡ conversion hint answers
unfolding whole_rest returned
whole_is hint answers = asks_rest whole_follows (whole_begin hint) (answer.Begin ∷ answers)
