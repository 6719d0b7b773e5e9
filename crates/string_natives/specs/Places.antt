-- Units and places of a text (ECMA-262 15.5.4.4, 15.5.4.5, 15.5.4.7, 15.5.4.8).
use Rattle.std.specs.Prelude.{ℕ, List, length, ℤ, pos}
use Rattle.js_number.specs.declared.num.Num.{Num as Number}
use Rattle.js_number.specs.declared.num.Num.TheVariants.{Int}
use Rattle.js_number.specs.declared.primitive.Primitive.{Primitive}
use Rattle.js_number.specs.declared.primitive.Primitive.TheVariants.{Num, Str}
use Rattle.native_protocol.specs.Steps.{Steps}
use Rattle.native_programs.specs.Clauses.{gives, integer, text}
use Rattle.native_programs.specs.Searching.{found_in, found_back_in}
use Rattle.string_natives.specs.Texts.{clamped, last_start, unit_in, text_of_unit, number_of_unit}
use Rattle.string_natives.specs.Values.{argument, this_text, to_number}

-- what is made of a text and a place of it
abbrev pub at_place : (List ℕ → ℤ → Primitive) → ℕ → Steps
at_place made argc = this_text argc (λ units. integer argc (argument 0) (λ place. gives argc (made units place)))

-- `charAt` (15.5.4.4)
abbrev pub text_at : List ℕ → ℤ → Primitive
text_at units place = Str (text_of_unit (unit_in units place))

abbrev pub char_at : ℕ → Steps
char_at argc = at_place text_at argc

-- `charCodeAt` (15.5.4.5)
abbrev pub code_at : List ℕ → ℤ → Primitive
code_at units place = Num (number_of_unit (unit_in units place))

abbrev pub char_code_at : ℕ → Steps
char_code_at argc = at_place code_at argc

-- `indexOf` (15.5.4.7): the smallest place from a position on
abbrev pub index_in : List ℕ → List ℕ → ℤ → ℤ
index_in units sought position = found_in units sought (pos (clamped position (length units)))

abbrev pub index_by : (List ℕ → List ℕ → ℤ → ℤ) → ℕ → Steps
index_by index argc =
    this_text argc (λ units. text argc (argument 0) (λ sought. integer argc (argument 1) (λ position. gives argc (Num (Int (index units sought position))))))

abbrev pub index_of : ℕ → Steps
index_of argc = index_by index_in argc

-- `lastIndexOf` (15.5.4.8): the greatest place up to a position
abbrev pub last_index_in : List ℕ → List ℕ → Number → ℤ
last_index_in units sought position = found_back_in units sought (pos (last_start position (length units)))

abbrev pub last_index_by : (List ℕ → List ℕ → Number → Steps) → ℕ → Steps
last_index_by steps argc = this_text argc (λ units. text argc (argument 0) (λ sought. to_number argc (argument 1) (steps units sought)))

abbrev pub last_index_of : ℕ → Steps
last_index_of argc = last_index_by (λ units sought position. gives argc (Num (Int (last_index_in units sought position)))) argc
