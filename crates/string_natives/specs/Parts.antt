-- Parts of a text, and what is made of it as a whole (ECMA-262 15.5.4.6, 15.5.4.13, 15.5.4.15, 15.5.4.16, 15.5.4.18, 15.5.4.20).
use Rattle.std.specs.Prelude.{ℕ, ◌+◌, not, List, codes, length, map, ℤ, pos, if◌then◌else◌}
use Rattle.js_number.specs.declared.primitive.Primitive.TheVariants.{Str}
use Rattle.js_number.specs.Radix.{trimmed}
use Rattle.native_protocol.specs.Steps.{Steps, leaves}
use Rattle.native_programs.specs.Choosing.{is_ascii}
use Rattle.native_programs.specs.Clauses.{argument_at, gives, integer, integer_or, text, together}
use Rattle.native_programs.specs.Meaning.{each}
use Rattle.native_programs.specs.Wordings.{lower, upper}
use Rattle.string_natives.specs.Texts.{sliced, substring_of}
use Rattle.string_natives.specs.Values.{Growing, growing, argument, this_text}

-- `concat` (15.5.4.6): the texts of all arguments, one behind the other
abbrev pub text_added : ℕ → Growing → (Growing → Steps) → Steps
text_added argc g again = text argc (argument_at 0 (pos g.at)) (λ next. together g.text next (λ whole. again (growing (g.at + 1) whole)))

abbrev pub all_added : ℕ → List ℕ → Steps
all_added argc units = each argc (text_added argc) (λ g. gives argc (Str g.text)) (growing 0 units)

abbrev pub concat : ℕ → Steps
concat argc = this_text argc (all_added argc)

-- a part by two numbers; where the second is undefined it is the length
abbrev pub part_by : (List ℕ → ℤ → ℤ → List ℕ) → ℕ → Steps
part_by part argc =
    this_text argc (λ units. integer argc (argument 0) (λ start. integer_or argc (argument 1) (pos (length units)) (λ until. gives argc (Str (part units start until)))))

-- `slice` (15.5.4.13)
abbrev pub slice : ℕ → Steps
slice argc = part_by sliced argc

-- `substring` (15.5.4.15)
abbrev pub substring : ℕ → Steps
substring argc = part_by substring_of argc

-- a text that is made of another one
abbrev pub ascii_by : (List ℕ → List ℕ) → ℕ → Steps
ascii_by made argc = this_text argc (λ units. if not (is_ascii units) then leaves (codes "case") else gives argc (Str (made units)))

-- `toLowerCase` (15.5.4.16) and `toUpperCase` (15.5.4.18): a unit past 007F leaves
abbrev pub to_lower_case : ℕ → Steps
to_lower_case argc = ascii_by (map lower) argc

abbrev pub to_upper_case : ℕ → Steps
to_upper_case argc = ascii_by (map upper) argc

-- `trim` (15.5.4.20)
abbrev pub trim : ℕ → Steps
trim argc = this_text argc (λ units. gives argc (Str (trimmed units)))
