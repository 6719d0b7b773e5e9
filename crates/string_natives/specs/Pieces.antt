-- `split` (ECMA-262 15.5.4.14).
use Rattle.std.specs.Prelude.{ℕ, ◌+◌, true, not, List, [], ◌∷◌, take, Some, None, pos, if◌then◌else◌}
use Rattle.std.specs.Fmt.{signed_decimal}
use Rattle.js_number.specs.Bits.{uint32}
use Rattle.js_number.specs.Number.{integer_of}
use Rattle.js_number.specs.declared.primitive.Primitive.TheVariants.{Str}
use Rattle.js_values.specs.declared.inner.Class.TheVariants as class
use Rattle.native_protocol.specs.declared.request.Request.TheVariants.{Define, Make, New, Return}
use Rattle.native_protocol.specs.declared.request.Seen.{Seen}
use Rattle.native_protocol.specs.Steps.{Steps, ask, look, ends}
use Rattle.native_programs.specs.Choosing.{is_undefined}
use Rattle.native_programs.specs.Asking.{data_marks}
use Rattle.native_programs.specs.Clauses.{free, text}
use Rattle.native_programs.specs.Meaning.{number_of_seen}
use Rattle.string_natives.specs.Texts.{pieces}
use Rattle.string_natives.specs.Values.{argument, this_text}

-- the texts become elements of the new array, from an index on; then the array is given
abbrev pub elements : ℕ → ℕ → List (List ℕ) → Steps
elements argc index [] = ends (Return (free argc 3))
elements argc index (piece ∷ more) =
    ask (Make (Str piece) (free argc 2)) (ask (Define (free argc 3) (signed_decimal (pos index)) (data_marks true) (Some (free argc 2)) None None) (elements argc (index + 1) more))

-- step 5: ToUint32 of the limit, or 2 ^ 32 - 1
abbrev pub limit : ℕ → (ℕ → Steps) → Steps
limit argc next = look (argument 1) (λ s. if not (is_undefined s) then number_of_seen s (argument 1) (free argc 0) (free argc 1) (λ n. next (uint32 (integer_of n))) else next 4294967295)

-- steps 9 to 16: the whole text for an undefined separator, and so many pieces at most
abbrev pub piece_list : List ℕ → Seen → List ℕ → List (List ℕ)
piece_list units separator separator_text = if is_undefined separator then units ∷ [] else pieces separator_text units

abbrev pub limited : ℕ → List ℕ → ℕ → Seen → List ℕ → Steps
limited argc units most separator separator_text = elements argc 0 (take most (piece_list units separator separator_text))

-- steps 1 to 8. Whether the separator is undefined is looked at before it is converted.
abbrev pub split_by : (List ℕ → ℕ → Seen → List ℕ → Steps) → ℕ → Steps
split_by rest argc =
    this_text argc (λ units. ask (New class.Array None (free argc 3)) (limit argc (λ most. look (argument 0) (λ separator. text argc (argument 0) (rest units most separator)))))

abbrev pub split : ℕ → Steps
split argc = split_by (limited argc) argc
