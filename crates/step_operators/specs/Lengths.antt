-- The number that both conversions of a value for the `length` of an array come to.
use Rattle.std.specs.Prelude.{ℕ, Bool, true, false, Option, Some, None, Result, Ok, Err}
use Rattle.origin_labels.specs.Label.{Label, union}
use Rattle.js_number.specs.declared.int.LeftNumbers.{LeftNumbers}
use Rattle.js_number.specs.declared.num.Num.{Num as Number}
use Rattle.js_values.specs.declared.value.Value as values
use Rattle.native_protocol.specs.declared.request.ErrorKind.TheVariants as kinds
use Rattle.es_meaning.specs.Operations.{Value}
use Rattle.es_meaning.specs.Plain.{count_of, is_count, number_in}
use Rattle.flow_meaning.specs.Planned.{Plan, as_plan}
use Rattle.flow_meaning.specs.Scopes.{State}
use Rattle.flow_meaning.specs.Tracked.{throw_error}

abbrev pub counted_if : Bool → ℕ → Option ℕ
counted_if true n = Some n
counted_if false n = None

abbrev pub counted_both : Result Number LeftNumbers → Result Number LeftNumbers → Result (Option ℕ) LeftNumbers
counted_both (Ok m) (Ok n) = Ok (counted_if (is_count m n) (count_of m))
counted_both (Ok m) (Err e) = Err e
counted_both (Err e) n = Err e

abbrev pub counted_of : values.Value → values.Value → Result (Option ℕ) LeftNumbers
counted_of first second = counted_both (number_in first) (number_in second)

-- they come to none, by a place and numbers with these labels
abbrev pub range_error : Label → Label → State → Plan
range_error place given s = as_plan Value (throw_error kinds.RangeError (union place given) s)
