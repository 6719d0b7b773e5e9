-- What each function object has, as it is given.
use Rattle.std.specs.Prelude.{ℕ, List, codes}
use Rattle.js_values.specs.Objects.{PlainObject}
use Rattle.es_meaning.specs.Holders.{with_property_of}
use Rattle.es_meaning.specs.Start.{count_property, fixed_accessor, caller_accessor, arguments_accessor}

abbrev pub with_length : ℕ → ℕ → List PlainObject → List PlainObject
with_length o n objects = with_property_of o (codes "length") (count_property n) objects

abbrev pub with_function_rows : ℕ → List PlainObject → List PlainObject
with_function_rows o objects = with_property_of o (codes "arguments") (fixed_accessor arguments_accessor) (with_property_of o (codes "caller") (fixed_accessor caller_accessor) objects)
