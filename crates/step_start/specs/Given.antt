-- What functions are given.
use Rattle.std.specs.Prelude.{ℕ, zero, suc, Bool, true, false, List, [], ◌∷◌, Option, Some, None, codes, slice_get}
use Rattle.js_values.specs.declared.ids.ObjId.{ObjId}
use Rattle.js_values.specs.declared.property.Body.TheVariants.{Data}
use Rattle.js_values.specs.declared.value.Value.TheVariants as value
use Rattle.js_values.specs.Objects.{PlainObject}
use Rattle.es_meaning.specs.Holders.{with_accessors, with_property_of}
use Rattle.es_meaning.specs.Requested.{is_function_in}
use Rattle.es_meaning.specs.Start.{fixed}
use Rattle.plain_heap.specs.Functions.{with_function_rows}

-- the prototype of what a function constructs
abbrev pub with_prototype : ℕ → Option ObjId → List PlainObject → List PlainObject
with_prototype f None objects = objects
with_prototype f (Some o) objects = with_property_of f (codes "prototype") (record { body = Data (value.Object o); marks = fixed }) objects

-- the accessors of `caller` and `arguments`, if the object is a function
abbrev pub rows_if : Bool → ℕ → List PlainObject → List PlainObject
rows_if true o objects = with_function_rows o objects
rows_if false o objects = objects

abbrev pub rows_if_function : ℕ → List PlainObject → List PlainObject
rows_if_function o objects = rows_if (is_function_in (slice_get objects o)) o objects

-- each function has them from this object on
abbrev pub accessors_from : ℕ → List PlainObject → List PlainObject
accessors_from zero objects = with_accessors objects
accessors_from (suc n) [] = []
accessors_from (suc n) (p ∷ objects) = p ∷ accessors_from n objects
