-- The standard's own objects, as they are made.
use Rattle.std.proofs.Common.{ap, ◌∙◌, ◌≡◌, ℕ, List, [], ◌∷◌, length, codes, Option, Some, None}
use Rattle.js_values.specs.declared.ids.ObjId.{ObjId}
use Rattle.js_values.specs.declared.inner.Class.TheVariants as class
use Rattle.js_values.specs.declared.property.Body.TheVariants.{Data}
use Rattle.js_values.specs.declared.value.Value.TheVariants as value
use Rattle.js_values.specs.Arrays.{length_key}
use Rattle.js_values.specs.Objects.{PlainObject, Property, plain, native, fresh_plain}
use Rattle.native_protocol.specs.declared.request.ErrorKind.{ErrorKind}
use Rattle.es_meaning.specs.Holders.{prototype_rows, with_property_of}
use Rattle.es_meaning.specs.Start.{fixed, count_property, length_property, text_property, error_name, native_function, prototype_of_arrays, prototype_of_errors, prototype_of_functions, prototype_of_strings, function_prototype, object_prototype}
use Rattle.plain_heap.specs.Functions.{with_length}
use Rattle.plain_heap.specs.PlainObjects.{PlainObjects, changed, with_more}
use Rattle.plain_heap.proofs.MoreLaws.{given, then_given}
use Rattle.step_start.specs.Given.{with_prototype}

module _ {T : Type 0} (old fresh : PlainObjects T) (o : ℕ) (place : o ≡ length old.objects) where
  -- a built-in function
  module _ (sized new : PlainObjects T) (which size : ℕ) where
    abbrev plain_native : PlainObject
    plain_native = fresh_plain class.Function (native which) (Some function_prototype)

    abbrev native_with_length : PlainObject
    native_with_length = given (codes "length") (count_property size) plain_native

    pub native_made : (prototype : Option ObjId) → fresh ≡ with_more (plain_native ∷ []) old → sized ≡ changed (with_length o size) fresh → new ≡ changed (with_prototype o prototype) sized
        → new ≡ with_more (native_function which size (prototype_rows prototype) ∷ []) old
    native_made None makes sizes same = same ∙ then_given old fresh sized plain_native o place makes (codes "length") (count_property size) sizes
    native_made (Some p) makes sizes gives =
        let body : Property = record { body = Data (value.Object p); marks = fixed } in
        then_given old sized new native_with_length o place (then_given old fresh sized plain_native o place makes (codes "length") (count_property size) sizes) (codes "prototype") body gives

  -- the prototype of functions
  pub function_prototype_made : (new : PlainObjects T) → fresh ≡ with_more (fresh_plain class.Function plain (Some object_prototype) ∷ []) old → new ≡ changed (with_length o 0) fresh → new ≡ with_more (prototype_of_functions ∷ []) old
  function_prototype_made new makes sizes = then_given old fresh new (fresh_plain class.Function plain (Some object_prototype)) o place makes (codes "length") (count_property 0) sizes

  -- those of arrays and of strings
  pub array_prototype_made : (new : PlainObjects T) → fresh ≡ with_more (fresh_plain class.Array plain (Some object_prototype) ∷ []) old → new ≡ changed (with_property_of o length_key (length_property 0)) fresh → new ≡ with_more (prototype_of_arrays ∷ []) old
  array_prototype_made new makes sizes = then_given old fresh new (fresh_plain class.Array plain (Some object_prototype)) o place makes length_key (length_property 0) sizes

  pub string_prototype_made : (new : PlainObjects T) → fresh ≡ with_more (fresh_plain class.String plain (Some object_prototype) ∷ []) old → new ≡ changed (with_length o 0) fresh → new ≡ with_more (prototype_of_strings ∷ []) old
  string_prototype_made new makes sizes = then_given old fresh new (fresh_plain class.String plain (Some object_prototype)) o place makes (codes "length") (count_property 0) sizes

  -- a prototype of errors
  pub error_prototype_made : (kind : ErrorKind) (proto : ObjId) (named new : PlainObjects T) (name : List ℕ) → name ≡ error_name kind → fresh ≡ with_more (fresh_plain class.Error plain (Some proto) ∷ []) old
      → named ≡ changed (with_property_of o (codes "name") (text_property name)) fresh → new ≡ changed (with_property_of o (codes "message") (text_property [])) named → new ≡ with_more (prototype_of_errors kind proto ∷ []) old
  error_prototype_made kind proto named new name name_is makes names ends =
      let q = fresh_plain class.Error plain (Some proto) in
      then_given old named new (given (codes "name") (text_property name) q) o place (then_given old fresh named q o place makes (codes "name") (text_property name) names) (codes "message") (text_property []) ends
      ∙ ap (λ text. with_more (given (codes "message") (text_property []) (given (codes "name") (text_property text) q) ∷ []) old) name_is

-- the prototype of all objects, and the global object
pub global_made : {T : Type 0} (old root fresh new : PlainObjects T) (r o : ObjId) (p : Property) → old.objects ≡ [] → r.0 ≡ length old.objects → o.0 ≡ length root.objects
    → root ≡ with_more (fresh_plain class.Object plain None ∷ []) old → fresh ≡ with_more (fresh_plain class.Object plain (Some r) ∷ []) root → new ≡ changed (with_property_of o.0 (codes "undefined") p) fresh
    → new ≡ record { label = old.label; objects = fresh_plain class.Object plain None ∷ given (codes "undefined") p (fresh_plain class.Object plain (Some object_prototype)) ∷ [] }
global_made old root fresh new r o p none r_is place first makes gives =
    let root_is : root ≡ record { label = old.label; objects = fresh_plain class.Object plain None ∷ [] } = first ∙ ap (λ os. with_more (fresh_plain class.Object plain None ∷ []) (record { label = old.label; objects = os })) none in
    then_given root fresh new (fresh_plain class.Object plain (Some r)) o.0 place makes (codes "undefined") p gives
    ∙ ap (λ h. with_more (given (codes "undefined") p (fresh_plain class.Object plain (Some r)) ∷ []) h) root_is
    ∙ ap (λ n. record { label = old.label; objects = fresh_plain class.Object plain None ∷ given (codes "undefined") p (fresh_plain class.Object plain (Some (record { 0 = n }))) ∷ [] }) (r_is ∙ ap length none)
