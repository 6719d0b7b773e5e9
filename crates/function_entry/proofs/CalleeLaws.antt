-- What an object is for a call, in a reading.
use Rattle.std.proofs.Common.{refl, sym, ap, ◌∙◌, ◌≡◌, ◌≤◌, ℕ, Bool, true, false, List, length, Option, Some, None}
use Rattle.std.specs.List.{slice_get}
use Rattle.std.specs.Option.{option_map}
use Rattle.std.proofs.lemmas.Option.{slice_get-map, slice_get_past}
use Rattle.origin_labels.specs.Label.{Label}
use Rattle.js_ast.specs.Functions.{FunctionCode}
use Rattle.js_values.specs.declared.inner.Inner.{Inner}
use Rattle.js_values.specs.declared.inner.Inner.TheVariants.{Plain, Script, Native, Bound}
use Rattle.js_values.specs.Objects.{Object}
use Rattle.js_values.specs.Readings.{read_inner, read_object, read_heap}
use Rattle.object_heap.specs.Formed.{IsShape, IsInner}
use Rattle.object_heap.specs.declared.shape.Shape.{Shape}
use Rattle.es_meaning.specs.Functions.{Callee, not_callable, is_function, callable_inner, callee_if, callee_of}
use Rattle.flow_meaning.specs.Erased.{erased_inner}
use Rattle.flow_meaning.specs.Tracked.{callee_in, callee_at}

module _ {T : Type 0} (functions : List FunctionCode) (reading : T → Label) where
  inner_read : (inner : Inner T) → callable_inner functions (erased_inner (read_inner reading inner)) ≡ callable_inner functions (erased_inner inner)
  inner_read Plain = refl
  inner_read (Script number env) = refl
  inner_read (Native which) = refl
  inner_read (Bound target label this args) = refl

  if_read : (b : Bool) (inner : Inner T) → callee_if b functions (erased_inner (read_inner reading inner)) ≡ callee_if b functions (erased_inner inner)
  if_read true inner = inner_read inner
  if_read false inner = refl

  abbrev callee_there : Option (Object T) → Callee
  callee_there None = not_callable
  callee_there (Some p) = callee_if (is_function p.class) functions (erased_inner p.inner)

  there_read : (p : Option (Object T)) → callee_in functions (option_map (read_object reading) p) ≡ callee_there p
  unfolding callee_of
  there_read None = refl
  there_read (Some p) = if_read (is_function p.class) p.inner

  at_read : (heap : List (Object T)) (o : ℕ) → callee_in functions (slice_get (read_heap reading heap) o) ≡ callee_there (slice_get heap o)
  at_read heap o = ap (callee_in functions) (slice_get-map (read_object reading) heap o) ∙ there_read (slice_get heap o)

  pub callee_past : (heap : List (Object T)) (o : ℕ) → length heap ≤ o → not_callable ≡ callee_at functions (read_heap reading heap) o
  unfolding callee_at
  callee_past heap o past = sym (at_read heap o ∙ ap callee_there (slice_get_past heap o past))

  not_function : (shape : Shape T) → is_function shape.class ≡ false → (p : Option (Object T)) → IsShape p shape → callee_there p ≡ not_callable
  not_function shape test None is = refl
  not_function shape test (Some p) is = ap (λ b. callee_if b functions (erased_inner p.inner)) (sym (ap (λ (x : Shape T). is_function x.class) is) ∙ test)

  a_function : (shape : Shape T) (inner : Inner T) → is_function shape.class ≡ true → (p : Option (Object T)) → IsShape p shape → IsInner p inner → callee_there p ≡ callable_inner functions (erased_inner inner)
  a_function shape inner test None is is_in = absurd is
  a_function shape inner test (Some p) is is_in = ap (λ b. callee_if b functions (erased_inner p.inner)) (sym (ap (λ (x : Shape T). is_function x.class) is) ∙ test) ∙ ap (λ (i : Inner T). callable_inner functions (erased_inner i)) (sym is_in)

  -- of an object that is no function, and of one that is
  pub callee_other : (heap : List (Object T)) (o : ℕ) (shape : Shape T) → IsShape (slice_get heap o) shape → is_function shape.class ≡ false → not_callable ≡ callee_at functions (read_heap reading heap) o
  unfolding callee_at
  callee_other heap o shape is_shape test = sym (at_read heap o ∙ not_function shape test (slice_get heap o) is_shape)

  pub callee_function : (heap : List (Object T)) (o : ℕ) (shape : Shape T) (inner : Inner T) → IsShape (slice_get heap o) shape → IsInner (slice_get heap o) inner → is_function shape.class ≡ true → callable_inner functions (erased_inner inner) ≡ callee_at functions (read_heap reading heap) o
  unfolding callee_at
  callee_function heap o shape inner is_shape is_inner test = sym (at_read heap o ∙ a_function shape inner test (slice_get heap o) is_shape is_inner)
