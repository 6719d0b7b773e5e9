-- The functions of the outermost code, as they are declared.
use Rattle.std.specs.Prelude.{◌≡◌, ℕ, Bool, true, false, ◌||◌, List, Option, Some, None, slice_get}
use Rattle.js_ast.specs.Trees.{Function}
use Rattle.js_ast.specs.Functions.{FunctionCode}
use Rattle.js_values.specs.Objects.{Property, PlainObject}
use Rattle.es_meaning.specs.Objects.{own_in}
use Rattle.es_meaning.specs.Start.{global_object, object_prototype}
use Rattle.es_meaning.specs.Plain.{may_hold, with_functions}
use Rattle.plain_heap.specs.PlainObjects.{PlainObjects}

-- where declarations go on, they come to these objects; where one is refused, they don't
abbrev pub Comes : {T : Type 0} → T → PlainObjects T → Bool → Option (List PlainObject) → Type 0
Comes label new true (Some objects) = new ≡ record { label = label; objects = objects }
Comes label new true None = ⊥
Comes label new false (Some objects) = ⊥
Comes label new false None = Unit {0}

-- whether a function may be declared over a property (ECMA-262 10.5)
abbrev pub may_take_over : Property → Bool
may_take_over p = p.marks.configurable || may_hold p p.body

-- the property that the name names on the global object, or else on its prototype
abbrev pub may_take_any : Option Property → Option Property → Bool
may_take_any (Some p) on_root = may_take_over p
may_take_any None (Some p) = may_take_over p
may_take_any None None = true

abbrev pub may_take : List ℕ → List PlainObject → Bool
may_take name objects = may_take_any (own_in name (slice_get objects global_object.0)) (own_in name (slice_get objects object_prototype.0))

-- functions are made and declared in turn, until one is refused
pub record Enters {T : Type 0} (functions : List FunctionCode) (declared : List Function) (old new : PlainObjects T) (goes : Bool) : Type 0 where
  pub says : Comes old.label new goes (with_functions functions declared old.objects)
