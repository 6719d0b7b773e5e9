-- The variables of the outermost code, as they are declared.
use Rattle.std.specs.Prelude.{◌≡◌, ℕ, Bool, ◌||◌, List, is_some, slice_get}
use Rattle.js_values.specs.Objects.{PlainObject}
use Rattle.es_meaning.specs.Objects.{own_in}
use Rattle.es_meaning.specs.Start.{global_object, object_prototype}
use Rattle.es_meaning.specs.Plain.{with_variables}
use Rattle.plain_heap.specs.PlainObjects.{PlainObjects, changed}

-- the global object has the key, itself or from its prototype
abbrev pub is_there : List ℕ → List PlainObject → Bool
is_there key objects = is_some (own_in key (slice_get objects global_object.0)) || is_some (own_in key (slice_get objects object_prototype.0))

-- the names are declared in their order
pub record Declares {T : Type 0} (names : List (List ℕ)) (old new : PlainObjects T) : Type 0 where
  pub says : new ≡ changed (with_variables names) old
