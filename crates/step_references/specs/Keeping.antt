-- What work keeps of a reference.
use Rattle.std.specs.Prelude.{ℕ, List, [], ◌∷◌}
use Rattle.js_number.specs.declared.primitive.Primitive.TheVariants.{Undefined}
use Rattle.js_values.specs.declared.value.Labelled.{Labelled}
use Rattle.js_values.specs.declared.value.Value.TheVariants as value
use Rattle.run_state.specs.declared.outcome.Place.{Place}
use Rattle.run_state.specs.declared.outcome.Place.TheVariants as place
use Rattle.step_objects.specs.declared.references.Reference.{Reference}
use Rattle.step_objects.specs.declared.references.Reference.TheVariants.{Name, Property}
use Rattle.js_ast.specs.declared.operators.BinaryOperator.{BinaryOperator}
use Rattle.es_meaning.specs.Operations.{Use, prefixed, postfixed}
use Rattle.continuations.specs.declared.continuation.Counting.{Counting}
use Rattle.continuations.specs.declared.continuation.Counting.TheVariants as counting
use Rattle.continuations.specs.declared.continuation.Target.{Target}
use Rattle.continuations.specs.declared.continuation.Target.TheVariants as target

-- which reference it is
abbrev pub target_for : {T : Type 0} → Reference T → Target
target_for (Name named) = target.Name named.name named.place
target_for (Property base key) = target.Property

-- the walk to a name that stands nowhere, or a base and a key
abbrev pub walk_laid : {T : Type 0} → Place → T → List (Labelled T)
walk_laid place.Nowhere walk = record { value = value.Primitive Undefined; label = walk } ∷ []
walk_laid _ walk = []

-- how many values that are
abbrev pub owns_walk : Place → ℕ
owns_walk place.Nowhere = 1
owns_walk _ = 0

abbrev pub laid_for : {T : Type 0} → Reference T → List (Labelled T)
laid_for (Name named) = walk_laid named.place named.walk
laid_for (Property base key) = base ∷ key ∷ []

-- `++` and `--` in front of a reference and behind it
abbrev pub counted_by : Counting → BinaryOperator → Use
counted_by counting.Prefix o = prefixed o
counted_by counting.Postfix o = postfixed o
