use Rattle.std.proofs.Common.{refl}
use Rattle.all_natives.specs.Together.{all_entries}
use Rattle.object_functions.specs.Repeating.{times, repeats}
use Rattle.object_natives.specs.Table as objects
use Rattle.array_natives.specs.Table as arrays
use Rattle.function_natives.specs.Table as functions
use Rattle.string_natives.specs.Table as texts
use Rattle.primitive_natives.specs.Maths.{best_with}
use Rattle.descriptor_pieces.specs.Defining.{define_in_turn}
use Rattle.descriptor_pieces.specs.Descriptors.{read_in_turn, told_in_turn}
use Rattle.descriptor_pieces.specs.Loops.{last_keys}
use Rattle.meaning_examples.proofs.LabelledComputing.{labelled_computed}
use Rattle.builtin_examples.proofs.rows.documents.Goals as goal

-- each is computed
pub returns : goal.returns
unfolding labelled_computed all_entries objects.entries arrays.entries functions.entries texts.entries define_in_turn read_in_turn told_in_turn last_keys times repeats best_with
returns c = record { defined_value_stops = refl; assigned = refl; raised = refl; fixed_by_hand = refl; freeze_stops = refl; frozen = refl; prevention_stops = refl; prevented = refl }
