use Rattle.std.proofs.Common.{refl}
use Rattle.std.specs.Str.{chars}
use Rattle.all_natives.specs.Together.{all_entries}
use Rattle.object_functions.specs.Repeating.{times, repeats}
use Rattle.object_natives.specs.Table as objects
use Rattle.array_natives.specs.Table as arrays
use Rattle.function_natives.specs.Table as functions
use Rattle.string_natives.specs.Table as texts
use Rattle.primitive_natives.specs.Maths.{best_with}
use Rattle.descriptor_pieces.specs.Defining.{define_in_turn}
use Rattle.descriptor_pieces.specs.Descriptors.{read_in_turn, told_in_turn}
use Rattle.descriptor_pieces.specs.Loops.{last_keys}
use Rattle.meaning_examples.proofs.LabelledComputing.{labelled_computed}
use Rattle.builtin_examples.proofs.rows.standard.Goals as goal

-- each is computed
pub returns-clause-objects : goal.returns-clause-objects
unfolding labelled_computed all_entries objects.entries arrays.entries functions.entries texts.entries define_in_turn read_in_turn told_in_turn last_keys times repeats best_with
returns-clause-objects c = record { prototype = refl; constructor = refl; classes = refl; wrapped = refl; no_methods = refl; fields_in_order = refl; without_marks = refl; described = refl; closed = refl; listed = refl }

pub returns-clause-numbers : goal.returns-clause-numbers
unfolding labelled_computed all_entries objects.entries arrays.entries functions.entries texts.entries define_in_turn read_in_turn told_in_turn last_keys times repeats best_with
returns-clause-numbers c = record { maths = refl; converted = refl }

pub returns-clause-left : goal.returns-clause-left
unfolding labelled_computed all_entries objects.entries arrays.entries functions.entries texts.entries define_in_turn read_in_turn told_in_turn last_keys times repeats best_with chars
returns-clause-left c = record { date = refl; constant = refl; function_left = refl; constructor_left = refl; method_left = refl }

pub returns-clause-labels : goal.returns-clause-labels
unfolding labelled_computed all_entries objects.entries arrays.entries functions.entries texts.entries define_in_turn read_in_turn told_in_turn last_keys times repeats best_with
returns-clause-labels c = record { look_stops = refl; behind_look = refl; refused_stops = refl; throw_stops = refl; absent_stops = refl; mark_stops = refl }
