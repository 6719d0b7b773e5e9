use Rattle.std.proofs.Common.{refl}
use Rattle.all_natives.specs.Together.{all_entries}
use Rattle.object_functions.specs.Repeating.{times, repeats}
use Rattle.object_natives.specs.Table as objects
use Rattle.array_natives.specs.Table as arrays
use Rattle.function_natives.specs.Table as functions
use Rattle.string_natives.specs.Table as texts
use Rattle.primitive_natives.specs.Maths.{best_with}
use Rattle.descriptor_pieces.specs.Defining.{define_in_turn}
use Rattle.descriptor_pieces.specs.Descriptors.{read_in_turn, told_in_turn}
use Rattle.meaning_examples.proofs.LabelledComputing.{labelled_computed}
use Rattle.builtin_examples.proofs.rows.turns.Goals as goal

-- each is computed
pub returns : goal.returns
unfolding labelled_computed all_entries objects.entries arrays.entries functions.entries texts.entries define_in_turn read_in_turn told_in_turn times repeats best_with
returns c = record { read = record { enough = refl; missing = refl }; print_text = record { enough = refl; missing = refl }; print_number = record { enough = refl; missing = refl }; print_object = record { enough = refl; missing = refl }; lbl = record { enough = refl; missing = refl }; upgs = record { enough = refl; missing = refl }; upge = record { enough = refl; missing = refl }; object_new = record { enough = refl; missing = refl }; object_same = record { enough = refl; missing = refl }; prototype_told = record { enough = refl; missing = refl }; no_descriptor = record { enough = refl; missing = refl }; data_descriptor = record { enough = refl; missing = refl }; accessor_descriptor = record { enough = refl; missing = refl }; created = record { enough = refl; missing = refl }; created_undefined = record { enough = refl; missing = refl }; defined = record { enough = refl; missing = refl }; defined_value = record { enough = refl; missing = refl }; defined_mark = record { enough = refl; missing = refl }; defined_getter = record { enough = refl; missing = refl }; prevented = record { enough = refl; missing = refl }; extensible = record { enough = refl; missing = refl }; to_string = record { enough = refl; missing = refl }; value_of = record { enough = refl; missing = refl }; has_own = record { enough = refl; missing = refl }; is_enumerable = record { enough = refl; missing = refl }; no_object = record { enough = refl; missing = refl }; is_first = record { enough = refl; missing = refl }; is_none = record { enough = refl; missing = refl }; boolean_of = record { enough = refl; missing = refl }; number_none = record { enough = refl; missing = refl }; number_of = record { enough = refl; missing = refl }; abs = record { enough = refl; missing = refl }; max = record { enough = refl; missing = refl }; converted = record { enough = refl; missing = refl }; converted_by_value = record { enough = refl; missing = refl } }
