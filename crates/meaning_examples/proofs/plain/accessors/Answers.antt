use Rattle.std.proofs.Common.{refl}
use Rattle.meaning_examples.proofs.PlainComputing.{computed}
use Rattle.meaning_examples.proofs.plain.accessors.Goals as goal

-- each is computed
pub returns-clause-getters : goal.returns-clause-getters
unfolding computed
returns-clause-getters c = record { read_by_getter = refl; both_halves = refl; changed_by_both = refl; asked_for_its_type = refl; got_and_called = refl; thrown_by_getter = refl; inherited_getter = refl }

pub returns-clause-setters : goal.returns-clause-setters
unfolding computed
returns-clause-setters c = record { value_assigned = refl; no_setter = refl; no_setter_inherited = refl; inherited_setter = refl; key_put_by_setter = refl; accessor_deleted = refl }
