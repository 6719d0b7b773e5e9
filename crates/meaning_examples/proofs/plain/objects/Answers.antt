use Rattle.std.proofs.Common.{refl}
use Rattle.meaning_examples.proofs.PlainComputing.{computed}
use Rattle.meaning_examples.proofs.plain.objects.Goals as goal

-- each is computed
pub returns-clause-members : goal.returns-clause-members
unfolding computed
returns-clause-members c = record { members = refl; changes = refl; deleted = refl; deleted_in_parentheses = refl }

pub returns-clause-enumerations : goal.returns-clause-enumerations
unfolding computed
returns-clause-enumerations c = record { keys = refl; skipped = refl; one_key = refl; into_a_member = refl; no_keys = refl; keys_of_a_number = refl }

pub returns-clause-bases : goal.returns-clause-bases
unfolding computed
returns-clause-bases c = record { base_behind_key = refl; base_before_value = refl; member_of_text = refl; in_no_object = refl }

pub returns-clause-variables : goal.returns-clause-variables
unfolding computed
returns-clause-variables c = record { variable = refl; variable_stays = refl; variables_in_order = refl; resolved_before = refl; found_and_deleted = refl }

pub returns-clause-origins : goal.returns-clause-origins
unfolding computed
returns-clause-origins c = record { raises_no_object = refl; raises_no_origin = refl; raises_and_answers = refl }
