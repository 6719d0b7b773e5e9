use Rattle.std.proofs.Common.{refl, sym, ap, ◌∙◌}
use Rattle.js_values.specs.Readings.{read_value}
use Rattle.run_state.proofs.ActLaws.{Belongs-later}
use Rattle.continuations.specs.Pending.{sets_length}
use Rattle.step_references.proofs.Begun.{begun_as}
use Rattle.step_operators.specs.Lengths.{range_error}
use Rattle.step_operators.proofs.LengthLaws.{both_leave, both_none, both_some, given_is, leaving}
use Rattle.step_operators.proofs.lengths.behind_both.Goals as goal

pub returns-in_err-given-clause-belongs : goal.returns-in_err-given-clause-belongs
returns-in_err-given-clause-belongs g c = Belongs-later g.L.Labels.made g.L.Labels.meaning g.L.Labels.room g.L.Labels.firm c.args.labels.now c.join.new.self c.join.ensures.kept g.met.L.Labels.rising c.args.world.now c.requires.belongs

pub give_number-requires-clause-array : goal.give_number-requires-clause-array
give_number-requires-clause-array g c = (c.join.ensures.kept.labels c.args.array.label c.requires.array).0

pub give_number-requires-clause-belongs : goal.give_number-requires-clause-belongs
give_number-requires-clause-belongs g c = Belongs-later g.L.Labels.made g.L.Labels.meaning g.L.Labels.room g.L.Labels.firm c.args.labels.now c.join.new.self c.join.ensures.kept g.met.L.Labels.rising c.args.world.now c.requires.belongs

pub returns-in-Ok-Some-clause-goes_on : goal.returns-in-Ok-Some-clause-goes_on
returns-in-Ok-Some-clause-goes_on g c =
    begun_as c.give_number.ensures.goes_on refl
    (λ tables inputs set functions reading f s is.
    let next = sets_length tables inputs set functions c.args.how (read_value reading c.args.array) in
    ap (λ l. next c.in-Ok-Some.count l s) (given_is g.L.Labels.made g.L.Labels.meaning g.L.Labels.room g.L.Labels.firm c.args.labels.now c.join.new.self c.give_number.new.labels c.join.ensures.kept c.give_number.ensures.kept reading is c.args.first.label c.args.second.label c.in_ok-given.given c.requires.first c.requires.second c.in_ok-given.ensures.made c.in_ok-given.ensures.meaning)
    ∙ both_some tables inputs set functions (reading c.args.array.label) next (read_value reading c.args.first) (read_value reading c.args.second) s c.in-Ok-Some.count (sym c.counted.ensures ∙ (rw c.in-Ok-Some.field-0-is at c.in-Ok-Some.is)))

pub refuse_number-requires-clause-array : goal.refuse_number-requires-clause-array
refuse_number-requires-clause-array g c = (c.join.ensures.kept.labels c.args.array.label c.requires.array).0

pub refuse_number-requires-clause-belongs : goal.refuse_number-requires-clause-belongs
refuse_number-requires-clause-belongs g c = Belongs-later g.L.Labels.made g.L.Labels.meaning g.L.Labels.room g.L.Labels.firm c.args.labels.now c.join.new.self c.join.ensures.kept g.met.L.Labels.rising c.args.world.now c.requires.belongs

pub returns-in-Ok-None-clause-goes_on : goal.returns-in-Ok-None-clause-goes_on
returns-in-Ok-None-clause-goes_on g c =
    begun_as c.refuse_number.ensures.goes_on refl
    (λ tables inputs set functions reading f s is.
    let next = sets_length tables inputs set functions c.args.how (read_value reading c.args.array) in
    ap (λ l. range_error (reading c.args.array.label) l s) (given_is g.L.Labels.made g.L.Labels.meaning g.L.Labels.room g.L.Labels.firm c.args.labels.now c.join.new.self c.refuse_number.new.labels c.join.ensures.kept c.refuse_number.ensures.kept reading is c.args.first.label c.args.second.label c.in_ok-given.given c.requires.first c.requires.second c.in_ok-given.ensures.made c.in_ok-given.ensures.meaning)
    ∙ both_none tables inputs set functions (reading c.args.array.label) next (read_value reading c.args.first) (read_value reading c.args.second) s (sym c.counted.ensures ∙ (rw c.in-Ok-None.field-0-is at c.in-Ok-None.is)))

pub returns-clause-goes_on : goal.returns-clause-goes_on
returns-clause-goes_on g c =
    leaving c.requires.loose c.in_ok-next-in-Err.ensures.goes_on
    (λ tables inputs set functions reading f s. both_leave tables inputs set functions (reading c.args.array.label) (sets_length tables inputs set functions c.args.how (read_value reading c.args.array)) (read_value reading c.args.first) (read_value reading c.args.second) s _ (sym c.counted.ensures ∙ c.in-Err.is))

pub returns-clause-belongs : goal.returns-clause-belongs
returns-clause-belongs g c = Belongs-later g.L.Labels.made g.L.Labels.meaning g.L.Labels.room g.L.Labels.firm c.args.labels.now c.join.new.self c.join.ensures.kept g.met.L.Labels.rising c.args.world.now c.requires.belongs

pub returns-in_err-next-in-Err-clause-belongs : goal.returns-in_err-next-in-Err-clause-belongs
returns-in_err-next-in-Err-clause-belongs g c = Belongs-later g.L.Labels.made g.L.Labels.meaning g.L.Labels.room g.L.Labels.firm c.args.labels.now c.join.new.self c.join.ensures.kept g.met.L.Labels.rising c.args.world.now c.requires.belongs
