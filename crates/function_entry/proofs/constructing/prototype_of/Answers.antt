use Rattle.std.proofs.Common.{arith, ◌∙◌}
use Rattle.origin_labels.proofs.StoreLaws.{IsKept-trans}
use Rattle.run_state.proofs.ActLaws.{Belongs-later}
use Rattle.function_entry.proofs.MakingLaws.{no_prototype}
use Rattle.function_entry.proofs.constructing.prototype_of.Goals as goal

pub returns-in_err-place-clause-belongs : goal.returns-in_err-place-clause-belongs
returns-in_err-place-clause-belongs g c = Belongs-later g.L.Labels.made g.L.Labels.meaning g.L.Labels.room g.L.Labels.firm c.args.labels.now c.find_slot_named.new.labels c.find_slot_named.ensures.kept g.met.L.Labels.rising c.args.world.now c.requires

pub returns-in_err-label-in-Some-clause-belongs : goal.returns-in_err-label-in-Some-clause-belongs
returns-in_err-label-in-Some-clause-belongs g c = Belongs-later g.L.Labels.made g.L.Labels.meaning g.L.Labels.room g.L.Labels.firm c.args.labels.now c.join.new.self (IsKept-trans _ _ _ _ _ _ _ c.find_slot_named.ensures.kept c.join.ensures.kept) g.met.L.Labels.rising c.args.world.now c.requires

pub returns-in_err-value-in-Some-clause-belongs : goal.returns-in_err-value-in-Some-clause-belongs
returns-in_err-value-in-Some-clause-belongs g c = Belongs-later g.L.Labels.made g.L.Labels.meaning g.L.Labels.room g.L.Labels.firm c.args.labels.now c.join.new.self (IsKept-trans _ _ _ _ _ _ _ c.find_slot_named.ensures.kept c.join.ensures.kept) g.met.L.Labels.rising c.args.world.now c.requires

pub returns-in_ok-value-in-Some-clause-belongs : goal.returns-in_ok-value-in-Some-clause-belongs
returns-in_ok-value-in-Some-clause-belongs g c = Belongs-later g.L.Labels.made g.L.Labels.meaning g.L.Labels.room g.L.Labels.firm c.args.labels.now c.join.new.self (IsKept-trans _ _ _ _ _ _ _ c.find_slot_named.ensures.kept c.join.ensures.kept) g.met.L.Labels.rising c.args.world.now c.requires

pub returns-in-None-clause-belongs : goal.returns-in-None-clause-belongs
returns-in-None-clause-belongs g c = Belongs-later g.L.Labels.made g.L.Labels.meaning g.L.Labels.room g.L.Labels.firm c.args.labels.now c.find_slot_named.new.labels c.find_slot_named.ensures.kept g.met.L.Labels.rising c.args.world.now c.requires

pub returns-then-past-clause-is : goal.returns-then-past-clause-is
returns-then-past-clause-is g c = λ reading is.
    let len = c.len.ensures in
    no_prototype c.args.world.now.heap c.args.function.0 reading c.bottom-none.result (is.agrees c.bottom-none.result c.bottom-none.ensures.made ∙ c.bottom-none.ensures.meaning) (omega (arith, len, c.if-past.true))
