use Rattle.std.proofs.Common.{Some, subst, sym}
use Rattle.js_values.specs.Readings.{HasRecords}
use Rattle.run_state.proofs.ActLaws.{Belongs-later}
use Rattle.function_entry.proofs.WorldLaws.{records_belong, same_records_belong}
use Rattle.function_entry.proofs.BindingLaws.{name_bound, new_belongs, bound_belongs}
use Rattle.function_entry.proofs.binding.bind_name.Goals as goal

pub returns-in_err-label-clause-belongs : goal.returns-in_err-label-clause-belongs
returns-in_err-label-clause-belongs g c = Belongs-later g.L.Labels.made g.L.Labels.meaning g.L.Labels.room g.L.Labels.firm c.args.labels.now c.join.new.self c.join.ensures.kept g.met.L.Labels.rising c.args.world.now c.requires.belongs

pub returns-in_err-e-clause-belongs : goal.returns-in_err-e-clause-belongs
returns-in_err-e-clause-belongs g c = same_records_belong g.L.Labels.made g.L.Labels.meaning g.L.Labels.room g.L.Labels.firm c.args.labels.now c.join.new.self c.join.ensures.kept g.met.L.Labels.rising c.args.world.now c.requires.belongs c.new_record.new.self c.in_err-e.ensures.unchanged

pub returns-in_err-bind-clause-belongs : goal.returns-in_err-bind-clause-belongs
returns-in_err-bind-clause-belongs g c =
    records_belong g.L.Labels.made g.L.Labels.meaning g.L.Labels.room g.L.Labels.firm c.args.labels.now c.join.new.self c.join.ensures.kept g.met.L.Labels.rising c.args.world.now c.requires.belongs c.bind.new.self
    (subst (HasRecords (g.L.Labels.made c.join.new.self)) (sym c.in_err-bind.ensures.unchanged)
    (new_belongs g.L.Labels.made g.L.Labels.meaning g.L.Labels.room g.L.Labels.firm c.args.labels.now c.join.new.self c.join.ensures.kept g.met.L.Labels.rising c.args.world.now c.requires.belongs (Some c.args.place) c.new_record.new.self c.in_ok-e.ensures.ok))

pub returns-clause-binds : goal.returns-clause-binds
returns-clause-binds g c =
    rw c.in_ok-name.ensures at
    (name_bound g.L.Labels.made g.L.Labels.meaning g.L.Labels.room g.L.Labels.firm c.args.labels.now c.join.new.self c.join.ensures.kept g.met.L.Labels.rising c.args.world.now c.requires.belongs c.args.value c.requires.value c.context-context.result c.in_ok-label.label c.context-context.ensures.made c.context-context.ensures.meaning c.in_ok-label.ensures.made c.in_ok-label.ensures.meaning
    c.in_ok-e.e c.args.place c.in_ok-name.name c.new_record.new.self c.bind.new.self c.in_ok-e.ensures.number c.in_ok-e.ensures.ok c.in_ok-bind.ensures.ok)

pub returns-clause-belongs : goal.returns-clause-belongs
returns-clause-belongs g c =
    records_belong g.L.Labels.made g.L.Labels.meaning g.L.Labels.room g.L.Labels.firm c.args.labels.now c.join.new.self c.join.ensures.kept g.met.L.Labels.rising c.args.world.now c.requires.belongs c.bind.new.self
    (bound_belongs g.L.Labels.made g.L.Labels.meaning g.L.Labels.room g.L.Labels.firm c.args.labels.now c.join.new.self c.join.ensures.kept g.met.L.Labels.rising c.args.world.now c.requires.belongs c.in_ok-e.e (Some c.args.place) _ c.new_record.new.self c.bind.new.self c.in_ok-label.ensures.made c.in_ok-e.ensures.number c.in_ok-e.ensures.ok c.in_ok-bind.ensures.ok)
