use Rattle.std.proofs.Common.{sym, ap, ◌∙◌, ◌-◌, None}
use Rattle.std.specs.Option.{option_map}
use Rattle.js_ast.specs.Views.{view_expr}
use Rattle.run_state.proofs.ActLaws.{Belongs-later}
use Rattle.step_numbers.specs.Evaluated.{labelled_number}
use Rattle.step_numbers.proofs.AssignLaws.{assigned_gives, rebinds_none}
use Rattle.step_numbers.specs.Assigned.{given_by, name_in}
use Rattle.step_numbers.proofs.ChangeLaws.{changes_later}
use Rattle.step_numbers.proofs.TriedLaws.{changed, no_change}
use Rattle.step_numbers.proofs.assigning.assigned_value.Goals as goal

pub returns-in_err-found-clause-rebinds : goal.returns-in_err-found-clause-rebinds
returns-in_err-found-clause-rebinds g c = rebinds_none g.L.Labels.made g.L.Labels.meaning g.L.Labels.room g.L.Labels.firm c.args.labels.now c.number.new.labels c.number.ensures.kept g.met.L.Labels.rising c.args.world.now c.requires.belongs

pub put-requires-clause-belongs : goal.put-requires-clause-belongs
put-requires-clause-belongs g c = Belongs-later g.L.Labels.made g.L.Labels.meaning g.L.Labels.room g.L.Labels.firm c.args.labels.now c.number.new.labels c.number.ensures.kept g.met.L.Labels.rising c.args.world.now c.requires.belongs

pub returns-clause-gives : goal.returns-clause-gives
returns-clause-gives g c place =
    assigned_gives g.L.Labels.made g.L.Labels.meaning g.L.Labels.room g.L.Labels.firm c.number.new.labels c.put.new.labels c.put.ensures.kept place c.args.target.now.at c.args.at.0 c.args.world.now c.put.new.world c.args.turns (view_expr c.args.target.now) (view_expr c.args.value.now) c.in_ok-name.name.now
    (labelled_number c.in_ok-found.found.number c.in_ok-found.found.label) c.in_ok-found.found.turns c.in_ok-name.ensures.name c.requires.turns c.in_ok-found.ensures.evaluates c.in_ok-put.ensures.puts

pub returns-clause-exact : goal.returns-clause-exact
returns-clause-exact g c firm =
    let gives = given_by c.args.world.now c.args.at.0 None (view_expr c.args.value.now) (c.args.turns - 2) in
    c.in_ok-found.ensures.exact firm
    ∙ sym (changed (g.L.Labels.meaning c.args.labels.now) c.args.world.now c.args.at.0 gives (name_in (view_expr c.args.target.now)) c.in_ok-name.name.now c.in_ok-name.ensures.exact
    (c.in_ok-put.ensures.exact (c.number.ensures.kept.same_firm ∙ firm) ∙ changes_later g.L.Labels.made g.L.Labels.meaning g.L.Labels.room g.L.Labels.firm c.args.labels.now c.number.new.labels c.number.ensures.kept c.args.world.now c.requires.belongs c.args.at.0 c.in_ok-name.name.now))

pub returns-in_err-put-clause-exact : goal.returns-in_err-put-clause-exact
returns-in_err-put-clause-exact g c firm =
    let gives = given_by c.args.world.now c.args.at.0 None (view_expr c.args.value.now) (c.args.turns - 2) in
    ap (option_map (λ x. (x.number, x.turns))) c.from_residual-in_err-put.ensures
    ∙ sym (no_change (g.L.Labels.meaning c.args.labels.now) c.args.world.now c.args.at.0 gives (name_in (view_expr c.args.target.now)) c.in_ok-name.name.now c.in_ok-name.ensures.exact
    (c.in_err-put.ensures.exact (c.number.ensures.kept.same_firm ∙ firm) ∙ changes_later g.L.Labels.made g.L.Labels.meaning g.L.Labels.room g.L.Labels.firm c.args.labels.now c.number.new.labels c.number.ensures.kept c.args.world.now c.requires.belongs c.args.at.0 c.in_ok-name.name.now))
