use Rattle.std.proofs.Common.{sym, ap, ◌∙◌, ◌-◌}
use Rattle.std.specs.Option.{option_map}
use Rattle.js_ast.specs.Views.{view_expr}
use Rattle.run_state.proofs.ActLaws.{Belongs-later}
use Rattle.step_numbers.proofs.AssignLaws.{counted_gives, rebinds_none}
use Rattle.continuations.specs.Shapes.{step_of}
use Rattle.step_numbers.specs.Assigned.{counted_by, name_in}
use Rattle.step_numbers.proofs.ChangeLaws.{changes_later}
use Rattle.step_numbers.proofs.TriedLaws.{changed, no_change, no_more, no_number, none_counted, one_counted}
use Rattle.step_numbers.proofs.assigning.counted_behind.Goals as goal

pub returns-in_err-old-clause-rebinds : goal.returns-in_err-old-clause-rebinds
returns-in_err-old-clause-rebinds g c = rebinds_none g.L.Labels.made g.L.Labels.meaning g.L.Labels.room g.L.Labels.firm c.args.labels.now c.named.new.labels c.named.ensures.kept g.met.L.Labels.rising c.args.world.now c.requires.belongs

pub returns-in_err-more-clause-rebinds : goal.returns-in_err-more-clause-rebinds
returns-in_err-more-clause-rebinds g c = rebinds_none g.L.Labels.made g.L.Labels.meaning g.L.Labels.room g.L.Labels.firm c.args.labels.now c.named.new.labels c.named.ensures.kept g.met.L.Labels.rising c.args.world.now c.requires.belongs

pub returns-clause-gives : goal.returns-clause-gives
returns-clause-gives g c place =
    counted_gives g.L.Labels.made g.L.Labels.meaning g.L.Labels.room g.L.Labels.firm c.named.new.labels c.put.new.labels c.put.ensures.kept g.met.L.Labels.rising place c.args.target.now.at c.args.at.0 c.args.world.now c.put.new.world c.args.turns c.in_ok-old.old.turns (view_expr c.args.target.now) c.args.operator c.in_ok-name.name.now
    c.in_ok-old.old.number c.in_ok-more.more c.in_ok-old.old.label c.in_ok-name.ensures.name c.requires.turns c.in_ok-old.ensures.named c.in_ok-old.ensures.left c.one_more.ensures.plus (rw c.step_of.ensures at c.in_ok-more.ensures.counts) c.in_ok-put.ensures.puts

pub put-requires-clause-label : goal.put-requires-clause-label
put-requires-clause-label g c = c.in_ok-old.ensures.named.labelled

pub put-requires-clause-belongs : goal.put-requires-clause-belongs
put-requires-clause-belongs g c = Belongs-later g.L.Labels.made g.L.Labels.meaning g.L.Labels.room g.L.Labels.firm c.args.labels.now c.named.new.labels c.named.ensures.kept g.met.L.Labels.rising c.args.world.now c.requires.belongs

pub returns-in_err-old-clause-exact : goal.returns-in_err-old-clause-exact
returns-in_err-old-clause-exact g c firm =
    let meaning = g.L.Labels.meaning c.args.labels.now in
    let w = c.args.world.now in
    let o = step_of c.args.operator in
    let n = c.args.turns - 2 in
    let gives = counted_by w c.args.at.0 o n in
    let name = c.in_ok-name.name.now in
    let target = name_in (view_expr c.args.target.now) in
    ap (option_map (λ x. (x.number, x.turns))) c.from_residual-in_err-old.ensures
    ∙ sym (no_number meaning w c.args.at.0 gives target name c.in_ok-name.ensures.exact (none_counted w c.args.at.0 o n name (c.in_err-old.ensures.exact firm)))

pub returns-in_err-more-clause-exact : goal.returns-in_err-more-clause-exact
returns-in_err-more-clause-exact g c firm =
    let meaning = g.L.Labels.meaning c.args.labels.now in
    let w = c.args.world.now in
    let o = step_of c.args.operator in
    let n = c.args.turns - 2 in
    let gives = counted_by w c.args.at.0 o n in
    let name = c.in_ok-name.name.now in
    let target = name_in (view_expr c.args.target.now) in
    let old = c.in_ok-old.old in
    ap (option_map (λ x. (x.number, x.turns))) c.from_residual-in_err-more.ensures
    ∙ sym (no_number meaning w c.args.at.0 gives target name c.in_ok-name.ensures.exact (no_more w c.args.at.0 o n name old.number old.turns (c.in_ok-old.ensures.exact firm) (rw c.step_of.ensures at c.in_err-more.ensures.exact)))

pub returns-in_err-put-clause-exact : goal.returns-in_err-put-clause-exact
returns-in_err-put-clause-exact g c firm =
    let meaning = g.L.Labels.meaning c.args.labels.now in
    let w = c.args.world.now in
    let o = step_of c.args.operator in
    let n = c.args.turns - 2 in
    let gives = counted_by w c.args.at.0 o n in
    let name = c.in_ok-name.name.now in
    let target = name_in (view_expr c.args.target.now) in
    ap (option_map (λ x. (x.number, x.turns))) c.from_residual-in_err-put.ensures
    ∙ sym (no_change meaning w c.args.at.0 gives target name c.in_ok-name.ensures.exact (c.in_err-put.ensures.exact (c.named.ensures.kept.same_firm ∙ firm)
    ∙ changes_later g.L.Labels.made g.L.Labels.meaning g.L.Labels.room g.L.Labels.firm c.args.labels.now c.named.new.labels c.named.ensures.kept w c.requires.belongs c.args.at.0 name))

pub returns-clause-exact : goal.returns-clause-exact
returns-clause-exact g c firm =
    let meaning = g.L.Labels.meaning c.args.labels.now in
    let w = c.args.world.now in
    let o = step_of c.args.operator in
    let n = c.args.turns - 2 in
    let gives = counted_by w c.args.at.0 o n in
    let name = c.in_ok-name.name.now in
    let target = name_in (view_expr c.args.target.now) in
    let old = c.in_ok-old.old in
    sym (changed meaning w c.args.at.0 gives target name c.in_ok-name.ensures.exact (c.in_ok-put.ensures.exact (c.named.ensures.kept.same_firm ∙ firm)
    ∙ changes_later g.L.Labels.made g.L.Labels.meaning g.L.Labels.room g.L.Labels.firm c.args.labels.now c.named.new.labels c.named.ensures.kept w c.requires.belongs c.args.at.0 name)
    ∙ one_counted w c.args.at.0 o n name old.number c.in_ok-more.more old.turns (c.in_ok-old.ensures.exact firm) (rw c.step_of.ensures at c.in_ok-more.ensures.exact))
