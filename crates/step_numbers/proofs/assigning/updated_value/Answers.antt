use Rattle.std.proofs.Common.{sym, ap, ◌∙◌, ◌≡◌, ◌-◌, false, Some}
use Rattle.std.specs.Option.{option_map}
use Rattle.origin_labels.proofs.StoreLaws.{IsKept-trans}
use Rattle.js_ast.specs.Views.{view_expr}
use Rattle.run_state.proofs.ActLaws.{Belongs-later}
use Rattle.step_numbers.specs.Evaluated.{integer, labelled_number}
use Rattle.step_numbers.proofs.AssignLaws.{rebinds_none, updated_gives}
use Rattle.step_numbers.specs.Assigned.{given_by, name_in}
use Rattle.step_numbers.specs.Evaluated.{combines}
use Rattle.step_numbers.proofs.ChangeLaws.{changes_later}
use Rattle.step_numbers.proofs.TriedLaws.{both_given, changed, never, no_arithmetic, no_change, no_number, no_old, no_operand}
use Rattle.step_numbers.proofs.NumberLaws.{none_converts}
use Rattle.step_numbers.proofs.assigning.updated_value.Goals as goal

pub returns-clause-gives : goal.returns-clause-gives
returns-clause-gives g c place operator by =
    let old = c.in_ok-old.old in
    let operand = c.in_ok-operand.operand in
    let given = c.in_ok-given.given in
    updated_gives g.L.Labels.made g.L.Labels.meaning g.met.L.Labels.rising g.L.Labels.room g.L.Labels.firm c.named.new.labels c.number.new.labels c.joined.new.labels c.put.new.labels c.number.ensures.kept c.joined.ensures.kept c.put.ensures.kept
    place c.args.target.now.at c.args.at.0 c.args.world.now c.put.new.world c.args.turns (view_expr c.args.target.now) (view_expr c.args.value.now) operator c.args.by c.in_ok-name.name.now (labelled_number old.number old.label) (labelled_number operand.number operand.label) (integer given.number) given.label
    operand.turns given.turns c.in_ok-name.ensures.name c.requires.turns by (none_converts c.args.by old.number operand.number) c.in_ok-old.ensures.named c.in_ok-operand.ensures.evaluates c.in_ok-given.ensures.gives c.in_ok-given.ensures.left c.in_ok-given.ensures.made c.in_ok-given.ensures.means
    c.in_ok-put.ensures.puts

pub returns-in_err-old-clause-rebinds : goal.returns-in_err-old-clause-rebinds
returns-in_err-old-clause-rebinds g c = rebinds_none g.L.Labels.made g.L.Labels.meaning g.L.Labels.room g.L.Labels.firm c.args.labels.now c.named.new.labels c.named.ensures.kept g.met.L.Labels.rising c.args.world.now c.requires.belongs

pub number-requires-clause-belongs : goal.number-requires-clause-belongs
number-requires-clause-belongs g c = Belongs-later g.L.Labels.made g.L.Labels.meaning g.L.Labels.room g.L.Labels.firm c.args.labels.now c.named.new.labels c.named.ensures.kept g.met.L.Labels.rising c.args.world.now c.requires.belongs

pub returns-in_err-operand-clause-rebinds : goal.returns-in_err-operand-clause-rebinds
returns-in_err-operand-clause-rebinds g c =
    rebinds_none g.L.Labels.made g.L.Labels.meaning g.L.Labels.room g.L.Labels.firm c.args.labels.now c.number.new.labels (IsKept-trans _ _ _ _ _ _ _ c.named.ensures.kept c.number.ensures.kept) g.met.L.Labels.rising c.args.world.now c.requires.belongs

pub joined-requires-clause-first : goal.joined-requires-clause-first
joined-requires-clause-first g c = (c.number.ensures.kept.labels c.in_ok-old.old.label c.in_ok-old.ensures.named.labelled).0

pub returns-in_err-given-clause-rebinds : goal.returns-in_err-given-clause-rebinds
returns-in_err-given-clause-rebinds g c =
    rebinds_none g.L.Labels.made g.L.Labels.meaning g.L.Labels.room g.L.Labels.firm c.args.labels.now c.joined.new.labels (IsKept-trans _ _ _ _ _ _ _ (IsKept-trans _ _ _ _ _ _ _ c.named.ensures.kept c.number.ensures.kept) c.joined.ensures.kept) g.met.L.Labels.rising c.args.world.now c.requires.belongs

pub put-requires-clause-belongs : goal.put-requires-clause-belongs
put-requires-clause-belongs g c =
    Belongs-later g.L.Labels.made g.L.Labels.meaning g.L.Labels.room g.L.Labels.firm c.args.labels.now c.joined.new.labels (IsKept-trans _ _ _ _ _ _ _ (IsKept-trans _ _ _ _ _ _ _ c.named.ensures.kept c.number.ensures.kept) c.joined.ensures.kept) g.met.L.Labels.rising c.args.world.now c.requires.belongs

pub returns-then-not-combines-clause-exact : goal.returns-then-not-combines-clause-exact
returns-then-not-combines-clause-exact g c firm =
    let meaning = g.L.Labels.meaning c.args.labels.now in
    let w = c.args.world.now in
    let e = view_expr c.args.value.now in
    let n = c.args.turns - 2 in
    let gives = given_by w c.args.at.0 (Some c.args.by) e n in
    let other_op : combines c.args.by ≡ false = cc (c.combines.ensures, c.if-not-combines.true) in
    sym (never meaning w c.args.at.0 gives (name_in (view_expr c.args.target.now)) (λ text. no_arithmetic w c.args.at.0 c.args.by e n text other_op))

pub returns-in_err-old-clause-exact : goal.returns-in_err-old-clause-exact
returns-in_err-old-clause-exact g c firm =
    let meaning = g.L.Labels.meaning c.args.labels.now in
    let w = c.args.world.now in
    let e = view_expr c.args.value.now in
    let n = c.args.turns - 2 in
    let gives = given_by w c.args.at.0 (Some c.args.by) e n in
    let name = c.in_ok-name.name.now in
    let target = name_in (view_expr c.args.target.now) in
    ap (option_map (λ x. (x.number, x.turns))) c.from_residual-in_err-old.ensures
    ∙ sym (no_number meaning w c.args.at.0 gives target name c.in_ok-name.ensures.exact (no_old w c.args.at.0 c.args.by e n name (c.in_err-old.ensures.exact firm)))

pub returns-in_err-operand-clause-exact : goal.returns-in_err-operand-clause-exact
returns-in_err-operand-clause-exact g c firm =
    let meaning = g.L.Labels.meaning c.args.labels.now in
    let w = c.args.world.now in
    let e = view_expr c.args.value.now in
    let n = c.args.turns - 2 in
    let gives = given_by w c.args.at.0 (Some c.args.by) e n in
    let name = c.in_ok-name.name.now in
    let target = name_in (view_expr c.args.target.now) in
    let old = c.in_ok-old.old in
    ap (option_map (λ x. (x.number, x.turns))) c.from_residual-in_err-operand.ensures
    ∙ sym (no_number meaning w c.args.at.0 gives target name c.in_ok-name.ensures.exact
    (no_operand w c.args.at.0 c.args.by e n name old.number old.turns (c.in_ok-old.ensures.exact firm) c.in_ok-old.ensures.left (c.in_err-operand.ensures.exact (c.named.ensures.kept.same_firm ∙ firm))))

pub returns-in_err-given-clause-exact : goal.returns-in_err-given-clause-exact
returns-in_err-given-clause-exact g c firm =
    let meaning = g.L.Labels.meaning c.args.labels.now in
    let w = c.args.world.now in
    let e = view_expr c.args.value.now in
    let n = c.args.turns - 2 in
    let gives = given_by w c.args.at.0 (Some c.args.by) e n in
    let name = c.in_ok-name.name.now in
    let target = name_in (view_expr c.args.target.now) in
    let old = c.in_ok-old.old in
    let operand = c.in_ok-operand.operand in
    let one = c.named.ensures.kept.same_firm ∙ firm in
    ap (option_map (λ x. (x.number, x.turns))) c.from_residual-in_err-given.ensures
    ∙ sym (no_number meaning w c.args.at.0 gives target name c.in_ok-name.ensures.exact
    (both_given w c.args.at.0 c.args.by e n name old.number operand.number old.turns operand.turns (c.in_ok-old.ensures.exact firm) c.in_ok-old.ensures.left (c.in_ok-operand.ensures.exact one)
    ∙ sym (c.in_err-given.ensures.exact (c.number.ensures.kept.same_firm ∙ one))))

pub returns-in_err-put-clause-exact : goal.returns-in_err-put-clause-exact
returns-in_err-put-clause-exact g c firm =
    let meaning = g.L.Labels.meaning c.args.labels.now in
    let w = c.args.world.now in
    let e = view_expr c.args.value.now in
    let n = c.args.turns - 2 in
    let gives = given_by w c.args.at.0 (Some c.args.by) e n in
    let name = c.in_ok-name.name.now in
    let target = name_in (view_expr c.args.target.now) in
    let two = c.number.ensures.kept.same_firm ∙ c.named.ensures.kept.same_firm ∙ firm in
    ap (option_map (λ x. (x.number, x.turns))) c.from_residual-in_err-put.ensures
    ∙ sym (no_change meaning w c.args.at.0 gives target name c.in_ok-name.ensures.exact (c.in_err-put.ensures.exact (c.joined.ensures.kept.same_firm ∙ two)
    ∙ changes_later g.L.Labels.made g.L.Labels.meaning g.L.Labels.room g.L.Labels.firm c.args.labels.now c.joined.new.labels (IsKept-trans _ _ _ _ _ _ _ (IsKept-trans _ _ _ _ _ _ _ c.named.ensures.kept c.number.ensures.kept) c.joined.ensures.kept) w c.requires.belongs c.args.at.0 name))

pub returns-clause-exact : goal.returns-clause-exact
returns-clause-exact g c firm =
    let meaning = g.L.Labels.meaning c.args.labels.now in
    let w = c.args.world.now in
    let e = view_expr c.args.value.now in
    let n = c.args.turns - 2 in
    let gives = given_by w c.args.at.0 (Some c.args.by) e n in
    let name = c.in_ok-name.name.now in
    let target = name_in (view_expr c.args.target.now) in
    let old = c.in_ok-old.old in
    let operand = c.in_ok-operand.operand in
    let one = c.named.ensures.kept.same_firm ∙ firm in
    let two = c.number.ensures.kept.same_firm ∙ one in
    c.in_ok-given.ensures.exact two
    ∙ sym (changed meaning w c.args.at.0 gives target name c.in_ok-name.ensures.exact (c.in_ok-put.ensures.exact (c.joined.ensures.kept.same_firm ∙ two)
    ∙ changes_later g.L.Labels.made g.L.Labels.meaning g.L.Labels.room g.L.Labels.firm c.args.labels.now c.joined.new.labels (IsKept-trans _ _ _ _ _ _ _ (IsKept-trans _ _ _ _ _ _ _ c.named.ensures.kept c.number.ensures.kept) c.joined.ensures.kept) w c.requires.belongs c.args.at.0 name)
    ∙ both_given w c.args.at.0 c.args.by e n name old.number operand.number old.turns operand.turns (c.in_ok-old.ensures.exact firm) c.in_ok-old.ensures.left (c.in_ok-operand.ensures.exact one))
