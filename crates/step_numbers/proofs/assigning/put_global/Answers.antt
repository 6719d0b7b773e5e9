use Rattle.std.proofs.Common.{sym, ap, ◌∙◌, ◌≡◌}
use Rattle.std.specs.Result.{is_ok}
use Rattle.origin_labels.specs.Label.{union}
use Rattle.origin_labels.proofs.StoreLaws.{IsKept-trans}
use Rattle.step_numbers.specs.Evaluated.{global_in}
use Rattle.step_numbers.proofs.AssignLaws.{rebinds_heap, rebinds_none}
use Rattle.step_numbers.proofs.ChangeLaws.{global_exact}
use Rattle.step_numbers.proofs.GlobalLaws.{ok_has, puts_globally, written_made, written_there}
use Rattle.step_numbers.proofs.assigning.put_global.Goals as goal

pub join-requires-clause-second : goal.join-requires-clause-second
join-requires-clause-second g c = written_made (g.L.Labels.made c.args.labels.now) c.args.name.now c.args.world.now.heap c.in_ok-found.found.existence c.requires.belongs.heap c.in_ok-found.ensures.written

pub write_at-requires-clause-stands : goal.write_at-requires-clause-stands
write_at-requires-clause-stands g c = c.in_ok-found.ensures.stands

pub returns-in_err-need-clause-rebinds : goal.returns-in_err-need-clause-rebinds
returns-in_err-need-clause-rebinds g c = rebinds_none g.L.Labels.made g.L.Labels.meaning g.L.Labels.room g.L.Labels.firm c.args.labels.now c.join.new.self c.join.ensures.kept g.met.L.Labels.rising c.args.world.now c.requires.belongs

pub returns-in-Ok-clause-there : goal.returns-in-Ok-clause-there
returns-in-Ok-clause-there g c = written_there c.args.name.now (global_in c.args.world.now.heap) c.in_ok-found.found.existence c.in_ok-found.ensures.written

pub returns-in-Ok-clause-puts : goal.returns-in-Ok-clause-puts
returns-in-Ok-clause-puts g c =
    let joined = c.in_ok-need.ensures.value in
    let made = ok_has (g.L.Labels.made c.join.new.self) c.join.result c.in_ok-need.need joined c.join.ensures.made in
    let means = ok_has (λ l. g.L.Labels.meaning c.join.new.self l ≡ union (g.L.Labels.meaning c.args.labels.now c.context-context.result) (g.L.Labels.meaning c.args.labels.now c.in_ok-found.found.existence)) c.join.result c.in_ok-need.need joined c.join.ensures.meaning in
    puts_globally g.L.Labels.made g.L.Labels.meaning g.L.Labels.room g.L.Labels.firm c.args.labels.now c.join.new.self c.write_at.new.labels c.join.ensures.kept c.write_at.ensures.kept
    c.args.world.now c.args.name.now c.args.value c.in_ok-found.found.existence c.context-context.result c.in_ok-need.need c.write_at.new.self c.requires.belongs c.in_ok-found.ensures.written c.context-context.ensures.made c.context-context.ensures.meaning
    made means c.in-Ok.ensures.acts.does

pub returns-in-Ok-clause-rebinds : goal.returns-in-Ok-clause-rebinds
returns-in-Ok-clause-rebinds g c =
    rebinds_heap g.L.Labels.made g.L.Labels.meaning g.L.Labels.room g.L.Labels.firm c.args.labels.now c.write_at.new.labels (IsKept-trans _ _ _ _ _ _ _ c.join.ensures.kept c.write_at.ensures.kept) g.met.L.Labels.rising c.args.world.now c.requires.belongs
    c.write_at.new.self c.write_at.ensures.belongs c.write_at.ensures.length

pub returns-in-Err-clause-rebinds : goal.returns-in-Err-clause-rebinds
returns-in-Err-clause-rebinds g c =
    rebinds_heap g.L.Labels.made g.L.Labels.meaning g.L.Labels.room g.L.Labels.firm c.args.labels.now c.write_at.new.labels (IsKept-trans _ _ _ _ _ _ _ c.join.ensures.kept c.write_at.ensures.kept) g.met.L.Labels.rising c.args.world.now c.requires.belongs
    c.write_at.new.self c.write_at.ensures.belongs c.write_at.ensures.length

pub returns-in-Ok-clause-exact : goal.returns-in-Ok-clause-exact
returns-in-Ok-clause-exact g c firm =
    let joined = c.in_ok-need.ensures.value in
    let made = ok_has (g.L.Labels.made c.join.new.self) c.join.result c.in_ok-need.need joined c.join.ensures.made in
    let means = ok_has (λ l. g.L.Labels.meaning c.join.new.self l ≡ union (g.L.Labels.meaning c.args.labels.now c.context-context.result) (g.L.Labels.meaning c.args.labels.now c.in_ok-found.found.existence)) c.join.result c.in_ok-need.need joined c.join.ensures.meaning in
    sym (ap is_ok c.in-Ok.is)
    ∙ global_exact g.L.Labels.made g.L.Labels.meaning g.L.Labels.room g.L.Labels.firm c.args.labels.now c.join.new.self c.write_at.new.labels c.join.ensures.kept c.write_at.ensures.kept c.args.world.now c.requires.belongs
    c.args.name.now c.args.value c.in_ok-found.found.existence c.context-context.result c.in_ok-need.need c.in_ok-found.ensures.written c.context-context.ensures.made c.context-context.ensures.meaning made means
    c.write_at.new.self c.write_at.result c.write_at.ensures.acts (c.write_at.ensures.firm (c.join.ensures.kept.same_firm ∙ firm))

pub returns-in-Err-clause-exact : goal.returns-in-Err-clause-exact
returns-in-Err-clause-exact g c firm =
    let joined = c.in_ok-need.ensures.value in
    let made = ok_has (g.L.Labels.made c.join.new.self) c.join.result c.in_ok-need.need joined c.join.ensures.made in
    let means = ok_has (λ l. g.L.Labels.meaning c.join.new.self l ≡ union (g.L.Labels.meaning c.args.labels.now c.context-context.result) (g.L.Labels.meaning c.args.labels.now c.in_ok-found.found.existence)) c.join.result c.in_ok-need.need joined c.join.ensures.meaning in
    sym (ap is_ok c.in-Err.is)
    ∙ global_exact g.L.Labels.made g.L.Labels.meaning g.L.Labels.room g.L.Labels.firm c.args.labels.now c.join.new.self c.write_at.new.labels c.join.ensures.kept c.write_at.ensures.kept c.args.world.now c.requires.belongs
    c.args.name.now c.args.value c.in_ok-found.found.existence c.context-context.result c.in_ok-need.need c.in_ok-found.ensures.written c.context-context.ensures.made c.context-context.ensures.meaning made means
    c.write_at.new.self c.write_at.result c.write_at.ensures.acts (c.write_at.ensures.firm (c.join.ensures.kept.same_firm ∙ firm))
