use Rattle.std.proofs.Common.{sym, ap, ◌∙◌}
use Rattle.std.specs.Result.{is_ok}
use Rattle.step_numbers.proofs.AssignLaws.{puts_there, rebinds_records}
use Rattle.step_numbers.proofs.ChangeLaws.{bound_exact}
use Rattle.step_numbers.proofs.assigning.put_bound.Goals as goal

pub returns-in-Ok-clause-puts : goal.returns-in-Ok-clause-puts
returns-in-Ok-clause-puts g c =
    puts_there g.L.Labels.made g.L.Labels.meaning g.L.Labels.room g.L.Labels.firm c.args.labels.now c.assign.new.labels c.assign.ensures.kept c.args.world.now c.requires.belongs c.context-context.result c.context-context.ensures.made c.context-context.ensures.meaning
    c.args.e.0 c.args.name.now c.args.value c.requires.bound c.assign.new.self c.in-Ok.ensures.assigns.does

pub returns-in-Ok-clause-rebinds : goal.returns-in-Ok-clause-rebinds
returns-in-Ok-clause-rebinds g c =
    rebinds_records g.L.Labels.made g.L.Labels.meaning g.L.Labels.room g.L.Labels.firm c.args.labels.now c.assign.new.labels c.assign.ensures.kept g.met.L.Labels.rising c.args.world.now c.requires.belongs c.assign.new.self c.assign.ensures.belongs c.assign.ensures.length

pub returns-in-Err-clause-rebinds : goal.returns-in-Err-clause-rebinds
returns-in-Err-clause-rebinds g c =
    rebinds_records g.L.Labels.made g.L.Labels.meaning g.L.Labels.room g.L.Labels.firm c.args.labels.now c.assign.new.labels c.assign.ensures.kept g.met.L.Labels.rising c.args.world.now c.requires.belongs c.assign.new.self c.assign.ensures.belongs c.assign.ensures.length

pub returns-in-Ok-clause-exact : goal.returns-in-Ok-clause-exact
returns-in-Ok-clause-exact g c firm =
    sym (ap is_ok c.in-Ok.is)
    ∙ bound_exact g.L.Labels.made g.L.Labels.meaning g.L.Labels.room g.L.Labels.firm c.args.labels.now c.assign.new.labels c.assign.ensures.kept c.args.world.now c.requires.belongs c.context-context.result c.context-context.ensures.made c.context-context.ensures.meaning
    c.args.e.0 c.args.name.now c.args.value c.requires.bound c.assign.new.self c.assign.result c.assign.ensures.assigns (c.assign.ensures.firm firm)

pub returns-in-Err-clause-exact : goal.returns-in-Err-clause-exact
returns-in-Err-clause-exact g c firm =
    sym (ap is_ok c.in-Err.is)
    ∙ bound_exact g.L.Labels.made g.L.Labels.meaning g.L.Labels.room g.L.Labels.firm c.args.labels.now c.assign.new.labels c.assign.ensures.kept c.args.world.now c.requires.belongs c.context-context.result c.context-context.ensures.made c.context-context.ensures.meaning
    c.args.e.0 c.args.name.now c.args.value c.requires.bound c.assign.new.self c.assign.result c.assign.ensures.assigns (c.assign.ensures.firm firm)
