use Rattle.std.proofs.Common.{ap, ◌∙◌}
use Rattle.step_numbers.specs.Assigned.{changes_at}
use Rattle.step_numbers.specs.Evaluated.{labelled_number}
use Rattle.step_numbers.proofs.GlobalLaws.{puts_beyond, puts_inside}
use Rattle.step_numbers.proofs.assigning.put.Goals as goal

pub returns-in-Some-clause-puts : goal.returns-in-Some-clause-puts
returns-in-Some-clause-puts g c =
    puts_inside g.L.Labels.made g.L.Labels.meaning c.put_bound.new.labels c.args.at.0 c.args.name.now (labelled_number c.args.number c.args.label) c.args.world.now c.put_bound.new.world c.in-Some.e.0 c.put_bound.result c.in-Some.ensures.innermost c.put_bound.ensures.puts

pub returns-in-None-clause-puts : goal.returns-in-None-clause-puts
returns-in-None-clause-puts g c =
    puts_beyond g.L.Labels.made g.L.Labels.meaning c.put_global.new.labels c.args.at.0 c.args.name.now (labelled_number c.args.number c.args.label) c.args.world.now c.put_global.new.world c.put_global.result c.in-None.ensures.innermost c.put_global.ensures.there c.put_global.ensures.puts

pub returns-in-Some-clause-exact : goal.returns-in-Some-clause-exact
returns-in-Some-clause-exact g c firm = c.put_bound.ensures.exact firm ∙ ap (λ p. changes_at (g.L.Labels.meaning c.args.labels.now) c.args.world.now p c.args.name.now) c.in-Some.ensures.innermost

pub returns-in-None-clause-exact : goal.returns-in-None-clause-exact
returns-in-None-clause-exact g c firm = c.put_global.ensures.exact firm ∙ ap (λ p. changes_at (g.L.Labels.meaning c.args.labels.now) c.args.world.now p c.args.name.now) c.in-None.ensures.innermost
