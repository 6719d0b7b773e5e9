use Rattle.std.proofs.Common.{ap, sym, ◌∙◌}
use Rattle.step_numbers.specs.Evaluated.{value_at_place, value_of}
use Rattle.step_numbers.proofs.GlobalLaws.{made_found, named_beyond, named_inside, value_bound}
use Rattle.step_numbers.proofs.values.name_value.Goals as goal

pub returns-in-Some-clause-exact : goal.returns-in-Some-clause-exact
returns-in-Some-clause-exact g c firm =
    c.value_of.ensures.exact
    ∙ ap value_of (sym (value_bound c.in-Some.ensures.found c.read_at.ensures))
    ∙ ap (λ p. value_at_place p c.args.world.now.records c.args.world.now.heap c.args.name.now) c.in-Some.ensures.innermost

pub returns-in-Some-clause-named : goal.returns-in-Some-clause-named
returns-in-Some-clause-named g c =
    named_inside g.L.Labels.made g.L.Labels.meaning c.args.labels.now c.args.at.0 c.args.name.now c.args.world.now (λ v. v) c.in-Some.place.record.0 c.value_of.result c.in-Some.ensures.innermost c.requires.belongs.records
    (made_found (λ v. v) c.value_of.result c.read_at.result.now _ (value_bound c.in-Some.ensures.found c.read_at.ensures) c.value_of.ensures.found)

pub returns-in-None-clause-exact : goal.returns-in-None-clause-exact
returns-in-None-clause-exact g c firm =
    c.global_value.ensures.exact firm ∙ ap (λ p. value_at_place p c.args.world.now.records c.args.world.now.heap c.args.name.now) c.in-None.ensures.innermost

pub returns-in-None-clause-named : goal.returns-in-None-clause-named
returns-in-None-clause-named g c =
    named_beyond g.L.Labels.made g.L.Labels.meaning c.global_value.new.labels c.args.at.0 c.args.name.now c.args.world.now (λ v. v) c.global_value.result c.in-None.ensures.innermost c.global_value.ensures.held
