use Rattle.std.proofs.Common.{ap, sym, ◌∙◌}
use Rattle.step_numbers.specs.Evaluated.{labelled_number, left_with, number_at_place, number_of_value}
use Rattle.step_numbers.proofs.GlobalLaws.{made_found, named_beyond, named_inside, value_bound}
use Rattle.step_numbers.proofs.evaluating.named.Goals as goal

pub returns-in-Some-clause-exact : goal.returns-in-Some-clause-exact
returns-in-Some-clause-exact g c firm =
    c.counted_value.ensures.exact
    ∙ ap (λ v. left_with (number_of_value v) c.args.turns) (sym (value_bound c.in-Some.ensures.found c.read_at.ensures))
    ∙ ap (λ p. left_with (number_at_place p c.args.world.now.records c.args.world.now.heap c.args.name.now) c.args.turns) c.in-Some.ensures.innermost

pub returns-in-Some-clause-named : goal.returns-in-Some-clause-named
returns-in-Some-clause-named g c =
    named_inside g.L.Labels.made g.L.Labels.meaning c.args.labels.now c.args.at.0 c.args.name.now c.args.world.now (λ x. labelled_number x.number x.label) c.in-Some.place.record.0 c.counted_value.result c.in-Some.ensures.innermost c.requires.belongs.records
    (made_found (λ x. labelled_number x.number x.label) c.counted_value.result c.read_at.result.now _ (value_bound c.in-Some.ensures.found c.read_at.ensures) c.counted_value.ensures.found)

pub returns-in-None-clause-exact : goal.returns-in-None-clause-exact
returns-in-None-clause-exact g c firm =
    c.global_number.ensures.exact firm ∙ ap (λ p. left_with (number_at_place p c.args.world.now.records c.args.world.now.heap c.args.name.now) c.args.turns) c.in-None.ensures.innermost

pub returns-in-None-clause-named : goal.returns-in-None-clause-named
returns-in-None-clause-named g c =
    named_beyond g.L.Labels.made g.L.Labels.meaning c.global_number.new.labels c.args.at.0 c.args.name.now c.args.world.now (λ x. labelled_number x.number x.label) c.global_number.result c.in-None.ensures.innermost c.global_number.ensures.held
