use Rattle.std.proofs.Common.{sym, subst}
use Rattle.continuations.specs.Going.{Begins}
use Rattle.step_core.proofs.entering.begin_move.Goals as goal

pub returns-in-Null-clause-begins : goal.returns-in-Null-clause-begins
returns-in-Null-clause-begins g c tables inputs set functions natives =
    subst (λ m. Begins g.L.Labels.made g.L.Labels.meaning c.args.labels.now tables inputs set functions natives natives c.args.stack.now c.begin_null.new.stack c.args.world.now c.args.world.now m c.begin_null.result) (sym c.in-Null.is) (c.begin_null.ensures.begins tables inputs set functions natives)

pub returns-in-Bool-clause-begins : goal.returns-in-Bool-clause-begins
returns-in-Bool-clause-begins g c tables inputs set functions natives =
    subst (λ m. Begins g.L.Labels.made g.L.Labels.meaning c.args.labels.now tables inputs set functions natives natives c.args.stack.now c.begin_boolean.new.stack c.args.world.now c.args.world.now m c.begin_boolean.result) (sym c.in-Bool.is) (c.begin_boolean.ensures.begins tables inputs set functions natives)

pub returns-in-Number-clause-begins : goal.returns-in-Number-clause-begins
returns-in-Number-clause-begins g c tables inputs set functions natives =
    subst (λ m. Begins g.L.Labels.made g.L.Labels.meaning c.args.labels.now tables inputs set functions natives natives c.args.stack.now c.begin_number.new.stack c.args.world.now c.args.world.now m c.begin_number.result) (sym c.in-Number.is) (c.begin_number.ensures.begins tables inputs set functions natives)

pub returns-in-Text-clause-begins : goal.returns-in-Text-clause-begins
returns-in-Text-clause-begins g c tables inputs set functions natives =
    subst (λ m. Begins g.L.Labels.made g.L.Labels.meaning c.args.labels.now tables inputs set functions natives natives c.args.stack.now c.begin_text.new.stack c.args.world.now c.args.world.now m c.begin_text.result) (sym c.in-Text.is) (c.begin_text.ensures.begins tables inputs set functions natives)

pub returns-in-Name-clause-begins : goal.returns-in-Name-clause-begins
returns-in-Name-clause-begins g c tables inputs set functions natives =
    subst (λ m. Begins g.L.Labels.made g.L.Labels.meaning c.begin_name.new.labels tables inputs set functions natives natives c.args.stack.now c.begin_name.new.stack c.args.world.now c.begin_name.new.world m c.begin_name.result) (sym c.in-Name.is) (c.begin_name.ensures.begins tables inputs set functions natives)

pub returns-in-This-clause-begins : goal.returns-in-This-clause-begins
returns-in-This-clause-begins g c tables inputs set functions natives =
    subst (λ m. Begins g.L.Labels.made g.L.Labels.meaning c.begin_this.new.labels tables inputs set functions natives natives c.args.stack.now c.begin_this.new.stack c.args.world.now c.begin_this.new.world m c.begin_this.result) (sym c.in-This.is) (c.begin_this.ensures.begins tables inputs set functions natives)

pub returns-in-GiveVariable-clause-begins : goal.returns-in-GiveVariable-clause-begins
returns-in-GiveVariable-clause-begins g c tables inputs set functions natives =
    subst (λ m. Begins g.L.Labels.made g.L.Labels.meaning c.begin_giving.new.labels tables inputs set functions natives natives c.args.stack.now c.begin_giving.new.stack c.args.world.now c.begin_giving.new.world m c.begin_giving.result) (sym c.in-GiveVariable.is) (c.begin_giving.ensures.begins tables inputs set functions natives)

pub returns-in-Keys-clause-begins : goal.returns-in-Keys-clause-begins
returns-in-Keys-clause-begins g c tables inputs set functions natives =
    subst (λ m. Begins g.L.Labels.made g.L.Labels.meaning c.begin_keys.new.labels tables inputs set functions natives natives c.args.stack.now c.begin_keys.new.stack c.args.world.now c.begin_keys.new.world m c.begin_keys.result) (sym c.in-Keys.is) (c.begin_keys.ensures.begins tables inputs set functions natives)

pub returns-in-Visits-clause-begins : goal.returns-in-Visits-clause-begins
returns-in-Visits-clause-begins g c tables inputs set functions natives =
    subst (λ m. Begins g.L.Labels.made g.L.Labels.meaning c.begin_visits.new.labels tables inputs set functions natives natives c.args.stack.now c.begin_visits.new.stack c.args.world.now c.begin_visits.new.world m c.begin_visits.result) (sym c.in-Visits.is) (c.begin_visits.ensures.begins tables inputs set functions natives)

pub returns-in-Variables-clause-begins : goal.returns-in-Variables-clause-begins
returns-in-Variables-clause-begins g c tables inputs set functions natives =
    subst (λ m. Begins g.L.Labels.made g.L.Labels.meaning c.begin_variables.new.labels tables inputs set functions natives natives c.args.stack.now c.begin_variables.new.stack c.args.world.now c.args.world.now m c.begin_variables.result) (sym c.in-Variables.is) (c.begin_variables.ensures.begins tables inputs set functions natives)

pub returns-in-Loop-clause-begins : goal.returns-in-Loop-clause-begins
returns-in-Loop-clause-begins g c tables inputs set functions natives =
    subst (λ m. Begins g.L.Labels.made g.L.Labels.meaning c.begin_loop_of.new.labels tables inputs set functions natives natives c.args.stack.now c.begin_loop_of.new.stack c.args.world.now c.begin_loop_of.new.world m c.begin_loop_of.result) (sym c.in-Loop.is) (c.begin_loop_of.ensures.begins tables inputs set functions natives)

pub returns-in-DoLoop-clause-begins : goal.returns-in-DoLoop-clause-begins
returns-in-DoLoop-clause-begins g c tables inputs set functions natives =
    subst (λ m. Begins g.L.Labels.made g.L.Labels.meaning c.begin_do_loop_of.new.labels tables inputs set functions natives natives c.args.stack.now c.begin_do_loop_of.new.stack c.args.world.now c.begin_do_loop_of.new.world m c.begin_do_loop_of.result) (sym c.in-DoLoop.is) (c.begin_do_loop_of.ensures.begins tables inputs set functions natives)

pub returns-in-Break-clause-begins : goal.returns-in-Break-clause-begins
returns-in-Break-clause-begins g c tables inputs set functions natives =
    subst (λ m. Begins g.L.Labels.made g.L.Labels.meaning c.begin_leaving.new.labels tables inputs set functions natives natives c.args.stack.now c.begin_leaving.new.stack c.args.world.now c.begin_leaving.new.world m c.begin_leaving.result) (sym c.in-Break.is) (c.begin_leaving.ensures.begins tables inputs set functions natives)

pub returns-in-Return-clause-begins : goal.returns-in-Return-clause-begins
returns-in-Return-clause-begins g c tables inputs set functions natives =
    subst (λ m. Begins g.L.Labels.made g.L.Labels.meaning c.begin_return.new.labels tables inputs set functions natives natives c.args.stack.now c.begin_return.new.stack c.args.world.now c.begin_return.new.world m c.begin_return.result) (sym c.in-Return.is) (c.begin_return.ensures.begins tables inputs set functions natives)

pub returns-in-Labelled-clause-begins : goal.returns-in-Labelled-clause-begins
returns-in-Labelled-clause-begins g c tables inputs set functions natives =
    subst (λ m. Begins g.L.Labels.made g.L.Labels.meaning c.begin_label.new.labels tables inputs set functions natives natives c.args.stack.now c.begin_label.new.stack c.args.world.now c.begin_label.new.world m c.begin_label.result) (sym c.in-Labelled.is) (c.begin_label.ensures.begins tables inputs set functions natives)

pub returns-in-Try-clause-begins : goal.returns-in-Try-clause-begins
returns-in-Try-clause-begins g c tables inputs set functions natives =
    subst (λ m. Begins g.L.Labels.made g.L.Labels.meaning c.begin_try_of.new.labels tables inputs set functions natives natives c.args.stack.now c.begin_try_of.new.stack c.args.world.now c.begin_try_of.new.world m c.begin_try_of.result) (sym c.in-Try.is) (c.begin_try_of.ensures.begins tables inputs set functions natives)
