use Rattle.std.proofs.Common.{◌+◌, ◌++◌, length}
use Rattle.continuations.specs.declared.continuation.Control.TheVariants as control
use Rattle.continuations.specs.Kept.{scope_of, scopes_of, waiting}
use Rattle.continuations.specs.Loads.{weight}
use Rattle.continuations.specs.Pending.{owns}
use Rattle.step_core.specs.declared.steps.Ending.TheVariants as ending
use Rattle.step_core.specs.RemainingRun.{ahead, remaining_run}
use Rattle.continuations.specs.Invariant.{given}
use Rattle.step_core.specs.Stepping.{handed, completion_above, remaining_run_after}
use Rattle.step_core.proofs.StepLaws.{stepped_as, ends_steps, done_alone, handed_still, resumed_after, standing_taken, standing_given, standing_handed, waiting_taken, ahead_handed}
use Rattle.step_core.proofs.stepping.go_on.Goals as goal

pub proceed-requires : goal.proceed-requires
proceed-requires g c =
    let old = c.args.progress.now in
    let natives = length old.natives.states in
    let still = handed_still c.args.gave in
    let standing = standing_given g.L.Labels.made g.L.Labels.meaning c.args.labels.now old.stack old.world natives (scopes_of old.stack.tasks) c.args.gave c.requires.standing in
    record {
      room = c.requires.room;
      standing = standing_handed g.L.Labels.made g.L.Labels.meaning c.args.labels.now c.next_work.new.self old.world (owns c.in-Some.work + given c.args.gave) (waiting c.next_work.new.self.tasks) (scopes_of c.next_work.new.self.tasks ++ scope_of c.in-Some.work) c.args.gave
          (standing_taken g.L.Labels.made g.L.Labels.meaning c.args.labels.now old.stack c.next_work.new.self old.world c.in-Some.work (given c.args.gave) natives (handed c.args.gave) c.in-Some.ensures.taken still standing);
      natives = waiting_taken g.L.Labels.made g.L.Labels.meaning c.args.labels.now old.stack c.next_work.new.self old.world c.in-Some.work (given c.args.gave) natives (handed c.args.gave) c.in-Some.ensures.taken still standing;
    }

pub returns-in-None-clause-stepped : goal.returns-in-None-clause-stepped
returns-in-None-clause-stepped g c inputs set functions tells asks =
    let old = c.args.progress.now in
    ends_steps g.L.Labels.made g.L.Labels.meaning c.args.labels.now c.args.policy.now inputs set functions tells asks (λ reading told. remaining_run c.args.policy.now inputs set functions tells asks reading old (handed c.args.gave) told) (record old { stack = c.next_work.new.self }) (ahead old (handed c.args.gave)) ending.Done tt
    (λ reading told. done_alone c.args.policy.now inputs set functions tells asks reading old c.args.gave told c.in-None.ensures.none)

pub returns-in-Some-clause-stepped : goal.returns-in-Some-clause-stepped
returns-in-Some-clause-stepped g c inputs set functions tells asks =
    let old = c.args.progress.now in
    let taken = record old { stack = c.next_work.new.self } in
    let w = c.in-Some.work in
    let standing = standing_given g.L.Labels.made g.L.Labels.meaning c.args.labels.now old.stack old.world (length old.natives.states) (scopes_of old.stack.tasks) c.args.gave c.requires.standing in
    stepped_as g.L.Labels.made g.L.Labels.meaning c.proceed.new.labels c.args.policy.now inputs set functions tells asks (λ reading told. remaining_run_after c.args.policy.now inputs set functions tells asks reading taken w (completion_above c.args.policy.now inputs set functions tells asks reading taken w) told) (λ reading told. remaining_run c.args.policy.now inputs set functions tells asks reading old (handed c.args.gave) told)
    (ahead taken control.Value + weight w) (ahead old (handed c.args.gave)) c.proceed.new.progress c.proceed.result
    (λ reading told read. resumed_after c.args.policy.now inputs set functions tells asks reading old c.next_work.new.self w c.args.gave told standing.values c.in-Some.ensures.taken) (ahead_handed old.stack c.next_work.new.self w c.args.gave old.turns c.in-Some.ensures.taken) (c.proceed.ensures.stepped inputs set functions tells asks)
