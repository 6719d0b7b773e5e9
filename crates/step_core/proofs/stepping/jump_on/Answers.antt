use Rattle.std.proofs.Common.{refl, sym, ap, ◌∙◌, ◌+◌, length, arith}
use Rattle.flow_meaning.specs.Planned.{jumped}
use Rattle.js_values.specs.Readings.{read_value}
use Rattle.continuations.specs.Shapes.{jump_of}
use Rattle.continuations.specs.declared.continuation.Control.TheVariants as control
use Rattle.continuations.specs.Loads.{weight}
use Rattle.step_core.specs.declared.steps.Ending.TheVariants as ending
use Rattle.step_core.specs.RemainingRun.{ahead, remaining_run}
use Rattle.step_core.specs.Stepping.{remaining_run_after}
use Rattle.step_core.proofs.Continued.{one_value}
use Rattle.step_core.proofs.StepLaws.{stepped_as, ends_steps, left_by_jump, passed_after, standing_taken, waiting_taken, ahead_taken, alone_by}
use Rattle.step_core.proofs.stepping.jump_on.Goals as goal

pub pop-requires : goal.pop-requires
pop-requires g c = let same = ap (λ k. length k.loose) c.in-None.ensures.unchanged in let one = c.requires.standing.values in omega (arith, same, one)

pub passed-requires : goal.passed-requires
passed-requires g c =
    let old = c.args.progress.now in
    let natives = length old.natives.states in
    record {
      standing = standing_taken g.L.Labels.made g.L.Labels.meaning c.args.labels.now old.stack c.next_work.new.self old.world c.in-Some.work 1 natives (control.Jumps c.args.jump) c.in-Some.ensures.taken refl c.requires.standing;
      natives = waiting_taken g.L.Labels.made g.L.Labels.meaning c.args.labels.now old.stack c.next_work.new.self old.world c.in-Some.work 1 natives (control.Jumps c.args.jump) c.in-Some.ensures.taken refl c.requires.standing;
    }

pub returns-in-None-clause-stepped : goal.returns-in-None-clause-stepped
returns-in-None-clause-stepped g c tables inputs set functions tells asks =
    let old = c.args.progress.now in
    ends_steps g.L.Labels.made g.L.Labels.meaning c.args.labels.now tables inputs set functions tells asks (λ reading told. remaining_run tables inputs set functions tells asks reading old (control.Jumps c.args.jump) told) (record old { stack = c.pop.new.self }) (ahead old (control.Jumps c.args.jump)) (ending.Threw c.pop.result) tt
    (λ reading told. left_by_jump tables inputs set functions tells asks reading c.args.jump old c.pop.result told c.in-None.ensures.none (alone_by c.pop.new.self.loose old.stack.loose c.pop.result (sym (ap (λ k. k.loose) c.in-None.ensures.unchanged) ∙ c.pop.ensures.top) c.requires.standing.values))

pub returns-in-Some-clause-stepped : goal.returns-in-Some-clause-stepped
returns-in-Some-clause-stepped g c tables inputs set functions tells asks =
    let old = c.args.progress.now in
    let taken = record old { stack = c.next_work.new.self } in
    let w = c.in-Some.work in
    let thrown_one = one_value old.stack.loose c.requires.standing.values in
    stepped_as g.L.Labels.made g.L.Labels.meaning c.passed.new.labels tables inputs set functions tells asks (λ reading told. remaining_run_after tables inputs set functions tells asks reading taken w (jumped (jump_of c.args.jump (read_value reading thrown_one.0))) told) (λ reading told. remaining_run tables inputs set functions tells asks reading old (control.Jumps c.args.jump) told)
    (ahead taken (control.Jumps c.args.jump) + weight w) (ahead old (control.Jumps c.args.jump)) c.passed.new.progress c.passed.result
    (λ reading told read. passed_after tables inputs set functions tells asks reading c.args.jump old c.next_work.new.self w thrown_one.0 told thrown_one.1 c.in-Some.ensures.taken) (ahead_taken old.stack c.next_work.new.self w old.turns c.in-Some.ensures.taken)
    (c.passed.ensures.stepped tables inputs set functions tells asks thrown_one.0 (c.in-Some.ensures.taken.rest ∙ thrown_one.1))
