use Rattle.std.proofs.Common.{◌∙◌, ap, arith, ◌-◌, length, take}
use Rattle.continuations.specs.JumpTargets.{env_in}
use Rattle.continuations.specs.Going.{here}
use Rattle.continuations.proofs.JumpTargetLaws.{split_last, none_left, front_fewer, env_none, rounds_ended, rounds_more, no_call, at_most_one}
use Rattle.continuations.proofs.jump_targets.rounds.Goals as goal

pub returns-then-is_some : goal.returns-then-is_some
returns-then-is_some c =
    let rest = c.loop-rest.rest.now in
    let whole = split_last rest c.last-item.result c.in-len1-up.len_at_least c.last-item.is in
    let none = rounds_ended (take (length rest - 1) rest) c.last-item.result here c.call_of.result c.call_of.ensures c.if-is_some.ensures in
    omega (arith, c.loop-rest.invariant.same, ap (λ ws. length (env_in ws here).around) whole ∙ none)

pub loop-rest-preserved : goal.loop-rest-preserved
loop-rest-preserved c =
    let rest = c.loop-rest.rest.now in
    let front = take (length rest - 1) rest in
    let whole = split_last rest c.last-item.result c.in-len1-up.len_at_least c.last-item.is in
    let more = rounds_more front c.last-item.result here (no_call c.last-item.result c.call_of.result c.call_of.ensures c.if-is_some.ensures) in
    record {
      same = omega (arith, c.loop-rest.invariant.same, ap (λ ws. length (env_in ws here).around) whole ∙ more, c.rounds_of-count.ensures);
      few = omega (arith, c.loop-rest.invariant.few, front_fewer rest c.in-len1-up.len_at_least, c.rounds_of-count.ensures, at_most_one c.last-item.result);
    }

pub returns : goal.returns
returns c = omega (arith, c.loop-rest.invariant.same, ap (λ ws. length (env_in ws here).around) (none_left c.loop-rest.rest.now c.in_default.len_below) ∙ ap (λ e. length e.around) (env_none here))
