use Rattle.std.proofs.Common.{◌∙◌, ap, sym, arith, ◌-◌, length, take, Some}
use Rattle.es_meaning.specs.Environments.{find_around}
use Rattle.std.specs.Option.{option_map}
use Rattle.continuations.specs.JumpTargets.{env_in}
use Rattle.continuations.specs.Going.{here}
use Rattle.continuations.proofs.JumpTargetLaws.{split_last, none_left, front_fewer, env_none, reached_found, reached_passed, reached_ended, no_call}
use Rattle.continuations.proofs.jump_targets.reached.Goals as goal

pub returns-in-Some : goal.returns-in-Some
returns-in-Some c =
    let rest = c.loop-rest.rest.now in
    let label = option_map (λ text. text.now) c.args.label in
    let whole = split_last rest c.last-item.result c.in-len1-up.len_at_least c.last-item.is in
    ap (λ n. Some (n, c.in-Some.depth)) c.rounds.ensures
    ∙ sym (reached_found c.args.turn label (take (length rest - 1) rest) c.last-item.result here c.in-Some.depth (sym c.ended_by.ensures ∙ c.in-Some.is))
    ∙ sym (ap (λ ws. find_around c.args.turn label (env_in ws here).around) whole) ∙ c.loop-rest.invariant.same

pub returns-then-is_some : goal.returns-then-is_some
returns-then-is_some c =
    let rest = c.loop-rest.rest.now in
    let label = option_map (λ text. text.now) c.args.label in
    let whole = split_last rest c.last-item.result c.in-len1-up.len_at_least c.last-item.is in
    sym (reached_ended c.args.turn label (take (length rest - 1) rest) c.last-item.result here c.call_of.result c.call_of.ensures c.if-is_some.ensures)
    ∙ sym (ap (λ ws. find_around c.args.turn label (env_in ws here).around) whole) ∙ c.loop-rest.invariant.same

pub loop-rest-preserved : goal.loop-rest-preserved
loop-rest-preserved c =
    let rest = c.loop-rest.rest.now in
    let label = option_map (λ text. text.now) c.args.label in
    let front = take (length rest - 1) rest in
    let whole = split_last rest c.last-item.result c.in-len1-up.len_at_least c.last-item.is in
    let none = no_call c.last-item.result c.call_of.result c.call_of.ensures c.if-is_some.ensures in
    record {
      same = sym (reached_passed c.args.turn label front c.last-item.result here none (sym c.ended_by.ensures ∙ c.in_default-ended_by.is))
          ∙ sym (ap (λ ws. find_around c.args.turn label (env_in ws here).around) whole) ∙ c.loop-rest.invariant.same;
      few = omega (arith, c.loop-rest.invariant.few, front_fewer rest c.in-len1-up.len_at_least);
    }

pub returns : goal.returns
returns c =
    let label = option_map (λ text. text.now) c.args.label in
    sym (ap (λ e. find_around c.args.turn label e.around) (env_none here)) ∙ sym (ap (λ ws. find_around c.args.turn label (env_in ws here).around) (none_left c.loop-rest.rest.now c.in_default.len_below)) ∙ c.loop-rest.invariant.same
