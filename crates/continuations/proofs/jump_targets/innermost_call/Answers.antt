use Rattle.std.proofs.Common.{◌∙◌, ap, sym, arith, ◌-◌, length, take}
use Rattle.continuations.specs.JumpTargets.{env_in}
use Rattle.continuations.specs.Going.{here}
use Rattle.continuations.proofs.JumpTargetLaws.{split_last, none_left, front_fewer, env_none, call_found, call_passed}
use Rattle.continuations.proofs.jump_targets.innermost_call.Goals as goal

pub returns-in-Some : goal.returns-in-Some
returns-in-Some c = let rest = c.loop-rest.rest.now in
    sym c.loop-rest.invariant.same ∙ ap (λ ws. (env_in ws here).call) (split_last rest c.last-item.result c.in-len1-up.len_at_least c.last-item.is)
    ∙ call_found (take (length rest - 1) rest) c.last-item.result here c.in-Some.depth (sym c.call_of.ensures ∙ c.in-Some.is)

pub loop-rest-preserved : goal.loop-rest-preserved
loop-rest-preserved c = let rest = c.loop-rest.rest.now in record {
  same = sym (call_passed (take (length rest - 1) rest) c.last-item.result here (sym c.call_of.ensures ∙ c.in_default-call_of.is))
      ∙ sym (ap (λ ws. (env_in ws here).call) (split_last rest c.last-item.result c.in-len1-up.len_at_least c.last-item.is)) ∙ c.loop-rest.invariant.same;
  few = omega (arith, c.loop-rest.invariant.few, front_fewer rest c.in-len1-up.len_at_least);
}

pub returns : goal.returns
returns c = sym c.loop-rest.invariant.same ∙ ap (λ ws. (env_in ws here).call) (none_left c.loop-rest.rest.now c.in_default.len_below) ∙ ap (λ e. e.call) (env_none here)
