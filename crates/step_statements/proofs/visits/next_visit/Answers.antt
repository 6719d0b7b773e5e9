use Rattle.std.proofs.Common.{ap, ◌∙◌, ◌-◌, Ok, arith}
use Rattle.origin_labels.proofs.StoreLaws.{IsKept-trans}
use Rattle.js_values.specs.Readings.{HasValue}
use Rattle.run_state.proofs.ActLaws.{Grows-trans}
use Rattle.continuations.specs.Kept.{Kept}
use Rattle.step_references.proofs.Loose.{made_later}
use Rattle.step_statements.proofs.Looking.{alike_on, gone_has, gone_size, visits_failed, visits_on, visits_over}
use Rattle.step_statements.proofs.visits.next_visit.Goals as goal

pub returns-in_err-seen-clause-goes_on : goal.returns-in_err-seen-clause-goes_on
returns-in_err-seen-clause-goes_on g c =
    let at = c.loop-left in
    visits_failed g.L.Labels.made g.L.Labels.meaning c.args.enumeration g.L.Labels.room g.L.Labels.firm at.labels c.look_at.new.labels c.look_at.ensures.kept c.args.count at.left c.args.stack.now.loose c.args.world.now
    c.args.stack.now at.stack c.look_at.new.stack at.world c.look_at.new.world c.in_err-seen.field-0.0 c.from_residual.result at.invariant.tasks at.invariant.alike c.in_err-seen.ensures.fails c.from_residual.ensures.1

pub returns-in-Goes-clause-goes_on : goal.returns-in-Goes-clause-goes_on
returns-in-Goes-clause-goes_on g c =
    let at = c.loop-left in
    visits_on g.L.Labels.made g.L.Labels.meaning c.args.enumeration g.L.Labels.room g.L.Labels.firm at.labels c.look_at.new.labels c.look_at.ensures.kept c.args.count at.left c.args.stack.now.loose c.args.world.now
    c.args.stack.now at.stack c.look_at.new.stack at.world c.look_at.new.world (Ok c.in-Goes.next) at.invariant.tasks at.invariant.alike (rw c.in-Goes.is at c.in_ok-seen.ensures.looked)

pub loop-left-preserved : goal.loop-left-preserved
loop-left-preserved g c =
    let at = c.loop-left in
    let looked = rw c.in-Gone.is at c.in_ok-seen.ensures.looked in
    record {
      tasks = ap (λ (k : Kept _). k.tasks) looked.0 ∙ at.invariant.tasks;
      size = gone_size at.left at.stack c.look_at.new.stack looked.0 c.loop-left-test.true at.invariant.size;
      made = gone_has at.left at.stack c.look_at.new.stack looked.0 (HasValue (g.L.Labels.made c.look_at.new.labels))
          (made_later g.L.Labels.made g.L.Labels.meaning g.L.Labels.room g.L.Labels.firm at.labels c.look_at.new.labels c.look_at.ensures.kept at.stack.loose at.invariant.made);
      alike = alike_on g.L.Labels.made g.L.Labels.meaning c.args.enumeration g.L.Labels.room g.L.Labels.firm at.labels c.look_at.new.labels c.look_at.ensures.kept c.args.count at.left c.args.stack.now.loose c.args.world.now
          (at.left - 1) at.stack.loose c.look_at.new.stack.loose at.world c.look_at.new.world at.invariant.alike looked.1;
      level = c.look_at.ensures.stands ∙ at.invariant.level;
      belongs = c.look_at.ensures.belongs;
      grows = Grows-trans c.args.world.now at.world c.look_at.new.world at.invariant.grows c.look_at.ensures.grows;
      kept = IsKept-trans _ _ _ _ _ _ _ at.invariant.kept c.look_at.ensures.kept;
    }

pub returns-clause-goes_on : goal.returns-clause-goes_on
returns-clause-goes_on g c =
    let at = c.loop-left in
    let size = at.invariant.size in
    let over = c.loop-left-test.false in
    visits_over g.L.Labels.made g.L.Labels.meaning c.args.enumeration at.labels c.args.count at.left c.args.stack.now at.stack c.forget.new.self c.args.world.now at.world at.invariant.tasks c.forget.ensures.tasks (omega (arith, size, over)) at.invariant.alike
