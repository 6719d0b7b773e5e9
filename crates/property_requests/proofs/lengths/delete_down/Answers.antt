use Rattle.std.proofs.Common.{arith, ◌≡◌, ◌-◌, ◌+◌, Ok, suc, ap, ◌∙◌}
use Rattle.origin_labels.proofs.StoreLaws.{IsKept-refl, IsKept-trans}
use Rattle.run_state.proofs.ActLaws.{Grows-refl, Grows-trans}
use Rattle.property_requests.specs.Finding.{went}
use Rattle.property_requests.specs.Lengths.{HasCut, HasDeletion}
use Rattle.property_requests.proofs.ChangingLaws.{passed_has, went_has, went_refused}
use Rattle.property_requests.proofs.LengthLaws.{downs_done, downs_ended, downs_first, downs_on, downs_stopped, whole_rows}
use Rattle.property_requests.proofs.lengths.delete_down.Goals as goal

pub loop-init : goal.loop-init
loop-init g c = record {
  within = omega arith;
  tested = c.bottom-tested.ensures.made;
  belongs = c.requires.belongs;
  grows = Grows-refl c.args.world.now;
  kept = IsKept-refl _ _ _ _ _;
  present = λ some. some;
  downs = downs_first g.L.Labels.made g.L.Labels.meaning c.args.place c.args.o.0 c.args.number c.count-most.result c.args.world.now c.args.labels.now (c.count-most.result - 0) c.bottom-tested.result (omega arith) c.bottom-tested.ensures.made c.bottom-tested.ensures.meaning;
}

pub delete_highest-requires-clause-there : goal.delete_highest-requires-clause-there
delete_highest-requires-clause-there g c =
    let grows = c.loop.invariant.grows.heap in
    let there = c.requires.there in
    omega (arith, grows, there)

pub delete_highest-requires-clause-place : goal.delete_highest-requires-clause-place
delete_highest-requires-clause-place g c = (c.loop.invariant.kept.labels c.args.place c.requires.place).0

pub delete_highest-requires-clause-tested : goal.delete_highest-requires-clause-tested
delete_highest-requires-clause-tested g c = c.loop.invariant.tested

pub delete_highest-requires-clause-belongs : goal.delete_highest-requires-clause-belongs
delete_highest-requires-clause-belongs g c = c.loop.invariant.belongs

pub loop-preserved : goal.loop-preserved
loop-preserved g c =
    let at = c.loop in
    let inv = at.invariant in
    let less = c.loop-test.true in
    let next : c.count-most.result - at.counter ≡ suc (c.count-most.result - (at.counter + 1)) = omega (arith, less) in
    let ok = c.in_ok-deletion.was ∙ ap Ok c.in-Further.is in
    record {
      within = omega (arith, less);
      tested = went_has (g.L.Labels.made c.delete_highest.new.labels) (HasDeletion (g.L.Labels.made c.delete_highest.new.labels)) c.delete_highest.result _ ok c.delete_highest.ensures.made;
      belongs = c.delete_highest.ensures.belongs;
      grows = Grows-trans c.args.world.now at.world c.delete_highest.new.world inv.grows c.delete_highest.ensures.grows;
      kept = IsKept-trans _ _ _ _ _ _ _ inv.kept c.delete_highest.ensures.kept;
      present = λ some. c.in_ok-deletion.ensures.present (inv.present some);
      downs = downs_on g.L.Labels.made g.L.Labels.meaning c.args.place c.args.o.0 c.args.number c.count-most.result c.args.world.now g.L.Labels.room g.L.Labels.firm at.labels c.delete_highest.new.labels c.delete_highest.ensures.kept at.world c.delete_highest.new.world
          (c.count-most.result - at.counter) (c.count-most.result - (at.counter + 1)) next at.tested inv.downs c.delete_highest.result c.delete_highest.ensures.acts c.in-Further.further ok;
    }

pub returns-in_err-deletion-clause-acts : goal.returns-in_err-deletion-clause-acts
returns-in_err-deletion-clause-acts g c =
    let at = c.loop in
    let less = c.loop-test.true in
    let next : c.count-most.result - at.counter ≡ suc (c.count-most.result - (at.counter + 1)) = omega (arith, less) in
    whole_rows g.L.Labels.made g.L.Labels.meaning c.args.place c.args.o.0 c.args.number c.count-most.result c.args.world.now c.delete_highest.new.labels c.delete_highest.new.world (went c.from_residual.result) c.count-most.ensures
    (downs_stopped g.L.Labels.made g.L.Labels.meaning c.args.place c.args.o.0 c.args.number c.count-most.result c.args.world.now g.L.Labels.room g.L.Labels.firm at.labels c.delete_highest.new.labels c.delete_highest.ensures.kept at.world c.delete_highest.new.world
    (c.count-most.result - at.counter) (c.count-most.result - (at.counter + 1)) next at.tested at.invariant.downs c.delete_highest.result c.delete_highest.ensures.acts c.in_err-deletion.field-0.0 c.in_err-deletion.was (went c.from_residual.result)
    (went_refused c.in_err-deletion.field-0.0 c.from_residual.result c.from_residual.ensures.1))

pub returns-in_err-deletion-clause-made : goal.returns-in_err-deletion-clause-made
returns-in_err-deletion-clause-made g c =
    passed_has (g.L.Labels.made c.delete_highest.new.labels) (HasDeletion (g.L.Labels.made c.delete_highest.new.labels)) (HasCut (g.L.Labels.made c.delete_highest.new.labels)) c.delete_highest.result c.in_err-deletion.field-0.0 c.in_err-deletion.was c.delete_highest.ensures.made (went c.from_residual.result)
    (went_refused c.in_err-deletion.field-0.0 c.from_residual.result c.from_residual.ensures.1)

pub returns-in_err-deletion-clause-grows : goal.returns-in_err-deletion-clause-grows
returns-in_err-deletion-clause-grows g c = Grows-trans c.args.world.now c.loop.world c.delete_highest.new.world c.loop.invariant.grows c.delete_highest.ensures.grows

pub returns-in_err-deletion-clause-kept : goal.returns-in_err-deletion-clause-kept
returns-in_err-deletion-clause-kept g c = IsKept-trans _ _ _ _ _ _ _ c.loop.invariant.kept c.delete_highest.ensures.kept

pub returns-in-Ended-clause-acts : goal.returns-in-Ended-clause-acts
returns-in-Ended-clause-acts g c =
    let at = c.loop in
    let less = c.loop-test.true in
    let next : c.count-most.result - at.counter ≡ suc (c.count-most.result - (at.counter + 1)) = omega (arith, less) in
    whole_rows g.L.Labels.made g.L.Labels.meaning c.args.place c.args.o.0 c.args.number c.count-most.result c.args.world.now c.delete_highest.new.labels c.delete_highest.new.world _ c.count-most.ensures
    (downs_ended g.L.Labels.made g.L.Labels.meaning c.args.place c.args.o.0 c.args.number c.count-most.result c.args.world.now g.L.Labels.room g.L.Labels.firm at.labels c.delete_highest.new.labels c.delete_highest.ensures.kept at.world c.delete_highest.new.world
    (c.count-most.result - at.counter) (c.count-most.result - (at.counter + 1)) next at.tested at.invariant.downs c.delete_highest.result c.delete_highest.ensures.acts c.in-Ended.cut (c.in_ok-deletion.was ∙ ap Ok c.in-Ended.is))

pub returns-in-Ended-clause-present : goal.returns-in-Ended-clause-present
returns-in-Ended-clause-present g c = λ some. c.in_ok-deletion.ensures.present (c.loop.invariant.present some)

pub returns-in-Ended-clause-made : goal.returns-in-Ended-clause-made
returns-in-Ended-clause-made g c =
    went_has (g.L.Labels.made c.delete_highest.new.labels) (HasDeletion (g.L.Labels.made c.delete_highest.new.labels)) c.delete_highest.result _ (c.in_ok-deletion.was ∙ ap Ok c.in-Ended.is) c.delete_highest.ensures.made

pub returns-in-Ended-clause-grows : goal.returns-in-Ended-clause-grows
returns-in-Ended-clause-grows g c = Grows-trans c.args.world.now c.loop.world c.delete_highest.new.world c.loop.invariant.grows c.delete_highest.ensures.grows

pub returns-in-Ended-clause-kept : goal.returns-in-Ended-clause-kept
returns-in-Ended-clause-kept g c = IsKept-trans _ _ _ _ _ _ _ c.loop.invariant.kept c.delete_highest.ensures.kept

pub returns-clause-acts : goal.returns-clause-acts
returns-clause-acts g c =
    let at = c.loop in
    let within = at.invariant.within in
    let none : c.count-most.result - at.counter ≡ 0 = omega (arith, within, c.loop-test.false) in
    whole_rows g.L.Labels.made g.L.Labels.meaning c.args.place c.args.o.0 c.args.number c.count-most.result c.args.world.now at.labels at.world _ c.count-most.ensures
    (downs_done g.L.Labels.made g.L.Labels.meaning c.args.place c.args.o.0 c.args.number c.count-most.result c.args.world.now at.labels at.world (c.count-most.result - at.counter) at.tested none at.invariant.downs)

pub returns-clause-made : goal.returns-clause-made
returns-clause-made g c = (c.loop.invariant.tested, tt)
