use Rattle.std.proofs.Common.{◌≡◌, ◌≤◌, List, length, arith, refl, sym, ap, subst, ◌∙◌}
use Rattle.origin_labels.specs.Label.{Label}
use Rattle.origin_labels.proofs.StoreLaws.{IsKept-refl, IsKept-trans}
use Rattle.js_values.specs.Readings.{IsReading}
use Rattle.js_values.proofs.ReadingLaws.{IsReading-earlier}
use Rattle.es_meaning.specs.BuiltIns.{built_ins_of}
use Rattle.flow_meaning.specs.Scopes.{LabelledLine}
use Rattle.function_table.specs.Tables.{table}
use Rattle.run_state.proofs.ActLaws.{Grows-refl, Grows-trans}
use Rattle.step_core.specs.RemainingRun.{ahead, remaining_run}
use Rattle.step_core.proofs.RoomLaws.{roomier_run, roomier_ahead, roomier_grows, roomier_stands, stepped_from}
use Rattle.step_core.proofs.stepping.run_on.Goals as goal

pub steps-init : goal.steps-init
steps-init g c =
    let L = g.L.Labels in
    record {
      comes = λ reading told read. refl;
      standing = c.requires.standing;
      less = omega arith;
      grows = Grows-refl c.args.progress.now.world;
      kept = IsKept-refl L.made L.meaning L.room L.firm c.args.labels.now;
    }

pub stepped-requires-clause-standing : goal.stepped-requires-clause-standing
stepped-requires-clause-standing g c =
    let L = g.L.Labels in
    roomier_stands c.steps.progress c.reserve.new.self c.reserve.ensures.roomier L.made L.meaning c.steps.labels c.steps.next c.steps.invariant.standing

pub stepped-requires-clause-room : goal.stepped-requires-clause-room
stepped-requires-clause-room g c = subst (λ room. length c.args.policy.now.origins ≤ room) (sym c.steps.invariant.kept.same_room) c.requires.room

pub stepped-requires-clause-positions : goal.stepped-requires-clause-positions
stepped-requires-clause-positions g c =
    (roomier_grows c.steps.progress c.reserve.new.self c.reserve.ensures.roomier).positions ∙ c.steps.invariant.grows.positions ∙ c.requires.positions

pub steps-smaller : goal.steps-smaller
steps-smaller g c =
    let less = (rw c.in-Goes.is at c.in_ok-came.ensures.stepped).lowers in
    let same = roomier_ahead c.steps.progress c.reserve.new.self c.reserve.ensures.roomier c.steps.next in
    omega (arith, less, same)

pub steps-preserved : goal.steps-preserved
steps-preserved g c =
    let L = g.L.Labels in
    let N = g.N.Natives in
    let natives = c.args.natives.now in
    let set = built_ins_of (N.entries natives) (N.begin natives) (N.after natives) (N.asks natives) in
    let step = rw c.in-Goes.is at c.in_ok-came.ensures.stepped in
    let roomier = c.reserve.ensures.roomier in
    let same = roomier_ahead c.steps.progress c.reserve.new.self roomier c.steps.next in
    let lower = step.lowers in
    let least = c.steps.invariant.less in
    record {
      comes = λ reading told read.
          c.steps.invariant.comes reading told (IsReading-earlier L.made L.meaning L.room L.firm c.steps.labels c.stepped.new.labels reading c.stepped.ensures.kept read)
          ∙ sym (roomier_run c.steps.progress c.reserve.new.self roomier c.args.policy.now c.args.inputs.now set (table c.args.functions.now) (N.after natives) (N.asks natives) reading c.steps.next told)
          ∙ step.comes reading told read;
      standing = step.standing;
      less = omega (arith, lower, same, least);
      grows = Grows-trans c.args.progress.now.world c.steps.progress.world c.stepped.new.progress.world c.steps.invariant.grows
          (Grows-trans c.steps.progress.world c.reserve.new.self.world c.stepped.new.progress.world (roomier_grows c.steps.progress c.reserve.new.self roomier) c.stepped.ensures.grows);
      kept = IsKept-trans L.made L.meaning L.room L.firm c.args.labels.now c.steps.labels c.stepped.new.labels c.steps.invariant.kept c.stepped.ensures.kept;
    }

pub returns-in_default-clause-stepped : goal.returns-in_default-clause-stepped
returns-in_default-clause-stepped g c =
    let L = g.L.Labels in
    let N = g.N.Natives in
    let natives = c.args.natives.now in
    let set = built_ins_of (N.entries natives) (N.begin natives) (N.after natives) (N.asks natives) in
    let run = remaining_run c.args.policy.now c.args.inputs.now set (table c.args.functions.now) (N.after natives) (N.asks natives) in
    let roomier = c.reserve.ensures.roomier in
    let same = roomier_ahead c.steps.progress c.reserve.new.self roomier c.steps.next in
    let least = c.steps.invariant.less in
    stepped_from L.made L.meaning c.stepped.new.labels c.args.policy.now c.args.inputs.now set (table c.args.functions.now) (N.after natives) (N.asks natives)
    (λ reading. run reading c.args.progress.now c.args.first) (λ reading. run reading c.reserve.new.self c.steps.next) (ahead c.args.progress.now c.args.first) (ahead c.reserve.new.self c.steps.next) c.stepped.new.progress c.in_ok-came.came
    (λ reading told read.
    c.steps.invariant.comes reading told (IsReading-earlier L.made L.meaning L.room L.firm c.steps.labels c.stepped.new.labels reading c.stepped.ensures.kept read)
    ∙ sym (roomier_run c.steps.progress c.reserve.new.self roomier c.args.policy.now c.args.inputs.now set (table c.args.functions.now) (N.after natives) (N.asks natives) reading c.steps.next told))
    (omega (arith, same, least)) c.in_ok-came.ensures.stepped
