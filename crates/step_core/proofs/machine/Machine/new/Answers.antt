use Rattle.std.proofs.Common.{◌≤◌, length, subst, sym}
use Rattle.step_core.proofs.machine.Machine.new.Goals as goal

pub returns-clause-starts : goal.returns-clause-starts
returns-clause-starts g c reading read = c.in_ok-progress.ensures.starts c.args.inputs.now reading read

pub returns-clause-runs : goal.returns-clause-runs
returns-clause-runs g c = record {
  standing = c.in_ok-progress.ensures.standing;
  origins = subst (λ room. length c.args.policy.now.origins ≤ room) (sym c.begin.ensures.kept.same_room) c.requires.room;
  given = c.requires.given;
  positions = c.in_ok-progress.ensures.positions;
}
