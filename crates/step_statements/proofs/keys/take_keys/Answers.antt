use Rattle.std.proofs.Common.{ap, ◌∙◌, ◌++◌, ◌≡◌, length, arith}
use Rattle.continuations.specs.Loads.{load}
use Rattle.js_values.specs.Readings.{HasValue}
use Rattle.continuations.specs.Kept.{Kept}
use Rattle.continuations.proofs.EndLaws.{last_has}
use Rattle.step_references.proofs.Begun.{on_is}
use Rattle.step_references.proofs.Moved.{level_on, moved_off, rests_popped}
use Rattle.step_statements.specs.Visiting.{laid_keys}
use Rattle.step_statements.proofs.Looking.{keys_lie, taking_goes, taking_off, taking_fails, taken_rest}
use Rattle.step_statements.proofs.TakingFrames.{taking_stands}
use Rattle.step_statements.proofs.keys.take_keys.Goals as goal

pub returns-in_err-came-clause-goes_on : goal.returns-in_err-came-clause-goes_on
returns-in_err-came-clause-goes_on g c =
    taking_fails g.L.Labels.made g.L.Labels.meaning c.args.enumeration c.keys_of-answer.new.labels c.args.stack.now c.pop-value.new.self c.pop-value.result c.in_ok-copy.field-0 c.requires.loose c.pop-value.ensures.top c.pop-value.ensures.tasks c.in_ok-copy.ensures
    c.args.world.now c.keys_of-answer.new.world c.keys_of-answer.result c.keys_of-answer.ensures.acts c.go_on.new.stack c.go_on.new.stack c.in_err-came.field-0.0 c.from_residual-in_err-came.result c.in_err-came.ensures.parts c.from_residual-in_err-came.ensures.1

pub returns-in-On-clause-goes_on : goal.returns-in-On-clause-goes_on
returns-in-On-clause-goes_on g c =
    taking_goes g.L.Labels.made g.L.Labels.meaning c.args.enumeration c.keys_of-answer.new.labels c.args.stack.now c.pop-value.new.self c.pop-value.result c.in_ok-copy.field-0 c.requires.loose c.pop-value.ensures.top c.pop-value.ensures.tasks c.in_ok-copy.ensures
    c.args.world.now c.keys_of-answer.new.world c.keys_of-answer.result c.keys_of-answer.ensures.acts g.L.Labels.room g.L.Labels.firm c.go_on.new.stack c.lay_keys.new.stack c.in-On.keys c.bottom-none.result c.in_ok-count-in-On.count (rw c.in-On.is at c.in_ok-came.ensures.parts)
    (c.lay_keys.ensures.tasks ∙ c.lay.ensures.tasks)
    (keys_lie (g.L.Labels.made c.keys_of-answer.new.labels) c.args.stack.now c.pop-value.new.self c.go_on.new.stack c.lay.new.self c.lay_keys.new.stack c.pop-value.result c.keys_of-answer.result c.in-On.keys c.bottom-none.result c.requires.loose c.pop-value.ensures.top (rw c.in-On.is at c.in_ok-came.ensures.parts)
    c.in_ok-lay-in-On.ensures.laid (c.in_ok-count-in-On.ensures.laid ∙ ap (λ ks. c.lay.new.self.loose ++ laid_keys c.bottom-none.result ks) c.items.ensures))

pub returns-in-On-clause-rests : goal.returns-in-On-clause-rests
returns-in-On-clause-rests g c =
    let parts = (rw c.in-On.is at c.in_ok-came.ensures.parts) in
    taken_rest c.args.enumeration (g.L.Labels.made c.keys_of-answer.new.labels) c.args.stack.now c.lay_keys.new.stack c.pop-value.result c.bottom-none.result c.in-On.keys c.in_ok-count-in-On.count
    (c.lay_keys.ensures.tasks ∙ c.lay.ensures.tasks ∙ ap (λ (k : Kept _). k.tasks) (on_is (g.L.Labels.made c.keys_of-answer.new.labels) c.pop-value.new.self c.go_on.new.stack c.keys_of-answer.result c.in-On.keys parts).1 ∙ c.pop-value.ensures.tasks)
    (keys_lie (g.L.Labels.made c.keys_of-answer.new.labels) c.args.stack.now c.pop-value.new.self c.go_on.new.stack c.lay.new.self c.lay_keys.new.stack c.pop-value.result c.keys_of-answer.result c.in-On.keys c.bottom-none.result c.requires.loose c.pop-value.ensures.top (rw c.in-On.is at c.in_ok-came.ensures.parts)
    c.in_ok-lay-in-On.ensures.laid (c.in_ok-count-in-On.ensures.laid ∙ ap (λ ks. c.lay.new.self.loose ++ laid_keys c.bottom-none.result ks) c.items.ensures))
    (c.in_ok-count-in-On.ensures.count ∙ ap length c.items.ensures)
    (c.keys_of-answer.ensures.kept.labels c.pop-value.result.label (last_has (HasValue (g.L.Labels.made c.args.labels.now)) c.pop-value.new.self.loose c.args.stack.now.loose c.pop-value.result c.pop-value.ensures.top c.requires.made)).0
    c.bottom-none.ensures.made

pub returns-in-On-clause-stands : goal.returns-in-On-clause-stands
returns-in-On-clause-stands g c =
    level_on (g.L.Labels.made c.keys_of-answer.new.labels) c.args.world.now c.keys_of-answer.new.world c.pop-value.new.self c.go_on.new.stack c.keys_of-answer.result c.in-On.keys
    (taking_stands g.L.Labels.made g.L.Labels.meaning c.keys_of-answer.new.labels c.in_ok-copy.field-0 c.args.world.now c.keys_of-answer.new.world c.keys_of-answer.result c.keys_of-answer.ensures.acts) (rw c.in-On.is at c.in_ok-came.ensures.parts)

pub returns-clause-goes_on : goal.returns-clause-goes_on
returns-clause-goes_on g c =
    taking_off g.L.Labels.made g.L.Labels.meaning c.args.enumeration c.keys_of-answer.new.labels c.args.stack.now c.pop-value.new.self c.pop-value.result c.in_ok-copy.field-0 c.requires.loose c.pop-value.ensures.top c.pop-value.ensures.tasks c.in_ok-copy.ensures
    c.args.world.now c.keys_of-answer.new.world c.keys_of-answer.result c.keys_of-answer.ensures.acts c.go_on.new.stack c.in-Off.next (rw c.in-Off.is at c.in_ok-came.ensures.parts)

pub returns-clause-rests : goal.returns-clause-rests
returns-clause-rests g c = rests_popped c.pop-value.ensures.tasks (moved_off {made = g.L.Labels.made c.keys_of-answer.new.labels} {n = 6} {world_old = c.args.world.now} {world_new = c.keys_of-answer.new.world} c.pop-value.new.self c.go_on.new.stack c.keys_of-answer.result c.in-Off.next (omega arith) c.keys_of-answer.ensures.made (taking_stands g.L.Labels.made g.L.Labels.meaning c.keys_of-answer.new.labels c.in_ok-copy.field-0 c.args.world.now c.keys_of-answer.new.world c.keys_of-answer.result c.keys_of-answer.ensures.acts) (rw c.in-Off.is at c.in_ok-came.ensures.parts)).rests

pub returns-clause-adds : goal.returns-clause-adds
returns-clause-adds g c =
    let adds = (moved_off {made = g.L.Labels.made c.keys_of-answer.new.labels} {n = 6} {world_old = c.args.world.now} {world_new = c.keys_of-answer.new.world} c.pop-value.new.self c.go_on.new.stack c.keys_of-answer.result c.in-Off.next (omega arith) c.keys_of-answer.ensures.made (taking_stands g.L.Labels.made g.L.Labels.meaning c.keys_of-answer.new.labels c.in_ok-copy.field-0 c.args.world.now c.keys_of-answer.new.world c.keys_of-answer.result c.keys_of-answer.ensures.acts) (rw c.in-Off.is at c.in_ok-came.ensures.parts)).adds in
    let same : load c.pop-value.new.self.tasks ≡ load c.args.stack.now.tasks = ap load c.pop-value.ensures.tasks in
    omega (arith, adds, same)

pub returns-clause-stands : goal.returns-clause-stands
returns-clause-stands g c = (moved_off {made = g.L.Labels.made c.keys_of-answer.new.labels} {n = 6} {world_old = c.args.world.now} {world_new = c.keys_of-answer.new.world} c.pop-value.new.self c.go_on.new.stack c.keys_of-answer.result c.in-Off.next (omega arith) c.keys_of-answer.ensures.made (taking_stands g.L.Labels.made g.L.Labels.meaning c.keys_of-answer.new.labels c.in_ok-copy.field-0 c.args.world.now c.keys_of-answer.new.world c.keys_of-answer.result c.keys_of-answer.ensures.acts) (rw c.in-Off.is at c.in_ok-came.ensures.parts)).stands
