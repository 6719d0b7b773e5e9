use Rattle.std.proofs.Common.{refl, sym, ◌∙◌, ◌≤◌, ◌<◌, length, arith}
use Rattle.continuations.specs.declared.continuation.Control.TheVariants as control
use Rattle.step_jumps.proofs.CallLaws.{at_inner, at_jump, call_given, call_passed, one_popped, same_head, standing_answered, standing_passing}
use Rattle.step_jumps.proofs.calls.pass_call.Goals as goal

pub returns-then-len-depth-clause-passes : goal.returns-then-len-depth-clause-passes
returns-then-len-depth-clause-passes g c tables inputs set functions natives given alone =
    let few : length c.args.world.now.frames.frames ≤ c.args.depth = omega (arith, c.if-len-depth.true, c.len.ensures.length) in
    call_passed g.L.Labels.made g.L.Labels.meaning c.args.labels.now tables inputs set functions natives c.args.own c.args.depth c.args.jump c.args.stack.now c.args.world.now few given alone

pub returns-then-len-depth-clause-standing : goal.returns-then-len-depth-clause-standing
returns-then-len-depth-clause-standing g c =
    let few : length c.args.world.now.frames.frames ≤ c.args.depth = omega (arith, c.if-len-depth.true, c.len.ensures.length) in
    standing_passing g.L.Labels.made g.L.Labels.meaning c.args.labels.now c.args.stack.now c.args.world.now c.args.depth c.args.stack.now c.args.jump c.requires.standing few refl c.requires.standing.operands c.requires.standing.values

pub answer_with-requires-clause-frame : goal.answer_with-requires-clause-frame
answer_with-requires-clause-frame g c =
    let there : c.args.depth < length c.args.world.now.frames.frames = (let isnt = c.if-len-depth.false in omega (arith, isnt, c.len.ensures.length)) in
    at_jump g.L.Labels.made g.L.Labels.meaning c.args.labels.now c.args.stack.now c.args.world.now c.args.depth c.args.jump c.requires.standing there

pub answer_with-requires-clause-inner : goal.answer_with-requires-clause-inner
answer_with-requires-clause-inner g c = at_inner g.L.Labels.made g.L.Labels.meaning c.args.labels.now c.args.stack.now c.args.world.now c.args.depth (control.Jumps c.args.jump) c.requires.standing

pub returns-clause-passes : goal.returns-clause-passes
returns-clause-passes g c tables inputs set functions natives given alone =
    let there : c.args.depth < length c.args.world.now.frames.frames = (let isnt = c.if-len-depth.false in omega (arith, isnt, c.len.ensures.length)) in
    call_given g.L.Labels.made g.L.Labels.meaning c.answer_with.new.labels c.args.depth c.pop-value.result c.pop-value.new.self c.answer_with.new.stack c.args.world.now c.answer_with.new.world c.in_ok-next.next c.in_ok-next.ensures.answers tables inputs set functions natives c.args.own c.args.stack.now c.pop-value.ensures.tasks
    c.args.jump given (same_head (sym (one_popped c.args.stack.now.loose c.pop-value.new.self.loose c.pop-value.result c.pop-value.ensures.top c.requires.standing.values).0 ∙ alone)) there

pub returns-clause-standing : goal.returns-clause-standing
returns-clause-standing g c =
    let there : c.args.depth < length c.args.world.now.frames.frames = (let isnt = c.if-len-depth.false in omega (arith, isnt, c.len.ensures.length)) in
    standing_answered g.L.Labels.made g.L.Labels.meaning c.answer_with.new.labels c.args.depth c.pop-value.result c.pop-value.new.self c.answer_with.new.stack c.args.world.now c.answer_with.new.world c.in_ok-next.next c.in_ok-next.ensures.answers
    g.L.Labels.room g.L.Labels.firm c.args.labels.now c.answer_with.ensures.kept c.args.stack.now (control.Jumps c.args.jump) c.requires.standing refl c.pop-value.ensures.tasks
    (at_jump g.L.Labels.made g.L.Labels.meaning c.args.labels.now c.args.stack.now c.args.world.now c.args.depth c.args.jump c.requires.standing there)
