use Rattle.std.proofs.Common.{refl, sym, ap, subst, ◌∙◌, ◌≤◌, ◌<◌, ◌++◌, ◌∷◌, [], length, arith}
use Rattle.js_values.specs.Readings.{HasValue}
use Rattle.continuations.specs.declared.continuation.Control.TheVariants as control
use Rattle.step_jumps.proofs.CallLaws.{at_inner, at_jump, both_popped, construction_given, construction_passed, operands_alone, standing_answered, standing_passing, top_has}
use Rattle.step_jumps.proofs.calls.pass_construction.Goals as goal

pub returns-then-len-depth-clause-passes : goal.returns-then-len-depth-clause-passes
returns-then-len-depth-clause-passes g c tables inputs set functions natives given above =
    let few : length c.args.world.now.frames.frames ≤ c.args.depth = omega (arith, c.if-len-depth.true, c.len.ensures.length) in
    let both = both_popped c.args.stack.now.loose c.pop-value.new.self.loose c.pop-fresh.new.self.loose c.pop-fresh.result c.pop-value.result c.pop-value.ensures.top c.pop-fresh.ensures.top c.requires.standing.values in
    construction_passed g.L.Labels.made g.L.Labels.meaning c.args.labels.now tables inputs set functions natives c.args.own c.args.depth c.args.jump c.args.stack.now c.args.world.now few c.lay.new.self c.pop-fresh.result c.pop-value.result given both.0 above
    (c.lay.ensures.tasks ∙ c.pop-fresh.ensures.tasks ∙ c.pop-value.ensures.tasks) (c.in_ok-lay.ensures.laid ∙ ap (λ vs. vs ++ c.pop-value.result ∷ []) both.1)

pub returns-then-len-depth-clause-standing : goal.returns-then-len-depth-clause-standing
returns-then-len-depth-clause-standing g c =
    let few : length c.args.world.now.frames.frames ≤ c.args.depth = omega (arith, c.if-len-depth.true, c.len.ensures.length) in
    let both = both_popped c.args.stack.now.loose c.pop-value.new.self.loose c.pop-fresh.new.self.loose c.pop-fresh.result c.pop-value.result c.pop-value.ensures.top c.pop-fresh.ensures.top c.requires.standing.values in
    let tasks = c.lay.ensures.tasks ∙ c.pop-fresh.ensures.tasks ∙ c.pop-value.ensures.tasks in
    let alone = c.in_ok-lay.ensures.laid ∙ ap (λ vs. vs ++ c.pop-value.result ∷ []) both.1 in
    standing_passing g.L.Labels.made g.L.Labels.meaning c.args.labels.now c.args.stack.now c.args.world.now c.args.depth c.lay.new.self c.args.jump c.requires.standing few tasks
    (operands_alone (HasValue (g.L.Labels.made c.args.labels.now)) c.args.stack.now c.pop-value.new.self.loose c.lay.new.self c.pop-value.result c.pop-value.ensures.top tasks alone c.requires.standing.operands) (ap length alone)

pub answer_with-requires-clause-value : goal.answer_with-requires-clause-value
answer_with-requires-clause-value g c =
    subst (g.L.Labels.made c.args.labels.now) (sym c.chosen-given.ensures.label)
    (top_has (HasValue (g.L.Labels.made c.args.labels.now)) c.args.stack.now c.pop-value.new.self.loose c.pop-value.result c.pop-value.ensures.top c.requires.standing.operands)

pub answer_with-requires-clause-frame : goal.answer_with-requires-clause-frame
answer_with-requires-clause-frame g c =
    let there : c.args.depth < length c.args.world.now.frames.frames = (let isnt = c.if-len-depth.false in omega (arith, isnt, c.len.ensures.length)) in
    at_jump g.L.Labels.made g.L.Labels.meaning c.args.labels.now c.args.stack.now c.args.world.now c.args.depth c.args.jump c.requires.standing there

pub answer_with-requires-clause-inner : goal.answer_with-requires-clause-inner
answer_with-requires-clause-inner g c = at_inner g.L.Labels.made g.L.Labels.meaning c.args.labels.now c.args.stack.now c.args.world.now c.args.depth (control.Jumps c.args.jump) c.requires.standing

pub returns-clause-passes : goal.returns-clause-passes
returns-clause-passes g c tables inputs set functions natives given above =
    let there : c.args.depth < length c.args.world.now.frames.frames = (let isnt = c.if-len-depth.false in omega (arith, isnt, c.len.ensures.length)) in
    let both = both_popped c.args.stack.now.loose c.pop-value.new.self.loose c.pop-fresh.new.self.loose c.pop-fresh.result c.pop-value.result c.pop-value.ensures.top c.pop-fresh.ensures.top c.requires.standing.values in
    construction_given g.L.Labels.made g.L.Labels.meaning c.answer_with.new.labels c.args.depth c.chosen-given.result c.pop-fresh.new.self c.answer_with.new.stack c.args.world.now c.answer_with.new.world c.in_ok-next.next c.in_ok-next.ensures.answers tables inputs set functions natives c.args.own c.args.stack.now (c.pop-fresh.ensures.tasks ∙ c.pop-value.ensures.tasks)
    c.args.jump c.pop-fresh.result c.pop-value.result given both.0 above c.chosen-given.ensures.label c.chosen-given.ensures.value there

pub returns-clause-standing : goal.returns-clause-standing
returns-clause-standing g c =
    let there : c.args.depth < length c.args.world.now.frames.frames = (let isnt = c.if-len-depth.false in omega (arith, isnt, c.len.ensures.length)) in
    standing_answered g.L.Labels.made g.L.Labels.meaning c.answer_with.new.labels c.args.depth c.chosen-given.result c.pop-fresh.new.self c.answer_with.new.stack c.args.world.now c.answer_with.new.world c.in_ok-next.next c.in_ok-next.ensures.answers
    g.L.Labels.room g.L.Labels.firm c.args.labels.now c.answer_with.ensures.kept c.args.stack.now (control.Jumps c.args.jump) c.requires.standing refl (c.pop-fresh.ensures.tasks ∙ c.pop-value.ensures.tasks)
    (at_jump g.L.Labels.made g.L.Labels.meaning c.args.labels.now c.args.stack.now c.args.world.now c.args.depth c.args.jump c.requires.standing there)
