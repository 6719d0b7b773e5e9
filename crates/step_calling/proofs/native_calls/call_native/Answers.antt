use Rattle.std.proofs.Common.{arith, length, ◌-◌, ◌∙◌, ◌≡◌, ◌≤◌}
use Rattle.es_meaning.specs.BuiltIns.{built_ins_of}
use Rattle.continuations.specs.Kept.{scopes_of}
use Rattle.step_calling.proofs.NativeLaws.{native_calls}
use Rattle.step_natives.proofs.ConvertingLaws.{steps_size}
use Rattle.step_natives.proofs.FrameLaws.{waits_so}
use Rattle.step_calling.proofs.native_calls.call_native.Goals as goal

pub returns-clause-calls : goal.returns-clause-calls
returns-clause-calls g c tables inputs functions =
    let wait = waits_so g.L.Labels.made g.L.Labels.meaning c.args.labels.now c.args.stack.now c.args.world.now c.args.count _ (scopes_of c.args.stack.now.tasks) c.requires.standing in
    let some : 2 ≤ length c.args.stack.now.loose = omega (arith, c.requires.enough, c.requires.standing.values) in
    let counts : length c.args.stack.now.loose - 2 ≡ c.arguments_in-argc.result = omega (arith, c.requires.enough, c.requires.standing.values, c.in_ok-registers.ensures, c.arguments_in-argc.ensures) in
    native_calls g.L.Labels.made g.L.Labels.meaning c.begin_native.new.labels tables inputs (built_ins_of (g.N.Natives.entries c.args.natives.now) (g.N.Natives.begin c.args.natives.now) (g.N.Natives.after c.args.natives.now) (g.N.Natives.asks c.args.natives.now)) functions (g.N.Natives.after c.args.natives.now) (g.N.Natives.asks c.args.natives.now) c.args.states.now c.begin.new.self c.args.which c.in_ok-registers.registers c.arguments_in-argc.result c.args.label c.args._o c.args.stack.now c.begin_native.new.stack c.args.world.now c.begin_native.new.world c.in_ok-next.next
    c.in_ok-next.ensures.asks c.in_ok-next.ensures.runs c.in_ok-begin.ensures.begun (steps_size (g.N.Natives.after c.args.natives.now) (g.N.Natives.asks c.args.natives.now) c.args.states.now ∙ wait) counts some c.requires.leads
