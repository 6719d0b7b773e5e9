use Rattle.std.proofs.Common.{arith, ap, length, sym, ◌-◌, ◌∙◌, ◌≡◌, suc}
use Rattle.js_values.specs.declared.value.Labelled.{Labelled}
use Rattle.es_meaning.specs.BuiltIns.{built_ins_of}
use Rattle.es_meaning.specs.Plain.{undefined}
use Rattle.continuations.specs.Kept.{scopes_of, waiting}
use Rattle.step_calling.proofs.NativeLaws.{native_constructs}
use Rattle.step_calling.proofs.StandingLaws.{stands_below}
use Rattle.step_natives.proofs.ConvertingLaws.{steps_size}
use Rattle.step_natives.proofs.FrameLaws.{waits_so}
use Rattle.step_calling.proofs.native_calls.run_constructor.Goals as goal

pub begin_native-requires-clause-standing : goal.begin_native-requires-clause-standing
begin_native-requires-clause-standing g c =
    let none : Labelled _ = record { value = undefined; label = c.bottom-none.result } in
    stands_below g.L.Labels.made g.L.Labels.meaning c.args.labels.now c.args.stack.now c.lay_undefined_below.new.stack c.args.world.now c.args.count c.in_ok-registers.registers _ none c.requires.standing c.lay_undefined_below.ensures.tasks c.in_ok-count.ensures.laid c.bottom-none.ensures.made
    (c.in_ok-registers.ensures ∙ c.in_ok-count.ensures.count)

pub returns-clause-constructs : goal.returns-clause-constructs
returns-clause-constructs g c tables inputs functions =
    let wait = waits_so g.L.Labels.made g.L.Labels.meaning c.args.labels.now c.args.stack.now c.args.world.now c.args.count _ (scopes_of c.args.stack.now.tasks) c.requires.standing in
    let size : length c.lay_undefined_below.new.stack.loose ≡ suc (length c.args.stack.now.loose) = ap length c.in_ok-count.ensures.laid in
    let counts : length c.lay_undefined_below.new.stack.loose - 2 ≡ c.arguments_in-argc.result = omega (arith, c.requires.enough, c.requires.standing.values, size, c.in_ok-count.ensures.count, c.in_ok-registers.ensures, c.arguments_in-argc.ensures) in
    native_constructs g.L.Labels.made g.L.Labels.meaning c.begin_native.new.labels tables inputs (built_ins_of (g.N.Natives.entries c.args.natives.now) (g.N.Natives.begin c.args.natives.now) (g.N.Natives.after c.args.natives.now) (g.N.Natives.asks c.args.natives.now)) functions (g.N.Natives.after c.args.natives.now) (g.N.Natives.asks c.args.natives.now) c.args.states.now c.begin.new.self c.args.which c.in_ok-registers.registers c.arguments_in-argc.result c.args.label c.bottom-none.result c.args._o c.args.stack.now c.lay_undefined_below.new.stack c.begin_native.new.stack c.args.world.now c.begin_native.new.world c.in_ok-next.next
    c.requires.constructs c.in_ok-next.ensures.asks c.in_ok-next.ensures.runs c.in_ok-begin.ensures.begun (steps_size (g.N.Natives.after c.args.natives.now) (g.N.Natives.asks c.args.natives.now) c.args.states.now ∙ wait ∙ ap waiting (sym c.lay_undefined_below.ensures.tasks)) c.lay_undefined_below.ensures.tasks counts
    c.in_ok-count.ensures.laid (λ reading read. read.agrees c.bottom-none.result ((c.in_ok-next.ensures.kept.labels c.bottom-none.result c.bottom-none.ensures.made).0) ∙ (c.in_ok-next.ensures.kept.labels c.bottom-none.result c.bottom-none.ensures.made).1 ∙ c.bottom-none.ensures.meaning) c.requires.leads
