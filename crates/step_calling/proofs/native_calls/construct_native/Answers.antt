use Rattle.std.proofs.Common.{refl, sym, ◌∙◌}
use Rattle.es_meaning.specs.BuiltIns.{built_ins_of}
use Rattle.flow_meaning.specs.Planned.{construct_by}
use Rattle.es_meaning.specs.Functions.{of_built_in}
use Rattle.std.proofs.Common.{drop}
use Rattle.step_natives.specs.States.{waiting_steps}
use Rattle.continuations.specs.Settings.{entrance}
use Rattle.step_calling.specs.Calling.{lying}
use Rattle.step_calling.proofs.NativeLaws.{quiet_comes}
use Rattle.step_calling.proofs.native_calls.construct_native.Goals as goal

pub returns-clause-constructs : goal.returns-clause-constructs
returns-clause-constructs g c tables inputs functions =
    quiet_comes g.L.Labels.made g.L.Labels.meaning c.refuse_native.new.labels tables inputs (built_ins_of (g.N.Natives.entries c.args.natives.now) (g.N.Natives.begin c.args.natives.now) (g.N.Natives.after c.args.natives.now) (g.N.Natives.asks c.args.natives.now)) functions (g.N.Natives.after c.args.natives.now) (g.N.Natives.asks c.args.natives.now) c.args.states.now c.args.states.now
    (λ reading s. construct_by (built_ins_of (g.N.Natives.entries c.args.natives.now) (g.N.Natives.begin c.args.natives.now) (g.N.Natives.after c.args.natives.now) (g.N.Natives.asks c.args.natives.now)) functions (of_built_in c.args.which) (reading c.args.label) c.args.o.0 (drop 1 (lying reading c.args.stack.now)) (entrance tables inputs (built_ins_of (g.N.Natives.entries c.args.natives.now) (g.N.Natives.begin c.args.natives.now) (g.N.Natives.after c.args.natives.now) (g.N.Natives.asks c.args.natives.now)) functions) s)
    c.args.stack.now c.refuse_native.new.stack c.args.world.now c.refuse_native.new.world c.refuse_native.result refl c.refuse_native.ensures.quiet
    (c.refuse_native.ensures.constructs tables inputs (built_ins_of (g.N.Natives.entries c.args.natives.now) (g.N.Natives.begin c.args.natives.now) (g.N.Natives.after c.args.natives.now) (g.N.Natives.asks c.args.natives.now)) functions (waiting_steps (g.N.Natives.after c.args.natives.now) (g.N.Natives.asks c.args.natives.now) c.args.states.now) (sym c.constructs.ensures ∙ c.if-constructs.false))
