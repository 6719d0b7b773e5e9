use Rattle.std.proofs.Common.{arith, ap, length, refl, subst, sym, ◌≡◌, ◌∙◌, ◌++◌, ◌∷◌, []}
use Rattle.js_ast.specs.Functions.{functions_of}
use Rattle.js_ast.specs.Views.{view_program}
use Rattle.js_values.proofs.ReadingLaws.{IsReading-earlier}
use Rattle.es_meaning.specs.BuiltIns.{built_ins_of}
use Rattle.flow_meaning.specs.Laws.{performed_run}
use Rattle.flow_meaning.specs.Planned.{perform, meaning}
use Rattle.flow_meaning.specs.Tracked.{tracked_run}
use Rattle.continuations.specs.declared.continuation.Jump.TheVariants as jump
use Rattle.continuations.specs.declared.continuation.Control.TheVariants as control
use Rattle.continuations.specs.Going.{here}
use Rattle.continuations.specs.Kept.{scopes_of}
use Rattle.continuations.specs.Resuming.{coming}
use Rattle.continuations.specs.Settings.{setting_of}
use Rattle.step_natives.specs.Framed.{steps_at}
use Rattle.continuations.specs.Invariant.{Invariant}
use Rattle.run_state.specs.Worlds.{state_of}
use Rattle.step_core.proofs.StartLaws.{none_waits, refused_alone, refused_starts, standing_refused}
use Rattle.step_core.proofs.beginning.refuse.Goals as goal

pub returns-clause-starts : goal.returns-clause-starts
returns-clause-starts g c inputs reading read =
    let L = g.L.Labels in
    let N = g.N.Natives in
    let natives = c.args._natives.now in
    let set = (built_ins_of (N.entries natives) (N.begin natives) (N.after natives) (N.asks natives)) in
    let program = view_program c.args._program.now in
    let v = c.in_ok-value.value in
    let tables = c.args._policy.now in
    let turns = c.args.turns in
    let earlier = IsReading-earlier L.made L.meaning L.room L.firm c.args.labels.now c.thrown.new.labels reading c.thrown.ensures.kept read in
    subst (λ functions. performed_run (perform (meaning tables inputs set functions) (coming tables inputs set functions reading c.lay.new.self (control.Jumps jump.Throws) (setting_of (steps_at (N.after natives) (N.asks natives) c.new-states.result (control.Jumps jump.Throws)) here) (state_of reading c.thrown.new.world [] turns))) ≡ tracked_run set tables inputs program turns) (sym c.requires.functions)
    (ap (λ ns. performed_run (perform (meaning tables inputs set (functions_of program)) (coming tables inputs set (functions_of program) reading c.lay.new.self (control.Jumps jump.Throws) (setting_of ns here) (state_of reading c.thrown.new.world [] turns)))) (none_waits (N.after natives) (N.asks natives) c.new-states.result (control.Jumps jump.Throws) c.new-states.ensures refl)
    ∙ refused_starts c.lay.new.self v (c.lay.ensures.tasks ∙ ap (λ k. k.tasks) c.new-stack.ensures) (c.in_ok-lay.ensures.laid ∙ ap (λ k. k.loose ++ v ∷ []) c.new-stack.ensures)
    tables inputs set reading program (state_of reading c.thrown.new.world [] turns) (state_of reading c.args.world [] turns) turns c.requires.refused (c.in_ok-value.ensures.throws reading read turns) (c.requires.starts inputs reading earlier turns))

pub returns-clause-standing : goal.returns-clause-standing
returns-clause-standing g c =
    let L = g.L.Labels in
    let N = g.N.Natives in
    let natives = c.args._natives.now in
    let set = (built_ins_of (N.entries natives) (N.begin natives) (N.after natives) (N.asks natives)) in
    let program = view_program c.args._program.now in
    let v = c.in_ok-value.value in
    let tables = c.args._policy.now in
    let turns = c.args.turns in
    let reading = L.meaning c.thrown.new.labels in
    let earlier = IsReading-earlier L.made L.meaning L.room L.firm c.args.labels.now c.thrown.new.labels reading c.thrown.ensures.kept (record { agrees = λ label m. refl }) in
    subst (λ n. Invariant L.made L.meaning c.thrown.new.labels c.lay.new.self c.thrown.new.world 1 (scopes_of c.lay.new.self.tasks) n (control.Jumps jump.Throws)) (sym (ap length c.new-states.ensures))
    (standing_refused c.lay.new.self v (c.lay.ensures.tasks ∙ ap (λ k. k.tasks) c.new-stack.ensures) (c.in_ok-lay.ensures.laid ∙ ap (λ k. k.loose ++ v ∷ []) c.new-stack.ensures)
    L.made L.meaning c.thrown.new.labels c.thrown.new.world c.in_ok-value.ensures.made c.thrown.ensures.belongs
    (refused_alone tables [] set program turns reading c.args.world c.thrown.new.world v (c.in_ok-value.ensures.throws reading (record { agrees = λ label m. refl }) turns) (c.requires.starts [] reading earlier turns))
    (omega (arith, c.thrown.ensures.grows.records, c.requires.records)))
