use Rattle.std.proofs.Common.{ap, ◌∙◌, [], map}
use Rattle.js_values.specs.Readings.{read_value}
use Rattle.es_meaning.specs.Operations.{One}
use Rattle.flow_meaning.specs.Planned.{as_plan, gave}
use Rattle.flow_meaning.specs.Scopes.{jump}
use Rattle.origin_labels.specs.Label.{bottom}
use Rattle.run_state.specs.Worlds.{state_of}
use Rattle.continuations.specs.declared.continuation.Jump.TheVariants as jumps
use Rattle.continuations.specs.declared.continuation.Continuation.TheVariants as continuation
use Rattle.continuations.specs.Going.{here}
use Rattle.continuations.specs.Pending.{after, behind, first_or_undefined, setting_above}
use Rattle.continuations.specs.Shapes.{jump_of}
use Rattle.continuations.specs.Settings.{setting_of}
use Rattle.step_jumps.proofs.Places.{call_is}
use Rattle.step_jumps.proofs.Moved.{comes_as, returns_with}
use Rattle.step_jumps.proofs.jumping.return_value.Goals as goal

pub returns-clause-resumes : goal.returns-clause-resumes
returns-clause-resumes g c = λ tables inputs set functions natives.
    let old = c.args.stack.now in
    comes_as g.L.Labels.made g.L.Labels.meaning c.issue.new.labels tables inputs set functions natives
    (λ reading told turns. behind tables inputs set functions reading old.tasks (setting_of natives here) (as_plan One (jump bottom (jump_of (jumps.Returns c.args.to) (first_or_undefined (map (read_value reading) old.loose))) (state_of reading c.args.world.now told turns))))
    (λ reading told turns. behind tables inputs set functions reading old.tasks (setting_of natives here) (after tables inputs set functions continuation.Return [] (setting_above old.tasks (setting_of natives here)) (gave (first_or_undefined (map (read_value reading) old.loose))) (state_of reading c.args.world.now told turns)))
    old c.issue.new.world c.issue.result
    (λ reading told turns is. ap (behind tables inputs set functions reading old.tasks (setting_of natives here)) (returns_with g.L.Labels.made g.L.Labels.meaning c.issue.new.labels tables inputs set functions natives c.args.to (setting_above old.tasks (setting_of natives here)) (call_is old.tasks natives ∙ c.requires.aim) [] (first_or_undefined (map (read_value reading) old.loose)) (state_of reading c.args.world.now told turns)))
    (c.issue.ensures.issues tables inputs set functions natives)
