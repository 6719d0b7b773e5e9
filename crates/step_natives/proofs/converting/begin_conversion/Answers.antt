use Rattle.std.proofs.Common.{◌∙◌}
use Rattle.continuations.specs.Kept.{scopes_of}
use Rattle.step_natives.proofs.ConvertingLaws.{conversion_runs, steps_size}
use Rattle.step_natives.proofs.FrameLaws.{waits_so}
use Rattle.step_natives.proofs.converting.begin_conversion.Goals as goal

pub returns-clause-converts : goal.returns-clause-converts
returns-clause-converts g c tables inputs set functions tells asks =
    conversion_runs g.L.Labels.made g.L.Labels.meaning c.begin_native.new.labels tables inputs set functions tells asks c.args.states.now c.begin_conversion.new.self c.args.hint c.args.label c.args.stack.now c.begin_native.new.stack c.args.world.now c.begin_native.new.world c.in_ok-next.next
    c.in_ok-next.ensures.asks c.in_ok-next.ensures.runs (c.in_ok-begin_conversion.ensures.begun tells asks)
    (steps_size tells asks c.args.states.now ∙ waits_so g.L.Labels.made g.L.Labels.meaning c.args.labels.now c.args.stack.now c.args.world.now 1 _ (scopes_of c.args.stack.now.tasks) c.requires.standing) c.requires.standing.values
