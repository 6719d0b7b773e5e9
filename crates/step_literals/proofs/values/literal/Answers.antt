use Rattle.std.proofs.Common.{refl, [], ◌∷◌}
use Rattle.js_values.specs.Readings.{HasValue}
use Rattle.js_values.specs.declared.value.Value.TheVariants as value
use Rattle.continuations.specs.declared.continuation.Control.TheVariants as control
use Rattle.step_references.proofs.Calls.{alone}
use Rattle.step_references.proofs.Loose.{only}
use Rattle.step_references.proofs.Moved.{rests_lying}
use Rattle.step_literals.proofs.LiteralLaws.{begun_literal}
use Rattle.step_literals.proofs.values.literal.Goals as goal

pub returns-clause-goes_on : goal.returns-clause-goes_on
returns-clause-goes_on g c = begun_literal c.args.stack.now c.lay.new.self c.args.value c.bottom.result c.requires.loose c.lay.ensures.tasks c.in_ok-lay.ensures.laid c.bottom.ensures.made c.bottom.ensures.meaning

pub returns-clause-rests : goal.returns-clause-rests
returns-clause-rests g c = rests_lying control.Value (record { value = value.Primitive c.args.value; label = c.bottom.result } ∷ []) c.lay.ensures.tasks (alone _ c.requires.loose c.in_ok-lay.ensures.laid) (only (HasValue (g.L.Labels.made c.args.labels.now)) (record { value = value.Primitive c.args.value; label = c.bottom.result }) c.bottom.ensures.made) refl
