use Rattle.std.proofs.Common.{refl, sym, ap, subst, ◌∙◌, ◌≡◌, [], ◌∷◌, length, map, arith, Ok}
use Rattle.flow_policy.specs.Policies.{no_tables}
use Rattle.es_meaning.specs.Operations.{array_of}
use Rattle.js_values.specs.Readings.{HasValue, read_value}
use Rattle.continuations.specs.declared.continuation.Control.TheVariants as control
use Rattle.property_requests.specs.Arrays.{places_in, values_in}
use Rattle.step_literals.specs.Arrays.{elements_from}
use Rattle.step_objects.proofs.Frames.{act_stands}
use Rattle.step_references.proofs.Calls.{alone}
use Rattle.step_references.proofs.Loose.{only}
use Rattle.step_references.proofs.Moved.{moved_lying, moved_on, stood}
use Rattle.step_literals.proofs.ArrayLaws.{array_builds, elements_have}
use Rattle.step_literals.proofs.arrays.array.Goals as goal

pub loose-requires : goal.loose-requires
loose-requires g c = sym c.requires.loose

pub clear-requires : goal.clear-requires
clear-requires g c = sym c.requires.loose

pub make_array-requires-clause-elements : goal.make_array-requires-clause-elements
make_array-requires-clause-elements g c =
    elements_have (g.L.Labels.made c.args.labels.now) c.items-items.result.now c.args.stack.now.loose c.in_ok-elements.elements.items c.in_ok-length.length (rw c.loose.ensures at c.in_ok-elements.ensures) c.in_ok-length.ensures c.requires.made

pub returns-clause-goes_on : goal.returns-clause-goes_on
returns-clause-goes_on g c =
    array_builds c.clear.new.self c.args.list c.args.count c.in_ok-length.length c.in_ok-elements.elements.items c.in_ok-made.made c.clear.ensures.tasks c.clear.ensures.none c.lay.ensures.tasks c.in_ok-lay.ensures.laid
    (subst (λ is. c.in_ok-elements.elements.items ≡ elements_from 0 is c.args.stack.now.loose) c.items-items.ensures (rw c.loose.ensures at c.in_ok-elements.ensures)) (c.in_ok-length.ensures ∙ ap length c.items-items.ensures) c.in_ok-made.ensures.acts

pub returns-clause-moved : goal.returns-clause-moved
returns-clause-moved g c =
    let made = g.L.Labels.made c.make_array.new.labels in
    let v = c.in_ok-made.made in
    let elements = c.in_ok-elements.elements.items in
    moved_on made 6 6 c.args.stack.now c.clear.new.self c.lay.new.self c.args.world.now c.make_array.new.world c.make_array.new.world (Ok control.Value) (omega arith) c.clear.ensures.tasks
    (stood (c.in_ok-made.ensures.acts no_tables []) (λ s. act_stands no_tables [] (array_of (places_in elements) c.in_ok-length.length) (map (read_value (g.L.Labels.meaning c.make_array.new.labels)) (values_in elements)) s))
    (moved_lying control.Value (v ∷ []) c.lay.ensures.tasks (alone _ (ap length c.clear.ensures.none) c.in_ok-lay.ensures.laid) (only (HasValue made) v c.in_ok-made.ensures.made) refl (omega arith))
