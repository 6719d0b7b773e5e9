use Rattle.std.proofs.Common.{rules, ◌≡◌, length, min}
use Rattle.std.proofs.lemmas.Slice.Zip.{zip_end, zip_turn}
use Rattle.step_literals.proofs.LiteralLaws.{front_more, front_parts}
use Rattle.step_literals.proofs.parts.parts_of.Goals as goal

pub loop-property-preserved : goal.loop-property-preserved
loop-property-preserved g c =
    let at = c.loop-property in
    front_more c.args.properties.now c.args.values.now at.parts.items c.push.new.self.items at.yielded (c.in-Some.property, c.in-Some.value) c.in-Some.property.now c.in-Some.value.now _ at.invariant
    (zip_turn c.args.properties.now c.args.values.now at.yielded c.into_iter-property-iterator.result at.property-iterator c.next.new.self c.next.result (search rules) (search rules) at.yielded_by (c.in-Some.property, c.in-Some.value) c.in-Some.is c.next.ensures.steps)
    c.in_ok-push.ensures.items c.in_ok-key.ensures c.kind_of-part.ensures c.in_ok-value.ensures

pub returns : goal.returns
returns g c =
    let at = c.loop-property in
    let all : length at.yielded ≡ min (length c.args.properties.now) (length c.args.values.now) = zip_end c.args.properties.now c.args.values.now at.yielded c.into_iter-property-iterator.result at.property-iterator c.next.new.self c.next.result (search rules) (search rules) at.yielded_by c.in-None.is c.next.ensures.steps in
    front_parts c.args.properties.now c.args.values.now (length at.yielded) at.parts.items at.invariant all
