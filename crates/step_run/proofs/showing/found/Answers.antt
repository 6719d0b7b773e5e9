use Rattle.std.proofs.Common.{ℕ, Some, None, sym, ap, ◌∙◌, arith}
use Rattle.std.specs.Option.{option_map}
use Rattle.js_values.specs.Objects.{Property}
use Rattle.step_run.proofs.Walking.{found_here, found_behind, proto_below}
use Rattle.step_run.proofs.showing.found.Goals as goal

pub returns-in-Some : goal.returns-in-Some
returns-in-Some g c =
    let here = found_here c.args.heap.now c.len-count.ensures.formed c.args.key.now c.along.at.0 c.in-Some.slot.now (sym c.in-Some.ensures) in
    sym (ap (option_map (λ (f : ℕ × Property). f.1)) (c.along.invariant.same ∙ here))

pub along-smaller : goal.along-smaller
along-smaller g c = proto_below c.args.heap.now c.len-count.ensures.formed c.along.at.0 c.shape.result c.shape.ensures c.in-Some-proto.proto c.in-Some-proto.is

pub along-preserved : goal.along-preserved
along-preserved g c =
    let below = proto_below c.args.heap.now c.len-count.ensures.formed c.along.at.0 c.shape.result c.shape.ensures c.in-Some-proto.proto c.in-Some-proto.is in
    record {
      there = omega (arith, below, c.along.invariant.there);
      same = c.along.invariant.same ∙ found_behind c.args.heap.now c.len-count.ensures.formed c.args.key.now c.along.at.0 c.shape.result (Some c.in-Some-proto.proto) (sym c.in_default.ensures) c.shape.ensures c.in-Some-proto.is;
    }

pub returns-in-None : goal.returns-in-None
returns-in-None g c =
    let none = found_behind c.args.heap.now c.len-count.ensures.formed c.args.key.now c.along.at.0 c.shape.result None (sym c.in_default.ensures) c.shape.ensures c.in-None.is in
    sym (ap (option_map (λ (f : ℕ × Property). f.1)) (c.along.invariant.same ∙ none))
