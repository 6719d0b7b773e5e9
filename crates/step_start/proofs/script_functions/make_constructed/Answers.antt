use Rattle.std.proofs.Common.{codes, Some}
use Rattle.std.proofs.lemmas.Result.{on_ok_weaker}
use Rattle.js_values.specs.declared.inner.Class.TheVariants as class
use Rattle.js_values.specs.declared.value.Value.TheVariants.{Object}
use Rattle.js_values.specs.Objects.{plain, fresh_plain}
use Rattle.es_meaning.specs.Functions.{property_with}
use Rattle.es_meaning.specs.Start.{built_in, object_prototype}
use Rattle.plain_heap.proofs.MoreLaws.{then_given}
use Rattle.step_start.proofs.script_functions.make_constructed.Goals as goal

pub returns : goal.returns
returns g c =
    on_ok_weaker c.give_named.result (λ gives.
    then_given c.args.heap.now c.new_object.new.self c.give_named.new.self (fresh_plain class.Object plain (Some object_prototype)) c.in_ok-proto.proto.0 c.in_ok-proto.ensures.number c.in_ok-proto.ensures.ok (codes "constructor") (property_with (Object c.args.o) built_in) gives) c.give_named.ensures
