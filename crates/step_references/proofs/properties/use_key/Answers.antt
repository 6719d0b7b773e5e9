use Rattle.std.proofs.Common.{refl, sym, map, ◌∙◌, arith}
use Rattle.js_values.specs.Readings.{read_value}
use Rattle.continuations.specs.Shapes.{use_of}
use Rattle.step_references.proofs.Begun.{begun_as}
use Rattle.step_references.proofs.Moved.{moved_within}
use Rattle.step_references.proofs.UseLaws.{based_as}
use Rattle.step_references.proofs.properties.use_key.Goals as goal

pub returns-else-is_object-clause-goes_on : goal.returns-else-is_object-clause-goes_on
returns-else-is_object-clause-goes_on g c = begun_as c.use_keyed.ensures.goes_on refl (λ tables inputs set functions reading f s is. sym (based_as tables inputs set functions (use_of c.args.how (map (read_value reading) c.args.stack.now.loose)) f.env.place (read_value reading c.args.base) (read_value reading c.args.key) s (sym c.is_object.ensures ∙ c.if-is_object.false)))

pub returns-else-is_object-clause-moved : goal.returns-else-is_object-clause-moved
returns-else-is_object-clause-moved g c = moved_within _ _ _ _ _ _ _ c.use_keyed.result (omega arith) c.use_keyed.ensures.moved
