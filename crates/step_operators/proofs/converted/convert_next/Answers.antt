use Rattle.std.proofs.Common.{refl, sym, ap, ap₂, subst, ◌∙◌, [], ◌∷◌, ◌++◌, ◌+◌, ◌≡◌, map, length, arith, Ok}
use Rattle.std.specs.List.{All}
use Rattle.flow_policy.specs.Policies.{no_tables}
use Rattle.js_values.specs.Readings.{HasValue, read_value}
use Rattle.flow_meaning.specs.Tracked.{labelled}
use Rattle.continuations.specs.declared.continuation.Control.TheVariants as control
use Rattle.continuations.specs.declared.continuation.Continuation.TheVariants as continuation
use Rattle.step_references.proofs.Begun.{begun_as, begun_above, begun_comes, begun_handed, begun_pushed, begun_on, begun_off, begun_err, on_is, resumed}
use Rattle.step_references.proofs.Moved.{has_on, has_whatever, level_on, moved_behind, moved_lying, moved_off, moved_on, moved_popped, moved_pushed, moved_within, rests_lying, stack_is, stands_still, stood}
use Rattle.step_references.proofs.Loose.{front_has, lone, none_has, only, second_has, size_below, two_lie}
use Rattle.continuations.proofs.EndLaws.{last_has}
use Rattle.step_operators.proofs.OperatorLaws.{none_built}
use Rattle.step_values.specs.Converted.{conversion_in}
use Rattle.step_operators.proofs.OperatorLaws.{left_plain, left_compared, left_primitive, left_number, left_keyed}
use Rattle.step_operators.proofs.converted.convert_next.Goals as goal

pub returns-in-Unconverted-clause-goes_on : goal.returns-in-Unconverted-clause-goes_on
returns-in-Unconverted-clause-goes_on g c = begun_as c.apply.ensures.goes_on refl (λ tables inputs set functions reading f s is. left_plain tables inputs set functions c.args.operator (read_value reading c.args.left) (read_value reading c.args.right) s (sym c.conversion_of.ensures ∙ ap conversion_in c.in-Unconverted.is))

pub returns-in-Unconverted-clause-moved : goal.returns-in-Unconverted-clause-moved
returns-in-Unconverted-clause-moved g c = moved_within _ _ _ _ _ _ _ c.apply.result (omega arith) c.apply.ensures.moved

pub returns-in_ok-next-in-Compared-clause-goes_on : goal.returns-in_ok-next-in-Compared-clause-goes_on
returns-in_ok-next-in-Compared-clause-goes_on g c = begun_as c.in_ok-next-in-Compared.ensures.goes_on refl (λ tables inputs set functions reading f s is. left_compared tables inputs set functions c.args.operator (read_value reading c.args.left) (read_value reading c.args.right) s (sym c.conversion_of.ensures ∙ ap conversion_in c.in-Compared.is))

pub returns-in_ok-next-in-Primitives-clause-goes_on : goal.returns-in_ok-next-in-Primitives-clause-goes_on
returns-in_ok-next-in-Primitives-clause-goes_on g c = begun_as c.in_ok-next-in-Primitives.ensures.goes_on refl (λ tables inputs set functions reading f s is. left_primitive tables inputs set functions c.args.operator (read_value reading c.args.left) (read_value reading c.args.right) s c.in-Primitives.hint (sym c.conversion_of.ensures ∙ ap conversion_in c.in-Primitives.is))

pub returns-in-Numbers-clause-goes_on : goal.returns-in-Numbers-clause-goes_on
returns-in-Numbers-clause-goes_on g c = begun_as c.make_number.ensures.goes_on refl (λ tables inputs set functions reading f s is. left_number tables inputs set functions c.args.operator (read_value reading c.args.left) (read_value reading c.args.right) s (sym c.conversion_of.ensures ∙ ap conversion_in c.in-Numbers.is))

pub returns-in-Keyed-clause-goes_on : goal.returns-in-Keyed-clause-goes_on
returns-in-Keyed-clause-goes_on g c = begun_as c.contains.ensures.goes_on refl (λ tables inputs set functions reading f s is. left_keyed tables inputs set functions c.args.operator (read_value reading c.args.left) (read_value reading c.args.right) s (sym c.conversion_of.ensures ∙ ap conversion_in c.in-Keyed.is))

pub returns-in-Keyed-clause-moved : goal.returns-in-Keyed-clause-moved
returns-in-Keyed-clause-moved g c = moved_within _ _ _ _ _ _ _ c.contains.result (omega arith) c.contains.ensures.moved
