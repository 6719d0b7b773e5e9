use Rattle.flow_meaning.specs.Tracked.{of_name}
use Rattle.run_state.specs.Names.{place_of}
use Rattle.continuations.specs.declared.continuation.Target.TheVariants as target
use Rattle.continuations.specs.Shapes.{target_of}
use Rattle.continuations.proofs.BranchLaws.{none_in_front}
use Rattle.step_references.proofs.Kept.{owns_name}
use Rattle.step_references.proofs.Loose.{two_lie}
use Rattle.std.proofs.Common.{sym, ap, map, ◌∙◌, arith}
use Rattle.js_values.specs.Readings.{HasValue, read_value}
use Rattle.continuations.specs.Pending.{owns_target}
use Rattle.continuations.proofs.EndLaws.{last_has}
use Rattle.step_references.proofs.Loose.{second_has, size_below}
use Rattle.step_references.proofs.keeping.take_reference.Goals as goal

pub take_walk-walk-requires-clause-loose : goal.take_walk-walk-requires-clause-loose
take_walk-walk-requires-clause-loose g c = c.requires.loose ∙ ap owns_target c.in-Name.is ∙ owns_name c.in-Name.name c.in-Name.place

pub returns-in-Name-clause-refers : goal.returns-in-Name-clause-refers
returns-in-Name-clause-refers g c = λ reading read. ap (λ w. of_name c.in-Name.name.now (place_of c.in-Name.place) w) (c.take_walk-walk.ensures.walk reading read) ∙ ap (λ t. target_of t (map (read_value reading) c.args.stack.now.loose)) (sym c.in-Name.is)

pub pop-base-requires : goal.pop-base-requires
pop-base-requires g c = let size = size_below c.pop-key.new.self.loose c.args.stack.now.loose c.pop-key.result 1 c.pop-key.ensures.top (c.requires.loose ∙ ap owns_target c.in-Property.is) in omega (arith, size)

pub returns-in-Property-clause-none : goal.returns-in-Property-clause-none
returns-in-Property-clause-none g c = none_in_front c.pop-base.new.self.loose c.pop-key.new.self.loose c.pop-base.result c.pop-base.ensures.top (size_below c.pop-key.new.self.loose c.args.stack.now.loose c.pop-key.result 1 c.pop-key.ensures.top (c.requires.loose ∙ ap owns_target c.in-Property.is))

pub returns-in-Property-clause-reference : goal.returns-in-Property-clause-reference
returns-in-Property-clause-reference g c = (second_has (HasValue (g.L.Labels.made c.args.labels.now)) c.pop-base.new.self.loose c.pop-key.new.self.loose c.args.stack.now.loose c.pop-base.result c.pop-key.result c.pop-key.ensures.top c.pop-base.ensures.top c.requires.made, last_has (HasValue (g.L.Labels.made c.args.labels.now)) c.pop-key.new.self.loose c.args.stack.now.loose c.pop-key.result c.pop-key.ensures.top c.requires.made)

pub returns-in-Property-clause-refers : goal.returns-in-Property-clause-refers
returns-in-Property-clause-refers g c = λ reading read. ap (λ vs. target_of target.Property (map (read_value reading) vs)) (sym (two_lie c.pop-base.new.self.loose c.pop-key.new.self.loose c.args.stack.now.loose c.pop-base.result c.pop-key.result c.pop-key.ensures.top c.pop-base.ensures.top (c.requires.loose ∙ ap owns_target c.in-Property.is))) ∙ ap (λ t. target_of t (map (read_value reading) c.args.stack.now.loose)) (sym c.in-Property.is)
