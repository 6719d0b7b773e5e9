use Rattle.std.proofs.Common.{refl, ap, sym, length, ◌∙◌, arith}
use Rattle.js_values.specs.Readings.{read_value}
use Rattle.step_references.proofs.Begun.{begun_err, begun_here, begun_off, begun_on_at, on_is}
use Rattle.step_references.proofs.Moved.{has_on, has_whatever, level_on, moved_off, moved_on, stood}
use Rattle.js_ast.specs.Views.{view_other_declarations}
use Rattle.run_state.specs.Accesses.{HasPutting}
use Rattle.step_objects.specs.References.{refers}
use Rattle.step_objects.proofs.Frames.{put_stands}
use Rattle.step_references.specs.Variables.{behind_putting}
use Rattle.step_references.proofs.UseLaws.{more_as}
use Rattle.step_references.proofs.variables.give_first.Goals as goal

pub go_on-requires-clause-loose : goal.go_on-requires-clause-loose
go_on-requires-clause-loose g c = sym c.requires.loose

pub go_on-requires-clause-made : goal.go_on-requires-clause-made
go_on-requires-clause-made g c = has_whatever (HasPutting (g.L.Labels.made c.put_value-answer.new.labels)) (g.L.Labels.made c.put_value-answer.new.labels) c.put_value-answer.result c.put_value-answer.ensures.made

pub returns-in-On-clause-goes_on : goal.returns-in-On-clause-goes_on
returns-in-On-clause-goes_on g c = begun_on_at (λ tables inputs set functions reading f. behind_putting tables inputs set functions (view_other_declarations c.args.rest.now) f.env.place (read_value reading c.args.value)) (rw c.in_ok-given.ensures at c.put_value-answer.ensures.acts) (λ tables inputs set functions reading f s is. more_as tables inputs set functions (refers reading c.args.reference.now) (view_other_declarations c.args.rest.now) f.env.place (read_value reading c.args.value) s) _ _ _ c.in-On.putting c.behind_putting.ensures.kept (rw c.in-On.is at c.in_ok-came.ensures.parts) refl c.behind_putting.ensures.goes_on

pub returns-in-On-clause-moved : goal.returns-in-On-clause-moved
returns-in-On-clause-moved g c = moved_on _ _ _ _ _ _ _ _ _ (c.behind_putting.result) (omega arith) (ap (λ m. m.tasks) (on_is _ c.args.stack.now c.go_on.new.stack c.put_value-answer.result c.in-On.putting (rw c.in-On.is at c.in_ok-came.ensures.parts)).1) (level_on _ c.args.world.now c.put_value-answer.new.world c.args.stack.now c.go_on.new.stack c.put_value-answer.result c.in-On.putting (stood (rw c.in_ok-given.ensures at c.put_value-answer.ensures.acts) (λ s. put_stands (refers (g.L.Labels.meaning c.put_value-answer.new.labels) c.args.reference.now) (read_value (g.L.Labels.meaning c.put_value-answer.new.labels) c.args.value) s)) (rw c.in-On.is at c.in_ok-came.ensures.parts)) c.behind_putting.ensures.moved

pub returns-clause-goes_on : goal.returns-clause-goes_on
returns-clause-goes_on g c = begun_here (begun_off (λ tables inputs set functions reading f. behind_putting tables inputs set functions (view_other_declarations c.args.rest.now) f.env.place (read_value reading c.args.value)) (rw c.in_ok-given.ensures at c.put_value-answer.ensures.acts) (λ tables inputs set functions reading f s is. more_as tables inputs set functions (refers reading c.args.reference.now) (view_other_declarations c.args.rest.now) f.env.place (read_value reading c.args.value) s) _ _ (rw c.in-Off.is at c.in_ok-came.ensures.parts) refl)

pub returns-clause-moved : goal.returns-clause-moved
returns-clause-moved g c = moved_off c.args.stack.now c.go_on.new.stack c.put_value-answer.result c.in-Off.next (omega arith) (has_whatever (HasPutting (g.L.Labels.made c.put_value-answer.new.labels)) (g.L.Labels.made c.put_value-answer.new.labels) c.put_value-answer.result c.put_value-answer.ensures.made) (stood (rw c.in_ok-given.ensures at c.put_value-answer.ensures.acts) (λ s. put_stands (refers (g.L.Labels.meaning c.put_value-answer.new.labels) c.args.reference.now) (read_value (g.L.Labels.meaning c.put_value-answer.new.labels) c.args.value) s)) (rw c.in-Off.is at c.in_ok-came.ensures.parts)

pub returns-in_err-came-clause-goes_on : goal.returns-in_err-came-clause-goes_on
returns-in_err-came-clause-goes_on g c = begun_here (begun_err (λ tables inputs set functions reading f. behind_putting tables inputs set functions (view_other_declarations c.args.rest.now) f.env.place (read_value reading c.args.value)) (rw c.in_ok-given.ensures at c.put_value-answer.ensures.acts) (λ tables inputs set functions reading f s is. more_as tables inputs set functions (refers reading c.args.reference.now) (view_other_declarations c.args.rest.now) f.env.place (read_value reading c.args.value) s) _ _ _ c.in_err-came.field-0.0 c.in_err-came.ensures.parts refl c.from_residual-in_err-came.ensures.1)

pub behind_putting-requires-clause-loose : goal.behind_putting-requires-clause-loose
behind_putting-requires-clause-loose g c = ap (λ m. length m.loose) (on_is _ c.args.stack.now c.go_on.new.stack c.put_value-answer.result c.in-On.putting (rw c.in-On.is at c.in_ok-came.ensures.parts)).1 ∙ c.requires.loose

pub behind_putting-requires-clause-at : goal.behind_putting-requires-clause-at
behind_putting-requires-clause-at g c = let here = c.requires.at in let more = c.put_value-answer.ensures.grows.records in omega (arith, here, more)

pub behind_putting-requires-clause-putting : goal.behind_putting-requires-clause-putting
behind_putting-requires-clause-putting g c = has_on (g.L.Labels.made c.put_value-answer.new.labels) (HasPutting (g.L.Labels.made c.put_value-answer.new.labels)) c.args.stack.now c.go_on.new.stack c.put_value-answer.result c.in-On.putting c.put_value-answer.ensures.made (rw c.in-On.is at c.in_ok-came.ensures.parts)
