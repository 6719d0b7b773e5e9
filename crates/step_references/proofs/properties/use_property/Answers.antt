use Rattle.std.proofs.Common.{refl, ap, sym, subst, map, length, ◌∙◌, arith, [], ◌∷◌}
use Rattle.js_values.specs.Readings.{HasValue, read_value}
use Rattle.flow_meaning.specs.Planned.{asking, planned}
use Rattle.continuations.specs.Settings.{entrance}
use Rattle.step_references.proofs.Begun.{begun_err, begun_off, begun_on, on_is}
use Rattle.step_references.proofs.Moved.{has_on, has_whatever, level_on, moved_off, moved_on, stood}
use Rattle.std.specs.List.{All}
use Rattle.flow_policy.specs.Policies.{no_tables}
use Rattle.es_meaning.specs.Operations.{base_needed}
use Rattle.es_meaning.specs.Evaluation.{with_base}
use Rattle.step_objects.proofs.Frames.{act_stands}
use Rattle.continuations.specs.Kept.{Kept}
use Rattle.continuations.specs.Shapes.{use_of}
use Rattle.step_references.specs.Moving.{Begun}
use Rattle.step_references.proofs.Loose.{made_later}
use Rattle.step_references.proofs.UseLaws.{index_as}
use Rattle.step_references.proofs.properties.use_property.Goals as goal

pub go_on-requires-clause-loose : goal.go_on-requires-clause-loose
go_on-requires-clause-loose g c = c.owns.ensures ∙ sym c.requires.loose

pub go_on-requires-clause-made : goal.go_on-requires-clause-made
go_on-requires-clause-made g c = has_whatever (HasValue (g.L.Labels.made c.base_needed-answer.new.labels)) (g.L.Labels.made c.base_needed-answer.new.labels) c.base_needed-answer.result c.base_needed-answer.ensures.made

pub returns-in-On-clause-goes_on : goal.returns-in-On-clause-goes_on
returns-in-On-clause-goes_on g c = begun_on (λ tables inputs set functions reading f. with_base (planned tables inputs set functions) (entrance tables inputs set functions) (asking tables inputs set functions) (use_of c.args.how (map (read_value reading) c.args.stack.now.loose)) f.env.place (read_value reading c.args.key)) (c.base_needed-answer.ensures.acts no_tables []) (λ tables inputs set functions reading f s is. index_as tables inputs set functions (use_of c.args.how (map (read_value reading) c.args.stack.now.loose)) f.env.place (read_value reading c.args.base) (read_value reading c.args.key) s) _ _ _ c.in-On.base c.use_key.ensures.kept (rw c.in-On.is at c.in_ok-came.ensures.parts) refl (subst (λ (m : Kept _). Begun g.L.Labels.made g.L.Labels.meaning c.use_key.new.labels (λ tables inputs set functions reading f. with_base (planned tables inputs set functions) (entrance tables inputs set functions) (asking tables inputs set functions) (use_of c.args.how (map (read_value reading) m.loose)) f.env.place (read_value reading c.args.key) (read_value reading c.in-On.base)) c.go_on.new.stack c.use_key.new.stack c.base_needed-answer.new.world c.use_key.new.world c.use_key.result) (on_is _ c.args.stack.now c.go_on.new.stack c.base_needed-answer.result c.in-On.base (rw c.in-On.is at c.in_ok-came.ensures.parts)).1 (c.use_key.ensures.goes_on))

pub returns-in-On-clause-moved : goal.returns-in-On-clause-moved
returns-in-On-clause-moved g c = moved_on _ _ _ _ _ _ _ _ _ (c.use_key.result) (omega arith) (ap (λ m. m.tasks) (on_is _ c.args.stack.now c.go_on.new.stack c.base_needed-answer.result c.in-On.base (rw c.in-On.is at c.in_ok-came.ensures.parts)).1) (level_on _ c.args.world.now c.base_needed-answer.new.world c.args.stack.now c.go_on.new.stack c.base_needed-answer.result c.in-On.base (stood (c.base_needed-answer.ensures.acts no_tables []) (λ s. act_stands no_tables [] base_needed (read_value (g.L.Labels.meaning c.base_needed-answer.new.labels) c.args.base ∷ []) s)) (rw c.in-On.is at c.in_ok-came.ensures.parts)) c.use_key.ensures.moved

pub returns-in-Off-clause-goes_on : goal.returns-in-Off-clause-goes_on
returns-in-Off-clause-goes_on g c = begun_off (λ tables inputs set functions reading f. with_base (planned tables inputs set functions) (entrance tables inputs set functions) (asking tables inputs set functions) (use_of c.args.how (map (read_value reading) c.args.stack.now.loose)) f.env.place (read_value reading c.args.key)) (c.base_needed-answer.ensures.acts no_tables []) (λ tables inputs set functions reading f s is. index_as tables inputs set functions (use_of c.args.how (map (read_value reading) c.args.stack.now.loose)) f.env.place (read_value reading c.args.base) (read_value reading c.args.key) s) _ _ (rw c.in-Off.is at c.in_ok-came.ensures.parts) refl

pub returns-in-Off-clause-moved : goal.returns-in-Off-clause-moved
returns-in-Off-clause-moved g c = moved_off c.args.stack.now c.go_on.new.stack c.base_needed-answer.result c.in-Off.next (omega arith) (has_whatever (HasValue (g.L.Labels.made c.base_needed-answer.new.labels)) (g.L.Labels.made c.base_needed-answer.new.labels) c.base_needed-answer.result c.base_needed-answer.ensures.made) (stood (c.base_needed-answer.ensures.acts no_tables []) (λ s. act_stands no_tables [] base_needed (read_value (g.L.Labels.meaning c.base_needed-answer.new.labels) c.args.base ∷ []) s)) (rw c.in-Off.is at c.in_ok-came.ensures.parts)

pub returns-in_err-came-clause-goes_on : goal.returns-in_err-came-clause-goes_on
returns-in_err-came-clause-goes_on g c = begun_err (λ tables inputs set functions reading f. with_base (planned tables inputs set functions) (entrance tables inputs set functions) (asking tables inputs set functions) (use_of c.args.how (map (read_value reading) c.args.stack.now.loose)) f.env.place (read_value reading c.args.key)) (c.base_needed-answer.ensures.acts no_tables []) (λ tables inputs set functions reading f s is. index_as tables inputs set functions (use_of c.args.how (map (read_value reading) c.args.stack.now.loose)) f.env.place (read_value reading c.args.base) (read_value reading c.args.key) s) _ _ _ c.in_err-came.field-0.0 c.in_err-came.ensures.parts refl c.from_residual.ensures.1

pub use_key-requires-clause-loose : goal.use_key-requires-clause-loose
use_key-requires-clause-loose g c = ap (λ (m : Kept _). length m.loose) (on_is _ c.args.stack.now c.go_on.new.stack c.base_needed-answer.result c.in-On.base (rw c.in-On.is at c.in_ok-came.ensures.parts)).1 ∙ c.requires.loose

pub use_key-requires-clause-made : goal.use_key-requires-clause-made
use_key-requires-clause-made g c = subst (λ (m : Kept _). All (HasValue (g.L.Labels.made c.base_needed-answer.new.labels)) m.loose) (sym (on_is _ c.args.stack.now c.go_on.new.stack c.base_needed-answer.result c.in-On.base (rw c.in-On.is at c.in_ok-came.ensures.parts)).1) (made_later g.L.Labels.made g.L.Labels.meaning g.L.Labels.room g.L.Labels.firm c.args.labels.now c.base_needed-answer.new.labels c.base_needed-answer.ensures.kept c.args.stack.now.loose c.requires.made)

pub use_key-requires-clause-base : goal.use_key-requires-clause-base
use_key-requires-clause-base g c = has_on (g.L.Labels.made c.base_needed-answer.new.labels) (HasValue (g.L.Labels.made c.base_needed-answer.new.labels)) c.args.stack.now c.go_on.new.stack c.base_needed-answer.result c.in-On.base c.base_needed-answer.ensures.made (rw c.in-On.is at c.in_ok-came.ensures.parts)

pub use_key-requires-clause-key : goal.use_key-requires-clause-key
use_key-requires-clause-key g c = (c.base_needed-answer.ensures.kept.labels c.args.key.label c.requires.key).0
