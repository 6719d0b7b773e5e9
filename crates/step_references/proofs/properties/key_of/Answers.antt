use Rattle.std.proofs.Common.{◌≡◌, ◌+◌, ap₂, sym, map, length, ◌∙◌, arith}
use Rattle.js_values.specs.Readings.{HasValue, read_value}
use Rattle.es_meaning.specs.Evaluation.{with_key}
use Rattle.flow_meaning.specs.Planned.{asking, planned}
use Rattle.continuations.specs.Settings.{entrance}
use Rattle.continuations.specs.Pending.{owns_use}
use Rattle.continuations.proofs.EndLaws.{last_has}
use Rattle.step_references.proofs.Begun.{resumed}
use Rattle.step_references.proofs.Kept.{use_below, value_above}
use Rattle.step_references.proofs.Loose.{front_has, size_below}
use Rattle.step_references.proofs.Moved.{moved_popped}
use Rattle.continuations.specs.Shapes.{use_of}
use Rattle.step_references.proofs.UseLaws.{keyed_as}
use Rattle.step_references.proofs.properties.key_of.Goals as goal

pub pop-base-requires : goal.pop-base-requires
pop-base-requires g c =
    let start = c.requires.loose in
    let whole : length c.args.stack.now.loose ≡ owns_use c.args.how + 1 + 1 = omega (arith, start) in
    let size = size_below c.pop-key.new.self.loose c.args.stack.now.loose c.pop-key.result (owns_use c.args.how + 1) c.pop-key.ensures.top whole in
    omega (arith, size)

pub use_reference-requires-clause-loose : goal.use_reference-requires-clause-loose
use_reference-requires-clause-loose g c =
    let start = c.requires.loose in
    let whole : length c.args.stack.now.loose ≡ owns_use c.args.how + 1 + 1 = omega (arith, start) in
    size_below c.pop-base.new.self.loose c.pop-key.new.self.loose c.pop-base.result (owns_use c.args.how) c.pop-base.ensures.top (size_below c.pop-key.new.self.loose c.args.stack.now.loose c.pop-key.result (owns_use c.args.how + 1) c.pop-key.ensures.top whole)

pub use_reference-requires-clause-made : goal.use_reference-requires-clause-made
use_reference-requires-clause-made g c = front_has (HasValue (g.L.Labels.made c.args.labels.now)) c.pop-base.new.self.loose c.pop-key.new.self.loose c.pop-base.result c.pop-base.ensures.top (front_has (HasValue (g.L.Labels.made c.args.labels.now)) c.pop-key.new.self.loose c.args.stack.now.loose c.pop-key.result c.pop-key.ensures.top c.requires.made)

pub returns-clause-goes_on : goal.returns-clause-goes_on
returns-clause-goes_on g c =
    let start = c.requires.loose in
    let whole : length c.args.stack.now.loose ≡ owns_use c.args.how + 1 + 1 = omega (arith, start) in
    let size = (size_below c.pop-base.new.self.loose c.pop-key.new.self.loose c.pop-base.result (owns_use c.args.how) c.pop-base.ensures.top (size_below c.pop-key.new.self.loose c.args.stack.now.loose c.pop-key.result (owns_use c.args.how + 1) c.pop-key.ensures.top whole)) in
    resumed c.pop-key.new.self.loose c.pop-key.result c.pop-key.ensures.top (c.pop-base.ensures.tasks ∙ c.pop-key.ensures.tasks) (λ tables inputs set functions reading f s is. sym (keyed_as tables inputs set functions (use_of c.args.how (map (read_value reading) c.pop-base.new.self.loose)) f.env.place (read_value reading c.pop-base.result) (read_value reading c.pop-key.result) s) ∙ ap₂ (λ u b. with_key (planned tables inputs set functions) (entrance tables inputs set functions) (asking tables inputs set functions) u f.env.place b (read_value reading c.pop-key.result) s) (sym (use_below reading c.pop-base.new.self.loose c.pop-key.new.self.loose c.pop-base.result c.pop-base.ensures.top c.args.how size)) (sym (value_above reading c.pop-base.new.self.loose c.pop-key.new.self.loose c.pop-base.result c.pop-base.ensures.top (owns_use c.args.how) size))) c.use_reference.ensures.goes_on

pub returns-clause-moved : goal.returns-clause-moved
returns-clause-moved g c = moved_popped _ _ _ _ _ _ _ c.use_reference.result (c.pop-base.ensures.tasks ∙ c.pop-key.ensures.tasks) c.use_reference.ensures.moved

pub use_reference-requires-clause-reference : goal.use_reference-requires-clause-reference
use_reference-requires-clause-reference g c = (last_has (HasValue (g.L.Labels.made c.args.labels.now)) c.pop-base.new.self.loose c.pop-key.new.self.loose c.pop-base.result c.pop-base.ensures.top (front_has (HasValue (g.L.Labels.made c.args.labels.now)) c.pop-key.new.self.loose c.args.stack.now.loose c.pop-key.result c.pop-key.ensures.top c.requires.made), last_has (HasValue (g.L.Labels.made c.args.labels.now)) c.pop-key.new.self.loose c.args.stack.now.loose c.pop-key.result c.pop-key.ensures.top c.requires.made)
