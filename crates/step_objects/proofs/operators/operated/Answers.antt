use Rattle.std.proofs.Common.{Bool, sym, subst, ◌∙◌}
use Rattle.js_values.specs.Readings.{read_value}
use Rattle.run_state.specs.Acts.{Acts}
use Rattle.run_state.proofs.ActLaws.{Belongs-later}
use Rattle.step_objects.specs.Operated.{operated_by}
use Rattle.step_objects.proofs.operators.operated.Goals as goal

pub returns-then-is_keyed-clause-acts : goal.returns-then-is_keyed-clause-acts
returns-then-is_keyed-clause-acts g c = λ tables inputs set functions.
    subst (λ (b : Bool). Acts g.L.Labels.made g.L.Labels.meaning c.contained.new.labels (λ reading. read_value reading) (λ reading. operated_by b tables inputs set functions c.args.operator (read_value reading c.args.left.now) (read_value reading c.args.right.now)) c.args.world.now c.contained.new.world c.contained.result)
    (sym c.if-is_keyed.true ∙ c.is_keyed.ensures) (c.contained.ensures.acts tables inputs)

pub returns-else-is_keyed-clause-acts : goal.returns-else-is_keyed-clause-acts
returns-else-is_keyed-clause-acts g c = λ tables inputs set functions.
    subst (λ (b : Bool). Acts g.L.Labels.made g.L.Labels.meaning c.binary.new.labels (λ reading. read_value reading) (λ reading. operated_by b tables inputs set functions c.args.operator (read_value reading c.args.left.now) (read_value reading c.args.right.now)) c.args.world.now c.args.world.now c.binary.result)
    (sym c.if-is_keyed.false ∙ c.is_keyed.ensures) (c.binary.ensures.acts tables inputs set functions c.args.world.now)

pub returns-else-is_keyed-clause-belongs : goal.returns-else-is_keyed-clause-belongs
returns-else-is_keyed-clause-belongs g c = Belongs-later g.L.Labels.made g.L.Labels.meaning g.L.Labels.room g.L.Labels.firm c.args.labels.now c.binary.new.labels c.binary.ensures.kept g.met.L.Labels.rising c.args.world.now c.requires.belongs
