use Rattle.js_values.specs.Readings.{read_value}
use Rattle.step_requests.proofs.Throwing.{later_bottom, throw_fails, throw_goes, with_frames, without_cause}
use Rattle.step_requests.proofs.ends.throw_value.Goals as goal

pub returns-in_err-jump-clause-acts : goal.returns-in_err-jump-clause-acts
returns-in_err-jump-clause-acts g c = without_cause g.L.Labels.made g.L.Labels.meaning c.jump.new.labels c.bottom-none.result c.args.value c.args.world.now (with_frames c.jump.new.self c.args.world.now) c.from_residual.result (c.jump.ensures.kept.labels c.bottom-none.result c.bottom-none.ensures.made).0 (later_bottom g.L.Labels.made g.L.Labels.meaning g.L.Labels.room g.L.Labels.firm c.args.labels.now c.jump.new.labels c.jump.ensures.kept c.bottom-none.result c.bottom-none.ensures.made c.bottom-none.ensures.meaning) (throw_fails g.L.Labels.made g.L.Labels.meaning g.L.Labels.room g.L.Labels.firm c.args.labels.now c.jump.new.labels c.jump.ensures.kept c.args.world.now c.requires.belongs c.bottom-none.result c.bottom-none.ensures.made c.args.value c.target-target.result c.target-target.ensures.target (λ reading. read_value reading) c.jump.new.self c.in_err-jump.field-0.0 c.from_residual.result c.in_err-jump.ensures.unchanged c.in_err-jump.ensures.stopped c.from_residual.ensures.1)

pub returns-clause-acts : goal.returns-clause-acts
returns-clause-acts g c = without_cause g.L.Labels.made g.L.Labels.meaning c.jump.new.labels c.bottom-none.result c.args.value c.args.world.now (with_frames c.jump.new.self c.args.world.now) _ (c.jump.ensures.kept.labels c.bottom-none.result c.bottom-none.ensures.made).0 (later_bottom g.L.Labels.made g.L.Labels.meaning g.L.Labels.room g.L.Labels.firm c.args.labels.now c.jump.new.labels c.jump.ensures.kept c.bottom-none.result c.bottom-none.ensures.made c.bottom-none.ensures.meaning) (throw_goes g.L.Labels.made g.L.Labels.meaning g.L.Labels.room g.L.Labels.firm c.args.labels.now c.jump.new.labels c.jump.ensures.kept c.args.world.now c.requires.belongs c.bottom-none.result c.bottom-none.ensures.made c.args.value c.target-target.result c.target-target.ensures.target (λ reading. read_value reading) c.jump.new.self c.in_ok-jump.ensures.frames c.in_ok-jump.ensures.allowed)
