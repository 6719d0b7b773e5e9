use Rattle.std.proofs.Common.{ap, ◌∙◌, sym, []}
use Rattle.js_values.proofs.ReadingLaws.{IsReading-earlier}
use Rattle.flow_meaning.specs.Tracked.{throw_error}
use Rattle.run_state.specs.Worlds.{state_of}
use Rattle.run_state.proofs.ActLaws.{Acts-as}
use Rattle.property_access.proofs.throwing.throw_without_cause.Goals as goal

pub returns-clause-acts : goal.returns-clause-acts
returns-clause-acts g c = λ t read.
    let kept = c.throw_error.ensures.kept in
    let none = c.bottom-none.result in
    Acts-as g.L.Labels.made g.L.Labels.meaning c.throw_error.new.labels read (λ reading. throw_error c.args.kind (reading none)) (λ reading. throw_error c.args.kind []) c.args.world.now c.throw_error.new.world c.throw_error.result
    (λ reading is told turns. ap (λ cause. throw_error c.args.kind cause (state_of reading c.args.world.now told turns)) (sym ((IsReading-earlier g.L.Labels.made g.L.Labels.meaning g.L.Labels.room g.L.Labels.firm c.args.labels.now c.throw_error.new.labels reading kept is).agrees none c.bottom-none.ensures.made ∙ c.bottom-none.ensures.meaning)))
    (c.throw_error.ensures.acts t read)
