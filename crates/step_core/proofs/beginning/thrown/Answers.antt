use Rattle.std.proofs.Common.{ap, sym, ◌∙◌, []}
use Rattle.js_values.proofs.ReadingLaws.{IsReading-earlier}
use Rattle.js_values.specs.Readings.{read_value}
use Rattle.es_meaning.specs.Operations.{Value}
use Rattle.native_protocol.specs.declared.request.ErrorKind.TheVariants as kinds
use Rattle.flow_meaning.specs.Scopes.{Val}
use Rattle.flow_meaning.specs.Tracked.{throw_error}
use Rattle.run_state.specs.Worlds.{state_of}
use Rattle.step_core.proofs.beginning.thrown.Goals as goal

pub returns-in-Ok-Throws-clause-throws : goal.returns-in-Ok-Throws-clause-throws
returns-in-Ok-Throws-clause-throws g c reading read turns =
    let L = g.L.Labels in
    let none = c.bottom-none.result in
    let bottom_read = (IsReading-earlier L.made L.meaning L.room L.firm c.args.labels.now c.throw_error-answer.new.labels reading c.throw_error-answer.ensures.kept read).agrees none c.bottom-none.ensures.made ∙ c.bottom-none.ensures.meaning in
    let throws = rw c.in-Ok-Throws.field-0-is at c.in-Ok-Throws.is in
    ap (λ cause. throw_error {X = Val} kinds.TypeError cause (state_of reading c.args.world.now [] turns)) (sym bottom_read)
    ∙ (rw throws at (c.throw_error-answer.ensures.acts Value (λ r. read_value r)).says reading read [] turns)
