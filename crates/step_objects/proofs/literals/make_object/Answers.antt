use Rattle.std.proofs.Common.{arith, ◌≤◌, length}
use Rattle.js_values.specs.Readings.{HasValue, read_value}
use Rattle.es_meaning.specs.Operations.{object_of}
use Rattle.flow_meaning.specs.Tracked.{act}
use Rattle.step_objects.specs.Literals.{keys_in, values_in}
use Rattle.property_access.proofs.ObjectLaws.{with_heap}
use Rattle.step_objects.proofs.LiteralLaws.{literal_begun, begun_has, literal_made, belongs_grown, memory_acts, memory_answers}
use Rattle.step_objects.proofs.literals.make_object.Goals as goal

pub define_all-requires-clause-belongs : goal.define_all-requires-clause-belongs
define_all-requires-clause-belongs g c = begun_has (g.L.Labels.made c.args.labels.now) c.args.world.now.heap c.new_object.new.self c.context-context.result c.in_ok-o.ensures.ok c.context-context.ensures.made c.requires.belongs.heap

pub returns-in_err-define_all-clause-acts : goal.returns-in_err-define_all-clause-acts
returns-in_err-define_all-clause-acts g c = λ tables inputs.
    memory_acts g.L.Labels.made g.L.Labels.meaning c.define_all.new.labels (λ reading. read_value reading) (λ reading. act tables inputs (object_of (keys_in c.args.parts.items)) (values_in reading c.args.parts.items)) c.args.world.now (with_heap c.define_all.new.heap c.args.world.now) c.in_err-define_all.field-0.0
    (c.in_err-define_all.ensures.memory c.args.world.now.heap c.in_ok-o.ensures.number (literal_begun g.L.Labels.made g.L.Labels.meaning c.args.labels.now c.args.world.now.heap c.new_object.new.self c.context-context.result c.in_ok-o.ensures.ok))
    c.from_residual-in_err-define_all.result c.from_residual-in_err-define_all.ensures.1

pub returns-in_err-define_all-clause-made : goal.returns-in_err-define_all-clause-made
returns-in_err-define_all-clause-made g c =
    memory_answers (g.L.Labels.made c.define_all.new.labels) c.in_err-define_all.field-0.0
    (c.in_err-define_all.ensures.memory c.args.world.now.heap c.in_ok-o.ensures.number (literal_begun g.L.Labels.made g.L.Labels.meaning c.args.labels.now c.args.world.now.heap c.new_object.new.self c.context-context.result c.in_ok-o.ensures.ok))
    (HasValue (g.L.Labels.made c.define_all.new.labels)) c.from_residual-in_err-define_all.result c.from_residual-in_err-define_all.ensures.1

pub returns-in_err-define_all-clause-belongs : goal.returns-in_err-define_all-clause-belongs
returns-in_err-define_all-clause-belongs g c =
    let more : length c.args.world.now.heap ≤ length c.define_all.new.heap = omega (arith, c.define_all.ensures.length, c.in_ok-o.ensures.length) in
    belongs_grown g.L.Labels.made g.L.Labels.meaning g.L.Labels.room g.L.Labels.firm c.args.labels.now c.define_all.new.labels c.define_all.ensures.kept c.args.world.now c.requires.belongs g.met.L.Labels.rising c.define_all.new.heap c.define_all.ensures.belongs more

pub returns-clause-acts : goal.returns-clause-acts
returns-clause-acts g c = λ tables inputs.
    literal_made g.L.Labels.made g.L.Labels.meaning g.L.Labels.room g.L.Labels.firm c.args.labels.now c.define_all.new.labels c.define_all.ensures.kept c.args.world.now c.requires.belongs tables inputs c.define_all.new.heap c.args.parts.items c.in_ok-o.o c.context-context.result c.bottom.result
    c.in_ok-o.ensures.number c.context-context.ensures.made c.context-context.ensures.meaning
    (c.in_ok-define_all.ensures.literal c.args.world.now.heap c.in_ok-o.ensures.number (literal_begun g.L.Labels.made g.L.Labels.meaning c.args.labels.now c.args.world.now.heap c.new_object.new.self c.context-context.result c.in_ok-o.ensures.ok))
    c.bottom.ensures.made c.bottom.ensures.meaning

pub returns-clause-belongs : goal.returns-clause-belongs
returns-clause-belongs g c =
    let more : length c.args.world.now.heap ≤ length c.define_all.new.heap = omega (arith, c.define_all.ensures.length, c.in_ok-o.ensures.length) in
    belongs_grown g.L.Labels.made g.L.Labels.meaning g.L.Labels.room g.L.Labels.firm c.args.labels.now c.define_all.new.labels c.define_all.ensures.kept c.args.world.now c.requires.belongs g.met.L.Labels.rising c.define_all.new.heap c.define_all.ensures.belongs more
