use Rattle.function_entry.proofs.MakingLaws.{unstopped}
use Rattle.js_values.specs.declared.property.Body.TheVariants.{Data}
use Rattle.es_meaning.specs.Objects.{made_by_script}
use Rattle.function_entry.proofs.arguments.add_value.Goals as goal

pub unreachable-requires : goal.unreachable-requires
unreachable-requires g c =
    let stops = rw c.in-Err-Stop.field-0-is at c.in-Err-Stop.ensures.acts.stops in
    unstopped g.L.Labels.made g.L.Labels.meaning g.L.Labels.room g.L.Labels.firm c.args.labels.now c.add.new.labels c.add.ensures.kept c.args.context c.args.value.label c.args.o.0 c.args.key (Data c.args.value.value) made_by_script c.args.heap.now c.requires.opened c.in-Err-Stop.field-0-0 stops.2
