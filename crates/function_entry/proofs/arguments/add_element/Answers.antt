use Rattle.std.proofs.Common.{rules, ◌≡◌, None, subst}
use Rattle.std.specs.List.{slice_get}
use Rattle.js_values.specs.Arrays.{element_key}
use Rattle.object_heap.specs.Formed.{own_in}
use Rattle.function_entry.specs.ArgumentRows.{AddsValue}
use Rattle.function_entry.proofs.ArgumentLaws.{gets_one}
use Rattle.function_entry.proofs.arguments.add_element.Goals as goal

pub returns-clause-gets : goal.returns-clause-gets
returns-clause-gets g c =
    gets_one g.L.Labels.made g.L.Labels.meaning g.L.Labels.room g.L.Labels.firm c.args.labels.now c.add_value.new.labels c.in_ok-add_value.ensures.kept c.args.context c.args.o.0 c.args.i c.args.value.now c.args.heap.now c.add_value.new.heap c.requires.opened
    (subst (λ key. own_in key (slice_get c.args.heap.now c.args.o.0) ≡ None) c.in_ok-key.ensures (search rules))
    (subst (λ v. AddsValue g.L.Labels.made g.L.Labels.meaning c.add_value.new.labels c.args.context c.args.o.0 (element_key c.args.i) v c.args.heap.now c.add_value.new.heap) c.in_ok-value.ensures
    (subst (λ key. AddsValue g.L.Labels.made g.L.Labels.meaning c.add_value.new.labels c.args.context c.args.o.0 key c.in_ok-value.value c.args.heap.now c.add_value.new.heap) c.in_ok-key.ensures c.in_ok-add_value.ensures.adds))
