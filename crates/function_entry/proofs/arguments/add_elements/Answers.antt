use Rattle.std.proofs.Common.{arith, rules, ◌-◌}
use Rattle.function_entry.proofs.ArgumentLaws.{gets_begun, gets_next, open_behind}
use Rattle.function_entry.proofs.arguments.add_elements.Goals as goal

pub loop-i-init : goal.loop-i-init
loop-i-init g c = record {
  within = let count = c.requires.count in omega (arith, count);
  gets = gets_begun g.L.Labels.made g.L.Labels.meaning g.L.Labels.room g.L.Labels.firm c.args.labels.now c.args.context c.args.o.0 c.args.count c.args.args.now c.args.heap.now c.requires.count;
  opened = c.requires.opened;
  length = search rules;
  belongs = c.requires.belongs;
  kept = search rules;
}

pub loop-i-preserved : goal.loop-i-preserved
loop-i-preserved g c =
    let v = c.loop-i.invariant in
    record {
      within = omega (arith, v.within);
      gets = gets_next g.L.Labels.made g.L.Labels.meaning g.L.Labels.room g.L.Labels.firm c.loop-i.labels c.add_element.new.labels c.args.context c.args.o.0 (c.loop-i.i - 1) c.loop-i.i c.index-args-i.result c.args.args.now c.args.heap.now c.loop-i.heap c.add_element.new.heap c.in_ok-add_element.ensures.kept (omega (arith, c.loop-i-test.true)) v.within c.index-args-i.is v.gets c.in_ok-add_element.ensures.gets;
      opened = open_behind g.L.Labels.made g.L.Labels.meaning g.L.Labels.room g.L.Labels.firm c.loop-i.labels c.add_element.new.labels c.in_ok-add_element.ensures.kept c.args.context c.args.o.0 _ _ c.loop-i.heap c.add_element.new.heap v.opened c.in_ok-add_element.ensures.gets;
      length = search rules;
      belongs = c.in_ok-add_element.ensures.belongs;
      kept = search rules;
    }
