use Rattle.step_requests.proofs.Held.{reading_begins, reading_goes_at, reading_ends, reading_has}
use Rattle.step_requests.proofs.entering.read_registers.Goals as goal

pub registers-init : goal.registers-init
registers-init g c = reading_begins g.L.Labels.made g.L.Labels.meaning c.args.labels.now c.args.stack.now.loose c.args.registers.now c.new-values.result.items c.new-values.ensures.items

pub registers-preserved : goal.registers-preserved
registers-preserved g c =
    reading_goes_at g.L.Labels.made g.L.Labels.meaning c.args.labels.now c.args.stack.now.loose c.args.registers.now c.registers.register-index _ c.in_ok-value.value c.registers.values.items c.push.new.self.items
    c.registers-test.true c.registers.invariant c.in_ok-value.ensures.reads c.in_ok-value.ensures.made c.in_ok-push.ensures.items

pub returns-clause-reads : goal.returns-clause-reads
returns-clause-reads g c = reading_ends g.L.Labels.made g.L.Labels.meaning c.args.labels.now c.args.stack.now.loose c.args.registers.now c.registers.register-index c.registers.values.items c.registers-test.false c.registers.invariant

pub returns-clause-made : goal.returns-clause-made
returns-clause-made g c = reading_has g.L.Labels.made g.L.Labels.meaning c.args.labels.now c.args.stack.now.loose c.args.registers.now c.registers.register-index c.registers.values.items c.registers.invariant
