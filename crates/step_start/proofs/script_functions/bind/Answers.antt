use Rattle.std.proofs.Common.{sym, ◌∙◌}
use Rattle.js_values.specs.declared.value.Value.TheVariants.{Object}
use Rattle.es_meaning.specs.Functions.{property_with}
use Rattle.es_meaning.specs.Objects.{declared_by_script}
use Rattle.step_start.proofs.EnteredLaws.{binds_given, binds_refused}
use Rattle.step_start.proofs.VariableLaws.{global_started}
use Rattle.step_start.proofs.script_functions.bind.Goals as goal

pub returns-then-not-may_take-clause-binds : goal.returns-then-not-may_take-clause-binds
returns-then-not-may_take-clause-binds g c = binds_refused c.args.name (Object c.args.o) c.args.heap.now c.args.heap.now c.requires.started (sym c.may_take.ensures ∙ c.if-not-may_take.true)

pub returns-clause-binds : goal.returns-clause-binds
returns-clause-binds g c = binds_given c.args.name (Object c.args.o) c.args.heap.now c.give.new.self c.requires.started (sym c.may_take.ensures ∙ c.if-not-may_take.false) c.in_ok-give.ensures

pub returns-clause-started : goal.returns-clause-started
returns-clause-started g c = global_started c.args.heap.now c.give.new.self c.args.name (property_with (Object c.args.o) declared_by_script) c.requires.started c.in_ok-give.ensures
