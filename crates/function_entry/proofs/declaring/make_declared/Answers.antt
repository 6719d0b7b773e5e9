use Rattle.function_table.specs.Tables.{table}
use Rattle.function_entry.proofs.DeclaringLaws.{goes_on, ends_makes, ends_behind, ends_refers}
use Rattle.function_entry.proofs.declaring.make_declared.Goals as goal

pub statements-preserved : goal.statements-preserved
statements-preserved g c =
    goes_on g.L.Labels.made g.L.Labels.meaning g.L.Labels.room g.L.Labels.firm (table c.args.functions.now) c.args.context c.args.own.0 c.args.labels.now c.args.heap.now c.items-s-items.result.now c.statements.s-index c.s-item.result c.statements.labels c.make_by_statement.new.labels c.statements.heap c.make_by_statement.new.heap c.statements.references.items c.make_by_statement.new.references.items
    c.statements-test.true c.s-item.is c.statements.invariant c.in_ok-make_by_statement.ensures.kept c.in_ok-make_by_statement.ensures.makes c.in_ok-make_by_statement.ensures.length c.in_ok-make_by_statement.ensures.references c.in_ok-make_by_statement.ensures.grows c.in_ok-make_by_statement.ensures.belongs

pub returns-clause-makes : goal.returns-clause-makes
returns-clause-makes g c =
    rw c.items-s-items.ensures at
    (ends_makes g.L.Labels.made g.L.Labels.meaning g.L.Labels.room g.L.Labels.firm (table c.args.functions.now) c.args.context c.args.own.0 c.args.labels.now c.args.heap.now c.items-s-items.result.now c.statements.s-index c.statements.labels c.statements.heap c.statements.references.items c.statements-test.false c.statements.invariant)

pub returns-clause-references : goal.returns-clause-references
returns-clause-references g c =
    rw c.items-s-items.ensures at
    (ends_refers g.L.Labels.made g.L.Labels.meaning g.L.Labels.room g.L.Labels.firm (table c.args.functions.now) c.args.context c.args.own.0 c.args.labels.now c.args.heap.now c.items-s-items.result.now c.statements.s-index c.statements.labels c.statements.heap c.statements.references.items c.statements-test.false c.statements.invariant)

pub returns-clause-length : goal.returns-clause-length
returns-clause-length g c =
    rw c.items-s-items.ensures at
    (ends_behind g.L.Labels.made g.L.Labels.meaning g.L.Labels.room g.L.Labels.firm (table c.args.functions.now) c.args.context c.args.own.0 c.args.labels.now c.args.heap.now c.items-s-items.result.now c.statements.s-index c.statements.labels c.statements.heap c.statements.references.items c.statements-test.false c.statements.invariant)
