use Rattle.std.proofs.Common.{sym, subst, ◌≡◌, map, Some}
use Rattle.origin_labels.specs.Label.{Label}
use Rattle.js_values.specs.Readings.{read_value}
use Rattle.flow_meaning.specs.Planned.{Part}
use Rattle.continuations.specs.Pending.{setting_above}
use Rattle.step_core.specs.Going.{Enters, part_in}
use Rattle.continuations.specs.Going.{here}
use Rattle.continuations.specs.Settings.{setting_of}
use Rattle.step_core.proofs.entering.enter.Goals as goal

pub returns-in-Expr-clause-enters : goal.returns-in-Expr-clause-enters
returns-in-Expr-clause-enters g c tables inputs set functions natives =
    subst (λ m. (part : (g.row.L-Label.Denot → Label) → Part) → ((reading : g.row.L-Label.Denot → Label) → part_in (map (read_value reading) c.args.stack.now.loose) (setting_above c.args.stack.now.tasks (setting_of natives here)) m ≡ Some (part reading))
    → Enters g.L.Labels.made g.L.Labels.meaning c.args.labels.now tables inputs set functions natives c.args.stack.now c.enter_expression_apart.new.stack c.args.world.now c.args.world.now part c.enter_expression_apart.result)
    (sym c.in-Expr.is) (c.enter_expression_apart.ensures.enters tables inputs set functions natives)

pub returns-in-Use-clause-enters : goal.returns-in-Use-clause-enters
returns-in-Use-clause-enters g c tables inputs set functions natives =
    subst (λ m. (part : (g.row.L-Label.Denot → Label) → Part) → ((reading : g.row.L-Label.Denot → Label) → part_in (map (read_value reading) c.args.stack.now.loose) (setting_above c.args.stack.now.tasks (setting_of natives here)) m ≡ Some (part reading))
    → Enters g.L.Labels.made g.L.Labels.meaning c.enter_use.new.labels tables inputs set functions natives c.args.stack.now c.enter_use.new.stack c.args.world.now c.enter_use.new.world part c.enter_use.result)
    (sym c.in-Use.is) (c.enter_use.ensures.enters tables inputs set functions natives)

pub returns-in-Stmt-clause-enters : goal.returns-in-Stmt-clause-enters
returns-in-Stmt-clause-enters g c tables inputs set functions natives =
    subst (λ m. (part : (g.row.L-Label.Denot → Label) → Part) → ((reading : g.row.L-Label.Denot → Label) → part_in (map (read_value reading) c.args.stack.now.loose) (setting_above c.args.stack.now.tasks (setting_of natives here)) m ≡ Some (part reading))
    → Enters g.L.Labels.made g.L.Labels.meaning c.args.labels.now tables inputs set functions natives c.args.stack.now c.enter_statement_apart.new.stack c.args.world.now c.args.world.now part c.enter_statement_apart.result)
    (sym c.in-Stmt.is) (c.enter_statement_apart.ensures.enters tables inputs set functions natives)

pub returns-in-Block-clause-enters : goal.returns-in-Block-clause-enters
returns-in-Block-clause-enters g c tables inputs set functions natives =
    subst (λ m. (part : (g.row.L-Label.Denot → Label) → Part) → ((reading : g.row.L-Label.Denot → Label) → part_in (map (read_value reading) c.args.stack.now.loose) (setting_above c.args.stack.now.tasks (setting_of natives here)) m ≡ Some (part reading))
    → Enters g.L.Labels.made g.L.Labels.meaning c.args.labels.now tables inputs set functions natives c.args.stack.now c.enter_block.new.stack c.args.world.now c.args.world.now part c.enter_block.result)
    (sym c.in-Block.is) (c.enter_block.ensures.enters tables inputs set functions natives)

pub returns-in-Named-clause-enters : goal.returns-in-Named-clause-enters
returns-in-Named-clause-enters g c tables inputs set functions natives =
    subst (λ m. (part : (g.row.L-Label.Denot → Label) → Part) → ((reading : g.row.L-Label.Denot → Label) → part_in (map (read_value reading) c.args.stack.now.loose) (setting_above c.args.stack.now.tasks (setting_of natives here)) m ≡ Some (part reading))
    → Enters g.L.Labels.made g.L.Labels.meaning c.args.labels.now tables inputs set functions natives c.args.stack.now c.enter_named.new.stack c.args.world.now c.args.world.now part c.enter_named.result)
    (sym c.in-Named.is) (c.enter_named.ensures.enters tables inputs set functions natives)

pub returns-in-Turn-clause-enters : goal.returns-in-Turn-clause-enters
returns-in-Turn-clause-enters g c tables inputs set functions natives =
    subst (λ m. (part : (g.row.L-Label.Denot → Label) → Part) → ((reading : g.row.L-Label.Denot → Label) → part_in (map (read_value reading) c.args.stack.now.loose) (setting_above c.args.stack.now.tasks (setting_of natives here)) m ≡ Some (part reading))
    → Enters g.L.Labels.made g.L.Labels.meaning c.enter_turn.new.labels tables inputs set functions natives c.args.stack.now c.enter_turn.new.stack c.args.world.now c.enter_turn.new.world part c.enter_turn.result)
    (sym c.in-Turn.is) (c.enter_turn.ensures.enters tables inputs set functions natives)

pub returns-in-Visit-clause-enters : goal.returns-in-Visit-clause-enters
returns-in-Visit-clause-enters g c tables inputs set functions natives =
    subst (λ m. (part : (g.row.L-Label.Denot → Label) → Part) → ((reading : g.row.L-Label.Denot → Label) → part_in (map (read_value reading) c.args.stack.now.loose) (setting_above c.args.stack.now.tasks (setting_of natives here)) m ≡ Some (part reading))
    → Enters g.L.Labels.made g.L.Labels.meaning c.enter_visit.new.labels tables inputs set functions natives c.args.stack.now c.enter_visit.new.stack c.args.world.now c.enter_visit.new.world part c.enter_visit.result)
    (sym c.in-Visit.is) (c.enter_visit.ensures.enters tables inputs set functions natives)
