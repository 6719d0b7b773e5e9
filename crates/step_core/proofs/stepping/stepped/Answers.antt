use Rattle.es_meaning.specs.BuiltIns.{built_ins_of}
use Rattle.function_table.specs.Tables.{table}
use Rattle.step_core.proofs.stepping.stepped.Goals as goal

pub returns-in-Leave-clause-stepped : goal.returns-in-Leave-clause-stepped
returns-in-Leave-clause-stepped g c =
    let N = g.N.Natives in
    let natives = c.args.natives.now in
    rw c.in-Leave.is (c.leave.ensures.stepped c.args.policy.now c.args.inputs.now (built_ins_of (N.entries natives) (N.begin natives) (N.after natives) (N.asks natives)) (table c.args.functions.now) (N.after natives) (N.asks natives))

pub returns-in-Value-clause-stepped : goal.returns-in-Value-clause-stepped
returns-in-Value-clause-stepped g c =
    let N = g.N.Natives in
    let natives = c.args.natives.now in
    c.hand_on.ensures.stepped c.args.inputs.now (built_ins_of (N.entries natives) (N.begin natives) (N.after natives) (N.asks natives)) (table c.args.functions.now) (N.after natives) (N.asks natives)

pub returns-in-Jumps-clause-stepped : goal.returns-in-Jumps-clause-stepped
returns-in-Jumps-clause-stepped g c =
    let N = g.N.Natives in
    let natives = c.args.natives.now in
    rw c.in-Jumps.is (c.jump_on.ensures.stepped c.args.policy.now c.args.inputs.now (built_ins_of (N.entries natives) (N.begin natives) (N.after natives) (N.asks natives)) (table c.args.functions.now) (N.after natives) (N.asks natives))

pub returns-in-Request-clause-stepped : goal.returns-in-Request-clause-stepped
returns-in-Request-clause-stepped g c =
    let N = g.N.Natives in
    let natives = c.args.natives.now in
    rw c.in-Request.is (c.request_next.ensures.stepped (built_ins_of (N.entries natives) (N.begin natives) (N.after natives) (N.asks natives)) (table c.args.functions.now))

pub returns-in-Call-clause-stepped : goal.returns-in-Call-clause-stepped
returns-in-Call-clause-stepped g c =
    let N = g.N.Natives in
    let natives = c.args.natives.now in
    c.begin_call.ensures.stepped c.args.policy.now c.args.inputs.now

pub returns-in-Function-clause-stepped : goal.returns-in-Function-clause-stepped
returns-in-Function-clause-stepped g c =
    let N = g.N.Natives in
    let natives = c.args.natives.now in
    c.begin_making.ensures.stepped c.args.policy.now c.args.inputs.now (built_ins_of (N.entries natives) (N.begin natives) (N.after natives) (N.asks natives)) (N.after natives) (N.asks natives)

pub returns-in-Expr-clause-stepped : goal.returns-in-Expr-clause-stepped
returns-in-Expr-clause-stepped g c =
    let N = g.N.Natives in
    let natives = c.args.natives.now in
    rw c.in-Expr.is (c.begin_expr.ensures.stepped c.args.policy.now c.args.inputs.now (built_ins_of (N.entries natives) (N.begin natives) (N.after natives) (N.asks natives)) (table c.args.functions.now) (N.after natives) (N.asks natives))

pub returns-in-Stmt-clause-stepped : goal.returns-in-Stmt-clause-stepped
returns-in-Stmt-clause-stepped g c =
    let N = g.N.Natives in
    let natives = c.args.natives.now in
    rw c.in-Stmt.is (c.begin_stmt.ensures.stepped c.args.policy.now c.args.inputs.now (built_ins_of (N.entries natives) (N.begin natives) (N.after natives) (N.asks natives)) (table c.args.functions.now) (N.after natives) (N.asks natives))

pub returns-in-Use-clause-stepped : goal.returns-in-Use-clause-stepped
returns-in-Use-clause-stepped g c =
    let N = g.N.Natives in
    let natives = c.args.natives.now in
    c.enter_part.ensures.stepped c.args.policy.now c.args.inputs.now (built_ins_of (N.entries natives) (N.begin natives) (N.after natives) (N.asks natives)) (table c.args.functions.now) (N.after natives) (N.asks natives)

pub returns-in-Null-clause-stepped : goal.returns-in-Null-clause-stepped
returns-in-Null-clause-stepped g c =
    let N = g.N.Natives in
    let natives = c.args.natives.now in
    c.begin_work.ensures.stepped c.args.policy.now c.args.inputs.now (built_ins_of (N.entries natives) (N.begin natives) (N.after natives) (N.asks natives)) (table c.args.functions.now) (N.after natives) (N.asks natives)
