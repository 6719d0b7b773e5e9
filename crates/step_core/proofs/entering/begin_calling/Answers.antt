use Rattle.es_meaning.specs.BuiltIns.{built_ins_of}
use Rattle.function_table.specs.Tables.{table}
use Rattle.step_core.proofs.entering.begin_calling.Goals as goal

pub returns-in-Call-clause-begins : goal.returns-in-Call-clause-begins
returns-in-Call-clause-begins g c = rw c.in-Call.is c.call.ensures.begins

pub returns-in-Construct-clause-begins : goal.returns-in-Construct-clause-begins
returns-in-Construct-clause-begins g c = rw c.in-Construct.is c.construct.ensures.begins

pub returns-in-Convert-clause-begins : goal.returns-in-Convert-clause-begins
returns-in-Convert-clause-begins g c tables inputs =
    let N = g.N.Natives in
    let natives = c.args.natives.now in
    rw c.in-Convert.is (c.convert.ensures.begins tables inputs (built_ins_of (N.entries natives) (N.begin natives) (N.after natives) (N.asks natives)) (table c.args.functions.now) (N.after natives) (N.asks natives))

pub returns-in-Compare-clause-begins : goal.returns-in-Compare-clause-begins
returns-in-Compare-clause-begins g c tables inputs =
    let N = g.N.Natives in
    let natives = c.args.natives.now in
    rw c.in-Compare.is (c.compare.ensures.begins tables inputs (built_ins_of (N.entries natives) (N.begin natives) (N.after natives) (N.asks natives)) (table c.args.functions.now) (N.after natives) (N.asks natives))

pub returns-in-ConvertBeside-clause-begins : goal.returns-in-ConvertBeside-clause-begins
returns-in-ConvertBeside-clause-begins g c tables inputs =
    let N = g.N.Natives in
    let natives = c.args.natives.now in
    rw c.in-ConvertBeside.is (c.convert_beside.ensures.begins tables inputs (built_ins_of (N.entries natives) (N.begin natives) (N.after natives) (N.asks natives)) (table c.args.functions.now) (N.after natives) (N.asks natives))
