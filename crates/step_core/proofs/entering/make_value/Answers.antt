use Rattle.function_table.specs.Tables.{table}
use Rattle.step_core.proofs.entering.make_value.Goals as goal

pub returns-in-Function-clause-begins : goal.returns-in-Function-clause-begins
returns-in-Function-clause-begins g c = rw c.in-Function.is c.begin_function.ensures.begins

pub returns-in-Object-clause-begins : goal.returns-in-Object-clause-begins
returns-in-Object-clause-begins g c = rw c.in-Object.is c.begin_object.ensures.begins

pub returns-in-Function-clause-lowers : goal.returns-in-Function-clause-lowers
returns-in-Function-clause-lowers g c = rw c.in-Function.is c.begin_function.ensures.lowers

pub returns-in-Object-clause-lowers : goal.returns-in-Object-clause-lowers
returns-in-Object-clause-lowers g c = rw c.in-Object.is c.begin_object.ensures.lowers

pub returns-in-Array-clause-begins : goal.returns-in-Array-clause-begins
returns-in-Array-clause-begins g c tables inputs set = rw c.in-Array.is (c.begin_array.ensures.begins tables inputs set (table c.args.functions.now))

pub returns-in-Array-clause-lowers : goal.returns-in-Array-clause-lowers
returns-in-Array-clause-lowers g c = rw c.in-Array.is c.begin_array.ensures.lowers
