use Rattle.step_core.proofs.resuming.act.Goals as goal

pub returns-in-AssignTo-clause-goes_on : goal.returns-in-AssignTo-clause-goes_on
returns-in-AssignTo-clause-goes_on g c = rw c.in-AssignTo.is c.assigned.ensures.goes_on

pub returns-in-MemberBase-clause-goes_on : goal.returns-in-MemberBase-clause-goes_on
returns-in-MemberBase-clause-goes_on g c = rw c.in-MemberBase.is c.member.ensures.goes_on

pub returns-in-IndexKey-clause-goes_on : goal.returns-in-IndexKey-clause-goes_on
returns-in-IndexKey-clause-goes_on g c = rw c.in-IndexKey.is c.index_key.ensures.goes_on

pub returns-in-KeyOf-clause-goes_on : goal.returns-in-KeyOf-clause-goes_on
returns-in-KeyOf-clause-goes_on g c = rw c.in-KeyOf.is c.key_of.ensures.goes_on

pub returns-in-Variable-clause-goes_on : goal.returns-in-Variable-clause-goes_on
returns-in-Variable-clause-goes_on g c = rw c.in-Variable.is c.give_variables.ensures.goes_on

pub returns-in-VariablesBehind-clause-goes_on : goal.returns-in-VariablesBehind-clause-goes_on
returns-in-VariablesBehind-clause-goes_on g c = rw c.in-VariablesBehind.is c.declare_behind.ensures.goes_on
