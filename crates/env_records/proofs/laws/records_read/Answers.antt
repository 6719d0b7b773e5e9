use Rattle.env_records.proofs.AssignLaws.{read_bound_in, read_lookup, read_new, read_bind}
use Rattle.env_records.proofs.laws.records_read.Goals as goal

pub returns-clause-bound : goal.returns-clause-bound
returns-clause-bound g c = λ reading name records i. read_bound_in reading name records i

pub returns-clause-looked_up : goal.returns-clause-looked_up
returns-clause-looked_up g c = λ reading name records i. read_lookup reading name records i

pub returns-clause-record_more : goal.returns-clause-record_more
returns-clause-record_more g c = λ reading outer records. read_new reading outer records

pub returns-clause-binding_more : goal.returns-clause-binding_more
returns-clause-binding_more g c = λ reading i b records. read_bind reading i b records
