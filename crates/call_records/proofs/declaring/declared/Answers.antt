use Rattle.std.proofs.lemmas.Bool.{true≢false}
use Rattle.call_records.proofs.declaring.declared.Goals as goal

pub returns-in-Function-clause-none : goal.returns-in-Function-clause-none
returns-in-Function-clause-none c = λ none. absurd (true≢false none)
