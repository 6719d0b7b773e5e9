use Rattle.std.proofs.Common.{sym, ap₂, ◌∙◌}
use Rattle.js_number.specs.Arithmetic.{divided}
use Rattle.js_number.proofs.Quotients.{division_of}
use Rattle.js_number.proofs.arithmetic.div.Goals as goal

pub returns-in-Int-b-clause-exact : goal.returns-in-Int-b-clause-exact
returns-in-Int-b-clause-exact c = λ m k n e f. division_of c.args.a c.args.b c.integer_quotient.result m k n (c.integer_quotient.ensures ∙ sym (ap₂ divided c.in-Int.is c.in-Int-b.is)) e f
