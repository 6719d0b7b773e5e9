use Rattle.js_number.proofs.RadixLaws.{exact}
use Rattle.js_number.proofs.radix.number_in_radix.Goals as goal

pub returns-clause-exact : goal.returns-clause-exact
returns-clause-exact c = λ n e. exact c.args.radix c.args.a n c.text_in_radix.result c.requires.0 c.requires.1 e c.text_in_radix.ensures.value
