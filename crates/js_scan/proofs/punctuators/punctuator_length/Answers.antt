use Rattle.std.proofs.Common.{rules}
use Rattle.js_scan.proofs.PunctuatorLaws.{longest_at, finds}
use Rattle.js_scan.proofs.punctuators.punctuator_length.Goals as goal

pub returns-in-len4-up : goal.returns-in-len4-up
unfolding longest_at
returns-in-len4-up c = finds c.args.units.now _ (search rules)

pub returns-in-len3-up : goal.returns-in-len3-up
unfolding longest_at
returns-in-len3-up c = finds c.args.units.now _ (search rules)

pub returns-in-len2-up : goal.returns-in-len2-up
unfolding longest_at
returns-in-len2-up c = finds c.args.units.now _ (search rules)

pub returns-in-len1-up : goal.returns-in-len1-up
unfolding longest_at
returns-in-len1-up c = finds c.args.units.now _ (search rules)

pub returns-in_default-2 : goal.returns-in_default-2
unfolding longest_at
returns-in_default-2 c = finds c.args.units.now _ (search rules)
