use Rattle.std.proofs.Common.{rules, tests}
use Rattle.std.proofs.lemmas.Iterator.{YieldsList-from_slice}
use Rattle.std.proofs.lemmas.Iterator.Search.{all_from_yields_List}
use Rattle.flow_lists.specs.Names.{is_name_unit}
use Rattle.flow_lists.proofs.names.are_name_units.Goals as goal

pub returns : goal.returns
returns c = all_from_yields_List is_name_unit _ _ _ c.all.ensures.ran (YieldsList-from_slice c.args.word.now cc) (λ x b q k. search (rules, tests))
