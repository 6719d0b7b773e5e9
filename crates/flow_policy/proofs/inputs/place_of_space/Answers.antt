use Rattle.std.proofs.Common.{rules, tests}
use Rattle.std.proofs.lemmas.Iterator.{YieldsList-from_slice}
use Rattle.std.proofs.lemmas.Iterator.Search.{position_from_yields_List}
use Rattle.flow_policy.specs.Words.{is_space}
use Rattle.flow_policy.proofs.Cuts.{position-unwrap}
use Rattle.flow_policy.proofs.inputs.place_of_space.Goals as goal

pub returns : goal.returns
returns c = rw (c.unwrap_or.ensures, ← c.units-units.ensures)
    (position-unwrap is_space c.units-units.result.now c.position.result (position_from_yields_List is_space _ _ _ c.position.ensures.ran (YieldsList-from_slice c.units-units.result.now cc) (λ x b q k. search (rules, tests))))
