use Rattle.js_faults.proofs.Walking.{same_shown}
use Rattle.js_faults.proofs.ordered.same_at.Goals as goal

pub returns : goal.returns
returns g c = same_shown _ _ _ _ _ _ c.node_at.ensures c.node_at-2.ensures c.compared.ensures c.is_eq.ensures
