use Rattle.flow_io.proofs.Named.{has_added}
use Rattle.flow_io.proofs.firm_store.FirmStore.add.Goals as goal

pub returns-clause-present : goal.returns-clause-present
returns-clause-present c = has_added _ _ _ _ c.in_ok-insert.ensures.items c.in_ok-path.ensures.ok
