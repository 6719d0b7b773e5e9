use Rattle.call_records.proofs.NameLaws.{adds_none}
use Rattle.call_records.proofs.placing.place_declared.Goals as goal

pub returns-in-None : goal.returns-in-None
returns-in-None c = rw c.in-None.ensures.none (adds_none c.args.layout.now c.args.places.now.items)
