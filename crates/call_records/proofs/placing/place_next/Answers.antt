use Rattle.call_records.proofs.NameLaws.{adds_one}
use Rattle.call_records.proofs.placing.place_next.Goals as goal

pub returns : goal.returns
returns c = adds_one c.args.name.now _ _ _ _ c.in_ok-place.place c.in_ok-place.ensures.names c.in_ok-place.ensures.place c.in_ok-push.ensures.items
