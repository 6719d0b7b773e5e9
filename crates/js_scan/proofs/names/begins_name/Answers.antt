use Rattle.js_scan.proofs.NameLaws.{begins_is}
use Rattle.js_scan.proofs.names.begins_name.Goals as goal

pub returns : goal.returns
returns c = begins_is c.args.units.now c.start_at.result c.is_some.result c.start_at.ensures c.is_some.ensures
