use Rattle.std.proofs.Common.{◌∙◌}
use Rattle.run_state.specs.Names.{place_of}
use Rattle.property_access.proofs.NameLaws.{resolved_inside, resolved_beyond}
use Rattle.property_access.proofs.naming.resolve.Goals as goal

pub returns-in-Some-clause-resolved : goal.returns-in-Some-clause-resolved
returns-in-Some-clause-resolved g c = λ reading read. resolved_inside reading c.args.world.now.records c.args.world.now.heap c.args.at.0 c.args.name.now c.in-Some.e c.bottom-walk.result c.in-Some.ensures.innermost (read.agrees c.bottom-walk.result c.bottom-walk.ensures.made ∙ c.bottom-walk.ensures.meaning)

pub returns-clause-resolved : goal.returns-clause-resolved
returns-clause-resolved g c = λ reading read. resolved_beyond reading c.args.world.now.records c.args.world.now.heap c.args.at.0 c.args.name.now c.in_ok-found.found.at (place_of c.beyond-place.result) c.in_ok-found.found.walk c.in_default.ensures.innermost c.beyond-place.ensures (c.in_ok-found.ensures.found.at reading read) (c.in_ok-found.ensures.found.walk reading read)
