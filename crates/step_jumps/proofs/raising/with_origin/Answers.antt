use Rattle.std.proofs.Common.{◌<◌, length, sym, arith}
use Rattle.step_jumps.proofs.OriginLaws.{place_within}
use Rattle.step_jumps.proofs.raising.with_origin.Goals as goal

pub single-requires : goal.single-requires
single-requires g c = let within : c.in-Some.origin < length c.args.origins.now = place_within _ c.args.origins.now c.in-Some.origin (sym c.in-Some.ensures.place) in let room = c.requires.room in omega (arith, within, room)
