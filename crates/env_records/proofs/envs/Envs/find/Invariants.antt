use Rattle.std.proofs.Common.{◌≡◌, ◌<◌, length}
use Rattle.js_values.specs.Records.{lookup}
use Rattle.env_records.proofs.envs.Envs.find.Given as goal

-- the name is looked up from here on as from the first record on
abbrev pub invariant-outwards : goal.invariant-outwards
invariant-outwards g l = record { there : l.at.0 < length l.self; same : lookup l.name l.self l.at.0 ≡ lookup l.name l.self l.fn.e.0 }

abbrev pub decreases-outwards : goal.decreases-outwards
decreases-outwards g l = l.at.0
