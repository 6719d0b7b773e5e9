use Rattle.std.proofs.Common.{ap, ◌∙◌}
use Rattle.std.specs.Option.{option_map}
use Rattle.env_records.proofs.PlaceLaws.{record_within, place_within, binding_is}
use Rattle.env_records.proofs.envs.Envs.read_at.Goals as goal

pub record-requires : goal.record-requires
record-requires g c = record_within c.args.self.now c.args.p c.requires

pub value-requires : goal.value-requires
value-requires g c = place_within c.args.self.now c.args.p c.record.result.now c.record.ensures c.requires

pub returns : goal.returns
returns g c = ap (option_map (λ b. b.value)) (binding_is c.args.self.now c.args.p c.record.result.now c.record.ensures) ∙ c.value.ensures
