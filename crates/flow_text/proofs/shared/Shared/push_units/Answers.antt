use Rattle.flow_text.specs.Text.{AreUnits}
use Rattle.flow_text.proofs.HashLaws.{grown, grown_hash, slice_units}
use Rattle.flow_text.proofs.shared.Shared.push_units.Goals as goal

pub invariant_of-self-2 : goal.invariant_of-self-2
invariant_of-self-2 c =
    let units : AreUnits c.args.units.now = slice_units c.args.units.now c.type_inv.units in (
      grown c.self.inside.units.items c.args.units.now c.extend_from_slice.new.self.items c.self.invariant.0 units c.in_ok-extend_from_slice.ensures.items,
      grown_hash c.self.inside.units.items c.args.units.now c.extend_from_slice.new.self.items c.self.inside.hash c.hash_on-self-inside.result c.self.invariant.1 c.hash_on-self-inside.ensures c.in_ok-extend_from_slice.ensures.items,
    )

pub returns-clause-units : goal.returns-clause-units
returns-clause-units c =
    let units : AreUnits c.args.units.now = slice_units c.args.units.now c.type_inv.units in
    grown c.self.inside.units.items c.args.units.now c.extend_from_slice.new.self.items c.self.invariant.0 units c.in_ok-extend_from_slice.ensures.items
