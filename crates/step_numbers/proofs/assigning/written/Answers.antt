use Rattle.std.proofs.Common.{sym, ap, ◌∙◌, Some, None}
use Rattle.std.specs.Option.{option_map}
use Rattle.step_numbers.specs.Evaluated.{global_in}
use Rattle.step_numbers.proofs.GlobalLaws.{written_found}
use Rattle.step_numbers.proofs.assigning.written.Goals as goal

pub slot_at-slot-requires : goal.slot_at-slot-requires
slot_at-slot-requires g c = c.in_ok-place.ensures.within

pub returns-in_err-place-clause-written : goal.returns-in_err-place-clause-written
returns-in_err-place-clause-written g c =
    ap (option_map (λ w. w.existence)) c.from_residual.ensures ∙ written_found c.args.name.now (global_in c.args.world.now.heap) None (sym c.is_array.ensures ∙ c.if-is_array.false) c.in_err-place.ensures

pub returns-in_err-existence-clause-written : goal.returns-in_err-existence-clause-written
returns-in_err-existence-clause-written g c =
    ap (option_map (λ w. w.existence)) c.from_residual-in_err-existence.ensures ∙ c.in_err-existence.ensures
    ∙ written_found c.args.name.now (global_in c.args.world.now.heap) (Some c.slot_at-slot.result.now) (sym c.is_array.ensures ∙ c.if-is_array.false) (sym c.in_ok-place.ensures.here ∙ c.slot_at-slot.ensures)

pub returns-clause-written : goal.returns-clause-written
returns-clause-written g c =
    c.in_ok-existence.ensures
    ∙ written_found c.args.name.now (global_in c.args.world.now.heap) (Some c.slot_at-slot.result.now) (sym c.is_array.ensures ∙ c.if-is_array.false) (sym c.in_ok-place.ensures.here ∙ c.slot_at-slot.ensures)
