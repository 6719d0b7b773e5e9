use Rattle.std.proofs.Common.{◌∙◌}
use Rattle.script_maker.proofs.Lines.{is_called}
use Rattle.script_maker.proofs.making.push_call.Goals as goal

pub returns : goal.returns
returns c =
    is_called _ _ _ _ _ c.args.k c.in_ok-extend_from_slice.ensures.items (c.as_bytes.ensures.value ∙ c.format.ensures.text) c.in_ok-extend_from_slice-2.ensures.items c.in_ok-extend_from_slice-3.ensures.items
