use Rattle.std.proofs.Common.{◌≡◌, length, arith}
use Rattle.flow_io.proofs.Pieces.{takes_piece}
use Rattle.flow_io.proofs.loading.take_piece.Goals as goal

pub returns-clause-told : goal.returns-clause-told
returns-clause-told g c =
    let len : length c.args.bytes.now.items ≡ c.len-at.result = omega (arith, c.args.bytes.now.ok.0) in
    rw c.in_ok-extend_from_slice.ensures.items (takes_piece _ _ _ _ _ _ len c.in_ok-n.ensures.told)
