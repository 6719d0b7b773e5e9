use Rattle.native_protocol.proofs.PieceLaws.{conversion_is, text_is, number_is, whole_is}
use Rattle.native_protocol.proofs.laws.pieces.Goals as goal

pub returns : goal.returns
returns c = record { primitive = conversion_is; text = text_is; number = number_is; «object» = whole_is }
