use Rattle.descriptor_pieces.proofs.DefiningLaws.{defining_is}
use Rattle.descriptor_pieces.proofs.DescriptorLaws.{descriptor_is}
use Rattle.descriptor_pieces.proofs.FixingLaws.{fixing_is, testing_is}
use Rattle.descriptor_pieces.proofs.TellingLaws.{telling_is}
use Rattle.descriptor_pieces.proofs.laws.pieces.Goals as goal

pub returns : goal.returns
returns c = record { descriptor = descriptor_is; telling = telling_is; fixing = fixing_is; testing = testing_is; defining = defining_is }
