use Rattle.flow_text.proofs.HashLaws.{none_hash}
use Rattle.flow_text.proofs.text.Text.hash_code.Goals as goal

pub returns-in-None : goal.returns-in-None
returns-in-None c = none_hash c.self.inside.shared c.args.self.now c.in-None.is c.self.view_is
