use Rattle.flow_io.proofs.FirmLaws.{put_is_told}
use Rattle.flow_io.proofs.firm_sink.FirmSinkSink.put.Goals as goal

pub returns-clause-ok : goal.returns-clause-ok
returns-clause-ok c = rw c.take.ensures (put_is_told c.args.self.now c.args.piece.now)
