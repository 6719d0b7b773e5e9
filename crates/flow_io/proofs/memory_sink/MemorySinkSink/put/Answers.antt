use Rattle.std.proofs.Common.{◌≡◌, ap}
use Rattle.flow_io.specs.Memory.{MemoryBytes}
use Rattle.flow_io.proofs.Taken.{appends_front}
use Rattle.flow_io.proofs.memory_sink.MemorySinkSink.put.Goals as goal

pub returns-then-is_err-clause-err : goal.returns-then-is_err-clause-err
returns-then-is_err-clause-err c =
    let before : c.self.inside.taken.items ≡ c.args.self.now.taken = ap (λ (s : MemoryBytes). s.taken) c.self.view_is in
    rw (← before) (appends_front _ _ _ _ _ c.take-answer.ensures.front)
