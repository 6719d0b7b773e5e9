use Rattle.pair_runs.proofs.pairing.pair.Goals as goal

pub returns-clause-paired : goal.returns-clause-paired
returns-clause-paired g c = c.in-Err.ensures.ends (g.K.Sink.taken c.args.sink.now)
