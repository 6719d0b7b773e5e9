use Rattle.run_files.proofs.Asked.{program_accepted}
use Rattle.run_files.proofs.accepting.accept_program.Goals as goal

pub returns-clause-accepts : goal.returns-clause-accepts
returns-clause-accepts g c = program_accepted (g.F.Store.contents c.args.store.now) c.args.path.now c.in_ok-bytes.bytes.items c.in_ok-bytes.ensures.reads.1 _ (rw c.deref.ensures.value at c.check_program.ensures)
