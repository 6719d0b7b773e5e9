use Rattle.run_files.proofs.Asked.{script_accepted}
use Rattle.run_files.proofs.accepting.accept_script.Goals as goal

pub returns-clause-accepts : goal.returns-clause-accepts
returns-clause-accepts g c = script_accepted (g.F.Store.contents c.args.store.now) c.args.path.now c.in_ok-bytes.bytes.items c.in_ok-bytes.ensures.reads.1 _ (rw c.deref.ensures.value at c.script_of.ensures.takes)
