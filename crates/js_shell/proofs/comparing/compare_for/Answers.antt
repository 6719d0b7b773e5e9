use Rattle.std.proofs.Common.{Some}
use Rattle.run_files.specs.Seen.{seen_task}
use Rattle.js_shell.specs.Replies.{pair_reply}
use Rattle.js_shell.proofs.PutLaws.{puts_nothing}
use Rattle.js_shell.proofs.comparing.compare_for.Goals as goal

pub returns-in_default-clause-puts : goal.returns-in_default-clause-puts
returns-in_default-clause-puts g c = puts_nothing (pair_reply c.args.turns (seen_task c.args.task.now) (Some c.args.observer.now) (Some c.args.second.now)) (g.K.Sink.taken c.args.sink.now)
